-- Passing over a list is reading it without its items: it is refused as reading refuses it, and a list that is found can be read where it begins.
use Rattle.std.proofs.Common.{rules}
use Rattle.aper_fields.specs.Asn1.{reading}
use Rattle.aper_fields.proofs.Skipped.{passed_over, refused_gives}
use Rattle.protocol_ies.proofs.list.find_list.Goals as goal

pub returns-in_err-skip_list : goal.returns-in_err-skip_list
returns-in_err-skip_list g c = refused_gives 1 256 c.args.id (reading g.T.Item.asn1) c.args.r.now c.skip_list.new.r c.from_residual.result (search rules)

pub invariant_of-result : goal.invariant_of-result
invariant_of-result g c = rw c.ahead-start.ensures ((passed_over 1 256 c.args.id (reading g.T.Item.asn1) c.args.r.now c.skip_list.new.r (search rules)).1)

pub returns : goal.returns
returns g c = rw c.ahead-start.ensures ((passed_over 1 256 c.args.id (reading g.T.Item.asn1) c.args.r.now c.skip_list.new.r (search rules)).0)
