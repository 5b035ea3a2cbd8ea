use Rattle.gtp2_ies.proofs.ImsiLaws.{imsi_octets_are}
use Rattle.gtp2_ies.proofs.elements.imsi_octets.Goals as goal

pub returns : goal.returns
returns c = imsi_octets_are c.args.imsi _ _ _ _ _ _ _ c.pair-a.ensures c.pair-b.ensures c.pair-c.ensures c.pair-d.ensures c.pair-e.ensures c.pair-f.ensures c.pair-g.ensures
