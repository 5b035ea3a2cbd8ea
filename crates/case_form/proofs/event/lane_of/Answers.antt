use Rattle.std.proofs.Common.{refl, arith, rules}
use Rattle.std.specs.Prelude.{codes}
use Rattle.std.proofs.lemmas.Slice.Eq.{text_from_reads}
use Rattle.case_form.specs.Event.{lane_of}
use Rattle.case_form.proofs.event.lane_of.Goals as goal

pub returns-in-down : goal.returns-in-down
unfolding lane_of
returns-in-down c = rw (text_from_reads c.args.word.now (codes "down") (omega arith) (search rules)) refl

pub returns-in-gateway : goal.returns-in-gateway
unfolding lane_of
returns-in-gateway c = rw (text_from_reads c.args.word.now (codes "gateway") (omega arith) (search rules)) refl

pub returns-in-subscriber : goal.returns-in-subscriber
unfolding lane_of
returns-in-subscriber c = rw (text_from_reads c.args.word.now (codes "subscriber") (omega arith) (search rules)) refl
