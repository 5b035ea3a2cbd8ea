-- A count is told by the octet that is so many units above what stands before it.
use Rattle.aper_octets.proofs.Only.{not_a_count}
use Rattle.aper_octets.proofs.octets.count_in.Goals as goal

pub returns-then-above-unit-ne0-clause-none : goal.returns-then-above-unit-ne0-clause-none
returns-then-above-unit-ne0-clause-none c = λ k few. not_a_count c.args.head c.args.before c.args.unit k c.if-head-before.false c.if-above-unit-ne0.true
