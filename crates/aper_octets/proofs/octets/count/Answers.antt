-- A length has a first octet, and a second one where that is not below 128.
use Rattle.aper_octets.proofs.Only.{count_some, not_second, not_long}
use Rattle.aper_octets.proofs.octets.count.Goals as goal

pub returns-in_err-a-clause-none : goal.returns-in_err-a-clause-none
returns-in_err-a-clause-none c = rw c.from_residual.ensures (λ n rest few. count_some n rest _ c.in_err-a.ensures.none)

pub returns-in_err-b-clause-none : goal.returns-in_err-b-clause-none
returns-in_err-b-clause-none c = rw c.from_residual-in_err-b.ensures (λ n rest few. not_second _ n _ rest _ c.in_ok-a.ensures.octets c.if-a-lt128.false c.in_err-b.ensures.none)

pub returns-in_err-long_count-clause-none : goal.returns-in_err-long_count-clause-none
returns-in_err-long_count-clause-none c = rw c.from_residual-in_err-long_count.ensures (λ n rest few. not_long _ _ n _ _ rest _ c.in_ok-a.ensures.octets c.if-a-lt128.false c.in_ok-b.ensures.octets (c.in_err-long_count.ensures.none n few))
