-- A number stands in its least octets behind the octet that tells how many they are.
use Rattle.aper_octets.proofs.Numbers.{numbered}
use Rattle.aper_octets.proofs.Only.{number_some, not_counting, not_least}
use Rattle.aper_octets.proofs.octets.number.Goals as goal

pub returns-clause-octets : goal.returns-clause-octets
returns-clause-octets c = numbered _ _ _ _ _ _ _ _ c.in_ok-head.ensures.octets c.in_ok-count.ensures.head c.in_ok-n.ensures.count c.in_ok-n.ensures.octets

pub returns-in_err-head-clause-none : goal.returns-in_err-head-clause-none
returns-in_err-head-clause-none c = rw c.from_residual.ensures (λ n rest fits. number_some _ _ n rest _ c.in_err-head.ensures.none)

pub returns-in_err-count-clause-none : goal.returns-in_err-count-clause-none
returns-in_err-count-clause-none c = rw c.from_residual-in_err-count.ensures (λ n rest fits. not_counting _ _ _ n _ rest _ c.in_ok-head.ensures.octets c.in_err-count.ensures.none)

pub returns-in_err-n-clause-none : goal.returns-in_err-n-clause-none
returns-in_err-n-clause-none c = rw c.from_residual-in_err-n.ensures (λ n rest fits. not_least _ _ _ c.in_ok-count.count n _ rest _ c.requires c.in_ok-head.ensures.octets c.in_ok-count.ensures.head (c.in_err-n.ensures.none n rest fits))
