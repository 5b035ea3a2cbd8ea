-- Octets behind an id and a criticality and their length are what the IE contains; behind others none is.
use Rattle.std.proofs.Common.{ℕ, ◌*◌, sym, ap, ◌∙◌}
use Rattle.aper_octets.proofs.Lengths.{ie_front}
use Rattle.aper_octets.proofs.Only.{ie_heads, ie_none, not_three}
use Rattle.aper_octets.proofs.octets.ie.Goals as goal
use Rattle.aper_octets.proofs.octets.ie.Goals.{then-high-ne0-via-then-high-ne0, then-high-ne0-via-else-high-ne0+then-from-id, then-high-ne0-via-else-high-ne0+else-from-id+then-third-number}

pub returns-clause-octets : goal.returns-clause-octets
returns-clause-octets c = ie_front c.counted.result (λ x. x.0.now) (λ x. x.1.now) _ _ _ _ _ _ _ c.in_ok-high.ensures.octets c.if-high-ne0.false (sym c.from.ensures ∙ c.if-from-id.false) (c.if-third-number.false ∙ ap (λ (n : ℕ). 64 * n) c.number.ensures.number) c.counted.ensures.octets

pub returns-clause-none : goal.returns-clause-none
returns-clause-none c = ie_none c.counted.result _ _ _ _ _ _ _ c.in_ok-high.ensures.octets c.counted.ensures.none

pub returns-in_err-high-clause-none : goal.returns-in_err-high-clause-none
returns-in_err-high-clause-none c = rw c.from_residual.ensures (λ content rest few. not_three _ _ content rest _ c.in_err-high.ensures.none)

pub returns-then-high-ne0-clause-none : goal.returns-then-high-ne0-clause-none
returns-then-high-ne0-clause-none c = λ content rest few e.
    let heads = ie_heads _ _ _ _ _ _ content rest _ c.in_ok-high.ensures.octets e in
    elim c.then-high-ne0.branch [
      | then-high-ne0-via-then-high-ne0 w ↦ w.if-high-ne0.true heads.0
      | then-high-ne0-via-else-high-ne0+then-from-id w ↦ w.if-from-id.true (w.from.ensures ∙ heads.1)
      | then-high-ne0-via-else-high-ne0+else-from-id+then-third-number w ↦ w.if-third-number.true (heads.2 ∙ ap (λ (n : ℕ). 64 * n) (sym w.number.ensures.number))
    ]
