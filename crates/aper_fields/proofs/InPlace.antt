-- An item that is written in place, and counted then.
use Rattle.std.proofs.Common.{◌≡◌, ℕ, ◌-◌, ◌*◌, ◌%◌, ◌^◌, ◌<◌, ◌≤◌, Bool, eqb, List, length, take, drop, sym, ◌∙◌, inl, inr, arith}
use Rattle.std.proofs.lemmas.Bool.{cases_Bool}
use Rattle.aper_fields.specs.Run.{Run, then_written, ◌▸◌, number_run, fixed_bits_run, length_run, content_of, open_run}
use Rattle.aper_fields.specs.Asn1.{item_run, item_start}
use Rattle.aper_fields.proofs.Counted.{content_behind, open_in_place}
use Rattle.aper_fields.proofs.Packed.{length-filled}
use Rattle.aper_fields.proofs.Periodic.{IsPeriodic}
use Rattle.aper_fields.proofs.Written.{then_written-then}

-- what a short body contains fits in an open type
short_content : (body : List Bool) → length body ≤ 8 * 16383 → length (content_of body) < 8 * 2 ^ 14
short_content body short =
    elim (cases_Bool (eqb (length body) 0)) [
      | inl none ↦ rw none (omega arith)
      | inr some ↦ rw some (omega (arith, length-filled body))
    ]

pub content_short : (before all : List Bool) (f : Run) (start : ℕ) → IsPeriodic f → start ≡ length before → start % 8 ≡ 0 → all ≡ then_written before f → length (f 0) ≤ 8 * 16383 → length (content_of (drop start all)) < 8 * 2 ^ 14
content_short before all f start periodic place whole e short = rw (content_behind before all f start periodic place whole e) (short_content (f 0) short)

-- an item whose content was written behind its start
pub item_in_place : (old before all new : List Bool) (id criticality : ℕ) (f : Run) (start : ℕ) → IsPeriodic f → before ≡ then_written old (item_start id criticality) → start ≡ length before → all ≡ then_written before f → new ≡ then_written (take (start - 8) all) (open_run (drop start all)) → new ≡ then_written old (item_run id criticality (f 0))
unfolding item_run
item_in_place old before all new id criticality f start periodic b place a n =
    let first = number_run 0 65535 id in
    let second = fixed_bits_run 2 criticality in
    let one = then_written old first in
    let two = then_written one second in
    let begun = b ∙ then_written-then old first (second ▸ length_run 0) ∙ then_written-then one second (length_run 0) in
    open_in_place two before all new f start periodic begun place a n ∙ sym (then_written-then one second (open_run (f 0))) ∙ sym (then_written-then old first (second ▸ open_run (f 0)))
