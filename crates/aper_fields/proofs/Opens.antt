-- An open type of a run contains it.
use Rattle.std.proofs.Common.{◌≡◌, ℕ, ◌+◌, ◌*◌, ◌/◌, ◌%◌, ◌^◌, ◌<◌, ◌≤◌, Bool, eqb, List, ◌++◌, length, refl, sym, ap, ◌∙◌, append_assoc, inl, inr, arith, false}
use Rattle.std.proofs.lemmas.Bool.{ne_eqb, lt-ltb, le-ltb, cases_lt}
use Rattle.std.proofs.lemmas.List.{length-replicate}
use Rattle.aper_fields.specs.Bits.{zeros, gap, filled}
use Rattle.aper_fields.specs.Reading.{Input}
use Rattle.aper_fields.specs.Run.{Run, length_octets, length_run, open_run, content_of, closing}
use Rattle.aper_fields.specs.Spelling.{Open, Holds}
use Rattle.aper_fields.specs.Format.{Format, IsSpelledBy}
use Rattle.aper_fields.proofs.BitLaws.{length-bits}
use Rattle.aper_fields.proofs.Octet.{input}
use Rattle.aper_fields.proofs.Packed.{length-filled}
use Rattle.aper_fields.proofs.Periodic.{IsPeriodic}

-- 1 bit to 16,383 octets
abbrev pub FitsOpen : List Bool → Type 0
FitsOpen body = (0 < length body) × (length body ≤ 8 * 16383)

pub length-length_octets : (n : ℕ) → length (length_octets n) % 8 ≡ 0
unfolding length_octets
length-length_octets n =
    elim (cases_lt n 128) [
      | inl short ↦ rw (lt-ltb n 128 short) (omega (arith, length-bits 7 n))
      | inr long ↦ rw (le-ltb n 128 long) (omega (arith, length-bits 14 n))
    ]

-- the content of an open type begins at an octet
pub open_offset : (at : ℕ) (content : Input) (run : List Bool) → Open at content run → content.offset ≡ 8 * (content.offset / 8)
open_offset at content run s =
    let pad = s.1 in
    let lens = s.5.1 in
    let count = s.5.0 in
    let a : length pad ≡ gap at = ap length s.4 ∙ length-replicate (gap at) _ in
    let b : length lens % 8 ≡ 0 = ap (λ (l : List Bool). length l % 8) s.5.4.1 ∙ length-length_octets count in
    let c : content.offset ≡ at + length pad + length lens = s.5.5.0 in
    omega (arith, a, b, c)

-- its content has a length
pub open_small : (at : ℕ) (content : Input) (run : List Bool) → Open at content run → length content.left ≤ 8 * 16383
open_small at content run s =
    let octets = s.5 in
    omega (arith, octets.4.0, octets.5.1)

pub content_some : (body : List Bool) → 0 < length body → content_of body ≡ filled body
content_some body some = let ne : eqb (length body) 0 ≡ false = ne_eqb _ _ (λ z. absurd (omega (arith, z))) in rw ne refl

-- a container ends at the next octet behind a value of some bits
pub closing_some : (at : ℕ) (run : List Bool) → 0 < length run → closing at (at + length run) ≡ gap (at + length run)
closing_some at run some = let ne : eqb (at + length run) at ≡ false = ne_eqb _ _ (λ e. absurd (omega (arith, e, some))) in rw ne refl

open_back : (at : ℕ) (body : List Bool) → FitsOpen body → (content : Input) × Open at content (open_run body at) × (content.left ≡ filled body)
unfolding open_run length_run
open_back at body short =
    let n = length (filled body) / 8 in
    let size : length (filled body) ≡ 8 * n = omega (arith, length-filled body) in
    let small : n < 2 ^ 14 = omega (arith, length-filled body, short.1) in
    let rest = length_octets n ++ filled body in
    let whole : open_run body at ≡ zeros (gap at) ++ rest = rw (content_some body short.0) (append_assoc (zeros (gap at)) (length_octets n) (filled body)) in (
      input (at + length (zeros (gap at)) + length (length_octets n)) (filled body),
      (tt, zeros (gap at), rest, whole, refl, (n, length_octets n, filled body, refl, (small, refl), (refl, size, refl))),
      refl,
    )

-- an open type of a run that spells a value contains that value
pub open_holds : {A : Type 0} (F : Format A) (v : A) (run : Run) (at : ℕ) → IsSpelledBy F v run → IsPeriodic run → FitsOpen (run 0) → (content : Input) × Open at content (open_run (run 0) at) × Holds F.Spells content v
open_holds F v run at spelled periodic short =
    let o = open_back at (run 0) short in
    let content = o.0 in
    let k = content.offset / 8 in
    let offset : content.offset ≡ 8 * k + 0 = open_offset at content (open_run (run 0) at) o.1 ∙ omega arith in
    let body : run content.offset ≡ run 0 = ap run offset ∙ periodic k 0 in
    let pad : gap (content.offset + length (run content.offset)) ≡ gap (length (run 0)) = rw body (omega (arith, offset)) in
    let ends : closing content.offset (content.offset + length (run content.offset)) ≡ gap (length (run 0)) = closing_some content.offset (run content.offset) (omega (arith, short.0, ap length body)) ∙ pad in
    (content, o.1, (run content.offset, spelled.everywhere content.offset, o.2 ∙ sym (rw (ends, body) refl)))
