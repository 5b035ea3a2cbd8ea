-- An open type that was written is read back.
use Rattle.std.proofs.Common.{◌≡◌, ℕ, ◌+◌, ◌*◌, ◌/◌, ◌^◌, ◌<◌, Bool, true, eqb, List, [], ◌++◌, length, refl, sym, append_assoc, inl, inr, arith}
use Rattle.std.proofs.lemmas.Bool.{cases_Bool, eq-eqb}
use Rattle.std.proofs.lemmas.List.{length-append, append-nil}
use Rattle.aper_fields.specs.Bits.{zeros, gap}
use Rattle.aper_fields.specs.Run.{length_octets, length_run, open_run, content_of}
use Rattle.aper_fields.specs.Reading.{contained_at, nothing_at}
use Rattle.aper_fields.specs.Spelling.{Just, Open, Holds}
use Rattle.aper_fields.specs.Format.{IsReadBack, IsOpenReadBack}
use Rattle.aper_fields.proofs.Octet.{input}
use Rattle.aper_fields.proofs.Packed.{length-filled}
use Rattle.aper_fields.proofs.Exact.{done_exact}
use Rattle.aper_fields.proofs.Pieces.{length_run-ends}
use Rattle.aper_fields.proofs.Containers.{open_exact, contained_exact}

-- the content is whole octets
pub length-content : (body : List Bool) → length (content_of body) ≡ 8 * (length (content_of body) / 8)
length-content body =
    elim (cases_Bool (eqb (length body) 0)) [
      | inl none ↦ rw none (omega arith)
      | inr some ↦ rw some (omega (arith, length-filled body))
    ]

-- the open type of a body stands with its content
pub open_written : (at : ℕ) (body : List Bool) → length (content_of body) < 8 * 2 ^ 14 → Open at (input (at + length (length_run (length (content_of body) / 8) at)) (content_of body)) (open_run body at)
unfolding open_run length_run
open_written at body small =
    let content = content_of body in
    let n = length content / 8 in
    let pad = zeros (gap at) in
    let size : length content ≡ 8 * n = length-content body in
    let place : at + length (pad ++ length_octets n) ≡ at + length pad + length (length_octets n) = omega (arith, length-append pad (length_octets n)) in
    (tt, pad, length_octets n ++ content, append_assoc pad (length_octets n) content, refl, (n, length_octets n, content, refl, (omega (arith, size, small), refl), (place, size, refl)))

pub open_back : (body : List Bool) → length (content_of body) < 8 * 2 ^ 14 → IsOpenReadBack body
open_back body small at rest = open_exact.only at (input (at + length (length_run (length (content_of body) / 8) at)) (content_of body)) (open_run body at) rest (open_written at body small)

-- an open type of no bits contains a value of no bits
pub nothing_back : IsReadBack (contained_at nothing_at) (open_run []) tt
nothing_back at rest =
    let small : length (content_of []) < 8 * 2 ^ 14 = omega arith in
    let place = at + length (length_run 1 at) in
    let whole : gap (place + 0 + 8) ≡ 0 = omega (arith, length_run-ends 1 at) in
    let here : eqb (place + 0) place ≡ true = eq-eqb _ _ (omega arith) in
    let held : Holds (Just tt) (input place (zeros 8)) tt = ([], (refl, refl), rw (here, whole) refl) in
    (contained_exact (Just tt) nothing_at (done_exact tt)).only at tt (open_run [] at) rest (input place (zeros 8), open_run [] at, [], sym (append-nil (open_run [] at)), open_written at [] small, (held, refl))
