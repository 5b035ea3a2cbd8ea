-- How many bits an item takes.
use Rattle.std.proofs.Common.{◌≡◌, ℕ, ◌+◌, ◌-◌, ◌/◌, ◌%◌, Bool, false, eqb, List, ◌++◌, length, inl, inr, arith}
use Rattle.std.proofs.lemmas.Bool.{cases_Bool}
use Rattle.std.proofs.lemmas.List.{length-append, length-replicate}
use Rattle.aper_fields.specs.Bits.{bits, gap}
use Rattle.aper_fields.specs.Run.{number_run, fixed_bits_run, padding_run, length_octets, length_run, open_run, content_of}
use Rattle.aper_fields.specs.Asn1.{item_run}
use Rattle.aper_fields.proofs.BitLaws.{length-bits}
use Rattle.aper_fields.proofs.Packed.{length-filled}
use Rattle.aper_fields.proofs.Opens.{length-length_octets}

-- the bits that an item takes from an octet on: id, criticality, length and content
abbrev pub size : List Bool → ℕ
size body = 24 + length (length_octets (length (content_of body) / 8)) + length (content_of body)

length-content : (body : List Bool) → length (content_of body) % 8 ≡ 0
length-content body =
    elim (cases_Bool (eqb (length body) 0)) [
      | inl none ↦ rw none (omega arith)
      | inr some ↦ rw some (omega (arith, length-filled body))
    ]

pub size_whole : (body : List Bool) → size body % 8 ≡ 0
size_whole body = omega (arith, length-content body, length-length_octets (length (content_of body) / 8))

pub length-item_run : (id criticality at : ℕ) (body : List Bool) → length (item_run id criticality body at) ≡ gap at + size body
unfolding item_run number_run fixed_bits_run open_run length_run
length-item_run id criticality at body =
    let first = padding_run at ++ bits 16 (id - 0) in
    let i = at + length first in
    let second = bits 2 criticality in
    let j = i + length second in
    let counts = length_octets (length (content_of body) / 8) in
    let lengths = padding_run j ++ counts in
    let one : length first ≡ gap at + 16 = omega (arith, length-append (padding_run at) (bits 16 (id - 0)), length-replicate (gap at) false, length-bits 16 (id - 0)) in
    let two : length second ≡ 2 = length-bits 2 criticality in
    let aligned : gap j ≡ 6 = omega (arith, one, two) in
    let three : length lengths ≡ 6 + length counts = omega (arith, aligned, length-append (padding_run j) counts, length-replicate (gap j) false) in
    omega (arith, one, two, three, length-append first (second ++ (lengths ++ content_of body)), length-append second (lengths ++ content_of body), length-append lengths (content_of body))
