-- Reading from left to right: a value and what is left, or the first piece that is wrong, with its reason and its place.
use Rattle.std.specs.Prelude.{ℕ, ◌+◌, ◌-◌, ◌*◌, ◌/◌, ◌==◌, nat_lt, ◌&&◌, Bool, true, false, List, length, take, drop, Result, Ok, Err, if◌then◌else◌}
use Rattle.std.specs.Int.{w64, leading_zeros, div_ceil}
use Rattle.echo_base.specs.declared.reason.Reason.{Reason}
use Rattle.echo_base.specs.declared.reason.Reason.TheVariants as reasons
use Rattle.echo_base.specs.declared.refusal.Refusal.{Refusal}
pub use Rattle.echo_base.specs.Answer.{◌>>=◌}
use Rattle.echo_base.specs.Reading as readings
pub use Rattle.echo_base.specs.Reading.{Gives, GivesBy}
use Rattle.aper_fields.specs.declared.enumerated.EnumValue.{EnumValue}
use Rattle.aper_fields.specs.Bits.{number_of, octets_of, gap}

-- the bits that are left, and the offset of the first of them, in bits from the start of the PDU
pub record Input : Type 0 where
  pub offset : ℕ
  pub left : List Bool

abbrev pub forward : ℕ → Input → Input
forward n i = record { offset = i.offset + n; left = drop n i.left }

-- a value and what is left behind it, or the refusal of the first piece that is wrong
abbrev pub Read : Type 0 → Type 0
Read A = readings.Read Input Refusal A

-- the refusal of what is due at a place: the octet of its first bit
abbrev pub refusal : Reason → Input → Refusal
refusal reason i = record { reason = reason; place = i.offset / 8 }

abbrev pub refuse : {A : Type 0} → Reason → Input → Result A Refusal
refuse reason i = Err (refusal reason i)

-- a run of n bits as a number
unfoldable pub bits_at : ℕ → Input → Read ℕ
bits_at n i = if nat_lt (length i.left) n then refuse reasons.Truncated i else Ok (number_of (take n i.left), forward n i)

-- zeros up to the next octet
unfoldable pub padding_at : Input → Read (Unit {0})
padding_at i = do
  padding ← bits_at (gap i.offset) i
  if padding.0 == 0 then Ok (tt, padding.1) else refuse reasons.NonZeroPadding i

-- ---- whole numbers (X.691, Encoding of a constrained whole number)

-- the least number of bits that holds a number
abbrev pub width : ℕ → ℕ
width n = 64 - leading_zeros w64 n

-- low and a number in n bits, which is at most top
unfoldable pub within_at : ℕ → ℕ → ℕ → Input → Read ℕ
within_at low top n i = do
  v ← bits_at n i
  if nat_lt top v.0 then refuse reasons.OutOfRange i else Ok (low + v.0, v.1)

-- the octets of a number: how many, at most most, and then the least number of them
unfoldable pub counted_at : ℕ → ℕ → ℕ → Input → Read ℕ
counted_at low top most i = do
  count ← within_at 1 (most - 1) (width (most - 1)) i
  padded ← padding_at count.1
  value ← bits_at (8 * count.0) padded.1
  first ← bits_at 8 padded.1
  if nat_lt 1 count.0 && first.0 == 0 then refuse reasons.NotMinimal padded.1 else (if nat_lt top value.0 then refuse reasons.OutOfRange padded.1 else Ok (low + value.0, value.1))

-- a whole number from low to low + top: one value takes nothing, up to 255 values the least number of bits, 256 one
-- aligned octet, up to 65,536 two of them, and more values a count, padding and the least number of octets
unfoldable pub number_at : ℕ → ℕ → Input → Read ℕ
number_at low top i = if top == 0 then Ok (low, i) else (if nat_lt top 255 then within_at low top (width top) i else (if nat_lt top 65536 then (padding_at i >>= λ p. within_at low top (if top == 255 then 8 else 16) p.1) else counted_at low top (div_ceil (width top) 8) i))

-- ---- lengths and octets (X.691, General rules for encoding a length determinant)

-- a length at the start of an octet: 0 and 7 bits, or 10 and 14 bits for more than 127
unfoldable pub length_octets_at : Input → Read ℕ
length_octets_at i = do
  long ← bits_at 1 i
  if long.0 == 0 then bits_at 7 long.1 else (bits_at 1 long.1 >>= λ more. if more.0 == 1 then refuse reasons.TooLong more.1 else (bits_at 14 more.1 >>= λ n. if nat_lt 127 n.0 then Ok n else refuse reasons.LongLength more.1))

-- a general length
unfoldable pub length_at : Input → Read ℕ
length_at i = do
  padded ← padding_at i
  length_octets_at padded.1

-- n octets as a container of their own; where they do not fit it is the length at start that is refused
unfoldable pub content_at : Input → ℕ → Input → Read Input
content_at start n i = if nat_lt (length i.left) (8 * n) then refuse reasons.Truncated start else Ok (record { offset = i.offset; left = take (8 * n) i.left }, forward (8 * n) i)

-- n octets; where they do not fit, what stands at start is refused
unfoldable pub octets_at : Input → ℕ → Input → Read (List ℕ)
octets_at start n i = if nat_lt (length i.left) (8 * n) then refuse reasons.Truncated start else Ok (octets_of n i.left, forward (8 * n) i)

-- an octet string of a fixed size above 2, aligned
unfoldable pub fixed_octets_at : ℕ → Input → Read (List ℕ)
fixed_octets_at n i = do
  padded ← padding_at i
  octets_at padded.1 n padded.1

-- an octet string of free size, of at most so many octets
unfoldable pub octet_string_at : ℕ → Input → Read (List ℕ)
octet_string_at most i = do
  padded ← padding_at i
  len ← length_octets_at padded.1
  if nat_lt most len.0 then refuse reasons.TooLong padded.1 else octets_at padded.1 len.0 len.1

-- a bit string of a fixed size: aligned above 16 bits
unfoldable pub fixed_bits_at : ℕ → Input → Read ℕ
fixed_bits_at n i = if nat_lt 16 n then (padding_at i >>= λ p. bits_at n p.1) else bits_at n i

-- ---- enumerations (X.691, Encoding the enumerated type)

abbrev pub root_at : ℕ → Input → Read EnumValue
root_at roots i = number_at 0 (roots - 1) i >>= λ index. Ok (record { extended = false; index = index.0 }, index.1)

-- an index behind the extension bit: a bit 0 and six bits
abbrev pub extended_at : Input → Read EnumValue
extended_at i = bits_at 1 i >>= λ large. if large.0 == 1 then refuse reasons.OutOfRange i else (bits_at 6 large.1 >>= λ index. Ok (record { extended = true; index = index.0 }, index.1))

unfoldable pub enumerated_at : ℕ → Bool → Input → Read EnumValue
enumerated_at roots extensible i = if extensible then (bits_at 1 i >>= λ bit. if bit.0 == 0 then root_at roots bit.1 else extended_at bit.1) else root_at roots i

-- ---- open types and containers (X.691, Open type fields)

-- an open type: what it contains, as a container, and what stands behind it
unfoldable pub open_at : Input → Read Input
open_at i = do
  padded ← padding_at i
  len ← length_octets_at padded.1
  content_at padded.1 len.0 len.1

-- the end of a container: zeros up to the next octet, and nothing more
unfoldable pub end_at : Input → Read (Unit {0})
end_at i = do
  padded ← padding_at i
  if length padded.1.left == 0 then Ok (tt, i) else refuse reasons.TrailingBytes padded.1

-- a value of no bits
abbrev pub nothing_at : Input → Read (Unit {0})
nothing_at i = Ok (tt, i)

-- an octet of zeros
unfoldable pub empty_at : Input → Read ℕ
empty_at i = bits_at 8 i >>= λ octet. if octet.0 == 0 then Ok octet else refuse reasons.NonZeroPadding i

-- the end of a container behind what was read of it; where that is nothing, an octet of zeros stands before the end
unfoldable pub close_at : Input → Input → Result (Unit {0}) Refusal
close_at content i = if i.offset == content.offset then (empty_at i >>= λ octet. end_at octet.1 >>= λ end. Ok tt) else (end_at i >>= λ end. Ok tt)

-- all of a container is a value
unfoldable pub whole_at : {A : Type 0} → (Input → Read A) → Input → Result A Refusal
whole_at read content = do
  v ← read content
  end ← close_at content v.1
  Ok v.0

-- an open type that contains a value
unfoldable pub contained_at : {A : Type 0} → (Input → Read A) → Input → Read A
contained_at read i = do
  content ← open_at i
  v ← whole_at read content.0
  Ok (v, content.1)
