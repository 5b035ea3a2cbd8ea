-- Octets and the runs of bits that they are: pieces.
use Rattle.std.proofs.Common.{◌≡◌, ℕ, ◌+◌, ◌-◌, ◌*◌, ◌/◌, ◌%◌, ◌^◌, ◌<◌, ◌≤◌, Bool, true, false, eqb, List, ◌∷◌, ◌++◌, length, refl, sym, ap, ◌∙◌, inl, inr, append_assoc, arith}
use Rattle.std.proofs.lemmas.Bool.{cases_lt, lt-ltb, le-ltb, ne_eqb}
use Rattle.std.proofs.lemmas.List.{append-nil, length-append}
use Rattle.std.proofs.lemmas.Nat.{pow_pos, shr_high}
use Rattle.aper_fields.specs.Bits.{bits, bits_of, zeros, gap, filled}
use Rattle.aper_fields.specs.Run.{Run, ◌▸◌, length_run, length_octets, open_run, content_of, fixed_bits_run, number_run}
use Rattle.aper_fields.proofs.BitLaws.{bits-add, bits-low, bits-zero, length-bits_of, bits_of-append}
use Rattle.aper_fields.proofs.Periodic.{IsPeriodic}
use Rattle.aper_fields.specs.Asn1.{item_run}
use Rattle.aper_octets.specs.Octets.{count_octets, counted, four_octets, ie_octets}
use Rattle.aper_fields.proofs.Types.{item_periodic}

-- ---- octets

-- a run that is those octets wherever it begins with an octet
abbrev pub AreOctets : Run → List ℕ → Type 0
AreOctets f octets = (k : ℕ) → f (8 * k) ≡ bits_of octets

pub octets_then : (f g : Run) (a b : List ℕ) → AreOctets f a → AreOctets g b → AreOctets (f ▸ g) (a ++ b)
octets_then f g a b p q k =
    let e : 8 * k + length (bits_of a) ≡ 8 * (k + length a) = omega (arith, length-bits_of a) in
    rw (p k, e, q (k + length a)) (sym (bits_of-append a b))

-- it is enough to look at the start
pub octets_at_start : (f : Run) (octets : List ℕ) → IsPeriodic f → f 0 ≡ bits_of octets → AreOctets f octets
octets_at_start f octets periodic e k =
    let z : 8 * k ≡ 8 * k + 0 = omega arith in
    ap f z ∙ periodic k 0 ∙ e

pub octet : (v : ℕ) → bits 8 (v % 256) ≡ bits 8 v
octet v =
    let e : v / 256 * 2 ^ 8 + v % 256 ≡ v = omega arith in
    sym (bits-low 8 (v / 256) (v % 256)) ∙ ap (bits 8) e

pub two : (v : ℕ) → bits 16 v ≡ bits 8 (v / 256) ++ bits 8 v
two v = bits-add 8 8 v

pub three : (v : ℕ) → bits 24 v ≡ bits 8 (v / 65536) ++ (bits 8 (v / 256) ++ bits 8 v)
three v = bits-add 8 16 v ∙ ap (λ (x : List Bool). bits 8 (v / 65536) ++ x) (two v)

pub four : (v : ℕ) → bits 32 v ≡ bits 8 (v / 16777216) ++ (bits 8 (v / 65536) ++ (bits 8 (v / 256) ++ bits 8 v))
four v = bits-add 8 24 v ∙ ap (λ (x : List Bool). bits 8 (v / 16777216) ++ x) (three v)

pub five : (v : ℕ) → bits 40 v ≡ bits 8 (v / 4294967296) ++ (bits 8 (v / 16777216) ++ (bits 8 (v / 65536) ++ (bits 8 (v / 256) ++ bits 8 v)))
five v = bits-add 8 32 v ∙ ap (λ (x : List Bool). bits 8 (v / 4294967296) ++ x) (four v)

pub four_is : (v : ℕ) → bits_of (four_octets v) ≡ bits 32 v
unfolding four_octets bits_of
four_is v = rw (octet v, octet (v / 256), octet (v / 65536), four v) (simp append-nil)

-- ---- numbers out of numbers

-- a number in front of another is one number
pub join : (m n a b : ℕ) → b < 2 ^ n → bits m a ++ bits n b ≡ bits (m + n) (a * 2 ^ n + b)
join m n a b small = sym (bits-add m n (a * 2 ^ n + b) ∙ rw (shr_high a n b small, bits-low n a b) refl)

-- a number in front of zeros
pub shifted : (m n v : ℕ) → bits m v ++ zeros n ≡ bits (m + n) (v * 2 ^ n + 0)
shifted m n v = ap (λ (x : List Bool). bits m v ++ x) (sym (bits-zero n)) ∙ join m n v 0 (pow_pos n)

-- bits, a number, and zeros
pub framed : (m n z x v : ℕ) → v * 2 ^ z + 0 < 2 ^ (n + z) → bits m x ++ (bits n v ++ zeros z) ≡ bits (m + (n + z)) (x * 2 ^ (n + z) + (v * 2 ^ z + 0))
framed m n z x v small = ap (λ (y : List Bool). bits m x ++ y) (shifted n z v) ∙ join m (n + z) x (v * 2 ^ z + 0) small

-- ---- lengths and open types

one_octet : (n : ℕ) → n < 128 → length_octets n ≡ bits 8 n
unfolding length_octets bits
one_octet n short =
    let z : n / 2 ^ 7 ≡ 0 = omega (arith, short) in
    rw (lt-ltb n 128 short, z) refl

ten : (bs : List Bool) → (true ∷ false ∷ bs) ≡ bits 2 2 ++ bs
unfolding bits
ten bs = refl

two_octets : (n : ℕ) → 128 ≤ n → n < 16384 → length_octets n ≡ bits 8 (128 + n / 256) ++ bits 8 (n % 256)
unfolding length_octets
two_octets n long few =
    let v = 2 * 2 ^ 14 + n in
    let high : v / 256 ≡ 128 + n / 256 = omega (arith, few) in
    let low : v % 256 ≡ n % 256 = omega (arith, few) in
    rw (le-ltb n 128 long) (ten (bits 14 n) ∙ join 2 14 2 n few ∙ two v ∙ rw (← octet v, high, low) refl)

length_is : (n : ℕ) → n < 16384 → length_octets n ≡ bits_of (count_octets n)
unfolding count_octets bits_of
length_is n few =
    elim (cases_lt n 128) [
      | inl short ↦ rw (lt-ltb n 128 short, one_octet n short) (simp append-nil)
      | inr long ↦ rw (le-ltb n 128 long, two_octets n long few) (simp append-nil)
    ]

pub counted_is : (octets : List ℕ) → length octets < 16384 → bits_of (counted octets) ≡ length_octets (length octets) ++ bits_of octets
unfolding counted
counted_is octets few = rw (bits_of-append (count_octets (length octets)) octets, length_is (length octets) few) refl

-- whole octets are their own content
pub content_is : (octets : List ℕ) → 0 < length octets → content_of (bits_of octets) ≡ bits_of octets
content_is octets some =
    let n = length-bits_of octets in
    let ne : eqb (length (bits_of octets)) 0 ≡ false = ne_eqb _ _ (λ z. absurd (omega (arith, z, n, some))) in
    let g : gap (length (bits_of octets)) ≡ 0 = omega (arith, n) in
    rw (ne, g) (append-nil (bits_of octets))

pub filled_is : (octets : List ℕ) → filled (bits_of octets) ≡ bits_of octets
filled_is octets =
    let g : gap (length (bits_of octets)) ≡ 0 = omega (arith, length-bits_of octets) in
    rw g (append-nil (bits_of octets))

-- a body whose content is those octets
abbrev pub Contains : List Bool → List ℕ → Type 0
Contains body octets = (content_of body ≡ bits_of octets) × (0 < length octets)

pub contains_octets : (body : List Bool) (octets : List ℕ) → 0 < length octets → body ≡ bits_of octets → Contains body octets
contains_octets body octets some e = (ap (λ (l : List Bool). content_of l) e ∙ content_is octets some, some)

pub open_octets : (body : List Bool) (octets : List ℕ) (at : ℕ) → Contains body octets → length octets < 16384 → open_run body at ≡ zeros (gap at) ++ bits_of (counted octets)
unfolding open_run length_run
open_octets body octets at c few =
    let e : length (bits_of octets) / 8 ≡ length octets = omega (arith, length-bits_of octets) in
    rw (c.0, e, counted_is octets few) (append_assoc (zeros (gap at)) (length_octets (length octets)) (bits_of octets))

-- ---- IEs

pub two_bits : (v : ℕ) → bits 8 (64 * v) ≡ bits 2 v ++ zeros 6
two_bits v =
    let e : 64 * v ≡ v * 2 ^ 6 + 0 = omega arith in
    ap (bits 8) e ∙ sym (shifted 2 6 v)

pub low_octet : (v : ℕ) → v < 256 → bits 16 v ≡ bits 8 0 ++ bits 8 v
low_octet v small =
    let z : v / 256 ≡ 0 = omega (arith, small) in
    two v ∙ rw z refl

item_parts : (id criticality : ℕ) (body : List Bool) → item_run id criticality body 0 ≡ bits 16 (id - 0) ++ (bits 2 criticality ++ open_run body 18)
unfolding item_run number_run fixed_bits_run bits
item_parts id criticality body = refl

pub item_bits : (id criticality : ℕ) (body : List Bool) (content : List ℕ) → id < 256 → Contains body content → length content < 16384 → item_run id criticality body 0 ≡ bits_of (ie_octets id criticality content)
unfolding bits_of ie_octets
item_bits id criticality body content small c few =
    let m : id - 0 ≡ id = omega arith in
    rw (item_parts id criticality body, m, low_octet id small, open_octets body content 18 c few, two_bits criticality) (simp (append_assoc))

-- an IE, or an item of a list, of a body
pub item_is : (id criticality : ℕ) (body : List Bool) (content : List ℕ) → id < 256 → Contains body content → length content < 16384 → AreOctets (item_run id criticality body) (ie_octets id criticality content)
item_is id criticality body content small c few =
    octets_at_start _ _ (item_periodic id criticality body) (item_bits id criticality body content small c few)

-- what it contains is no longer than all
pub ie_few : (id criticality : ℕ) (content rest : List ℕ) → length (ie_octets id criticality content ++ rest) < 16384 → (length content < 16384) × (length rest < 16384)
unfolding ie_octets counted
ie_few id criticality content rest few =
    let a = length-append (count_octets (length content) ++ content) rest in
    let b = length-append (count_octets (length content)) content in
    (omega (arith, a, b, few), omega (arith, a, b, few))
