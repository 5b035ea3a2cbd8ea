-- The octets of numbers behind the count of their octets.
use Rattle.std.proofs.Common.{◌≡◌, ℕ, ◌+◌, ◌-◌, ◌*◌, ◌/◌, ◌^◌, ◌<◌, ◌≤◌, Bool, List, ◌++◌, length, refl, sym, ap, ◌∙◌, inl, inr, append_assoc, arith}
use Rattle.std.proofs.lemmas.Bool.{cases_lt, lt-ltb, le-ltb}
use Rattle.std.proofs.lemmas.List.{append-nil, length-append}
use Rattle.aper_fields.specs.Bits.{bits, bits_of, zeros, gap}
use Rattle.aper_fields.specs.Reading.{width}
use Rattle.aper_fields.specs.Run.{Run, ◌▸◌, fixed_bits_run, number_run, octet_count, counted_run}
use Rattle.aper_fields.proofs.BitLaws.{length-bits}
use Rattle.aper_fields.proofs.Counts.{octet_count_is, octet_count_some, octet_count_le}
use Rattle.aper_fields.proofs.Periodic.{IsPeriodic, then_periodic, fixed_bits_periodic, number_periodic}
use Rattle.s1ap_ies.specs.declared.bit_rates.BitRates.{BitRates}
use Rattle.s1ap_ies.specs.declared.ue_ids.UeIds.{UeIds}
use Rattle.s1ap_ies.specs.declared.ue_ids.UeIds.TheVariants.{Pair, Mme}
use Rattle.s1ap_ies.specs.Run.{IsBitRates, IsUeIds}
use Rattle.aper_fields.specs.Asn1.{index_run, run, flags_run, fields_run}
use Rattle.s1ap_ies.specs.Values as types
use Rattle.aper_octets.specs.Octets.{least_octets, number_octets}
use Rattle.s1ap_messages.specs.Usual.{rates_octets, ids_octets}
use Rattle.s1ap_messages.proofs.UsualBits.{octets_then, octets_at_start, octet, two, three, four, five, framed, Contains, contains_octets}

-- ---- the least octets of a number

least_is : (n : ℕ) → n < 2 ^ 40 → (octet_count n ≡ length (least_octets n)) × (bits (8 * octet_count n) n ≡ bits_of (least_octets n))
unfolding least_octets bits_of
least_is n fits =
    let in_64 : n < 2 ^ 64 = omega (arith, fits) in
    elim (cases_lt n 256) [
      | inl one ↦ rw (octet_count_is n 1 in_64 (omega arith) one (inl refl), lt-ltb n 256 one) (refl, simp append-nil)
      | inr above ↦
          elim (cases_lt n 65536) [
            | inl below ↦ rw (octet_count_is n 2 in_64 (omega arith) below (inr above), le-ltb n 256 above, lt-ltb n 65536 below, octet n, two n) (refl, simp append-nil)
            | inr above2 ↦
                elim (cases_lt n 16777216) [
                  | inl below ↦ rw (octet_count_is n 3 in_64 (omega arith) below (inr above2), le-ltb n 256 above, le-ltb n 65536 above2, lt-ltb n 16777216 below, octet n, octet (n / 256), three n) (refl, simp append-nil)
                  | inr above3 ↦
                      elim (cases_lt n 4294967296) [
                        | inl below ↦ rw (octet_count_is n 4 in_64 (omega arith) below (inr above3), le-ltb n 256 above, le-ltb n 65536 above2, le-ltb n 16777216 above3, lt-ltb n 4294967296 below, octet n, octet (n / 256), octet (n / 65536), four n) (refl, simp append-nil)
                        | inr above4 ↦ rw (octet_count_is n 5 in_64 (omega arith) fits (inr above4), le-ltb n 256 above, le-ltb n 65536 above2, le-ltb n 16777216 above3, le-ltb n 4294967296 above4, octet n, octet (n / 256), octet (n / 65536), octet (n / 16777216), five n) (refl, simp append-nil)
                      ]
                ]
          ]
    ]

-- how many they are
pub least_few : (n c : ℕ) → 1 ≤ c → c ≤ 5 → n < 2 ^ (8 * c) → n < 2 ^ 40 → (1 ≤ length (least_octets n)) × (length (least_octets n) ≤ c)
least_few n c some few fits wide =
    let e = (least_is n wide).0 in
    (omega (arith, e, octet_count_some n (omega (arith, wide))), omega (arith, e, octet_count_le n c (omega (arith, wide)) some fits))

-- ---- numbers in a run

counted_parts : (top n w at : ℕ) → width (octet_count top - 1) ≡ w → n < 2 ^ 40 → counted_run top n at ≡ bits w (length (least_octets n) - 1) ++ (zeros (gap (at + w)) ++ bits_of (least_octets n))
counted_parts top n w at e fits =
    let l = least_is n fits in
    rw (e, length-bits w (octet_count n - 1), l.1, l.0) refl

-- behind bits that are a number, and with it an octet
counted_octets : (top n w at x before unit : ℕ) → width (octet_count top - 1) ≡ w → n < 2 ^ 40 → bits at x ++ (bits w (length (least_octets n) - 1) ++ zeros (gap (at + w))) ≡ bits 8 (before + unit * (length (least_octets n) - 1)) → bits at x ++ counted_run top n at ≡ bits_of (number_octets before unit n)
unfolding number_octets bits_of
counted_octets top n w at x before unit e fits front =
    rw (counted_parts top n w at e fits, ← front) (simp append_assoc)

number_some : (before unit n : ℕ) → 0 < length (number_octets before unit n)
unfolding number_octets
number_some before unit n = omega arith

-- ---- numbers where a container begins

-- no bits before it
alone : (top n w unit : ℕ) → width (octet_count top - 1) ≡ w → n < 2 ^ 40 → bits 0 0 ++ (bits w (length (least_octets n) - 1) ++ zeros (gap (0 + w))) ≡ bits 8 (0 + unit * (length (least_octets n) - 1)) → counted_run top n 0 ≡ bits_of (number_octets 0 unit n)
unfolding bits
alone top n w unit e fits front = counted_octets top n w 0 0 0 unit e fits front

mme_run : (n : ℕ) → number_run 0 4294967295 n 0 ≡ counted_run 4294967295 (n - 0) 0
unfolding number_run
mme_run n = refl

enb_run : (n : ℕ) → number_run 0 16777215 n 0 ≡ counted_run 16777215 (n - 0) 0
unfolding number_run
enb_run n = refl

rate_run : (n : ℕ) → number_run 0 10000000000 n 0 ≡ counted_run 10000000000 (n - 0) 0
unfolding number_run
rate_run n = refl

mme_octets : (n : ℕ) → n < 2 ^ 32 → number_run 0 4294967295 n 0 ≡ bits_of (number_octets 0 64 n)
unfolding lib.Count.count_leading_zeros
mme_octets n fits =
    let m : n - 0 ≡ n = omega arith in
    let k = length (least_octets n) - 1 in
    let few = least_few n 4 (omega arith) (omega arith) fits (omega (arith, fits)) in
    let same : 0 * 2 ^ 8 + (k * 2 ^ 6 + 0) ≡ 0 + 64 * k = omega arith in
    mme_run n ∙ rw m (alone 4294967295 n 2 64 refl (omega (arith, fits)) (framed 0 2 6 0 k (omega (arith, few.0, few.1)) ∙ ap (bits 8) same))

enb_octets : (n : ℕ) → n < 2 ^ 24 → number_run 0 16777215 n 0 ≡ bits_of (number_octets 0 64 n)
unfolding lib.Count.count_leading_zeros
enb_octets n fits =
    let m : n - 0 ≡ n = omega arith in
    let k = length (least_octets n) - 1 in
    let few = least_few n 3 (omega arith) (omega arith) fits (omega (arith, fits)) in
    let same : 0 * 2 ^ 8 + (k * 2 ^ 6 + 0) ≡ 0 + 64 * k = omega arith in
    enb_run n ∙ rw m (alone 16777215 n 2 64 refl (omega (arith, fits)) (framed 0 2 6 0 k (omega (arith, few.0, few.1)) ∙ ap (bits 8) same))

rate_octets : (n : ℕ) → n ≤ 10000000000 → number_run 0 10000000000 n 0 ≡ bits_of (number_octets 0 32 n)
unfolding lib.Count.count_leading_zeros
rate_octets n fits =
    let m : n - 0 ≡ n = omega arith in
    let k = length (least_octets n) - 1 in
    let few = least_few n 5 (omega arith) (omega arith) (omega (arith, fits)) (omega (arith, fits)) in
    let same : 0 * 2 ^ 8 + (k * 2 ^ 5 + 0) ≡ 0 + 32 * k = omega arith in
    rate_run n ∙ rw m (alone 10000000000 n 3 32 refl (omega (arith, fits)) (framed 0 3 5 0 k (omega (arith, few.0, few.1)) ∙ ap (bits 8) same))

pub mme_is : (n : ℕ) → n < 2 ^ 32 → Contains (number_run 0 4294967295 n 0) (number_octets 0 64 n)
mme_is n fits = contains_octets _ _ (number_some 0 64 n) (mme_octets n fits)

pub enb_is : (n : ℕ) → n < 2 ^ 24 → Contains (number_run 0 16777215 n 0) (number_octets 0 64 n)
enb_is n fits = contains_octets _ _ (number_some 0 64 n) (enb_octets n fits)

-- ---- bit rates

-- grouped to the left
grouped : (f g h : Run) (at : ℕ) → (f ▸ (g ▸ h)) at ≡ ((f ▸ g) ▸ h) at
grouped f g h at =
    let next = at + length (f at) in
    let e : at + length (f at ++ g next) ≡ next + length (g next) = omega (arith, length-append (f at) (g next)) in
    rw e (sym (append_assoc (f at) (g next) (h (next + length (g next)))))

-- the bits before the fields of a SEQUENCE: no extension, no iE-Extensions
abbrev preamble_run : Run
preamble_run = fixed_bits_run 1 0 ▸ fixed_bits_run 1 0

down_run : (n : ℕ) → (preamble_run ▸ number_run 0 10000000000 n) 0 ≡ bits 2 0 ++ counted_run 10000000000 (n - 0) 2
unfolding fixed_bits_run number_run bits
down_run n = refl

down_octets : (n : ℕ) → n ≤ 10000000000 → (preamble_run ▸ number_run 0 10000000000 n) 0 ≡ bits_of (number_octets 0 8 n)
unfolding lib.Count.count_leading_zeros
down_octets n fits =
    let m : n - 0 ≡ n = omega arith in
    let k = length (least_octets n) - 1 in
    let few = least_few n 5 (omega arith) (omega arith) (omega (arith, fits)) (omega (arith, fits)) in
    let same : 0 * 2 ^ 6 + (k * 2 ^ 3 + 0) ≡ 0 + 8 * k = omega arith in
    down_run n ∙ rw m (counted_octets 10000000000 n 3 2 0 0 8 refl (omega (arith, fits)) (framed 2 3 3 0 k (omega (arith, few.0, few.1)) ∙ ap (bits 8) same))

preamble_periodic : IsPeriodic preamble_run
preamble_periodic = then_periodic _ _ (fixed_bits_periodic 1 0) (fixed_bits_periodic 1 0)

-- two numbers, the first behind bits, are octets where a container begins
two_numbers : (front f g : Run) (a b : List ℕ) → IsPeriodic (front ▸ f) → IsPeriodic g → (front ▸ f) 0 ≡ bits_of a → g 0 ≡ bits_of b → (front ▸ (f ▸ g)) 0 ≡ bits_of (a ++ b)
two_numbers front f g a b p q first second =
    grouped front f g 0 ∙ octets_then (front ▸ f) g a b (octets_at_start (front ▸ f) a p first) (octets_at_start g b q second) 0

pub rates_are : (v : BitRates) → IsBitRates v → Contains (run types.bit_rates v 0) (rates_octets v)
unfolding run flags_run fields_run rates_octets
rates_are v right =
    let down : Run = number_run 0 10000000000 v.dl in
    let up : Run = number_run 0 10000000000 v.ul in
    contains_octets _ _ (omega (arith, length-append (number_octets 0 8 v.dl) (number_octets 0 32 v.ul), number_some 0 8 v.dl))
    (grouped (fixed_bits_run 1 0) (fixed_bits_run 1 0) (down ▸ up) 0 ∙ two_numbers preamble_run down up (number_octets 0 8 v.dl) (number_octets 0 32 v.ul) (then_periodic preamble_run down preamble_periodic (number_periodic 0 10000000000 v.dl)) (number_periodic 0 10000000000 v.ul) (down_octets v.dl right.0) (rate_octets v.ul right.1))

-- ---- identities

pair_run : (n : ℕ) → ((index_run 1 0 ▸ preamble_run) ▸ number_run 0 4294967295 n) 0 ≡ bits 4 0 ++ counted_run 4294967295 (n - 0) 4
unfolding fixed_bits_run number_run bits
pair_run n = refl

pair_octets : (n : ℕ) → n < 2 ^ 32 → ((index_run 1 0 ▸ preamble_run) ▸ number_run 0 4294967295 n) 0 ≡ bits_of (number_octets 0 4 n)
unfolding lib.Count.count_leading_zeros
pair_octets n fits =
    let m : n - 0 ≡ n = omega arith in
    let k = length (least_octets n) - 1 in
    let few = least_few n 4 (omega arith) (omega arith) fits (omega (arith, fits)) in
    let same : 0 * 2 ^ 4 + (k * 2 ^ 2 + 0) ≡ 0 + 4 * k = omega arith in
    pair_run n ∙ rw m (counted_octets 4294967295 n 2 4 0 0 4 refl (omega (arith, fits)) (framed 4 2 2 0 k (omega (arith, few.0, few.1)) ∙ ap (bits 8) same))

single_run : (n : ℕ) → (index_run 1 1 ▸ number_run 0 4294967295 n) 0 ≡ bits 2 1 ++ counted_run 4294967295 (n - 0) 2
unfolding fixed_bits_run number_run bits
single_run n = refl

single_octets : (n : ℕ) → n < 2 ^ 32 → (index_run 1 1 ▸ number_run 0 4294967295 n) 0 ≡ bits_of (number_octets 64 16 n)
unfolding lib.Count.count_leading_zeros
single_octets n fits =
    let m : n - 0 ≡ n = omega arith in
    let k = length (least_octets n) - 1 in
    let few = least_few n 4 (omega arith) (omega arith) fits (omega (arith, fits)) in
    let same : 1 * 2 ^ 6 + (k * 2 ^ 4 + 0) ≡ 64 + 16 * k = omega arith in
    single_run n ∙ rw m (counted_octets 4294967295 n 2 2 1 64 16 refl (omega (arith, fits)) (framed 2 2 4 1 k (omega (arith, few.0, few.1)) ∙ ap (bits 8) same))

choice_periodic : (n index : ℕ) → IsPeriodic (index_run n index)
choice_periodic n index = then_periodic _ _ (fixed_bits_periodic 1 0) (fixed_bits_periodic n index)

pub ids_are : (v : UeIds) → IsUeIds v → Contains (run types.ue_ids v 0) (ids_octets v)
unfolding run flags_run fields_run ids_octets
ids_are (Pair mme enb) right =
    let first : Run = number_run 0 4294967295 mme in
    let second : Run = number_run 0 16777215 enb in
    contains_octets _ _ (omega (arith, length-append (number_octets 0 4 mme) (number_octets 0 64 enb), number_some 0 4 mme))
    (ap (λ (l : List Bool). index_run 1 0 0 ++ l) (grouped (fixed_bits_run 1 0) (fixed_bits_run 1 0) (first ▸ second) (0 + length (index_run 1 0 0))) ∙ grouped (index_run 1 0) preamble_run (first ▸ second) 0 ∙ two_numbers (index_run 1 0 ▸ preamble_run) first second (number_octets 0 4 mme) (number_octets 0 64 enb) (then_periodic (index_run 1 0 ▸ preamble_run) first (then_periodic (index_run 1 0) preamble_run (choice_periodic 1 0) preamble_periodic) (number_periodic 0 4294967295 mme)) (number_periodic 0 16777215 enb) (pair_octets mme (omega (arith, right.0))) (enb_octets enb (omega (arith, right.1))))
ids_are (Mme mme) right = contains_octets _ _ (number_some 64 16 mme) (single_octets mme (omega (arith, right)))
