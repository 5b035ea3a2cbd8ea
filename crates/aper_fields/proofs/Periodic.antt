-- Runs depend on where in an octet they begin, and on nothing more of their offset.
use Rattle.std.proofs.Common.{◌≡◌, ℕ, ◌+◌, ◌-◌, ◌*◌, Bool, true, false, cond, ltb, eqb, List, length, refl, ap, arith}
use Rattle.aper_fields.specs.declared.enumerated.EnumValue.{EnumValue}
use Rattle.aper_fields.specs.Bits.{zeros, gap}
use Rattle.aper_fields.specs.Run.{Run, ◌▸◌, bits_run, padding_run, nothing_run, number_run, length_octets, length_run, fixed_octets_run, octet_string_run, fixed_bits_run, enumerated_run, content_of, open_run}

abbrev pub IsPeriodic : Run → Type 0
IsPeriodic f = (k at : ℕ) → f (8 * k + at) ≡ f at

-- a run that is the same at each offset
pub constant_periodic : (bs : List Bool) → IsPeriodic (λ at. bs)
constant_periodic bs k at = refl

pub padding_periodic : IsPeriodic padding_run
padding_periodic k at = let e : gap (8 * k + at) ≡ gap at = omega arith in ap zeros e

pub then_periodic : (f g : Run) → IsPeriodic f → IsPeriodic g → IsPeriodic (f ▸ g)
then_periodic f g p q k at =
    let e : 8 * k + at + length (f at) ≡ 8 * k + (at + length (f at)) = omega arith in
    rw (p k at, e, q k (at + length (f at))) refl

pub either_periodic : (b : Bool) (f g : Run) → IsPeriodic f → IsPeriodic g → IsPeriodic (cond b f g)
either_periodic true f g p q = p
either_periodic false f g p q = q

pub bits_periodic : (n v : ℕ) → IsPeriodic (bits_run n v)
bits_periodic n v k at = refl

pub number_periodic : (low top v : ℕ) → IsPeriodic (number_run low top v)
unfolding number_run
number_periodic low top v =
    either_periodic (eqb top 0) _ _ (constant_periodic _)
    (either_periodic (ltb top 255) _ _ (constant_periodic _)
    (either_periodic (ltb top 65536) _ _ (then_periodic _ _ padding_periodic (constant_periodic _))
    (then_periodic _ _ (constant_periodic _) (then_periodic _ _ padding_periodic (constant_periodic _)))))

pub length_periodic : (n : ℕ) → IsPeriodic (length_run n)
unfolding length_run
length_periodic n = then_periodic padding_run _ padding_periodic (constant_periodic (length_octets n))

pub fixed_octets_periodic : (octets : List ℕ) → IsPeriodic (fixed_octets_run octets)
unfolding fixed_octets_run
fixed_octets_periodic octets = then_periodic padding_run _ padding_periodic (constant_periodic _)

pub octet_string_periodic : (octets : List ℕ) → IsPeriodic (octet_string_run octets)
unfolding octet_string_run
octet_string_periodic octets = then_periodic _ _ (length_periodic (length octets)) (constant_periodic _)

pub fixed_bits_periodic : (n v : ℕ) → IsPeriodic (fixed_bits_run n v)
unfolding fixed_bits_run
fixed_bits_periodic n v = either_periodic (ltb 16 n) _ _ (then_periodic padding_run (bits_run n v) padding_periodic (bits_periodic n v)) (bits_periodic n v)

pub enumerated_periodic : (roots : ℕ) (extensible : Bool) (v : EnumValue) → IsPeriodic (enumerated_run roots extensible v)
unfolding enumerated_run
enumerated_periodic roots extensible v =
    either_periodic v.extended _ _ (constant_periodic _)
    (then_periodic _ _ (either_periodic extensible (bits_run 1 0) nothing_run (constant_periodic _) (constant_periodic _)) (number_periodic 0 (roots - 1) v.index))

pub open_periodic : (body : List Bool) → IsPeriodic (open_run body)
unfolding open_run
open_periodic body = then_periodic _ _ (length_periodic _) (constant_periodic (content_of body))
