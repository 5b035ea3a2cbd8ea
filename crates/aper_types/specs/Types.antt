-- Types of ASN.1 whose numbers are not known yet, and SEQUENCEs with all bits of presence in front.
use Rattle.std.specs.Prelude.{◌≡◌, ℕ, ◌-◌, Bool, true, false, List, refl, is_some}
use Rattle.echo_base.specs.declared.reason.Reason.TheVariants as reasons
use Rattle.aper_fields.specs.Asn1.{AsnType, Fields, bit_string, integer, needed, optional, absent, also, are_bounds, present_run, fields_at, fields_run, FieldsFit}
use Rattle.aper_fields.specs.Run.{Run, ◌▸◌, fixed_bits_run, nothing_run}
use Rattle.aper_fields.specs.SequenceReading.{Reader, done, ◌>>=◌, zero_bit_at, present_at, extensions_at}

-- INTEGER (low..high), where these are bounds
abbrev pub bounded : (low high : ℕ) (b : Bool) → are_bounds low high ≡ b → AsnType ℕ
bounded low high true are = integer low high are
bounded low high false are = bit_string 1

abbrev pub number : ℕ → ℕ → AsnType ℕ
number low high = bounded low high (are_bounds low high) refl

-- components that can be written, whatever the numbers of their strings are
abbrev pub CanBe : {P A : Type 0} → Fields P A → A → Type 0
CanBe p v = FieldsFit (λ octets. Unit {0}) p v

-- the bits that say what is present
unfoldable pub flags_of : {P A : Type 0} → Fields P A → Reader P
flags_of (needed p) = done tt
flags_of (optional p) = present_at
flags_of (absent reason) = zero_bit_at reason >>= λ bit. done tt
flags_of (also p q) = flags_of p >>= λ a. flags_of q >>= λ b. done (a, b)

unfoldable pub flags_written : {P A : Type 0} → Fields P A → A → Run
flags_written (needed p) v = nothing_run
flags_written (optional p) v = present_run (is_some v)
flags_written (absent reason) v = fixed_bits_run 1 0
flags_written (also p q) v = flags_written p v.0 ▸ flags_written q v.1

-- a SEQUENCE, with these bits in one piece
unfoldable pub sequence_at : {P A : Type 0} → Fields P A → Reader A
sequence_at p = zero_bit_at reasons.SequenceExtension >>= λ extension. flags_of p >>= λ flags. present_at >>= λ more. fields_at p flags >>= λ v. extensions_at more >>= λ end. done v

unfoldable pub sequence_written : {P A : Type 0} → Fields P A → A → Run
sequence_written p v = fixed_bits_run 1 0 ▸ flags_written p v ▸ fixed_bits_run 1 0 ▸ fields_run p v
