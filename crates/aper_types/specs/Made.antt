-- Values of code that are those of a type under names of their own.
use Rattle.std.specs.Prelude.{◌≡◌, ℕ, refl}
use Rattle.std.proofs.Common.{subst, sym}
use Rattle.aper_fields.specs.Reading.{Input}
use Rattle.aper_fields.specs.Asn1.{AsnType, Same, named, reading, run, CanBeWritten}

-- A type is another one under names: it is read and written as that, and has its ranges.
pub record IsMadeOf {A B : Type 0} (outer : AsnType B) (inner : AsnType A) (same : Same A B) : Type 0 where
  pub read : (i : Input) → reading outer i ≡ reading (named same inner) i
  pub written : (v : B) (at : ℕ) → run (named same inner) v at ≡ run outer v at
  pub fits : (v : A) → CanBeWritten inner v → CanBeWritten outer (same.make v)
  pub parts : (v : B) → CanBeWritten outer v → CanBeWritten inner (same.parts v)

-- as each is of which that is said
pub made_of : {A B : Type 0} (inner : AsnType A) (same : Same A B) → IsMadeOf (named same inner) inner same
made_of inner same = record { read = λ i. refl; written = λ v at. refl; fits = λ v fits. subst (λ a. CanBeWritten inner a) (sym (same.back v)) fits; parts = λ v fits. fits }
