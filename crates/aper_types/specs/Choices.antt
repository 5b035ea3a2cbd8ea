-- A value of one type or another, as code has it.
use Rattle.std.specs.Prelude.{◌≡◌, refl, ◌⊎◌}
use Rattle.std.proofs.Common.{inl, inr}
use Rattle.aper_types.specs.declared.choice.Either.{Either}
use Rattle.aper_types.specs.declared.choice.Either.TheVariants.{First, Second}
use Rattle.aper_fields.specs.Asn1.{Same}

abbrev pub either_of : {A B : Type 0} → A ⊎ B → Either A B
either_of (inl a) = First a
either_of (inr b) = Second b

abbrev pub sum_of : {A B : Type 0} → Either A B → A ⊎ B
sum_of (First a) = inl a
sum_of (Second b) = inr b

pub either_back : {A B : Type 0} (v : A ⊎ B) → sum_of (either_of v) ≡ v
either_back (inl a) = refl
either_back (inr b) = refl

pub either_again : {A B : Type 0} (v : Either A B) → either_of (sum_of v) ≡ v
either_again (First a) = refl
either_again (Second b) = refl

abbrev pub either_same : {A B : Type 0} → Same (A ⊎ B) (Either A B)
either_same = record { make = either_of; parts = sum_of; back = either_back; again = either_again }
