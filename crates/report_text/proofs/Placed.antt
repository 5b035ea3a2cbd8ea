-- What holds of the items of two lists at one place.
use Rattle.std.proofs.Common.{◌≡◌, ℕ, List, [], ◌∷◌, Some, zero, suc}
use Rattle.std.specs.Prelude.{slice_get}
use Rattle.std.specs.List.{AllZip}

pub at_place : {A B : Type 0} (R : A → B → Type 0) (xs : List A) (ys : List B) (i : ℕ) (x : A) (y : B) → AllZip R xs ys → slice_get xs i ≡ Some x → slice_get ys i ≡ Some y → R x y
at_place R [] ys i x y all at is = absurd (cc at)
at_place R (a ∷ xs) [] i x y all at is = absurd (cc is)
at_place R (a ∷ xs) (b ∷ ys) zero x y all at is = let left : a ≡ x = cc in let right : b ≡ y = cc in rw (← left, ← right) all.0
at_place R (a ∷ xs) (b ∷ ys) (suc i) x y all at is = at_place R xs ys i x y all.1 at is
