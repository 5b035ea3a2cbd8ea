-- Pieces that are taken or put one after another.
use Rattle.std.proofs.Common.{ℕ, ◌≤◌, ◌<◌, List, [], ◌++◌, Option, None, Some, refl, sym, ap, ◌∙◌, inl, inr, ⊎_elim, arith, append_assoc}
use Rattle.std.proofs.lemmas.List.{append-nil}
use Rattle.std.specs.Option.{option_map}
use Rattle.echo_base.specs.Outside.{IsTaken, IsPut, Rose}

-- at the start nothing is taken
pub IsTaken-none : (left : Option (List ℕ)) → IsTaken left [] left
IsTaken-none None = refl
IsTaken-none (Some rest) = refl

-- one piece more
pub IsTaken-more : (before middle after : Option (List ℕ)) (xs ys : List ℕ) → IsTaken before xs middle → IsTaken middle ys after → IsTaken before (xs ++ ys) after
IsTaken-more before middle None xs ys first second =
    first ∙ ap (option_map (λ rest. xs ++ rest)) second
IsTaken-more before middle (Some rest) xs ys first second =
    first ∙ ap (option_map (λ rest. xs ++ rest)) second ∙ ap Some (sym (append_assoc xs ys rest))

-- at the start nothing is put
pub IsPut-none : (held : Option (List ℕ)) → IsPut held [] held
IsPut-none None = refl
IsPut-none (Some octets) = ap Some (sym (append-nil octets))

-- one piece more
pub IsPut-more : (before middle after : Option (List ℕ)) (xs ys : List ℕ) → IsPut before xs middle → IsPut middle ys after → IsPut before (xs ++ ys) after
IsPut-more None middle after xs ys first second =
    second ∙ ap (option_map (λ held. held ++ ys)) first
IsPut-more (Some octets) middle after xs ys first second =
    second ∙ ap (option_map (λ held. held ++ ys)) first ∙ ap Some (append_assoc octets xs ys)

-- a count that rose later rose
pub Rose-later : (first middle last : ℕ) → first ≤ middle → Rose middle last → Rose first last
Rose-later first middle last no_fall rose =
    ⊎_elim (λ (more : middle < last). inl (omega arith)) inr rose
