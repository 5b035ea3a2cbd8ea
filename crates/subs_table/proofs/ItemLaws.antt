-- The whole numbers of a list.
use Rattle.std.proofs.Common.{◌≡◌, ℕ, ◌<◌, List, [], ◌∷◌, Option, Some, None, option_map, option_and_then, All, refl, subst, arith}
use Rattle.std.proofs.lemmas.Bool.Decides.{nat_tests}
use Rattle.std.proofs.lemmas.List.Elements.{All-nil, All-cons}
use Rattle.serde_json.specs.Data.{Data, Items, no_items, item}
use Rattle.serde_json.specs.Find.{as_number, as_u64}
use Rattle.subs_table.specs.Kinds.{is_within, passing, whole, wholes_of}

passing_small : (o : Option ℕ) (n : ℕ) → passing (is_within 0 65535) o ≡ Some n → n < 65536
passing_small None n e = cc
passing_small (Some m) n e = grind (arith, nat_tests)

whole_small : (d : Data) (n : ℕ) → whole 0 65535 d ≡ Some n → n < 65536
unfolding whole
whole_small d n e = passing_small (option_and_then as_u64 (as_number d)) n e

more_small : (o : Option ℕ) (p : Option (List ℕ)) (ns : List ℕ) → ((n : ℕ) → o ≡ Some n → n < 65536) → ((rest : List ℕ) → p ≡ Some rest → All (λ n. n < 65536) rest)
    → option_and_then (λ n. option_map (λ ns. n ∷ ns) p) o ≡ Some ns → All (λ n. n < 65536) ns
more_small None p ns first others e = cc
more_small (Some n) None ns first others e = cc
more_small (Some n) (Some rest) ns first others e =
    let same : n ∷ rest ≡ ns = cc in
    subst (All (λ m. m < 65536)) same (All-cons (λ m. m < 65536) n rest (first n refl) (others rest refl))

-- each of them fits 16 bits
pub wholes_small : (ds : Items) (ns : List ℕ) → wholes_of 65535 ds ≡ Some ns → All (λ n. n < 65536) ns
unfolding wholes_of
wholes_small no_items ns e = let same : [] ≡ ns = cc in subst (All (λ m. m < 65536)) same (All-nil (λ m. m < 65536))
wholes_small (item d ds) ns e = more_small (whole 0 65535 d) (wholes_of 65535 ds) ns (whole_small d) (wholes_small ds) e
