-- What jobs on a tally rest on.
use Rattle.std.specs.Prelude.{ℕ, ◌<◌, List, ◌++◌, length}
use Rattle.std.proofs.Common.{arith}
use Rattle.std.proofs.lemmas.List.{length-append}

-- a place within a list is within it where the list grows
pub stays_within : {A : Type 0} (place : ℕ) (turns more : List A) → place < length turns → place < length (turns ++ more)
stays_within place turns more within = let long = length-append turns more in omega arith
