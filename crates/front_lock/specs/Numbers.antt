-- Histories, and the lists of turns of the seat numbers that a seat speaks for. A history has the oldest turn first.
use Rattle.std.specs.Prelude.{ℕ, zero, suc, ◌==◌, nat_le, Bool, List, [], ◌∷◌, ◌++◌, length, filter, if◌then◌else◌}
use Rattle.std.specs.List.{list_any}

module _ {X : Type 0} where
  -- the turns of seat k in a history, where `by` tells which seat made a turn
  abbrev pub turns_of : (X → ℕ) → ℕ → List X → List X
  turns_of by k history = filter (λ x. k == by x) history

  -- whether there is a list for the number k
  abbrev pub speaks_for : ℕ → List (ℕ × List X) → Bool
  speaks_for k mine = list_any (λ e. k == e.0) mine

  -- the list for the number k
  abbrev pub list_of : ℕ → List (ℕ × List X) → List X
  list_of k [] = []
  list_of k (e ∷ es) = if k == e.0 then e.1 else list_of k es

  -- with the turn x at the end of the list for the number k
  abbrev pub with_turn : ℕ → X → List (ℕ × List X) → List (ℕ × List X)
  with_turn k x [] = []
  with_turn k x (e ∷ es) = if k == e.0 then (e.0, e.1 ++ x ∷ []) ∷ es else e ∷ with_turn k x es

  -- an empty list for each number below n, the greatest first
  abbrev pub empty_lists : ℕ → List (ℕ × List X)
  empty_lists zero = []
  empty_lists (suc n) = (n, []) ∷ empty_lists n

  -- of two histories
  abbrev pub longer_of : List X → List X → List X
  longer_of xs ys = if nat_le (length xs) (length ys) then ys else xs

  abbrev pub shorter_of : List X → List X → List X
  shorter_of xs ys = if nat_le (length xs) (length ys) then xs else ys
