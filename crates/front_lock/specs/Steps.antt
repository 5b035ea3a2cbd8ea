-- What each kind of atomic step tells its seat: of a step, the view and the slots that the seat held before, the number found
-- and those after it.
use Rattle.std.specs.Prelude.{◌≡◌, ◌≢◌, ℕ, List, [], ◌∷◌, ◌++◌, drop, get_or, Some}
use mathlib.Core.List.{IsPrefix}
use Rattle.atomic_table.specs.Table.{Me, Step, rest}
use Rattle.front_lock.specs.declared.view.Stage.TheVariants.{Idle, Waiting, Served, Holding}
use Rattle.front_lock.specs.declared.view.View.{View}
use Rattle.front_lock.specs.Numbers.{with_turn, longer_of, shorter_of}
use Rattle.front_lock.specs.View.{view_at, KnowsItsTurns}

module _ {T X B : Type 0} where
  -- it has the number of tickets as its ticket where that is what it expected, and else nothing is changed
  abbrev pub Draws : Step T → Me T (View X B) → ℕ → Me T (View X B) → Type 0
  Draws st m found n =
      (found ≡ st.first → n ≡ (view_at Waiting st.first m.0.seen m.0.mine m.0, m.1))
      × (found ≢ st.first → n ≡ m)

  -- it is served where that is its ticket
  abbrev pub Looks : Step T → Me T (View X B) → ℕ → Me T (View X B) → Type 0
  Looks st m found n =
      (found ≡ m.0.ticket → n ≡ (view_at Served m.0.ticket m.0.seen m.0.mine m.0, m.1))
      × (found ≢ m.0.ticket → n ≡ m)

  -- it holds a value with the front's basis, whose history begins with all that it had seen, and has seen that
  abbrev pub Takes : (T → List X) → (T → B) → Step T → Me T (View X B) → ℕ → Me T (View X B) → Type 0
  Takes turns basis st m found n =
      (y : T)
      × (n ≡ (view_at Holding m.0.ticket (turns y) m.0.mine m.0, (0, y) ∷ []))
      × (m.0.basis ≡ Some (basis y))
      × IsPrefix m.0.seen (turns y)

  -- the turn that was added to the value it holds is seen, and one of its own
  abbrev pub Raises : (T → List X) → Step T → Me T (View X B) → ℕ → Me T (View X B) → Type 0
  Raises turns st m found n =
      (x : X) × (y : T)
      × (m.1 ≡ (0, y) ∷ [])
      × (turns y ≡ m.0.seen ++ x ∷ [])
      × (n ≡ (view_at Holding m.0.ticket (turns y) (with_turn m.0.number x m.0.mine) m.0, m.1))

  -- it holds the value no more
  abbrev pub Returns : Step T → Me T (View X B) → ℕ → Me T (View X B) → Type 0
  Returns st m found n = n ≡ (view_at Served m.0.ticket m.0.seen m.0.mine m.0, rest m.1)

  -- it has no ticket, and knows its turns
  abbrev pub Passes : (X → ℕ) → Step T → Me T (View X B) → ℕ → Me T (View X B) → Type 0
  Passes by st m found n = (n ≡ (view_at Idle 0 m.0.seen m.0.mine m.0, m.1)) × KnowsItsTurns by n.0

  -- of what it and the other seat had seen the shorter begins the longer, and it knows its turns
  abbrev pub Compares : (X → ℕ) → Step T → Me T (View X B) → ℕ → Me T (View X B) → Type 0
  Compares by st m found n =
      IsPrefix m.0.met m.0.seen
      × (n ≡ (view_at m.0.stage m.0.ticket m.0.seen m.0.mine m.0, m.1))
      × KnowsItsTurns by n.0

module _ {X B : Type 0} where
  -- a seat without its first number and list
  abbrev pub dealer_left : View X B → View X B
  dealer_left v = record v { mine = drop 1 v.mine }

  -- the new seat, with these
  abbrev pub number_dealt : View X B → View X B
  number_dealt v =
      let first = get_or v.mine 0 (0, []) in
      record v { stage = Idle; ticket = 0; number = first.0; met = []; mine = first ∷ [] }

  -- the kept seat, with the longer history, its own number and the lists of both
  abbrev pub views_joined : View X B → View X B → View X B
  views_joined v w = record v { seen = longer_of v.seen w.seen; met = shorter_of v.seen w.seen; mine = v.mine ++ w.mine }
