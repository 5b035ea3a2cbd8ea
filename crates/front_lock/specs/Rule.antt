-- The rule of a front: what its words, its value and the views of all seats keep between any two steps. Word 0 counts the
-- tickets that were drawn, word 1 says which is served, word 2 how long the history of the value is. The one slot has the
-- value.
use Rattle.std.specs.Prelude.{◌≡◌, ◌≢◌, ◌⊎◌, ℕ, ◌+◌, ◌^◌, ◌<◌, ◌≤◌, IsTrue, List, [], ◌∷◌, length, Some, if◌then◌else◌}
use mathlib.Core.Option.{some, none}
use mathlib.Core.Option as maybe
use mathlib.Core.List.{IsPrefix}
use lib.ListN.{get_elem?}
use Rattle.atomic_table.specs.Table.{State}
use Rattle.front_lock.specs.declared.view.View.{View}
use Rattle.front_lock.specs.Numbers.{turns_of, speaks_for, list_of}
use Rattle.front_lock.specs.View.{is_live, has_ticket, is_served, has_value, HasSeenItsTurns}

module _ {X B : Type 0} where
  -- how many views have a ticket
  abbrev pub ticket_count : List (View X B) → ℕ
  ticket_count [] = 0
  ticket_count (v ∷ vs) = (if has_ticket v.stage then 1 else 0) + ticket_count vs

  -- what one view knows is so: of the front, of the numbers, and of the history of all turns
  pub record Knows (by : X → ℕ) (b : B) (seats : ℕ) (history : List X) (v : View X B) : Type 0 where
    pub basis : IsTrue (is_live v.stage) → v.basis ≡ Some b
    pub count : IsTrue (is_live v.stage) → v.seats ≡ seats
    pub own : IsTrue (is_live v.stage) → IsTrue (speaks_for v.number v.mine)
    pub below : (k : ℕ) → IsTrue (speaks_for k v.mine) → k < seats
    pub lists : (k : ℕ) → IsTrue (speaks_for k v.mine) → turns_of by k history ≡ list_of k v.mine
    pub told : HasSeenItsTurns by v
    pub seen : IsTrue (is_live v.stage) → IsPrefix v.seen history
    pub met : IsPrefix v.met history

  -- its place in the queue, where so many tickets are drawn and one is served: the seat that holds the value has seen all, and
  -- the value is away
  pub record Stands (tickets serving : ℕ) (history : List X) (IsOut : Type 0) (v : View X B) : Type 0 where
    pub from : IsTrue (has_ticket v.stage) → serving ≤ v.ticket
    pub to : IsTrue (has_ticket v.stage) → v.ticket < tickets
    pub now : IsTrue (is_served v.stage) → v.ticket ≡ serving
    pub whole : IsTrue (has_value v.stage) → v.seen ≡ history
    pub out : IsTrue (has_value v.stage) → IsOut

  -- two views have neither a ticket nor a number in common
  pub record Apart (v w : View X B) : Type 0 where
    pub tickets : IsTrue (has_ticket v.stage) → IsTrue (has_ticket w.stage) → v.ticket ≢ w.ticket
    pub numbers : (k : ℕ) → IsTrue (speaks_for k v.mine) → IsTrue (speaks_for k w.mine) → ⊥

  -- the value is at home, with this history and basis
  pub record IsHome {T : Type 0} (turns : T → List X) (basis : T → B) (b : B) (history : List X) (homes : List (maybe.Option T)) : Type 0 where
    pub value : T
    pub here : homes ≡ some value ∷ []
    pub turns_are : turns value ≡ history
    pub basis_is : basis value ≡ b

  -- a seat holds it
  pub record IsAway {T : Type 0} (views : List (View X B)) (homes : List (maybe.Option T)) : Type 0 where
    pub id : ℕ
    pub view : View X B
    pub gone : homes ≡ none ∷ []
    pub at : get_elem? views id ≡ some view
    pub has : IsTrue (has_value view.stage)

  -- the rule, with so many tickets drawn, the ticket that is served and the history of all turns
  pub record KeepsAt {T : Type 0} (turns : T → List X) (basis : T → B) (by : X → ℕ) (b : B) (seats tickets serving : ℕ) (history : List X) (s : State T (View X B)) : Type 0 where
    pub words : s.words ≡ tickets ∷ serving ∷ length history ∷ []
    pub bound : tickets ≤ 2 ^ 62
    pub counted : serving + ticket_count s.views ≡ tickets
    pub knows : (id : ℕ) (v : View X B) → get_elem? s.views id ≡ some v → Knows by b seats history v
    pub stands : (id : ℕ) (v : View X B) → get_elem? s.views id ≡ some v → Stands tickets serving history (s.homes ≡ none ∷ []) v
    pub apart : (i j : ℕ) (v w : View X B) → i ≢ j → get_elem? s.views i ≡ some v → get_elem? s.views j ≡ some w → Apart v w
    pub place : IsHome turns basis b history s.homes ⊎ IsAway s.views s.homes
    pub numbers : (k : ℕ) → seats ≤ k → turns_of by k history ≡ []

  -- the rule of a front with this basis and so many seats
  pub record Keeps {T : Type 0} (turns : T → List X) (basis : T → B) (by : X → ℕ) (b : B) (seats : ℕ) (s : State T (View X B)) : Type 0 where
    pub tickets : ℕ
    pub serving : ℕ
    pub history : List X
    pub facts : KeepsAt turns basis by b seats tickets serving history s
