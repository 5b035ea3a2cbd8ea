-- What a turn, a join and the end of a front come to.
use Rattle.std.specs.Prelude.{◌≡◌, ℕ, ◌<◌, ◌≤◌, List, [], ◌∷◌, ◌++◌, length, Some}
use mathlib.Core.List.{IsPrefix}
use Rattle.atomic_table.specs.Table.{Me}
use Rattle.front_lock.specs.declared.view.Stage.TheVariants.{Idle}
use Rattle.front_lock.specs.declared.view.View.{View}
use Rattle.front_lock.specs.Numbers.{turns_of, list_of, with_turn, longer_of, shorter_of}
use Rattle.front_lock.specs.View.{view_at}

-- one turn of that seat was added, and it and the answer are what `done` says behind the turns before it
pub record AddsTurn {X A : Type 0} (by : X → ℕ) (seat : ℕ) (done : List X → X → A → Type 0) (old : List X) (answer : A) (new : List X) : Type 0 where
  pub turn : X
  pub added : new ≡ old ++ turn ∷ []
  pub of : by turn ≡ seat
  pub is_done : done old turn answer

-- a seat with the view v took in one with the view w: what one had seen begins what the other had seen, and the longer and the
-- lists of both are kept
pub record JoinsViews {X B : Type 0} (v w new : View X B) : Type 0 where
  pub one_history : IsPrefix (shorter_of v.seen w.seen) (longer_of v.seen w.seen)
  pub view_is : new ≡ view_at Idle v.ticket (longer_of v.seen w.seen) (v.mine ++ w.mine) v

module _ {T X B : Type 0} where
  -- a job ran on the value that a seat holds, which keeps its basis: how many turns it has now, and what came of the turns
  -- before and behind
  pub record RunsJob (turns : T → List X) (basis : T → B) (Outcome : B → List X → List X → Type 0) (before : Me T (View X B)) (count : ℕ) (after : Me T (View X B)) : Type 0 where
    pub old : T
    pub new : T
    pub held : before.1 ≡ (0, old) ∷ []
    pub holds : after ≡ (before.0, (0, new) ∷ [])
    pub basis_is : basis new ≡ basis old
    pub count_is : count ≡ length (turns new)
    pub outcome : Outcome (basis old) (turns old) (turns new)

  -- a seat with the view v made a turn: its job ran on a value with the front's basis, whose history begins with all that v had
  -- seen. The new view has seen that history and the turn, which is the one more of its own
  pub record MakesTurn {A : Type 0} (turns : T → List X) (basis : T → B) (by : X → ℕ) (done : B → List X → X → A → Type 0) (v : View X B) (answer : A) (w : View X B) : Type 0 where
    pub value : T
    pub turn : X
    pub basis_is : v.basis ≡ Some (basis value)
    pub seen : IsPrefix v.seen (turns value)
    pub view_is : w ≡ view_at Idle 0 (turns value ++ turn ∷ []) (with_turn v.number turn v.mine) v
    pub of : by turn ≡ v.number
    pub is_done : done (basis value) (turns value) turn answer

  -- it found no memory: no turn was added, and the new view has seen the history of a value with the front's basis
  pub record MissesTurn (turns : T → List X) (basis : T → B) (v w : View X B) : Type 0 where
    pub value : T
    pub basis_is : v.basis ≡ Some (basis value)
    pub seen : IsPrefix v.seen (turns value)
    pub view_is : w ≡ view_at Idle 0 (turns value) v.mine v

  -- the value of a closed front with that basis and so many seats, whose last seat has the view v: it has the turns of each
  -- number's list, and no others
  pub record IsClosed (turns : T → List X) (basis : T → B) (by : X → ℕ) (b : B) (seats : ℕ) (v : View X B) (value : T) : Type 0 where
    pub basis_is : basis value ≡ b
    pub seen : IsPrefix v.seen (turns value)
    pub lists : (k : ℕ) → k < seats → turns_of by k (turns value) ≡ list_of k v.mine
    pub others : (k : ℕ) → seats ≤ k → turns_of by k (turns value) ≡ []
