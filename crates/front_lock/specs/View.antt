-- What a seat knows.
use Rattle.std.specs.Prelude.{◌≡◌, ℕ, zero, suc, Bool, true, false, IsTrue, List, [], ◌∷◌, Some, None}
use Rattle.front_lock.specs.declared.view.Stage.{Stage}
use Rattle.front_lock.specs.declared.view.Stage.TheVariants.{Spent, Idle, Waiting, Served, Holding}
use Rattle.front_lock.specs.declared.view.View.{View}
use Rattle.front_lock.specs.Numbers.{turns_of, speaks_for, list_of, empty_lists}

-- it is not spent
abbrev pub is_live : Stage → Bool
is_live Spent = false
is_live Idle = true
is_live Waiting = true
is_live Served = true
is_live Holding = true

abbrev pub has_ticket : Stage → Bool
has_ticket Spent = false
has_ticket Idle = false
has_ticket Waiting = true
has_ticket Served = true
has_ticket Holding = true

-- its ticket is served, and it knows it
abbrev pub is_served : Stage → Bool
is_served Spent = false
is_served Idle = false
is_served Waiting = false
is_served Served = true
is_served Holding = true

abbrev pub has_value : Stage → Bool
has_value Spent = false
has_value Idle = false
has_value Waiting = false
has_value Served = false
has_value Holding = true

module _ {X B : Type 0} where
  -- the view v at this stage, with this ticket, history and lists
  abbrev pub view_at : Stage → ℕ → List X → List (ℕ × List X) → View X B → View X B
  view_at stage ticket seen mine v = record {
    stage = stage;
    ticket = ticket;
    number = v.number;
    basis = v.basis;
    seats = v.seats;
    seen = seen;
    met = [];
    mine = mine;
  }

  -- that of a seat which is new: it has seen nothing, and speaks for its own number alone
  abbrev pub fresh_view : B → ℕ → ℕ → View X B
  fresh_view basis seats number = record {
    stage = Idle;
    ticket = 0;
    number = number;
    basis = Some basis;
    seats = seats;
    seen = [];
    met = [];
    mine = (number, []) ∷ [];
  }

  -- that of the first seat while it deals: it speaks for all numbers below n
  abbrev pub dealer_view : B → ℕ → ℕ → View X B
  dealer_view basis seats n = record {
    stage = Idle;
    ticket = 0;
    number = 0;
    basis = Some basis;
    seats = seats;
    seen = [];
    met = [];
    mine = empty_lists n;
  }

  -- those of the seats below n, the greatest number first
  abbrev pub dealt_views : B → ℕ → ℕ → List (View X B)
  dealt_views basis seats zero = []
  dealt_views basis seats (suc n) = fresh_view basis seats n ∷ dealt_views basis seats n

  -- that of a seat which was joined to another
  abbrev pub spent_view : View X B
  spent_view = record { stage = Spent; ticket = 0; number = 0; basis = None; seats = 0; seen = []; met = []; mine = [] }

  -- of each number that the seat speaks for, it has seen the turns of its list, each once and in order, and no others
  abbrev pub HasSeenItsTurns : (X → ℕ) → View X B → Type 0
  HasSeenItsTurns by v = (k : ℕ) → IsTrue (speaks_for k v.mine) → turns_of by k v.seen ≡ list_of k v.mine

  -- what each seat knows of itself: it speaks for its own number, and has seen what it did
  pub record KnowsItsTurns (by : X → ℕ) (v : View X B) : Type 0 where
    pub own : IsTrue (speaks_for v.number v.mine)
    pub told : HasSeenItsTurns by v
