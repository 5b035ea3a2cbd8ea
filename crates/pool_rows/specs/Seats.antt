-- What is told of rows and peers that are shared.
use Rattle.std.specs.Prelude.{◌≡◌, ◌≤◌, ◌<◌, ℕ, ◌+◌, ◌-◌, List, length, Some, IsSomeAnd, true, slice_get}
use Rattle.device_types.specs.declared.effect.Effect.{Effect}
use Rattle.device_types.specs.declared.event.Lane.{Lane}
use Rattle.device_types.specs.declared.input.Input.{Input}
use Rattle.device_types.specs.declared.input.Input.TheVariants as inputs
use Rattle.device_types.specs.declared.input.Offer.{Offer}
use Rattle.device_types.specs.declared.input.Offer.TheVariants.{Accepted, Repeat, Ahead}
use Rattle.device_types.specs.Journal.{effects_of}
use Rattle.effect_outbox.specs.declared.settled.Settled.{Settled}
use Rattle.effect_outbox.specs.Outbox.{number_on, settled_by}
use Rattle.replica_worker.specs.Writes.{IsOwnInput}
use Rattle.session_row.specs.Row.{RowState}
use Rattle.session_store.specs.Charter.{CharterState, alone_in}
use Rattle.session_store.specs.Rows.{Begins, IsDevice, with_settled}
use Rattle.shard_parts.specs.BothPeers.{is_call, lane_of}

-- ---- what a call leaves of a seat

-- a row has all that another one had: its journal begins with that one's, and of no lane fewer effects are settled
pub record IsLater (old new : RowState) : Type 0 where
  pub journal : Begins old.journal new.journal
  pub settled : (l : Lane) → number_on old.settled l ≤ number_on new.settled l

module _ {Seat : Type 0} where
  -- of each device a seat knows the row that another one knew, or a later one
  abbrev pub KnowsRows : (Seat → ℕ → RowState) → Seat → Seat → Type 0
  KnowsRows known old new = (d : ℕ) → IsLater (known old d) (known new d)

  -- of each device and lane it knows the calls that another one knew to be accepted, and maybe more
  abbrev pub KnowsCalls : (Seat → ℕ → Lane → List Effect) → Seat → Seat → Type 0
  KnowsCalls known old new = (d : ℕ) (l : Lane) → Begins (known old d l) (known new d l)

  -- a seat goes on from another: it is one of these rows, or of these peers, speaks for what that one spoke for, and knows what
  -- that one knew
  pub record GoesOn (IsSeat : Seat → Type 0) (Speaks : Seat → ℕ → Type 0) (Knows : Seat → Seat → Type 0) (old new : Seat) : Type 0 where
    pub seat : IsSeat new
    pub speaks : (n : ℕ) → Speaks old n → Speaks new n
    pub knows : Knows old new

-- ---- what it tells

-- the effects of a lane up to k are settled, and nothing else is changed of the row that was there before. That one is what others
-- made of the row that the seat knew, and how many effects of the lane were settled in it says what is told
pub record Settles (Comes : RowState → Type 0) (known : RowState) (l : Lane) (k : ℕ) (new : RowState) (told : Settled) : Type 0 where
  pub before : RowState
  pub others : Comes before
  pub later : IsLater known before
  pub says : told ≡ settled_by (number_on before.settled l) k
  pub behind : new ≡ with_settled before l k

-- under a charter, the device's message of its number, or its peer's answer to the call of its number
abbrev pub IsOwnOf : CharterState → ℕ → Input → Type 0
IsOwnOf charter d input = IsSomeAnd (slice_get charter.rows (d - 1)) (λ row. IsSomeAnd (slice_get charter.lines (d - 1)) (IsOwnInput row input))

-- a call is effect k of its lane of the machine alone
pub record IsCall (charter : CharterState) (d k : ℕ) (call : Effect) : Type 0 where
  pub device : IsDevice (length charter.rows) d
  pub called : is_call call ≡ true
  pub least : 1 ≤ k
  pub law : slice_get (effects_of (lane_of call) (alone_in charter d)) (k - 1) ≡ Some call

-- what is said to a call that arrives, where those were accepted behind it: its answer, where it is one of them; where calls before
-- it have not come, how many were accepted
abbrev pub IsOffer : CharterState → ℕ → ℕ → Effect → List Effect → Offer → Type 0
IsOffer charter d k call accepted (Accepted answer) = (k ≤ length accepted) × IsOwnOf charter d (inputs.Answer (lane_of call) k answer)
IsOffer charter d k call accepted (Repeat answer) = (k ≤ length accepted) × IsOwnOf charter d (inputs.Answer (lane_of call) k answer)
IsOffer charter d k call accepted (Ahead last) = (length accepted ≡ last) × (last + 1 < k)
