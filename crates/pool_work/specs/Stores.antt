-- What a thread has of shared rows: a seat of them.
use Rattle.std.specs.Prelude.{◌≡◌, ◌≤◌, ℕ, ◌-◌, List, length, take, Option, Some, None, slice_get}
use Rattle.device_types.specs.declared.effect.Effect.{Effect}
use Rattle.device_types.specs.declared.event.Lane.{Lane}
use Rattle.device_types.specs.declared.step.Entry.{Entry}
use Rattle.device_types.specs.Journal.{effects_of}
use Rattle.session_row.specs.Row.{RowState}
use Rattle.session_store.specs.Charter.{CharterState, alone_in}

-- ---- seats

-- a seat takes over from another one: it is one of these rows, or of these peers, and speaks for what that one spoke for
pub record TakesOver {Seat : Type 0} (IsSeat : Seat → Type 0) (Speaks : Seat → ℕ → Type 0) (old new : Seat) : Type 0 where
  pub seat : IsSeat new
  pub speaks : (n : ℕ) → Speaks old n → Speaks new n

module _ {S Q : Type 0} where
  -- one is a seat of the rows, the other one of the peers
  pub record AreSeats (IsRow : S → Type 0) (IsCall : Q → Type 0) (a : S) (x : Q) : Type 0 where
    pub rows : IsRow a
    pub peers : IsCall x

  -- a seat of the rows and one of the peers take over from two others
  pub record BothTakeOver (IsRow : S → Type 0) (RowSpeaks : S → ℕ → Type 0) (IsCall : Q → Type 0) (CallSpeaks : Q → ℕ → Type 0) (a b : S) (x y : Q) : Type 0 where
    pub rows : TakesOver IsRow RowSpeaks a b
    pub peers : TakesOver IsCall CallSpeaks x y

-- the rows and the peers are under the charter that is looked at, which is that of the run
pub record AreUnder (charter looked rows peers : CharterState) : Type 0 where
  pub looked_is : looked ≡ charter
  pub rows_are : rows ≡ charter
  pub peers_are : peers ≡ charter

-- ---- the rows from a seat

-- rows of a type, a seat of them, and how often they were read by it
pub record StoreState (T Seat : Type 0) : Type 0 where
  pub rows : T
  pub seat : Seat
  pub reads : ℕ

-- of device d so many entries of the machine alone as were seen: what was seen, where each call was answered
abbrev pub seen_of_alone : CharterState → ℕ → List Entry → List Entry
seen_of_alone charter d journal = take (length journal) (alone_in charter d)

-- the rows are the same; the seat speaks for what it spoke for, and of no device it has seen less
pub record Kept {T Seat : Type 0} (Speaks : Seat → ℕ → Type 0) (known : Seat → ℕ → RowState) (old new : StoreState T Seat) : Type 0 where
  pub same : new.rows ≡ old.rows
  pub speaks : (n : ℕ) → Speaks old.seat n → Speaks new.seat n
  pub grows : (i : ℕ) → length (known old.seat i).journal ≤ length (known new.seat i).journal

-- an effect that was told is effect k of its lane of the journal
abbrev pub IsPushed : Lane → ℕ → List Entry → Option Effect → Type 0
IsPushed lane k journal None = Unit {0}
IsPushed lane k journal (Some effect) = slice_get (effects_of lane journal) (k - 1) ≡ Some effect
