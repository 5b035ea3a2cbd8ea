-- Legal histories: each turn on a shard is answered by the turns before it. A history has the oldest turn first.
use Rattle.std.specs.Prelude.{◌≡◌, ◌<◌, ℕ, ◌+◌, ◌-◌, ◌==◌, List, [], ◌∷◌, ◌++◌, length, map, take, Option, Some, None, slice_get, if◌then◌else◌}
use Rattle.device_types.specs.declared.effect.Effect.{Effect}
use Rattle.device_types.specs.declared.event.Lane.{Lane}
use Rattle.device_types.specs.declared.input.Offer.TheVariants as offer
use Rattle.device_types.specs.declared.step.Entry.{Entry}
use Rattle.device_types.specs.declared.subscriber.Subscriber.{Subscriber}
use Rattle.device_types.specs.Journal.{version_of, effects_of, is_on}
use Rattle.device_types.specs.PeerAnswer.{answer_of}
use Rattle.effect_outbox.specs.Outbox.{number_on, settled_by}
use Rattle.peer_calls.specs.Calls.{calls_of, offer_of}
use Rattle.session_row.specs.declared.commit.Commit.{Commit}
use Rattle.session_row.specs.declared.commit.Commit.TheVariants.{Committed, Stale}
use Rattle.session_row.specs.Row.{RowState}
use Rattle.session_store.specs.Law.{IsLawful}
use Rattle.session_store.specs.Charter.{CharterState, alone_in}
use Rattle.session_store.specs.Rows.{IsDevice, opening_row, unsettled_effect, with_settled}
use Rattle.session_store.specs.Seen.{seen_of, peeked_of}
use Rattle.session_store.specs.Shards.{shard_of}
use Rattle.shard_parts.specs.BothPeers.{is_call, lane_of}
use Rattle.store_shared.specs.declared.turn.Turn.{Turn}
use Rattle.store_shared.specs.declared.turn.TurnCall.{TurnCall}
use Rattle.store_shared.specs.declared.turn.TurnCall.TheVariants as calls
use Rattle.store_shared.specs.declared.turn.TurnAnswer.{TurnAnswer}
use Rattle.store_shared.specs.declared.turn.TurnAnswer.TheVariants as answers

-- ---- the store

-- the row of a device behind a turn on it
abbrev pub row_after : RowState → TurnCall → TurnAnswer → RowState
row_after row (calls.Commit read entry) (answers.Commit (Committed version)) = record row { journal = row.journal ++ entry ∷ [] }
row_after row (calls.Settle l k) _ = with_settled row l k
row_after row _ _ = row

abbrev pub row_from : RowState → ℕ → List Turn → RowState
row_from row d [] = row
row_from row d (t ∷ ts) = row_from (if t.device.0 == d then row_after row t.call t.answer else row) d ts

-- the row of device d behind a list of turns: its committed entries in order, and its settled numbers
abbrev pub row_in : ℕ → List Turn → RowState
row_in d turns = row_from opening_row d turns

abbrev pub journal_in : ℕ → List Turn → List Entry
journal_in d turns = (row_in d turns).journal

-- a write of a version that was read, where so many were made
abbrev pub commit_of : ℕ → ℕ → Commit
commit_of version read = if read == version then Committed (read + 1) else Stale read version

-- what the row says to a call; to an offer nothing
abbrev pub row_says : RowState → TurnCall → Option TurnAnswer
row_says row (calls.Read asked) = Some (answers.Read (seen_of row.journal asked))
row_says row (calls.Peek asked) = Some (answers.Peek (peeked_of row.journal asked))
row_says row (calls.Commit read entry) = Some (answers.Commit (commit_of (version_of row.journal) read))
row_says row (calls.Push l k) = Some (answers.Push (unsettled_effect row l k))
row_says row (calls.Settle l k) = Some (answers.Settle (settled_by (number_on row.settled l) k))
row_says row (calls.Offer k call) = None

-- ---- the peers

-- the calls that a peer has accepted of a device on a lane, behind a turn on it
abbrev pub accepted_after : List Effect → Lane → TurnCall → TurnAnswer → List Effect
accepted_after accepted l (calls.Offer k call) (answers.Offer (offer.Accepted answer)) = if is_on l call then accepted ++ call ∷ [] else accepted
accepted_after accepted l _ _ = accepted

abbrev pub accepted_from : List Effect → ℕ → Lane → List Turn → List Effect
accepted_from accepted d l [] = accepted
accepted_from accepted d l (t ∷ ts) = accepted_from (if t.device.0 == d then accepted_after accepted l t.call t.answer else accepted) d l ts

-- those of device d on a lane, behind a list of turns
abbrev pub accepted_in : ℕ → Lane → List Turn → List Effect
accepted_in d l turns = accepted_from [] d l turns

-- what a peer says to an offer, by the subscriber's row; to another call nothing
abbrev pub peer_says : Option Subscriber → (Lane → List Effect) → TurnCall → Option TurnAnswer
peer_says (Some row) accepted (calls.Offer k call) = if is_call call then Some (answers.Offer (offer_of (answer_of row) (accepted (lane_of call)) k call)) else None
peer_says _ _ _ = None

-- ---- histories

-- a turn on a device of that shard, answered so
pub record IsTurn (says : List Turn → Turn → Option TurnAnswer) (shard devices : ℕ) (before : List Turn) (t : Turn) : Type 0 where
  pub device : IsDevice devices t.device.0
  pub here : shard_of t.device.0 ≡ shard
  pub answer : says before t ≡ Some t.answer

-- each turn is one by those before it
abbrev pub IsLegal : (List Turn → Turn → Option TurnAnswer) → ℕ → ℕ → List Turn → Type 0
IsLegal says shard devices turns = (i : ℕ) (t : Turn) → slice_get turns i ≡ Some t → IsTurn says shard devices (take i turns) t

abbrev pub store_says : List Turn → Turn → Option TurnAnswer
store_says before t = row_says (row_in t.device.0 before) t.call

abbrev pub peers_say : List Subscriber → List Turn → Turn → Option TurnAnswer
peers_say rows before t = peer_says (slice_get rows (t.device.0 - 1)) (λ l. accepted_in t.device.0 l before) t.call

-- a history of a shard of the store, and one of the peers under a charter
abbrev pub IsStoreHistory : ℕ → ℕ → List Turn → Type 0
IsStoreHistory shard devices turns = IsLegal store_says shard devices turns

abbrev pub IsPeerHistory : CharterState → ℕ → List Turn → Type 0
IsPeerHistory charter shard turns = IsLegal (peers_say charter.rows) shard (length charter.rows) turns

-- ---- lawful

-- the row of each device is lawful by the charter's law
abbrev pub AreLawfulIn : (ℕ → List Entry → Entry → Type 0) → ℕ → List Turn → Type 0
AreLawfulIn follows devices turns = (d : ℕ) → IsDevice devices d → IsLawful (follows d) (journal_in d turns)

-- the lists of one peer are the calls that the history says it accepted
pub record ArePeers {C : Type 0} (wrap : C → Effect) (lists : List (List C)) (l : Lane) (devices : ℕ) (turns : List Turn) : Type 0 where
  pub count : length lists ≡ devices
  pub each : (d : ℕ) → IsDevice devices d → map wrap (calls_of lists d) ≡ accepted_in d l turns

-- what a peer has accepted of a device is the beginning of that lane of Alone
abbrev pub IsAcceptedOf : CharterState → ℕ → Lane → List Effect → Type 0
IsAcceptedOf charter d l accepted = take (length accepted) (effects_of l (alone_in charter d)) ≡ accepted

abbrev pub AreAcceptedIn : CharterState → List Turn → Type 0
AreAcceptedIn charter turns = (d : ℕ) (l : Lane) → IsDevice (length charter.rows) d → IsAcceptedOf charter d l (accepted_in d l turns)

-- ---- what a write tells

-- how many commits of device d stand in a history
abbrev pub commit_count : ℕ → List Turn → ℕ
commit_count d turns = length (journal_in d turns)

-- a stale write is of a version behind the one that is there
abbrev pub IsBehind : ℕ → Commit → Type 0
IsBehind read (Committed version) = version ≡ read + 1
IsBehind read (Stale asked current) = (asked ≡ read) × (read < current)

-- of a write of device d that was read at a version: where it was made, the history behind it has so many commits; where it was
-- stale, so many as it says, and more than were read
abbrev pub TellsCount : ℕ → ℕ → List Turn → Commit → Type 0
TellsCount d read turns (Committed version) = (version ≡ read + 1) × (commit_count d turns ≡ version)
TellsCount d read turns (Stale asked current) = (asked ≡ read) × (commit_count d turns ≡ current) × (read < current)
