-- What a replica may write, and what a write comes to.
use Rattle.std.specs.Prelude.{◌≡◌, ℕ, ◌-◌, ◌≤◌, List, length, take, Option, Some, None, IsSomeAnd, slice_get}
use Rattle.device_types.specs.declared.input.Input.{Input}
use Rattle.device_types.specs.declared.input.Input.TheVariants as inputs
use Rattle.device_types.specs.declared.message.Message.{Message}
use Rattle.device_types.specs.declared.step.Entry.{Entry}
use Rattle.device_types.specs.declared.step.Reply.{Reply}
use Rattle.device_types.specs.declared.subscriber.DeviceId.{DeviceId}
use Rattle.device_types.specs.declared.subscriber.Subscriber.{Subscriber}
use Rattle.device_types.specs.Alone.{alone_of}
use Rattle.device_types.specs.Journal.{effects_of, reply_of}
use Rattle.device_types.specs.PeerAnswer.{answer_of}
use Rattle.replica_worker.specs.declared.hand.Hand.{Hand}
use Rattle.replica_worker.specs.declared.hand.Hand.TheVariants.{Ready}
use Rattle.session_row.specs.declared.commit.Commit.{Commit}
use Rattle.session_row.specs.declared.commit.Commit.TheVariants.{Committed}
use Rattle.session_store.specs.Charter.{CharterState, follows_alone}
use Rattle.session_store.specs.Rows.{IsDevice, IsKnownAfter}

-- the device's message of its number, or what the peer answers to the call of its number, of the machine alone
abbrev pub IsOwnInput : Subscriber → Input → List Message → Type 0
IsOwnInput row (inputs.Message message) messages = slice_get messages (message.number - 1) ≡ Some message
IsOwnInput row (inputs.Answer lane k answer) messages = answer ≡ answer_of row (take k (effects_of lane (alone_of row messages)))

-- under a charter, the row is that of the device, and the input is its own
abbrev pub IsOwn : CharterState → Subscriber → DeviceId × Input → Type 0
IsOwn charter row held = (slice_get charter.rows (held.0.0 - 1) ≡ Some row) × IsSomeAnd (slice_get charter.lines (held.0.0 - 1)) (IsOwnInput row held.1)

abbrev pub OwnsHeld : CharterState → Subscriber → Option (DeviceId × Input) → Type 0
OwnsHeld charter row None = Unit {0}
OwnsHeld charter row (Some held) = IsOwn charter row held

-- what a store of so many devices asks of a write: the entry follows so many entries of the known journal as were read
pub record CanWrite (charter : CharterState) (devices : ℕ) (known : ℕ → List Entry) (d version : ℕ) (entry : Entry) : Type 0 where
  pub device : IsDevice devices d
  pub within : version ≤ length (known d)
  pub law : follows_alone charter d (take version (known d)) entry

-- the hand may be written, if it is ready
abbrev pub MayWrite : CharterState → ℕ → (ℕ → List Entry) → Hand → Type 0
MayWrite charter devices known (Ready d version entry) = CanWrite charter devices known d.0 version entry
MayWrite charter devices known _ = Unit {0}

abbrev pub IsReady : Hand → Type 0
IsReady (Ready d version entry) = Unit {0}
IsReady _ = ⊥

-- what is known after a write of the hand
abbrev pub IsWritten : Hand → (ℕ → List Entry) → Commit → Type 0
IsWritten (Ready d version entry) known commit = IsKnownAfter (known d.0) version entry commit
IsWritten _ known commit = ⊥

-- a write of the hand, where such is a write of an entry for a version of a device
abbrev pub WritesHeld : {S : Type 0} → (S → S → ℕ → ℕ → Entry → Commit → Type 0) → Hand → S → S → Commit → Type 0
WritesHeld writes (Ready d version entry) old new commit = writes old new d.0 version entry commit
WritesHeld writes _ old new commit = ⊥

-- the reply to the message that was committed, if one was
abbrev pub committed_reply : Input → List Entry → Commit → Option Reply
committed_reply (inputs.Message message) journal (Committed version) = reply_of journal message.number
committed_reply _ journal commit = None

abbrev pub written_reply : Hand → (ℕ → List Entry) → Commit → Option Reply
written_reply (Ready d version entry) known commit = committed_reply entry.input (known d.0) commit
written_reply _ known commit = None

-- a message was committed
abbrev pub IsMessageCommitted : Input → Commit → Type 0
IsMessageCommitted (inputs.Message message) (Committed version) = Unit {0}
IsMessageCommitted _ commit = ⊥

abbrev pub TookMessage : Hand → Commit → Type 0
TookMessage (Ready d version entry) commit = IsMessageCommitted entry.input commit
TookMessage _ commit = ⊥
