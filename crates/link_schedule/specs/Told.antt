-- What the parts of a world say, as the answer to an event.
use Rattle.std.specs.Prelude.{◌≡◌, ℕ, List, Option, Some, None}
use Rattle.agent_resend.specs.declared.taken.DownTaken.{DownTaken}
use Rattle.agent_resend.specs.declared.taken.DownTaken.TheVariants as down
use Rattle.agent_resend.specs.declared.taken.Taken.{Taken}
use Rattle.agent_resend.specs.declared.taken.Taken.TheVariants as taken
use Rattle.device_types.specs.declared.event.EventAnswer.{EventAnswer}
use Rattle.device_types.specs.declared.event.EventAnswer.TheVariants as told
use Rattle.device_types.specs.declared.input.Input.{Input}
use Rattle.device_types.specs.declared.input.Offer.{Offer}
use Rattle.device_types.specs.declared.input.Offer.TheVariants as offer
use Rattle.device_types.specs.declared.step.Entry.{Entry}
use Rattle.device_types.specs.declared.subscriber.DeviceId.{DeviceId}
use Rattle.device_types.specs.Journal.{version_of}
use Rattle.effect_outbox.specs.declared.settled.Settled.{Settled}
use Rattle.effect_outbox.specs.declared.settled.Settled.TheVariants as upto
use Rattle.replica_worker.specs.declared.hand.Hand.{Hand}
use Rattle.replica_worker.specs.declared.hand.Hand.TheVariants as hands
use Rattle.session_row.specs.declared.commit.Commit.{Commit}
use Rattle.session_row.specs.declared.commit.Commit.TheVariants as commit
use Rattle.session_row.specs.Row.{RowState}
use Rattle.session_store.specs.Rows.{journal_of}
use Rattle.session_store.specs.Seen.{asked_of, look_to}
use Rattle.schedule_laws.specs.Answer.{look_answer}

-- the row of that journal to an input
abbrev pub seen_answer : List Entry → Input → EventAnswer
seen_answer journal input = look_answer (version_of journal) (look_to journal (asked_of input))

-- the version that was read, of a hand with a step
abbrev pub version_in : Hand → ℕ
version_in (hands.Ready d version entry) = version
version_in _ = 0

-- the device of what a hand has
abbrev pub device_held : Hand → Option DeviceId
device_held hands.Empty = None
device_held (hands.Taken d input) = Some d
device_held (hands.Ready d version entry) = Some d

-- the hand has a step for that version, which its row still has
abbrev pub IsStillReady : List RowState → Hand → ℕ → Type 0
IsStillReady rows (hands.Ready d version entry) v = (v ≡ version) × (version_of (journal_of rows d.0) ≡ version)
IsStillReady rows _ v = ⊥

-- the row to a write
abbrev pub commit_answer : Commit → EventAnswer
commit_answer (commit.Committed v) = told.Committed v
commit_answer (commit.Stale read current) = told.Stale read current

-- the row to the acknowledgement of effect k
abbrev pub settle_answer : ℕ → Settled → EventAnswer
settle_answer k (upto.Upto j) = told.Settled j
settle_answer k (upto.Old j) = told.Old k

-- the agent to the reply to message n; one on its link is of a message that was sent
abbrev pub reply_answer : ℕ → Taken → EventAnswer
reply_answer n (taken.Acked m) = told.Acked m
reply_answer n (taken.Old m) = told.Old n
reply_answer n (taken.Stranger m) = told.VoidLink

-- the device to a message to it
abbrev pub down_answer : DownTaken → EventAnswer
down_answer (down.Accepted k) = told.Accepted k
down_answer (down.Repeat k) = told.Repeat k
down_answer (down.Ahead k) = told.Ahead k

-- a peer to call k
abbrev pub offer_answer : ℕ → Offer → EventAnswer
offer_answer k (offer.Accepted answer) = told.Accepted k
offer_answer k (offer.Repeat answer) = told.Repeat k
offer_answer k (offer.Ahead last) = told.Ahead last
