-- A row of the store: what the core keeps of a device.
use Rattle.std.specs.Prelude.{◌≡◌, ◌≢◌, ℕ, ◌+◌, ◌≤◌, ◌&&◌, nat_lt, List, [], ◌∷◌, ◌++◌, count_by, Option, None, if◌then◌else◌}
use Rattle.device_types.specs.declared.event.Lane.{Lane}
use Rattle.device_types.specs.declared.effect.Effect.{Effect}
use Rattle.device_types.specs.declared.input.Input.{Input}
use Rattle.device_types.specs.declared.input.Input.TheVariants.{Message, Answer}
use Rattle.device_types.specs.declared.look.Look.{Look}
use Rattle.device_types.specs.declared.step.Entry.{Entry}
use Rattle.device_types.specs.declared.step.Reply.{Reply}
use Rattle.device_types.specs.Journal.{version_of, session_of, effects_of, taken_count, replies_of, reply_of, is_awaited, awaited_call}
use Rattle.device_types.specs.Look.{look_of, answer_look_of}
use Rattle.effect_outbox.specs.Outbox.{LaneNumbers, OutboxState, Holds, settled_of}
use Rattle.device_types.specs.Session.{IsSession}
use Rattle.session_form.specs.Form.{form_of}
use Rattle.session_row.specs.Replies.{KeepsLast}
use Rattle.session_row.specs.declared.replies.Replies.{Replies}
use Rattle.session_row.specs.declared.commit.Commit.{Commit}
use Rattle.session_row.specs.declared.commit.Commit.TheVariants.{Committed, Stale}

-- a row is its journal and, of each lane, how many effects are settled
pub record RowState : Type 0 where
  pub journal : List Entry
  pub settled : LaneNumbers

abbrev pub lanes_of : List Entry → Lane → List Effect
lanes_of journal l = effects_of l journal

-- what stands beside a journal follows from it: the octets of its session, which is in range, the last replies, the awaited call,
-- and an outbox
pub record IsRow (window : ℕ) (journal : List Entry) (session : List ℕ) (replies : Replies) (awaited : Option (Lane × ℕ)) (outbox : OutboxState) : Type 0 where
  pub range : IsSession (session_of journal)
  pub octets : session ≡ form_of (session_of journal)
  pub answered : KeepsLast window (replies_of journal) replies
  pub waits : awaited ≡ awaited_call journal
  pub lanes : Holds outbox (lanes_of journal) (settled_of outbox)

-- the reply to message n, from 1, while it is among the last that are kept
abbrev pub kept_reply : ℕ → List Entry → ℕ → Option Reply
kept_reply window journal n = if nat_lt 0 n && nat_lt (taken_count journal) (n + window) then reply_of journal n else None

-- what the row of that journal says to an input
abbrev pub look_at : ℕ → List Entry → Input → Look
look_at window journal (Message message) = look_of window journal message.number
look_at window journal (Answer l k answer) = answer_look_of journal l k

-- a step waits for one answer at most
abbrev pub AwaitsAtMostOne : List Effect → Type 0
AwaitsAtMostOne effects = count_by is_awaited effects ≤ 1

-- a write of a version that was read: it is made exactly where the row still has that version
abbrev pub Commits : RowState → RowState → ℕ → Entry → Commit → Type 0
Commits old new read entry (Committed version) =
    (read ≡ version_of old.journal) × (version ≡ read + 1) × (new ≡ record old { journal = old.journal ++ entry ∷ [] })
Commits old new read entry (Stale asked current) =
    (read ≢ version_of old.journal) × (asked ≡ read) × (current ≡ version_of old.journal) × (new ≡ old)
