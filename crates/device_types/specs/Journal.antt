-- The journal of a device: the entries that were committed for it, the oldest first. What follows from it alone.
use Rattle.std.specs.Prelude.{ℕ, ◌+◌, ◌-◌, Bool, true, false, List, length, filter, map, take, slice_get, position, Option, Some, None, option_map, option_and_then}
use Rattle.std.specs.Option.{option_map_or}
use Rattle.std.specs.List.{flat_map, count_by, enumerate_from}
use Rattle.device_types.specs.declared.event.Lane.{Lane}
use Rattle.device_types.specs.declared.event.Lane.TheVariants as lane
use Rattle.device_types.specs.declared.effect.Effect.{Effect}
use Rattle.device_types.specs.declared.effect.Effect.TheVariants as effect
use Rattle.device_types.specs.declared.effect.SubCall.TheVariants.{Vectors, Location, Purge}
use Rattle.device_types.specs.declared.input.Input.{Input}
use Rattle.device_types.specs.declared.input.Input.TheVariants as input
use Rattle.device_types.specs.declared.session.Session.{Session}
use Rattle.device_types.specs.declared.step.Entry.{Entry}
use Rattle.device_types.specs.declared.step.Reply.{Reply}
use Rattle.device_types.specs.Session.{opening}

-- ---- version and session

-- how many steps were committed
abbrev pub version_of : List Entry → ℕ
version_of journal = length journal

abbrev pub last_of : List Entry → Option Entry
last_of journal = slice_get journal (length journal - 1)

-- the session of the last step, or the opening one
abbrev pub session_of : List Entry → Session
session_of journal = option_map_or (λ entry. entry.step.session) (last_of journal) opening

-- ---- lanes

abbrev pub is_on : Lane → Effect → Bool
is_on lane.Down (effect.Down down) = true
is_on lane.Gateway (effect.Gateway call) = true
is_on lane.Subscriber (effect.Subscriber call) = true
is_on _ _ = false

-- those of a step's effects that are on a lane
abbrev pub effects_on : Lane → List Effect → List Effect
effects_on lane effects = filter (is_on lane) effects

-- the effects of a lane, in the order in which the steps made them; they are numbered from 1
abbrev pub effects_of : Lane → List Entry → List Effect
effects_of lane journal = flat_map (λ entry. effects_on lane entry.step.effects) journal

-- how many effects of a lane were made
abbrev pub pushed_count : Lane → List Entry → ℕ
pushed_count lane journal = length (effects_of lane journal)

-- ---- messages and replies

abbrev pub is_message : Input → Bool
is_message (input.Message message) = true
is_message (input.Answer lane k answer) = false

-- how many messages were taken
abbrev pub taken_count : List Entry → ℕ
taken_count journal = count_by (λ entry. is_message entry.input) journal

-- the entries of messages, each with its position in the journal, from 1
abbrev pub message_entries : List Entry → List (ℕ × Entry)
message_entries journal = filter (λ e. is_message e.1.input) (enumerate_from 1 journal)

-- the reply to a message of that number, from its entry and the entry's position
abbrev pub reply_to : ℕ → ℕ → Entry → Reply
reply_to n position entry = record { number = n; version = position; downs = effects_on lane.Down entry.step.effects }

abbrev pub reply_at : ℕ × (ℕ × Entry) → Reply
reply_at e = reply_to e.0 e.1.0 e.1.1

-- the reply to each message
abbrev pub replies_of : List Entry → List Reply
replies_of journal = map reply_at (enumerate_from 1 (message_entries journal))

-- the reply to message n, from 1
abbrev pub reply_of : List Entry → ℕ → Option Reply
reply_of journal n = slice_get (replies_of journal) (n - 1)

-- ---- the call whose answer is awaited

-- each call is answered, and each but a purge is waited for
abbrev pub is_awaited : Effect → Bool
is_awaited (effect.Down down) = false
is_awaited (effect.Gateway call) = true
is_awaited (effect.Subscriber Vectors) = true
is_awaited (effect.Subscriber Location) = true
is_awaited (effect.Subscriber Purge) = false

-- the first awaited call on a lane among the effects of a step, behind so many effects of the lane
abbrev pub awaited_on : Lane → ℕ → List Effect → Option (Lane × ℕ)
awaited_on lane before effects = option_map (λ i. (lane, before + i + 1)) (position is_awaited (effects_on lane effects))

abbrev pub first_call : Option (Lane × ℕ) → Option (Lane × ℕ) → Option (Lane × ℕ)
first_call (Some call) other = Some call
first_call None other = other

-- the awaited call of a step behind a journal; a step has at most one
abbrev pub awaited_behind : List Entry → List Effect → Option (Lane × ℕ)
awaited_behind journal effects = first_call (awaited_on lane.Gateway (pushed_count lane.Gateway journal) effects) (awaited_on lane.Subscriber (pushed_count lane.Subscriber journal) effects)

-- the awaited call of the last step, by its lane and its number there, or none
abbrev pub awaited_call : List Entry → Option (Lane × ℕ)
awaited_call journal = option_and_then (λ entry. awaited_behind (take (length journal - 1) journal) entry.step.effects) (last_of journal)
