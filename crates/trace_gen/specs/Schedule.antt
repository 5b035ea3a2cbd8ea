-- The schedule of what is sent: the events of each message, and of the calls after it, each with its number.
use Rattle.std.specs.Prelude.{ℕ, ◌+◌, ◌==◌, Bool, true, false, List, [], ◌∷◌, ◌++◌, length, filter, count_by, flat_map}
use Rattle.device_types.specs.declared.event.Event.{Event}
use Rattle.device_types.specs.declared.event.Lane.TheVariants as lane
use Rattle.device_types.specs.declared.subscriber.DeviceId.{DeviceId}
use Rattle.trace_gen.specs.declared.counts.Counts.{Counts}
use Rattle.trace_gen.specs.declared.script.Call.{Call}
use Rattle.trace_gen.specs.declared.script.Call.TheVariants.{Subscriber, Gateway, Notice}
use Rattle.trace_gen.specs.declared.script.Sent.{Sent}
use Rattle.trace_gen.specs.Draws.{drawn}
use Rattle.trace_gen.specs.Scripts.{calls_after}
use Rattle.trace_gen.specs.Events.{message_events, call_events}

-- ---- numbers

abbrev pub goes_to_gateway : Call → Bool
goes_to_gateway Subscriber = false
goes_to_gateway Gateway = true
goes_to_gateway Notice = false

abbrev pub goes_to_subscriber : Call → Bool
goes_to_subscriber Subscriber = true
goes_to_subscriber Gateway = false
goes_to_subscriber Notice = true

-- what a device has sent
abbrev pub own : ℕ → List Sent → List Sent
own device sent = filter (λ s. s.device == device) sent

-- the calls after it
abbrev pub own_calls : ℕ → List Sent → List Call
own_calls device sent = flat_map (λ s. calls_after s.sending) (own device sent)

-- how many messages a device has sent, and how many calls came after them on each lane
unfoldable pub counts_of : ℕ → List Sent → Counts
counts_of device sent = record { messages = length (own device sent); gateway = count_by goes_to_gateway (own_calls device sent); subscriber = count_by goes_to_subscriber (own_calls device sent) }

-- with one call more
abbrev pub with_call : Counts → Call → Counts
with_call counts Subscriber = record counts { subscriber = counts.subscriber + 1 }
with_call counts Gateway = record counts { gateway = counts.gateway + 1 }
with_call counts Notice = record counts { subscriber = counts.subscriber + 1 }

-- the number of the next call on its lane
abbrev pub number_of : Counts → Call → ℕ
number_of counts Subscriber = counts.subscriber + 1
number_of counts Gateway = counts.gateway + 1
number_of counts Notice = counts.subscriber + 1

-- ---- events

-- calls in order, behind those that are counted
abbrev pub calls_events : ℕ → DeviceId → Counts → List Call → List Event
calls_events r d counts [] = []
calls_events r d counts (call ∷ calls) = call_events r d call (number_of counts call) ++ calls_events r d (with_call counts call) calls

-- a message, and then the calls after it
abbrev pub sent_events : ℕ → Counts → Sent → List Event
sent_events r counts sent = message_events r (record { 0 = sent.device }) (counts.messages + 1) ++ calls_events r (record { 0 = sent.device }) counts (calls_after sent.sending)

-- what is sent in order, behind what was sent before; for each a replica is drawn, in a stream that begins with that state
abbrev pub schedule_behind : ℕ → List Sent → List Sent → List Event
schedule_behind first before [] = []
schedule_behind first before (sent ∷ rest) = sent_events (drawn first 2 (length before) + 1) (counts_of sent.device before) sent ++ schedule_behind first (before ++ sent ∷ []) rest
