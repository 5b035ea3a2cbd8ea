-- Made cases, computed: the cheapest test of their definitions.
use Rattle.std.proofs.Common.{◌≡◌, ◌+◌, List, [], ◌∷◌, ◌++◌, length, map, refl}
use Rattle.trace_gen.specs.declared.script.Script.TheVariants as script
use Rattle.trace_gen.specs.Draws.{next_state, drawn}
use Rattle.trace_gen.specs.Events.{message_events}
use Rattle.trace_gen.specs.Made.{made_schedule}
use Rattle.trace_gen.specs.Nas.{attach_request, area_request, detach_request}
use Rattle.trace_gen.specs.Schedule.{counts_of}
use Rattle.trace_gen.specs.Subscribers.{imsi_of}
use Rattle.trace_gen.specs.Trace.{sent_in, sent_at, made_trace}

-- of number 0: which replica takes each of the six messages of an attach first
draws : map (drawn 0 2) (0 ∷ 1 ∷ 2 ∷ 3 ∷ 4 ∷ 5 ∷ []) ≡ 1 ∷ 0 ∷ 1 ∷ 0 ∷ 1 ∷ 1 ∷ []
unfolding next_state
draws = refl

-- the one device of number 0 attaches, and in one round it detaches and attaches again
detaches : made_trace 0 1 1 ≡ sent_in 1 script.Attach ++ sent_in 1 script.Detach ++ sent_in 1 script.Attach
unfolding next_state sent_at made_trace
detaches = refl

-- the attach has 88 events, and the detach and the attach behind it 117
events : length (made_schedule 0 1 1) ≡ 88 + 117
unfolding next_state sent_at made_trace counts_of message_events
events = refl

-- device 300 in the messages that tell who it is
attach : attach_request (imsi_of 300) ≡ 0x07 ∷ 0x41 ∷ 0x71 ∷ 0x08 ∷ 0x29 ∷ 0x80 ∷ 0x39 ∷ 0x00 ∷ 0x00 ∷ 0x00 ∷ 0x30 ∷ 0x00 ∷ 0x02 ∷ 0xe0 ∷ 0xe0 ∷ 0x00 ∷ 0x04 ∷ 0x02 ∷ 0x01 ∷ 0xd0 ∷ 0x11 ∷ []
attach = refl

area : area_request 300 ≡ 0x07 ∷ 0x48 ∷ 0x70 ∷ 0x0b ∷ 0xf6 ∷ 0x02 ∷ 0xf8 ∷ 0x39 ∷ 0x00 ∷ 0x01 ∷ 0x01 ∷ 0x00 ∷ 0x00 ∷ 0x01 ∷ 0x2c ∷ []
area = refl

detach : detach_request 300 ≡ 0x07 ∷ 0x45 ∷ 0x71 ∷ 0x0b ∷ 0xf6 ∷ 0x02 ∷ 0xf8 ∷ 0x39 ∷ 0x00 ∷ 0x01 ∷ 0x01 ∷ 0x00 ∷ 0x00 ∷ 0x01 ∷ 0x2c ∷ []
detach = refl
