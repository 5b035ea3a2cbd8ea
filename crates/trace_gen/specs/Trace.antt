-- What the devices send, in order.
use Rattle.std.specs.Prelude.{ℕ, ◌+◌, ◌-◌, ◌*◌, ◌%◌, nat_lt, List, [], ◌∷◌, map, if◌then◌else◌}
use Rattle.std.specs.List.{flat_map, range_with_len}
use Rattle.trace_gen.specs.declared.script.Script.{Script}
use Rattle.trace_gen.specs.declared.script.Script.TheVariants.{Attach}
use Rattle.trace_gen.specs.declared.script.Sending.{Sending}
use Rattle.trace_gen.specs.declared.script.Sent.{Sent}
use Rattle.trace_gen.specs.Draws.{drawn}
use Rattle.trace_gen.specs.Scripts.{sendings_of, scripts_of}

-- the device of a visit, counted from 0: each round visits the devices in order
abbrev pub device_at : ℕ → ℕ → ℕ
device_at devices visit = visit % devices + 1

-- the scripts of a visit: in the first round the attach, and later those of a draw
abbrev pub scripts_at : ℕ → ℕ → ℕ → List Script
scripts_at number devices visit = if nat_lt visit devices then Attach ∷ [] else scripts_of (drawn number 3 (visit - devices))

-- what a device sends in a script
abbrev pub sent_in : ℕ → Script → List Sent
sent_in device script = map (λ sending. record { device = device; sending = sending }) (sendings_of script)

-- what is sent at a visit
unfoldable pub sent_at : ℕ → ℕ → ℕ → List Sent
sent_at number devices visit = flat_map (sent_in (device_at devices visit)) (scripts_at number devices visit)

-- what is sent, in order
unfoldable pub made_trace : ℕ → ℕ → ℕ → List Sent
made_trace number devices rounds = flat_map (sent_at number devices) (range_with_len 0 (devices * (rounds + 1)))
