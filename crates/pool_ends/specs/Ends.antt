-- What became of a device.
use Rattle.std.specs.Prelude.{◌≤◌, ℕ, ◌+◌, List, [], ◌∷◌, ◌++◌, fold, length}
use Rattle.device_machine.specs.Ends.{end_by}
use Rattle.device_types.specs.declared.effect.Effect.{Effect}
use Rattle.device_types.specs.declared.effect.Effect.TheVariants as effects
use Rattle.device_types.specs.declared.finals.DeviceEnd.{DeviceEnd}
use Rattle.device_types.specs.declared.input.Input.{Input}
use Rattle.device_types.specs.declared.input.Input.TheVariants as inputs
use Rattle.device_types.specs.declared.step.Entry.{Entry}
use Rattle.device_types.specs.Journal.{session_of, taken_count}
use Rattle.session_store.specs.Charter.{CharterState, alone_in}

-- by its journal
abbrev pub end_in : List Entry → DeviceEnd
end_in journal = end_by (taken_count journal) journal

-- a journal has as many entries as the machine alone makes of device d
abbrev pub IsWhole : CharterState → ℕ → List Entry → Type 0
IsWhole charter d journal = length (alone_in charter d) ≤ length journal

-- ---- gathered entry by entry

-- before the first entry of a journal
abbrev pub start_of : List Entry → DeviceEnd
start_of journal = record { messages = 0; steps = length journal; downs = []; gateway = []; subscriber = []; session = session_of journal }

-- with one message more, where the input is one
abbrev pub with_input : DeviceEnd → Input → DeviceEnd
with_input end (inputs.Message message) = record end { messages = end.messages + 1 }
with_input end (inputs.Answer lane k answer) = end

-- with an effect more, at the end of its lane
abbrev pub with_effect : DeviceEnd → Effect → DeviceEnd
with_effect end (effects.Down down) = record end { downs = end.downs ++ down ∷ [] }
with_effect end (effects.Gateway call) = record end { gateway = end.gateway ++ call ∷ [] }
with_effect end (effects.Subscriber call) = record end { subscriber = end.subscriber ++ call ∷ [] }

-- behind an entry more
abbrev pub with_entry : DeviceEnd → Entry → DeviceEnd
with_entry end entry = fold with_effect (with_input end entry.input) entry.step.effects
