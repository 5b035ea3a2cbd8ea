-- An input that the row takes, behind a journal: the next message while no answer is awaited, or the awaited answer.
use Rattle.std.specs.Prelude.{◌≡◌, ℕ, List}
use Rattle.device_types.specs.declared.input.Input.{Input}
use Rattle.device_types.specs.declared.input.Input.TheVariants as inputs
use Rattle.device_types.specs.declared.look.Look.TheVariants.{Ready}
use Rattle.device_types.specs.declared.step.Entry.{Entry}
use Rattle.device_types.specs.Look.{look_of, answer_look_of}

abbrev pub IsReady : ℕ → List Entry → Input → Type 0
IsReady window journal (inputs.Message message) = look_of window journal message.number ≡ Ready
IsReady window journal (inputs.Answer lane k answer) = answer_look_of journal lane k ≡ Ready
