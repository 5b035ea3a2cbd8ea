-- What a step is made of: its ranges.
use Rattle.device_types.specs.declared.input.Input.{Input}
use Rattle.device_types.specs.declared.input.Input.TheVariants as inputs
use Rattle.device_types.specs.Answer.{IsAnswer}
use Rattle.device_types.specs.Message.{IsMessage}

abbrev pub IsInput : Input → Type 0
IsInput (inputs.Message message) = IsMessage message
IsInput (inputs.Answer lane k answer) = IsAnswer answer
