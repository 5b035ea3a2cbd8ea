-- What the subscriber server answers.
use Rattle.std.specs.Prelude.{List, map}
use Rattle.device_types.specs.declared.effect.Effect.TheVariants as effects
use Rattle.device_types.specs.declared.effect.SubCall.{SubCall}
use Rattle.device_types.specs.declared.input.Answer.{Answer}
use Rattle.device_types.specs.declared.subscriber.Subscriber.{Subscriber}
use Rattle.device_types.specs.PeerAnswer.{answer_of}

-- to the last of these calls of the device of the row
abbrev pub subscriber_answer_of : Subscriber → List SubCall → Answer
subscriber_answer_of row calls = answer_of row (map effects.Subscriber calls)
