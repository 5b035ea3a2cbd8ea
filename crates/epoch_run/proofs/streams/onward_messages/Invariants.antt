use Rattle.std.proofs.Common.{◌≡◌, ◌∷◌, drop}
use Rattle.std.specs.Prelude.{fold}
use Rattle.epoch_run.specs.Streams.{and_message, numbered, onward}
use Rattle.epoch_run.proofs.streams.onward_messages.Given as goal

abbrev pub invariant-loop-message : goal.invariant-loop-message
invariant-loop-message l = fold and_message l.messages (onward (drop l.message-index l.others)) ≡ numbered (l.first ∷ onward l.others)
