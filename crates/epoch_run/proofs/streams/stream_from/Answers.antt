use Rattle.std.proofs.Common.{◌∙◌, ◌∷◌, sym, subst}
use Rattle.device_types.specs.Line.{IsNumbered}
use Rattle.epoch_run.specs.Streams.{behind}
use Rattle.epoch_run.proofs.StreamLaws.{are_numbered}
use Rattle.epoch_run.proofs.streams.stream_from.Goals as goal

pub new-requires-2 : goal.new-requires-2
new-requires-2 c = subst IsNumbered (sym (c.in_ok-messages.ensures.ok ∙ c.in_ok-stream_messages.ensures)) (are_numbered (c.args.first.now ∷ behind c.args.first.now c.args.others.now))
