use Rattle.std.proofs.Common.{◌∙◌, length, ap, arith}
use Rattle.epoch_run.proofs.TextLaws.{few_taken}
use Rattle.epoch_run.proofs.text.merged_text.Goals as goal

pub session_text-requires-clause-few : goal.session_text-requires-clause-few
session_text-requires-clause-few c =
    let few = few_taken c.args.streams.now c.args.merged.now in
    omega (arith, few, c.requires.few, ap length (c.items.ensures ∙ c.in_ok-messages.ensures))
