use Rattle.command_words.proofs.Accepted.{bare_app, more_app}
use Rattle.command_words.proofs.matches.command.Goals as goal

pub loop-option-init : goal.loop-option-init
loop-option-init c = bare_app c.args.name.now c.new.result c.no_binary_name.result c.disable_help_flag.result c.disable_version_flag-command.result c.new.ensures.app c.no_binary_name.ensures c.disable_help_flag.ensures c.disable_version_flag-command.ensures

pub loop-option-preserved : goal.loop-option-preserved
loop-option-preserved c = more_app c.args.name.now c.args.options.now c.loop-option.option-index _ c.loop-option.command _ c.argument.result c.loop-option-test.true c.in_ok-command.ensures c.argument.ensures.own c.argument.ensures.rule c.loop-option.invariant
