use Rattle.command_words.proofs.Commands.{replay_read, show_read, make_read, epochs_read, crash_read, run_read, load_read}
use Rattle.command_words.proofs.command.command_from.Goals as goal

pub returns-in-Replay : goal.returns-in-Replay
returns-in-Replay c = λ words read. replay_read c.args.word words c.args.matches.now c.number.result (c.in-Replay.is, read) c.number.ensures

pub returns-in-Show : goal.returns-in-Show
returns-in-Show c = λ words read. show_read c.args.word words c.args.matches.now c.number-in-Show.result c.protocol_of.result (c.in-Show.is, read) c.number-in-Show.ensures c.protocol_of.ensures

pub returns-in-Make : goal.returns-in-Make
returns-in-Make c = λ words read. make_read c.args.word words c.args.matches.now c.number-in-Make.result c.number-in-Make-2.result c.number-in-Make-3.result c.text_of.result.now c.get_flag.result (c.in-Make.is, read) c.number-in-Make.ensures c.number-in-Make-2.ensures c.number-in-Make-3.ensures c.text_of.ensures c.get_flag.ensures.value c.get_flag.ensures.other

pub returns-in-Epochs : goal.returns-in-Epochs
returns-in-Epochs c = λ words read. epochs_read c.args.word words c.args.matches.now c.number-in-Epochs.result c.number-in-Epochs-2.result c.number-in-Epochs-3.result (c.in-Epochs.is, read) c.number-in-Epochs.ensures c.number-in-Epochs-2.ensures c.number-in-Epochs-3.ensures

pub returns-in-Crash : goal.returns-in-Crash
returns-in-Crash c = λ words read. crash_read c.args.word words c.args.matches.now c.number-in-Crash.result (c.in-Crash.is, read) c.number-in-Crash.ensures

pub returns-in-Run : goal.returns-in-Run
returns-in-Run c = λ words read. run_read c.args.word words c.args.matches.now c.number-in-Run.result (c.in-Run.is, read) c.number-in-Run.ensures

pub returns-in-Load : goal.returns-in-Load
returns-in-Load c = λ words read. load_read c.args.word words c.args.matches.now c.number-in-Load.result c.number-in-Load-2.result c.number-in-Load-3.result c.number-in-Load-4.result (c.in-Load.is, read) c.number-in-Load.ensures c.number-in-Load-2.ensures c.number-in-Load-3.ensures c.number-in-Load-4.ensures
