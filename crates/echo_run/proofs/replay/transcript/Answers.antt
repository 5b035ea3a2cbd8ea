use Rattle.std.proofs.Common.{◌∙◌}
use Rattle.std.specs.Prelude.{string_bytes}
use Rattle.echo_run.proofs.Schedule.{one_told}
use Rattle.echo_run.proofs.replay.transcript.Goals as goal

pub loop-index-preserved : goal.loop-index-preserved
loop-index-preserved g c =
    let before = c.loop-index in
    let after = c.put_event.new in
    let told = c.in_ok-put_event.ensures in
    let given = told.given in
    let more = one_told c.args.schedule.now (g.F.Floor.given before.floor) (g.F.Floor.given after.floor) before.index _ given.0 (string_bytes before.text) (string_bytes after.text) c.loop-index-test.true before.invariant.given before.invariant.text given.1 given.2 in
    record { exact = told.exact ∙ before.invariant.exact; setting = told.setting ∙ before.invariant.setting; given = more.0; text = more.1 }
