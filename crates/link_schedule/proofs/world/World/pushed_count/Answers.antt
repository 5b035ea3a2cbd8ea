use Rattle.std.proofs.Common.{ap, ◌∙◌}
use Rattle.device_types.specs.Journal.{pushed_count}
use Rattle.session_row.specs.Row.{lanes_of}
use Rattle.link_schedule.proofs.world.World.pushed_count.Goals as goal

pub returns : goal.returns
returns c = c.pushed.ensures.lanes (lanes_of c.row.result.now.journal) c.row.result.now.settled c.outbox.ensures ∙ ap (pushed_count c.args.lane) c.row.ensures
