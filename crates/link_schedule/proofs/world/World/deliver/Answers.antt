use Rattle.std.proofs.Common.{ap, arith}
use Rattle.device_types.specs.Journal.{pushed_count}
use Rattle.link_schedule.specs.Settled.{turns_in}
use Rattle.link_schedule.proofs.Goes.{journal_same}
use Rattle.schedule_laws.proofs.Laws.{accepted_bound}
use Rattle.link_schedule.proofs.world.World.deliver.Goals as goal

pub returns-clause-ok : goal.returns-clause-ok
returns-clause-ok c =
    let old = c.args.self.now in
    let now = c.loop-k.self in
    let low = accepted_bound old.setting c.args.d.0 c.args.lane (turns_in old) c.recall.ensures.lawful in
    let most = ap (pushed_count c.args.lane) (journal_same old now c.args.d.0 c.loop-k.invariant.goes_on c.loop-k.invariant.journal) in
    omega arith
