use Rattle.std.proofs.Common.{◌*◌, ◌-◌}
use Rattle.schedule_laws.specs.Setting.{message_count}
use Rattle.link_schedule.specs.Settled.{GoesOn, commits_in, Pays}
use Rattle.link_schedule.proofs.world.World.settle_device.Given as goal

abbrev pub invariant-loop : goal.invariant-loop
invariant-loop l = record { goes_on : GoesOn l.initial.self l.self; pays : Pays l.initial.self l.self l.d.0 }

abbrev pub decreases-loop : goal.decreases-loop
decreases-loop l = 3 * message_count l.self.setting l.d.0 - commits_in l.self l.d.0
