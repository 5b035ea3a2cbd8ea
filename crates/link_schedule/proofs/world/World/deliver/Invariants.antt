use Rattle.std.proofs.Common.{◌≡◌}
use Rattle.link_schedule.specs.Settled.{GoesOn, commits_in, accepts_in, Pays}
use Rattle.link_schedule.proofs.world.World.deliver.Given as goal

abbrev pub invariant-loop-k : goal.invariant-loop-k
invariant-loop-k l =
    record {
      goes_on : GoesOn l.initial.self l.self;
      journal : commits_in l.self l.d.0 ≡ commits_in l.initial.self l.d.0;
      next : accepts_in l.self l.d.0 l.lane ≡ l.k;
      pays : Pays l.initial.self l.self l.d.0;
    }
