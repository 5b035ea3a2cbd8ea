use Rattle.std.proofs.Common.{◌≡◌, map, take}
use Rattle.link_schedule.specs.Floor.{events_of}
use Rattle.echo_run.specs.Summary.{scheduled_of}
use Rattle.echo_run.proofs.summary.scheduled.Given as goal

-- the floor was given the events so far, and its answers are counted
abbrev pub invariant-loop-event : goal.invariant-loop-event
invariant-loop-event g l = record {
  exact : g.F.Floor.exact l.floor ≡ g.F.Floor.exact l.initial.floor;
  setting : g.F.Floor.setting l.floor ≡ g.F.Floor.setting l.initial.floor;
  given : events_of (g.F.Floor.given l.floor) ≡ take l.event-index l.schedule;
  counts : l.counts ≡ scheduled_of (map (λ turn. turn.1) (g.F.Floor.given l.floor));
}
