use Rattle.std.proofs.Common.{◌≡◌, map, take}
use Rattle.std.specs.Prelude.{string_bytes}
use Rattle.link_schedule.specs.Floor.{events_of}
use Rattle.echo_run.specs.Replay.{lines_from}
use Rattle.echo_run.proofs.replay.transcript.Given as goal

-- the floor was given the events so far, and the lines of its answers are there
abbrev pub invariant-loop-index : goal.invariant-loop-index
invariant-loop-index g l = record {
  exact : g.F.Floor.exact l.floor ≡ g.F.Floor.exact l.initial.floor;
  setting : g.F.Floor.setting l.floor ≡ g.F.Floor.setting l.initial.floor;
  given : events_of (g.F.Floor.given l.floor) ≡ take l.index l.schedule;
  text : string_bytes l.text ≡ lines_from 1 (map (λ turn. turn.1) (g.F.Floor.given l.floor));
}
