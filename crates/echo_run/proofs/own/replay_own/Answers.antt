use Rattle.std.proofs.Common.{⊎_elim}
use Rattle.echo_run.proofs.Floors.{whole_world}
use Rattle.echo_run.proofs.own.replay_own.Goals as goal

-- what was told at Done, and of which a front was written at WriteFault, is of a floor that ran the schedule and settled
pub returns-clause-world : goal.returns-clause-world
returns-clause-world g c = λ command is runs ended.
    let o = c.replay_top-status.new.floor.world in
    let whole = c.recall.ensures.whole in
    ⊎_elim
    (λ e. let done = c.replay_top-status.ensures.done e in whole_world c.args.words.now command _ _ o done.0 is runs done.1 whole)
    (λ e. let front = c.replay_top-status.ensures.front e in whole_world c.args.words.now command _ _ o _ is runs front.2 whole)
    ended
