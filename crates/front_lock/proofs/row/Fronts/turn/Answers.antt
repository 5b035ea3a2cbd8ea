use Rattle.std.proofs.Common.{◌<◌, length, set, ◌∙◌, arith}
use Rattle.front_lock.specs.Front.{view, IsSeatOf}
use Rattle.front_lock.specs.Turns.{MakesTurn, MissesTurn}
use Rattle.front_lock.specs.FrontRow.{TurnsAt, MissesAt}
use Rattle.front_lock.proofs.Items.{get_here, get_set, get_set_else, length_set, of_set, if_ok, if_err}
use Rattle.front_lock.proofs.Columns.{number_stays, numbered_with}
use Rattle.front_lock.proofs.row.Fronts.turn.Goals as goal

pub turn-requires-clause-seat : goal.turn-requires-clause-seat
turn-requires-clause-seat g c =
    let s = c.requires.seats in
    let low : c.args.at < length c.args.me.now.seats.items = let e = s.0 in let l = c.requires.at in omega arith in
    s.1 c.args.at c.index.result.now c.index_mut.result.now (get_here c.args.self.now.fronts.items c.args.at c.index.result.now c.requires.at c.index.ensures) (get_here c.args.me.now.seats.items c.args.at c.index_mut.result.now low c.index_mut.ensures.value)

pub turn-requires-clause-can : goal.turn-requires-clause-can
turn-requires-clause-can g c =
    let s = c.requires.seats in
    let low : c.args.at < length c.args.me.now.seats.items = let e = s.0 in let l = c.requires.at in omega arith in
    c.requires.can c.index.result.now c.index_mut.result.now (get_here c.args.self.now.fronts.items c.args.at c.index.result.now c.requires.at c.index.ensures) (get_here c.args.me.now.seats.items c.args.at c.index_mut.result.now low c.index_mut.ensures.value)

pub returns-clause-seats : goal.returns-clause-seats
returns-clause-seats g c =
    let s = c.requires.seats in
    let low : c.args.at < length c.args.me.now.seats.items = let e = s.0 in let l = c.requires.at in omega arith in
    (length_set c.args.me.now.seats.items c.args.at c.turn.new.seat ∙ s.0, of_set (λ p q. IsSeatOf g.T.Held.basis p q) c.args.self.now.fronts.items c.args.me.now.seats.items c.args.at c.index.result.now c.turn.new.seat low (get_here c.args.self.now.fronts.items c.args.at c.index.result.now c.requires.at c.index.ensures) c.turn.ensures.seat s.1)

pub returns-clause-others : goal.returns-clause-others
returns-clause-others g c = λ k ne. get_set_else c.args.me.now.seats.items c.args.at k c.turn.new.seat ne

pub returns-clause-ok : goal.returns-clause-ok
returns-clause-ok g c =
    let s = c.requires.seats in
    let low : c.args.at < length c.args.me.now.seats.items = let e = s.0 in let l = c.requires.at in omega arith in
    let was = get_here c.args.me.now.seats.items c.args.at c.index_mut.result.now low c.index_mut.ensures.value in
    if_ok (λ a. MakesTurn g.T.Held.turns g.T.Held.basis g.T.Held.by (g.J.Job.done c.args.job) (view c.index_mut.result.now) a (view c.turn.new.seat))
    (λ a. TurnsAt g.T.Held.turns g.T.Held.basis g.T.Held.by (g.J.Job.done c.args.job) c.args.me.now.seats.items c.args.at a (set c.args.me.now.seats.items c.args.at c.turn.new.seat)) c.turn.result
    (λ a h. record { from = c.index_mut.result.now; to = c.turn.new.seat; was = was; now = get_set c.args.me.now.seats.items c.args.at c.turn.new.seat low; makes = h })
    c.turn.ensures.ok

pub returns-clause-err : goal.returns-clause-err
returns-clause-err g c =
    let s = c.requires.seats in
    let low : c.args.at < length c.args.me.now.seats.items = let e = s.0 in let l = c.requires.at in omega arith in
    let was = get_here c.args.me.now.seats.items c.args.at c.index_mut.result.now low c.index_mut.ensures.value in
    if_err (λ room. MissesTurn g.T.Held.turns g.T.Held.basis (view c.index_mut.result.now) (view c.turn.new.seat))
    (λ room. MissesAt g.T.Held.turns g.T.Held.basis c.args.me.now.seats.items c.args.at (set c.args.me.now.seats.items c.args.at c.turn.new.seat)) c.turn.result
    (λ room h. record { from = c.index_mut.result.now; to = c.turn.new.seat; was = was; now = get_set c.args.me.now.seats.items c.args.at c.turn.new.seat low; misses = h })
    c.turn.ensures.err

pub invariant_of-me : goal.invariant_of-me
invariant_of-me g c =
    let s = c.requires.seats in
    let low : c.args.at < length c.args.me.now.seats.items = let e = s.0 in let l = c.requires.at in omega arith in
    record {
      numbered = numbered_with c.args.me.now.seats.items c.args.at c.args.me.now.number c.index_mut.result.now c.turn.new.seat low c.index_mut.ensures.value
          (number_stays g.T.Held.turns g.T.Held.basis g.T.Held.by (g.J.Job.done c.args.job) (view c.index_mut.result.now) (view c.turn.new.seat) c.turn.result c.turn.ensures.ok c.turn.ensures.err) c.args.me.now.numbered;
    }
