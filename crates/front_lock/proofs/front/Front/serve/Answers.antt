use Rattle.std.proofs.Common.{◌∷◌, ◌++◌, [], arith, sym, ◌∙◌, ap, subst}
use Rattle.front_lock.proofs.Steps.{takes_value, raises}
use Rattle.front_lock.proofs.Turns.{when_ok, when_err, has_run, has_raised, makes_turn, misses_turn}
use Rattle.front_lock.proofs.front.Front.serve.Goals as goal

pub load-requires : goal.load-requires
load-requires g c =
    let sized = c.args.self.now.sized in
    (c.requires.table, omega (arith, sized.0), takes_value _ _ _ _ _ _ _ _ c.requires.served.2 c.requires.served.0)

pub run-answer-requires : goal.run-answer-requires
run-answer-requires g c =
    let t = c.load.ensures.2 in
    let y = t.0 in
    let rest = t.3 in
    let can = g.met.J.Job.stays c.args.job (g.T.Held.basis y) c.args.seat.now.me.0.seen rest.0 (c.requires.can y t.2) in
    record { table = c.load.ensures.0 ∙ c.requires.table; holds = (y, ap (λ m. m.1) t.1, subst (g.J.Job.can c.args.job (g.T.Held.basis y)) rest.1 can) }

pub store-requires : goal.store-requires
store-requires g c =
    let sized = c.args.self.now.sized in
    let y = c.load.ensures.2 in
    let r = has_run g.T.Held.turns g.T.Held.basis c.args.seat.now.me.0 _ c.run-answer.result.1 c.load.new.seat.me c.run-answer.new.seat.me y.0 y.1 y.2 y.3 c.run-answer.ensures.runs in
    let t = when_ok c.run-answer.result.0 _ c.in-Ok.answer c.in-Ok.is r.outcome.0 in (
      c.run-answer.ensures.table ∙ (c.load.ensures.0 ∙ c.requires.table),
      omega (arith, sized.0),
      raises _ _ _ _ _ _ _ _ r.new t.turn _ (ap (λ m. m.1) r.me) (ap (λ m. m.0.stage) r.me) (t.added ∙ ap (λ l. l ++ t.turn ∷ []) (sym (ap (λ m. m.0.seen) r.me))) (t.of ∙ (sym c.requires.number ∙ sym (ap (λ m. m.0.number) r.me))) r.count_is,
    )

pub leave-requires : goal.leave-requires
leave-requires g c =
    let y = c.load.ensures.2 in
    let r = has_run g.T.Held.turns g.T.Held.basis c.args.seat.now.me.0 _ c.run-answer.result.1 c.load.new.seat.me c.run-answer.new.seat.me y.0 y.1 y.2 y.3 c.run-answer.ensures.runs in
    let t = when_ok c.run-answer.result.0 _ c.in-Ok.answer c.in-Ok.is r.outcome.0 in
    let x = c.store.ensures.2 in
    let up = has_raised g.T.Held.turns g.T.Held.basis {A = g.row.J-Answer.Denot} g.T.Held.by c.args.number (g.J.Job.done c.args.job) c.in-Ok.answer c.args.seat.now.me.0 _ c.run-answer.result.1 c.run-answer.new.seat.me c.store.new.seat.me x.0 x.1 r t x.2 x.3 x.4 in
    record {
      table = c.store.ensures.0 ∙ (c.run-answer.ensures.table ∙ (c.load.ensures.0 ∙ c.requires.table));
      low = c.requires.low;
      has = (ap (λ m. m.0.stage) up, ap (λ m. m.0.ticket) up ∙ c.requires.served.1);
      value = (r.new, ap (λ m. m.1) up, sym (ap (λ m. m.0.seen) up), ap (λ m. m.0.basis) up ∙ r.basis_is);
    }

pub leave-requires-in-Err : goal.leave-requires-in-Err
leave-requires-in-Err g c =
    let y = c.load.ensures.2 in
    let r = has_run g.T.Held.turns g.T.Held.basis c.args.seat.now.me.0 _ c.run-answer.result.1 c.load.new.seat.me c.run-answer.new.seat.me y.0 y.1 y.2 y.3 c.run-answer.ensures.runs in
    let none = when_err c.run-answer.result.0 _ c.in-Err.room c.in-Err.is r.outcome.1 in
    record {
      table = c.run-answer.ensures.table ∙ (c.load.ensures.0 ∙ c.requires.table);
      low = c.requires.low;
      has = (ap (λ m. m.0.stage) r.me, ap (λ m. m.0.ticket) r.me ∙ c.requires.served.1);
      value = (r.new, ap (λ m. m.1) r.me, none.1 ∙ sym (ap (λ m. m.0.seen) r.me), ap (λ m. m.0.basis) r.me ∙ r.basis_is);
    }

pub returns-in-Ok-clause-ok : goal.returns-in-Ok-clause-ok
returns-in-Ok-clause-ok g c =
    let y = c.load.ensures.2 in
    let r = has_run g.T.Held.turns g.T.Held.basis c.args.seat.now.me.0 _ c.run-answer.result.1 c.load.new.seat.me c.run-answer.new.seat.me y.0 y.1 y.2 y.3 c.run-answer.ensures.runs in
    let t = when_ok c.run-answer.result.0 _ c.in-Ok.answer c.in-Ok.is r.outcome.0 in
    let x = c.store.ensures.2 in
    let up = has_raised g.T.Held.turns g.T.Held.basis {A = g.row.J-Answer.Denot} g.T.Held.by c.args.number (g.J.Job.done c.args.job) c.in-Ok.answer c.args.seat.now.me.0 _ c.run-answer.result.1 c.run-answer.new.seat.me c.store.new.seat.me x.0 x.1 r t x.2 x.3 x.4 in
    makes_turn g.T.Held.turns g.T.Held.basis {A = g.row.J-Answer.Denot} g.T.Held.by c.args.number (g.J.Job.done c.args.job) c.in-Ok.answer c.args.seat.now.me.0 _ c.run-answer.result.1 c.run-answer.new.seat.me c.store.new.seat.me c.leave.new.seat.me r t c.requires.number up c.leave.ensures.view

pub returns-in-Err-clause-err : goal.returns-in-Err-clause-err
returns-in-Err-clause-err g c =
    let y = c.load.ensures.2 in
    let r = has_run g.T.Held.turns g.T.Held.basis c.args.seat.now.me.0 _ c.run-answer.result.1 c.load.new.seat.me c.run-answer.new.seat.me y.0 y.1 y.2 y.3 c.run-answer.ensures.runs in
    misses_turn g.T.Held.turns g.T.Held.basis c.args.seat.now.me.0 _ c.run-answer.result.1 c.run-answer.new.seat.me c.leave-in-Err.new.seat.me r c.leave-in-Err.ensures.view

pub returns-in-Err-clause-back : goal.returns-in-Err-clause-back
returns-in-Err-clause-back g c =
    let y = c.load.ensures.2 in
    let r = has_run g.T.Held.turns g.T.Held.basis c.args.seat.now.me.0 _ c.run-answer.result.1 c.load.new.seat.me c.run-answer.new.seat.me y.0 y.1 y.2 y.3 c.run-answer.ensures.runs in
    let none = when_err c.run-answer.result.0 _ c.in-Err.room c.in-Err.is r.outcome.1 in
    none.0
