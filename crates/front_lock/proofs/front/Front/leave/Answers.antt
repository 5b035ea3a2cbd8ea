use Rattle.std.proofs.Common.{◌+◌, arith, sym, ◌∙◌, ap}
use Rattle.atomic_table.specs.Table.{rest, Me}
use Rattle.front_lock.specs.declared.view.Stage.TheVariants.{Idle}
use Rattle.front_lock.specs.declared.view.View.{View}
use Rattle.front_lock.specs.View.{view_at}
use Rattle.front_lock.proofs.Steps.{returns_value, passes}
use Rattle.front_lock.proofs.front.Front.leave.Goals as goal

pub load-requires : goal.load-requires
load-requires g c =
    let sized = c.args.self.now.sized in
    let v = c.requires.value in
    (c.requires.table, omega (arith, sized.0), returns_value _ _ _ _ _ _ _ _ v.0 v.1 c.requires.has.0 v.2 v.3)

pub store-requires : goal.store-requires
store-requires g c =
    let sized = c.args.self.now.sized in
    let e = c.load.ensures in
    (e.0 ∙ c.requires.table, omega (arith, sized.0), passes _ _ _ _ _ _ _ _ _ _ (ap (λ m. m.0.stage) e.2) (ap (λ n. n + 1) (sym (ap (λ m. m.0.ticket) e.2 ∙ c.requires.has.1))))

pub returns-clause-view : goal.returns-clause-view
returns-clause-view g c =
    let l = c.load.ensures.2 in
    let v = c.args.seat.now.me.0 in
    c.store.ensures.2.0 ∙ (ap (λ (m : Me g.row.T.Denot (View g.row.T-Turn.Denot g.row.T-Basis.Denot)). (view_at Idle 0 m.0.seen m.0.mine m.0, m.1)) l ∙ ap (λ r. (view_at Idle 0 v.seen v.mine v, rest r)) c.requires.value.1)
