use Rattle.std.proofs.Common.{◌≤◌, length, arith, sym, ◌∙◌, ap, subst}
use Rattle.front_lock.proofs.Histories.{shorter_of-le-longer_of}
use Rattle.front_lock.proofs.Seats.{joins, compares}
use Rattle.front_lock.proofs.front.Front.meet.Goals as goal

pub join_seat-requires : goal.join_seat-requires
join_seat-requires g c =
    let sized = c.args.self.now.sized in
    let i = c.requires.into in
    let f = c.requires.from in
    (i.0, f.0, f.1, omega (arith, sized.0), joins _ _ _ _ _ _ _ _ _ i.2 f.2)

pub load-requires : goal.load-requires
load-requires g c =
    let sized = c.args.self.now.sized in
    let j = c.join_seat.ensures in
    (j.0 ∙ c.requires.into.0, omega (arith, sized.0), compares _ _ _ _ _ _ _ _ (ap (λ m. m.0.stage) j.2 ∙ c.requires.into.2) (subst (λ v. length v.met ≤ length v.seen) (sym (ap (λ m. m.0) j.2)) (shorter_of-le-longer_of c.args.into.now.me.0.seen c.args.from.me.0.seen)))
