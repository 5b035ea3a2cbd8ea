use Rattle.std.proofs.Common.{◌-◌, List, Bool, true, set, subst, arith}
use Rattle.schedule_laws.specs.Lists.{AddsMark}
use Rattle.schedule_laws.proofs.Flags.{marks}
use Rattle.link_schedule.proofs.marks.Marks.mark.Goals as goal

pub returns-clause-ok : goal.returns-clause-ok
returns-clause-ok c =
    let long = c.lengthen.new.flags.items in
    subst (λ (xs : List Bool). AddsMark xs (set long (c.args.n - 1) true) c.args.n) c.self.view_is
    (marks c.self.inside.flags.items long c.args.n c.requires (let e = c.in_ok-lengthen.ensures.long in omega arith) c.in_ok-lengthen.ensures.same)
