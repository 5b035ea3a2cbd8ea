use Rattle.std.proofs.Common.{◌≡◌, take, arith}
use Rattle.std.proofs.lemmas.List.{take_all}
use Rattle.schedule_laws.proofs.Flags.{all_down, get_or-append_down}
use Rattle.link_schedule.proofs.marks.lengthen.Goals as goal

pub returns-in_ok-resize-clause-same : goal.returns-in_ok-resize-clause-same
returns-in_ok-resize-clause-same c =
    let old = c.args.flags.now.items in
    let short : take c.args.count old ≡ old = take_all c.args.count old (omega arith) in
    λ k. rw (c.in_ok-resize.ensures.items, short) (get_or-append_down old _ k (λ j. all_down _ j))
