use Rattle.std.proofs.Common.{List, sym, subst}
use Rattle.device_types.specs.declared.subscriber.Subscriber.{Subscriber}
use Rattle.report_text.specs.Final.{AreEnds}
use Rattle.top_calls.proofs.Ends.{are_ends}
use Rattle.top_calls.proofs.admission.ends_text.Goals as goal

pub final_text-requires : goal.final_text-requires
final_text-requires c =
    let admitted = c.requires.admitted in
    let ends = are_ends c.args.case.now.table c.args.admitted.now.book c.args.finals.now admitted.each admitted.table.ranges admitted.lines admitted.short c.requires.finals in
    subst (λ (rows : List Subscriber). AreEnds rows c.args.finals.now) (sym c.table.ensures.value) ends
