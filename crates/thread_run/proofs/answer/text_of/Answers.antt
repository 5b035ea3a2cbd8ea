use Rattle.std.proofs.Common.{ap, sym, subst, ◌∙◌, length, arith}
use Rattle.std.specs.Prelude.{All}
use Rattle.link_schedule.specs.Floor.{IsEnd}
use Rattle.top_calls.proofs.Ends.{ends_in_form, ends_count}
use Rattle.thread_run.proofs.answer.text_of.Goals as goal

-- so many rows have so many ends, each of which is in form
pub summary_text-requires : goal.summary_text-requires
summary_text-requires c =
    let admitted = c.requires.admitted in
    let rows = c.args.case.now.table in
    let book = c.args.admitted.now.book in
    let count = ap length c.requires.finals ∙ ends_count rows book admitted.each in
    let most = admitted.table.most in
    let each = admitted.each in
    record {
      devices = omega (arith, each, most);
      messages = admitted.short;
      count = omega (arith, count, most);
      ends = subst (All IsEnd) (sym c.requires.finals) (ends_in_form rows book admitted.table.ranges admitted.lines admitted.short);
    }
