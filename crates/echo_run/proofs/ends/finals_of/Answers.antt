use Rattle.std.proofs.Common.{◌≤◌, length}
use Rattle.std.proofs.lemmas.List.Elements.{All-rest}
use Rattle.std.proofs.lemmas.Slice.Zip.{either_empty_from_Zip}
use Rattle.std.specs.Slice.Iter.{iter_rest}
use Rattle.std.specs.Iterator.Adapters.{zip_first, zip_second}
use Rattle.device_types.specs.Subscriber.{IsSubscriber}
use Rattle.device_machine.specs.Ends.{finals_of}
use Rattle.echo_run.proofs.Lines.{one_more_end, all_made}
use Rattle.echo_run.proofs.ends.finals_of.Goals as goal

pub loop-row-preserved : goal.loop-row-preserved
loop-row-preserved c =
    let before = c.loop-row.row-iterator in
    let after = c.next.new.self in
    let next = c.in-Some.ensures.steps in
    record {
      whole = one_more_end c.in-Some.row.now c.in-Some.messages.now c.items-in-loop-row.result.now c.in_ok-end_of.field-0 c.loop-row.finals c.push.new.self (finals_of c.args.table.now c.args.book.now) (iter_rest (zip_first before)) (iter_rest (zip_first after)) (iter_rest (zip_second before)) (iter_rest (zip_second after)) next.0 next.1 c.items-in-loop-row.ensures c.in_ok-end_of.ensures c.in_ok-push.ensures.ok c.loop-row.invariant.whole;
      rows = All-rest IsSubscriber c.in-Some.row.now (iter_rest (zip_first after)) (iter_rest (zip_first before)) next.0 c.loop-row.invariant.rows;
      few = All-rest (λ messages. length messages ≤ 100000) c.in-Some.messages.now (iter_rest (zip_second after)) (iter_rest (zip_second before)) next.1 c.loop-row.invariant.few;
    }

pub returns : goal.returns
returns c =
    let left = c.loop-row.row-iterator in
    all_made c.loop-row.finals (finals_of c.args.table.now c.args.book.now) (iter_rest (zip_first left)) (iter_rest (zip_second left)) (either_empty_from_Zip left c.next.new.self c.next.result c.in-None.is c.next.ensures.steps) c.loop-row.invariant.whole
