use Rattle.std.proofs.Common.{◌≤◌, ◌+◌, ◌∙◌, ap, subst, sym}
use Rattle.std.specs.Prelude.{fold}
use Rattle.std.proofs.lemmas.List.{drop_all}
use Rattle.device_types.specs.declared.finals.DeviceEnd.{DeviceEnd}
use Rattle.pool_ends.specs.Ends.{with_entry}
use Rattle.pool_ends.proofs.Gathered.{all_put, few_more, left_behind}
use Rattle.pool_ends.proofs.ends.end_of.Goals as goal

pub loop-entry-preserved : goal.loop-entry-preserved
loop-entry-preserved c = record {
  gathered = left_behind c.args.journal.now c.loop-entry.entry-index c.entry-item.result c.loop-entry.end c.put_entry.new.end c.loop-entry-test.true c.entry-item.is c.in_ok-put_entry.ensures ∙ c.loop-entry.invariant.gathered;
  few = subst (λ (e : DeviceEnd). e.messages ≤ c.loop-entry.entry-index + 1) (sym c.in_ok-put_entry.ensures) (few_more c.loop-entry.end c.entry-item.result c.loop-entry.entry-index c.loop-entry.invariant.few);
}

pub returns : goal.returns
returns c =
    let none = drop_all c.loop-entry.entry-index c.args.journal.now c.loop-entry-test.false in
    sym (ap (fold with_entry c.loop-entry.end) none) ∙ (c.loop-entry.invariant.gathered ∙ all_put c.args.journal.now)
