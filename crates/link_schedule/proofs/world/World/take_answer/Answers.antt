use Rattle.std.proofs.Common.{ap, arith}
use Rattle.device_types.specs.Journal.{pushed_count}
use Rattle.link_schedule.specs.Settled.{turns_in}
use Rattle.link_schedule.proofs.Goes.{journal_same, pays_trans, pays_entry}
use Rattle.schedule_laws.proofs.Steps.{awaited_is_last}
use Rattle.link_schedule.proofs.world.World.take_answer.Goals as goal

pub answer_to_write-requires-clause-accepted : goal.answer_to_write-requires-clause-accepted
answer_to_write-requires-clause-accepted c =
    let w = c.args.self.now in
    let d = c.args.d.0 in
    let last = awaited_is_last w.setting d (turns_in w) c.args.lane c.args.k c.requires.awaited in
    let same = ap (pushed_count c.args.lane) (journal_same w c.deliver.new.self d c.in_ok-deliver.ensures.goes_on c.in_ok-deliver.ensures.journal) in
    let all = c.in_ok-deliver.ensures.ok in
    omega arith

pub returns-clause-pays : goal.returns-clause-pays
returns-clause-pays c =
    let a = c.args.self.now in
    let b = c.deliver.new.self in
    let e = c.answer_to_write.new.self in
    let few = c.in_ok-answer_to_write.ensures.few in
    pays_trans a b e c.args.d.0 c.in_ok-deliver.ensures.pays
    (pays_entry b e c.args.d.0 c.in_ok-answer_to_write.ensures.goes_on c.in_ok-answer_to_write.ensures.ok (omega arith))
