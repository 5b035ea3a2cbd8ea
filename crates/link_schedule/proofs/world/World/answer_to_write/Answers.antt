use Rattle.std.proofs.Common.{sym, ap, ◌∙◌, refl, arith, add-one}
use Rattle.device_types.specs.declared.event.Event.TheVariants.{Answer, Read, Write}
use Rattle.schedule_laws.specs.Counts.{commits}
use Rattle.link_schedule.specs.Settled.{turns_in, journal_in}
use Rattle.link_schedule.proofs.Goes.{turned}
use Rattle.schedule_laws.proofs.Steps.{answer_committed, awaited_is_call}
use Rattle.link_schedule.proofs.world.World.answer_to_write.Goals as goal

pub answer-requires : goal.answer-requires
answer-requires c =
    let call = awaited_is_call (journal_in c.args.self.now c.args.d.0) c.args.lane c.args.k c.requires.awaited in
    ((omega arith, omega arith), c.requires.device, call.0, call.1)

pub returns-clause-ok : goal.returns-clause-ok
returns-clause-ok c =
    let w = c.args.self.now in
    let s = w.setting in
    let H = turns_in w in
    let d = c.args.d in
    let l = c.args.lane in
    let k = c.args.k in
    let is = c.recall.ensures in
    let call = awaited_is_call (journal_in w d.0) l k c.requires.awaited in
    let g1 = turned w c.answer.new.self (Answer 1 d l k) _ s H c.in_ok-answer.ensures.ok refl refl in
    let g2 = turned c.answer.new.self c.read.new.self (Read 1) _ s _ c.in_ok-read.ensures.ok g1.0 g1.1 in
    let g3 = turned c.read.new.self c.write.new.self (Write 1) _ s _ c.in_ok-write.ensures.ok g2.0 g2.1 in
    let done = answer_committed s H d l k c.requires.awaited is.lawful is.setting.replicas.0 call.1 c.requires.accepted in
    ap (commits d.0) g3.1 ∙ done ∙ sym (add-one (commits d.0 H))
