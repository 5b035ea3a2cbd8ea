use Rattle.std.proofs.Common.{sym, ap, ◌∙◌, refl, add-one}
use Rattle.device_types.specs.declared.event.Event.TheVariants.{Send, Take, Read, Write}
use Rattle.schedule_laws.specs.Counts.{commits}
use Rattle.link_schedule.specs.Settled.{turns_in}
use Rattle.link_schedule.proofs.Goes.{turned}
use Rattle.schedule_laws.proofs.Steps.{message_committed}
use Rattle.link_schedule.proofs.world.World.send_to_write.Goals as goal

pub returns-clause-ok : goal.returns-clause-ok
returns-clause-ok c =
    let w = c.args.self.now in
    let s = w.setting in
    let H = turns_in w in
    let d = c.args.d in
    let is = c.recall.ensures in
    let g1 = turned w c.send.new.self (Send d c.args.n) _ s H c.in_ok-send.ensures.ok refl refl in
    let g2 = turned c.send.new.self c.take.new.self (Take 1 d c.args.n) _ s _ c.in_ok-take.ensures.ok g1.0 g1.1 in
    let g3 = turned c.take.new.self c.read.new.self (Read 1) _ s _ c.in_ok-read.ensures.ok g2.0 g2.1 in
    let g4 = turned c.read.new.self c.write.new.self (Write 1) _ s _ c.in_ok-write.ensures.ok g3.0 g3.1 in
    let done = message_committed s H d c.args.n c.requires.number is.lawful is.setting.replicas.0 c.requires.seen c.requires.free c.requires.left in
    ap (commits d.0) g4.1 ∙ done ∙ sym (add-one (commits d.0 H))
