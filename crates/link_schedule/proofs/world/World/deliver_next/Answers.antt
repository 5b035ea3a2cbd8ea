use Rattle.std.proofs.Common.{ap, ◌∙◌, refl, arith}
use Rattle.device_types.specs.declared.event.Event.TheVariants.{Push, Effect}
use Rattle.schedule_laws.specs.Counts.{accepted}
use Rattle.link_schedule.specs.Settled.{turns_in}
use Rattle.link_schedule.proofs.Goes.{turned, one_more, goes_one, goes_trans, pays_effect}
use Rattle.schedule_laws.proofs.Steps.{effect_delivered}
use Rattle.link_schedule.proofs.world.World.deliver_next.Goals as goal

pub returns-clause-ok : goal.returns-clause-ok
returns-clause-ok c =
    let w = c.args.self.now in
    let s = w.setting in
    let H = turns_in w in
    let d = c.args.d in
    let g1 = turned w c.push.new.self (Push d c.args.lane c.args.k) _ s H c.in_ok-push.ensures.ok refl refl in
    let g2 = turned c.push.new.self c.effect.new.self (Effect d c.args.lane c.args.k) _ s _ c.in_ok-effect.ensures.ok g1.0 g1.1 in
    ap (accepted d.0 c.args.lane) g2.1 ∙ effect_delivered s H d c.args.lane c.args.k c.requires.next c.recall.ensures.lawful c.requires.made

pub returns-clause-pays : goal.returns-clause-pays
returns-clause-pays c =
    let a = c.args.self.now in
    let b = c.push.new.self in
    let e = c.effect.new.self in
    let push = Push c.args.d c.args.lane c.args.k in
    let effect = Effect c.args.d c.args.lane c.args.k in
    let n = one_more a b push _ c.in_ok-push.ensures.ok in
    let m = one_more b e effect _ c.in_ok-effect.ensures.ok in
    let g = goes_trans a b e (goes_one a b push _ c.in_ok-push.ensures.ok) (goes_one b e effect _ c.in_ok-effect.ensures.ok) in
    pays_effect a e c.args.d.0 c.args.lane g (returns-clause-ok c ∙ c.requires.next) (omega arith)
