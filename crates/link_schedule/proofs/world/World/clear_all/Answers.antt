use Rattle.device_types.specs.declared.event.Lane.TheVariants.{Down, Gateway, Subscriber}
use Rattle.link_schedule.proofs.Goes.{goes_refl, goes_trans, settled_still, by_lane}
use Rattle.link_schedule.proofs.world.World.clear_all.Goals as goal

pub returns-clause-clear : goal.returns-clause-clear
returns-clause-clear c =
    let d = c.args.d.0 in
    let a = c.args.self.now in
    let b = c.clear.new.self in
    let e = c.clear-2.new.self in
    let f = c.clear-3.new.self in
    let g = c.clear.ensures.goes_on in
    let h = c.clear-2.ensures.goes_on in
    let i = c.clear-3.ensures.goes_on in
    by_lane a f d (settled_still a a b f d Down (goes_refl a) (goes_trans b e f h i) c.clear.ensures.clear) (settled_still a b e f d Gateway g i c.clear-2.ensures.clear)
    (settled_still a e f f d Subscriber (goes_trans a b e g h) (goes_refl f) c.clear-3.ensures.clear)
