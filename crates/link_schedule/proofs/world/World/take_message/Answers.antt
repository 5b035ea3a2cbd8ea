use Rattle.std.proofs.Common.{◌+◌, ℕ, arith, ap, ◌∙◌}
use Rattle.link_schedule.proofs.Goes.{goes_trans, pays_entry}
use Rattle.link_schedule.proofs.world.World.take_message.Goals as goal

pub returns-clause-pays : goal.returns-clause-pays
returns-clause-pays c =
    let a = c.args.self.now in
    let b = c.acknowledge.new.self in
    let e = c.send_to_write.new.self in
    let one = c.in_ok-acknowledge.ensures.few in
    let few = c.in_ok-send_to_write.ensures.few in
    let g = goes_trans a b e c.in_ok-acknowledge.ensures.goes_on c.in_ok-send_to_write.ensures.goes_on in
    pays_entry a e c.args.d.0 g (c.in_ok-send_to_write.ensures.ok ∙ ap (λ (n : ℕ). n + 1) c.in_ok-acknowledge.ensures.journal) (omega arith)
