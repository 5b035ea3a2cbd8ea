use Rattle.std.proofs.Common.{ap}
use Rattle.store_shared.specs.declared.turn.TurnCall.TheVariants as calls
use Rattle.store_shared.specs.declared.turn.TurnAnswer.TheVariants as answers
use Rattle.store_shared.specs.StoreShards.{turn_by}
use Rattle.store_shared.proofs.StoreCalls.{pushes, kept_with}
use Rattle.store_shared.proofs.store_shard.StoreShard.push.Goals as goal

pub invariant_of-self-2 : goal.invariant_of-self-2
invariant_of-self-2 g c =
    let s = c.args.self.now in
    let x = turn_by c.args.seat c.args.d (calls.Push c.args.lane c.args.k) (answers.Push c.in_ok-effect.effect) in
    let t = pushes s.shard s.turns.items c.args.seat c.args.d c.args.lane c.args.k c.in_ok-effect.effect s.kept c.requires.here c.in_ok-effect.ensures.value in
    record { kept = kept_with s.shard s.shard s.turns.items _ _ x _ t c.push_reserved.ensures.items c.reserve.ensures.items (ap (λ a. turn_by c.args.seat c.args.d (calls.Push c.args.lane c.args.k) (answers.Push a)) c.in_ok-effect.ensures.copy) }
