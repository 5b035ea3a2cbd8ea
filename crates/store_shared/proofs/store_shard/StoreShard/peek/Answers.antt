use Rattle.std.proofs.Common.{ap}
use Rattle.store_shared.specs.declared.turn.TurnCall.TheVariants as calls
use Rattle.store_shared.specs.declared.turn.TurnAnswer.TheVariants as answers
use Rattle.store_shared.specs.StoreShards.{turn_by}
use Rattle.store_shared.proofs.StoreCalls.{peeks, kept_with}
use Rattle.store_shared.proofs.store_shard.StoreShard.peek.Goals as goal

pub invariant_of-self-2 : goal.invariant_of-self-2
invariant_of-self-2 g c =
    let s = c.args.self.now in
    let x = turn_by c.args.seat c.args.d (calls.Peek c.args.asked) (answers.Peek c.in_ok-peeked.peeked) in
    let t = peeks s.shard s.turns.items c.args.seat c.args.d c.args.asked c.in_ok-peeked.peeked s.kept c.requires.here c.in_ok-peeked.ensures.value in
    record { kept = kept_with s.shard s.shard s.turns.items _ _ x _ t c.push_reserved.ensures.items c.reserve.ensures.items (ap (λ a. turn_by c.args.seat c.args.d (calls.Peek c.args.asked) (answers.Peek a)) c.in_ok-peeked.ensures.copy) }
