use Rattle.std.proofs.Common.{refl}
use Rattle.store_shared.specs.declared.turn.TurnCall.TheVariants as calls
use Rattle.store_shared.specs.declared.turn.TurnAnswer.TheVariants as answers
use Rattle.store_shared.specs.StoreShards.{turn_by}
use Rattle.store_shared.proofs.StoreCalls.{settles, kept_with}
use Rattle.store_shared.proofs.store_shard.StoreShard.settle.Goals as goal

pub invariant_of-self-2 : goal.invariant_of-self-2
invariant_of-self-2 g c =
    let s = c.args.self.now in
    let x = turn_by c.args.seat c.args.d (calls.Settle c.args.lane c.args.k) (answers.Settle c.settle-settled.result) in
    let t = settles s.shard c.settle-settled.new.self s.turns.items c.args.seat c.args.d c.args.lane c.args.k c.settle-settled.result s.kept c.requires.here c.settle-settled.ensures.row c.settle-settled.ensures.state c.settle-settled.ensures.value in
    record { kept = kept_with s.shard c.settle-settled.new.self s.turns.items _ _ x x t c.push_reserved.ensures.items c.reserve.ensures.items refl }
