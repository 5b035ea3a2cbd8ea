use Rattle.std.proofs.Common.{ap}
use Rattle.store_shared.specs.declared.turn.TurnCall.TheVariants as calls
use Rattle.store_shared.specs.declared.turn.TurnAnswer.TheVariants as answers
use Rattle.store_shared.specs.StoreShards.{turn_by}
use Rattle.store_shared.proofs.StoreCalls.{commits, kept_with}
use Rattle.store_shared.proofs.store_shard.StoreShard.commit.Goals as goal

pub invariant_of-self-2 : goal.invariant_of-self-2
invariant_of-self-2 g c =
    let s = c.args.self.now in
    let x = turn_by c.args.seat c.args.d (calls.Commit c.args.read c.args.entry) (answers.Commit c.in_ok-commit.commit) in
    let t = commits s.shard c.commit_copied.new.shard s.turns.items c.args.seat c.args.d c.args.read c.args.entry c.in_ok-commit.commit s.kept c.requires.here c.in_ok-commit.ensures.commit c.in_ok-commit.ensures.others in
    record { kept = kept_with s.shard c.commit_copied.new.shard s.turns.items _ _ x _ t c.push_reserved.ensures.items c.reserve.ensures.items (ap (λ e. turn_by c.args.seat c.args.d (calls.Commit c.args.read e) (answers.Commit c.in_ok-commit.commit)) c.in_ok-commit.ensures.copy) }
