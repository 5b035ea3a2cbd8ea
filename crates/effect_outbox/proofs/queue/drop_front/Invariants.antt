use Rattle.std.proofs.Common.{◌≡◌, drop}
use Rattle.effect_outbox.proofs.queue.drop_front.Given as goal

abbrev pub invariant-loop-i : goal.invariant-loop-i
invariant-loop-i l = l.effects.items ≡ drop l._i l.initial.effects.items
