use Rattle.std.proofs.Common.{◌≡◌, ◌≤◌, length}
use Rattle.effect_outbox.specs.Queues.{state_of, state_with}
use Rattle.effect_outbox.proofs.queues.Queues.put_all.Given as goal

abbrev pub invariant-loop-effect : goal.invariant-loop-effect
invariant-loop-effect l = record {
  state : state_with (state_of l.self) (l.effect-iterator.rest.items) ≡ state_with (state_of l.initial.self) l.fn.effects.items;
  room : length (l.effect-iterator.rest.items) ≤ l.self.room;
  can_next : (goal.iterator-loop-effect).can_next l.effect-iterator;
  is_finite : (goal.iterator-loop-effect).is_finite l.effect-iterator;
}
