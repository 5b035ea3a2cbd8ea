use Rattle.std.proofs.Common.{◌≡◌, ◌+◌, drop, length}
use Rattle.device_types.specs.Journal.{effects_on, awaited_on}
use Rattle.session_row.proofs.awaited.awaited_on.Given as goal

abbrev pub invariant-loop-effect : goal.invariant-loop-effect
invariant-loop-effect l = record {
  call : awaited_on l.lane l.k (drop l.effect-index l.effects) ≡ awaited_on l.lane l.before l.effects;
  count : l.k + length (effects_on l.lane (drop l.effect-index l.effects)) ≡ l.before + length (effects_on l.lane l.effects);
}
