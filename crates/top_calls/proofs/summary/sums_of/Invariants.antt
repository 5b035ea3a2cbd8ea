use Rattle.std.proofs.Common.{◌≡◌, ◌*◌, ◌≤◌, length, take}
use Rattle.std.specs.List.{sum_by}
use Rattle.top_calls.proofs.summary.sums_of.Given as goal

abbrev pub invariant-loop-end : goal.invariant-loop-end
invariant-loop-end l = record {
  steps : l.steps ≡ sum_by (λ end. end.steps) (take l.end-index l.ends);
  downs : l.downs ≡ sum_by (λ end. length end.downs) (take l.end-index l.ends);
  gateway : l.gateway ≡ sum_by (λ end. length end.gateway) (take l.end-index l.ends);
  subscriber : l.subscriber ≡ sum_by (λ end. length end.subscriber) (take l.end-index l.ends);
  few : (l.steps ≤ 300000 * l.end-index) × (l.downs ≤ 1200000 * l.end-index) × (l.gateway ≤ 1200000 * l.end-index) × (l.subscriber ≤ 1200000 * l.end-index);
}
