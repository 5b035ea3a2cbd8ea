use Rattle.std.proofs.Common.{◌≡◌, ◌*◌, ◌≤◌, take}
use Rattle.top_calls.specs.Summary.{messages_of}
use Rattle.top_calls.proofs.summary.messages_of.Given as goal

abbrev pub invariant-loop-messages : goal.invariant-loop-messages
invariant-loop-messages l = record { sum : l.count ≡ messages_of (take l.messages-index l.book); few : l.count ≤ 100000 * l.messages-index }
