use Rattle.std.proofs.Common.{◌≡◌, ◌≢◌, ◌≤◌, ◌+◌, ◌++◌, ℕ, length, take, drop}
use Rattle.std.specs.Prelude.{string_bytes}
use Rattle.peer_calls.specs.Calls.{calls_of}
use Rattle.report_text.specs.Calls.{exchange, exchanges}
use Rattle.report_text.specs.Lines.{numbered_from}
use Rattle.report_text.proofs.calls.put_device.Given as goal

-- the peer has accepted the calls so far, and no others; their lines are there
abbrev pub invariant-loop-call : goal.invariant-loop-call
invariant-loop-call g l =
    let accepted = g.P.Peer.accepted in
    let wire = g.P.Peer.wire in
    record {
      count : l.number ≡ l.call-index;
      calls : calls_of (accepted l.peer) l.row.number ≡ take l.call-index l.calls;
      devices : length (accepted l.peer) ≡ length (accepted l.initial.peer);
      others : (d : ℕ) → 1 ≤ d → d ≢ l.row.number → calls_of (accepted l.peer) d ≡ calls_of (accepted l.initial.peer) d;
      text : string_bytes l.text ++ numbered_from (λ k call. exchange wire l.row (take k l.calls) k call) (l.number + 1) (drop l.call-index l.calls) ≡ string_bytes l.initial.text ++ exchanges wire l.row l.calls;
    }
