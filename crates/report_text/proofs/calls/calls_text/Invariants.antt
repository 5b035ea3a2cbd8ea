use Rattle.std.proofs.Common.{◌≡◌, ◌≤◌, ◌++◌, ℕ, [], length, drop, Some}
use Rattle.std.specs.Prelude.{slice_get, string_bytes}
use Rattle.std.specs.List.{flat_map}
use Rattle.device_types.specs.declared.subscriber.DeviceId.{DeviceId}
use Rattle.peer_calls.specs.Calls.{calls_of}
use Rattle.report_text.specs.Calls.{calls_at, calls_text}
use Rattle.report_text.proofs.calls.calls_text.Given as goal

-- the lines of the devices so far are there; the peer has accepted no calls of those that are left
abbrev pub invariant-loop-device : goal.invariant-loop-device
invariant-loop-device g l =
    let accepted = g.P.Peer.accepted in
    let wire = g.P.Peer.wire in
    record {
      devices : length (accepted l.peer) ≡ length l.table;
      none : (i : ℕ) (d : DeviceId) → l.device-index ≤ i → slice_get l.device-items i ≡ Some d → calls_of (accepted l.peer) d.0 ≡ [];
      text : string_bytes l.text ++ flat_map (calls_at wire l.table l.finals) (drop l.device-index l.device-items) ≡ calls_text wire l.table l.finals;
    }
