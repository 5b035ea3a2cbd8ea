-- How long the messages of the network are.
use Rattle.std.proofs.Common.{◌≤◌, length, arith}
use Rattle.std.proofs.lemmas.List.{length-append}
use Rattle.device_types.specs.declared.nas_out.NasOut.{NasOut}
use Rattle.device_types.specs.declared.nas_out.NasOut.TheVariants.{AuthRequest, AuthReject, SecurityCommand, AttachAccept, AttachReject, ServiceReject, AreaReject, AreaAccept, DetachAccept, PdnReject, Activate}
use Rattle.device_types.specs.Nas.{IsNasOut}
use Rattle.nas_kinds.specs.Written.{nas_written}

-- an ATTACH ACCEPT with an access point name of 30 octets is the longest
pub length_written : (message : NasOut) → IsNasOut message → length (nas_written message) ≤ 56
unfolding nas_written
length_written (AuthRequest rand autn) h = simp length-append (omega (arith, h.0, h.1))
length_written AuthReject h = omega arith
length_written (SecurityCommand eea eia) h = omega arith
length_written (AttachAccept plmn tac pti apn ip) h = simp length-append (omega (arith, h.2))
length_written (AttachReject cause) h = omega arith
length_written (ServiceReject cause) h = omega arith
length_written (AreaReject cause) h = omega arith
length_written AreaAccept h = omega arith
length_written DetachAccept h = omega arith
length_written (PdnReject pti cause) h = omega arith
length_written (Activate pti apn ip) h = simp length-append (omega (arith, h.1))
