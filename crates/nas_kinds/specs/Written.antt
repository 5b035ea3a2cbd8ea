-- The messages of the network (TS 24.301, 8.2 and 8.3), octet for octet.
use Rattle.std.specs.Prelude.{ℕ, List, [], ◌∷◌, ◌++◌}
use Rattle.std.specs.Int.{w16, w32, to_be_bytes, bytes_high_first}
use Rattle.echo_base.specs.Field.{counted_run, long_counted_run}
use Rattle.device_types.specs.declared.nas_out.NasOut.{NasOut}
use Rattle.device_types.specs.declared.nas_out.NasOut.TheVariants.{AuthRequest, AuthReject, SecurityCommand, AttachAccept, AttachReject, ServiceReject, AreaReject, AreaAccept, DetachAccept, PdnReject, Activate}

-- the PLMN identity and the tracking area code
abbrev pub area : ℕ → ℕ → List ℕ
area plmn tac = bytes_high_first 3 plmn ++ to_be_bytes w16 tac

-- ACTIVATE DEFAULT EPS BEARER CONTEXT REQUEST (8.3.6): first octet, procedure transaction identity, message type, EPS QoS
-- (9.9.4.3) of QCI 9, access point name (9.9.4.1) of one label, PDN address (9.9.4.9) of IPv4
abbrev pub activate_request : ℕ → ℕ → List ℕ → ℕ → List ℕ
activate_request first pti apn ip = first ∷ pti ∷ 0xc1 ∷ counted_run (9 ∷ []) ++ counted_run (counted_run apn) ++ counted_run (1 ∷ to_be_bytes w32 ip)

-- Each message of mobility management begins with 07, plain, and its message type. One of session management begins with its
-- bearer identity in the high half of an octet whose low half is 2 (9.2, 9.3.2), its procedure transaction identity and its
-- message type.
unfoldable pub nas_written : NasOut → List ℕ
-- 8.2.7: NAS key set identifier 0, RAND, AUTN
nas_written (AuthRequest rand autn) = 0x07 ∷ 0x52 ∷ 0x00 ∷ rand ++ counted_run autn
-- 8.2.6
nas_written AuthReject = 0x07 ∷ 0x54 ∷ []
-- 8.2.20: null algorithms, NAS key set identifier 0, replayed UE security capabilities
nas_written (SecurityCommand eea eia) = 0x07 ∷ 0x5d ∷ 0x00 ∷ 0x00 ∷ counted_run (eea ∷ eia ∷ [])
-- 8.2.1: EPS only, T3412 deactivated, tracking area identity list of one area (9.9.3.33), ESM message container for bearer 5
nas_written (AttachAccept plmn tac pti apn ip) = 0x07 ∷ 0x42 ∷ 0x01 ∷ 0xe0 ∷ counted_run (0x00 ∷ area plmn tac) ++ long_counted_run (activate_request 0x52 pti apn ip)
-- 8.2.3, 8.2.24, 8.2.28: EMM cause
nas_written (AttachReject cause) = 0x07 ∷ 0x44 ∷ cause ∷ []
nas_written (ServiceReject cause) = 0x07 ∷ 0x4e ∷ cause ∷ []
nas_written (AreaReject cause) = 0x07 ∷ 0x4b ∷ cause ∷ []
-- 8.2.26: tracking area updated
nas_written AreaAccept = 0x07 ∷ 0x49 ∷ 0x00 ∷ []
-- 8.2.10.1
nas_written DetachAccept = 0x07 ∷ 0x46 ∷ []
-- 8.3.19: no bearer, ESM cause
nas_written (PdnReject pti cause) = 0x02 ∷ pti ∷ 0xd1 ∷ cause ∷ []
-- 8.3.6, for bearer 6
nas_written (Activate pti apn ip) = activate_request 0x62 pti apn ip
