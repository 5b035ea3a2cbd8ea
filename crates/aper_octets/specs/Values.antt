-- Values of IEs as octets (3GPP TS 36.413, 9.2).
use Rattle.std.specs.Prelude.{ℕ, ◌+◌, ◌*◌, ◌/◌, ◌%◌, ◌==◌, List, [], ◌∷◌, if◌then◌else◌}
use Rattle.s1ap_ies.specs.declared.tai.Tai.{Tai}
use Rattle.s1ap_ies.specs.declared.cgi.Cgi.{Cgi}
use Rattle.s1ap_ies.specs.declared.stmsi.Stmsi.{Stmsi}
use Rattle.s1ap_ies.specs.declared.sec_caps.SecCaps.{SecCaps}
use Rattle.s1ap_ies.specs.declared.cause.Cause.{Cause}
use Rattle.aper_octets.specs.Octets.{four_octets}

unfoldable pub tai_octets : Tai → List ℕ
tai_octets v = 0 ∷ v.plmn / 65536 ∷ v.plmn / 256 % 256 ∷ v.plmn % 256 ∷ v.tac / 256 ∷ v.tac % 256 ∷ []

unfoldable pub cgi_octets : Cgi → List ℕ
cgi_octets v = 0 ∷ v.plmn / 65536 ∷ v.plmn / 256 % 256 ∷ v.plmn % 256 ∷ v.cell / 1048576 ∷ v.cell / 4096 % 256 ∷ v.cell / 16 % 256 ∷ v.cell % 16 * 16 ∷ []

unfoldable pub stmsi_octets : Stmsi → List ℕ
stmsi_octets v = v.mmec / 4 ∷ v.mmec % 4 * 64 ∷ four_octets v.tmsi

unfoldable pub caps_octets : SecCaps → List ℕ
caps_octets v = v.eea / 2048 ∷ v.eea / 8 % 256 ∷ (v.eea % 8 * 32 + v.eia / 4096) ∷ v.eia / 16 % 256 ∷ v.eia % 16 * 16 ∷ []

-- a root, or an index behind the extension mark
unfoldable pub cause_octets : Cause → List ℕ
cause_octets v =
    if v.extended then (16 * v.group + 8 + v.index / 16) ∷ v.index % 16 * 16 ∷ []
    else (if v.group == 0 then v.index / 8 ∷ v.index % 8 * 32 ∷ []
    else (if v.group == 1 then (16 + 4 * v.index) ∷ []
    else (if v.group == 2 then (32 + 2 * v.index) ∷ []
    else (16 * v.group + v.index) ∷ [])))
