-- Each value is read as what its octets mean, and is written as octets that mean it.
use Rattle.std.proofs.Common.{ℕ, List, refl}
use Rattle.std.specs.Prelude.{◌∷◌, replicate}
use Rattle.echo_base.specs.Format.{Decides}
use Rattle.tlv_elements.specs.Grammar.{Form}
use Rattle.tlv_elements.specs.Piece.{given, unread, octet, number, counted, among, behind, before, also}
use Rattle.tlv_elements.proofs.Pieces.{leading_decides, alone_decides, leading_written, alone_written}
use Rattle.gtp2_ies.specs.Values.{exactly, cause, ebi, fteid, address, no_address, rates, qos, apn, imsi}
use Rattle.gtp2_ies.proofs.ImsiLaws as imsis

abbrev pub IsRead : {V : Type 0} → Form V → Type 0
IsRead form = (octets : List ℕ) → Decides (form.decode octets) (form.Means octets)

abbrev pub IsBack : {V : Type 0} → Form V → Type 0
IsBack {V} form = (v : V) → form.IsValue v → form.Means (form.run v) v

pub exactly_is : (wanted : ℕ) → IsRead (exactly wanted)
exactly_is wanted = leading_decides (given wanted)

pub exactly_back : (wanted : ℕ) → IsBack (exactly wanted)
exactly_back wanted = leading_written (given wanted)

pub cause_is : IsRead cause
cause_is = leading_decides (before octet 0)

pub cause_back : IsBack cause
cause_back = leading_written (before octet 0)

pub ebi_is : IsRead ebi
ebi_is = leading_decides (among 5 6 octet)

pub ebi_back : IsBack ebi
ebi_back = leading_written (among 5 6 octet)

pub fteid_is : (whose : ℕ) → IsRead (fteid whose)
fteid_is whose = leading_decides (behind whose (also (number 4) (number 4)))

pub fteid_back : (whose : ℕ) → IsBack (fteid whose)
fteid_back whose = leading_written (behind whose (also (number 4) (number 4)))

pub address_is : IsRead address
address_is = leading_decides (behind 1 (number 4))

pub address_back : IsBack address
address_back = leading_written (behind 1 (number 4))

pub no_address_is : IsRead no_address
no_address_is = leading_decides (behind 1 (among 0 0 (number 4)))

pub no_address_back : IsBack no_address
no_address_back = leading_written (behind 1 (among 0 0 (number 4)))

pub rates_is : IsRead rates
rates_is = leading_decides (also (number 4) (number 4))

pub rates_back : IsBack rates
rates_back = leading_written (also (number 4) (number 4))

pub qos_is : IsRead qos
qos_is = leading_decides (unread (0x20 ∷ 9 ∷ replicate 20 0))

pub qos_back : IsBack qos
qos_back = leading_written (unread (0x20 ∷ 9 ∷ replicate 20 0))

pub apn_is : IsRead apn
apn_is = alone_decides (counted 1 30)

pub apn_back : IsBack apn
apn_back = alone_written (counted 1 30)

pub imsi_is : IsRead imsi
imsi_is = imsis.imsi_decides

pub imsi_back : IsBack imsi
imsi_back v is = (is, refl)
