-- Fields that are lent, as they are seen.
use Rattle.std.specs.Prelude.{ℕ, option_map}
use Rattle.s1ap_ies.specs.declared.bearer.Qos.{Qos}
use Rattle.s1ap_ies.specs.declared.bearer.Bearer.{Bearer}
use Rattle.s1ap_ies.specs.declared.erab_to_setup.Parts.{Parts}
use Rattle.s1ap_ies.specs.declared.erab_to_setup.ErabToSetup.{ErabToSetup}
use Rattle.s1ap_ies.specs.declared.erab_to_add.Parts.{Parts as PartsToAdd}
use Rattle.s1ap_ies.specs.declared.erab_to_add.ErabToAdd.{ErabToAdd}

-- the fields in front of a NAS-PDU
abbrev pub bearer_parts : Bearer → ℕ × (Qos × (ℕ × ℕ))
bearer_parts b = (b.id, (b.qos, (b.address, b.teid)))

-- the items that were read, without where their NAS-PDUs lie in memory
abbrev pub item_of : Parts → ErabToSetup
item_of p = record { id = p.bearer.id; qci = p.bearer.qos.qci; arp = p.bearer.qos.arp; address = p.bearer.address; teid = p.bearer.teid; nas = option_map (λ octets. octets.now) p.nas }

abbrev pub added_of : PartsToAdd → ErabToAdd
added_of p = record { id = p.bearer.id; qci = p.bearer.qos.qci; arp = p.bearer.qos.arp; address = p.bearer.address; teid = p.bearer.teid; nas = p.nas.now }
