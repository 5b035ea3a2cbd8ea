-- Fields that are lent, as they are seen.
use Rattle.std.specs.Prelude.{option_map}
use Rattle.s1ap_ies.specs.declared.erab_to_setup.ErabToSetup.{ErabToSetup}
use Rattle.s1ap_messages.specs.declared.usual.bearers.LentErab.{LentErab}

-- the E-RAB, without where its NAS-PDU lies in memory
abbrev pub erab_of : LentErab → ErabToSetup
erab_of v = record { id = v.id; qci = v.qci; arp = v.arp; address = v.address; teid = v.teid; nas = option_map (λ octets. octets.now) v.nas }
