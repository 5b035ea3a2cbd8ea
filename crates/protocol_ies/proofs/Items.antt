-- Items that are written.
use Rattle.std.proofs.Common.{◌*◌, ◌≤◌, length, arith}
use Rattle.aper_fields.specs.Asn1.{AsnType, CanBeWritten, run}
use Rattle.protocol_ies.specs.Lists.{IsItemSound}
use Rattle.aper_fields.proofs.Sizes.{takes}

-- an item that can be written fits into an open type of its own
pub item_short : {A : Type 0} (s : AsnType A) → IsItemSound s → (v : A) → CanBeWritten s v → length (run s v 0) ≤ 8 * 16383
item_short s sound v right = omega (arith, takes (λ octets. Unit {0}) s sound.2 v right 0, sound.1)
