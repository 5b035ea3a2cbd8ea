-- Each value is read as what its octets mean, and is written as octets that mean it.
use Rattle.std.proofs.Common.{ℕ, List, length, refl}
use Rattle.echo_base.specs.Format.{Decides}
use Rattle.tlv_elements.specs.Grammar.{Form}
use Rattle.tlv_elements.specs.Piece.{number}
use Rattle.tlv_elements.proofs.Pieces.{between, alone_decides, alone_written}
use Rattle.dia_avps.specs.Values.{sized, session, unsigned, plmn, imsi}
use Rattle.dia_avps.proofs.ImsiLaws as imsis

abbrev pub IsRead : {V : Type 0} → Form V → Type 0
IsRead form = (octets : List ℕ) → Decides (form.decode octets) (form.Means octets)

abbrev pub IsBack : {V : Type 0} → Form V → Type 0
IsBack {V} form = (v : V) → form.IsValue v → form.Means (form.run v) v

pub sized_is : (least most : ℕ) → IsRead (sized least most)
sized_is least most octets =
    let d = between least most (length octets) octets in
    record {
      found = λ v h. (let x = d.found v h in (x.0, x.1.0, x.1.1));
      only = λ v m. d.only v (m.0, (m.1, m.2));
    }

pub sized_back : (least most : ℕ) → IsBack (sized least most)
sized_back least most v is = (refl, is.0, is.1)

pub session_is : IsRead session
session_is = sized_is 1 1000

pub session_back : IsBack session
session_back = sized_back 1 1000

pub unsigned_is : IsRead unsigned
unsigned_is = alone_decides (number 4)

pub unsigned_back : IsBack unsigned
unsigned_back = alone_written (number 4)

pub plmn_is : IsRead plmn
plmn_is = alone_decides (number 3)

pub plmn_back : IsBack plmn
plmn_back = alone_written (number 3)

pub imsi_is : IsRead imsi
imsi_is = imsis.imsi_decides

pub imsi_back : IsBack imsi
imsi_back v is = (is, refl)
