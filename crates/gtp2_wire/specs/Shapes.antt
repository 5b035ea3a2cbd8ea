-- Kinds of messages: the table of each, and what its fields say.
use Rattle.std.specs.Prelude.{ℕ, Bool, List, Option, Some}
use Rattle.tlv_elements.specs.Element.{Rule}
use Rattle.tlv_elements.specs.Grammar.{Rows, rules, and_then}
use Rattle.gtp2_ies.specs.Frame.{frame_in, gtp}
use Rattle.gtp2_ies.specs.Picking.{found}
use Rattle.gtp2_ies.specs.Values.{ebi, fteid, address, rates, apn, imsi}
use Rattle.gtp2_wire.specs.declared.gtp.GtpBody.{GtpBody}
use Rattle.gtp2_wire.specs.declared.gtp.GtpBody.TheVariants as body
use Rattle.gtp2_wire.specs.declared.kind.Kind.{Kind}
use Rattle.gtp2_wire.specs.declared.kind.Kind.TheVariants as kinds
use Rattle.gtp2_wire.specs.Tables.{Nothing, CreateFields, CreatedFields, ModifyFields, ModifiedFields, create, created, modify, modified, delete, release, cause_alone}

-- the elements of a kind of message, with all of them needed or not; what their values make; and how that is picked out of octets that the table spells
pub record Shape : Type 1 where
  pub Fields : Type 0
  pub rows : Bool → Rows Fields
  pub make : Fields → GtpBody
  pub pick : ℕ → List ℕ → Option GtpBody

-- ---- what the values make

abbrev pub make_create : CreateFields → GtpBody
make_create f = body.Create f.0 f.1.1.1.1.1.1.1.0.0 f.1.1.1.0 f.1.1.1.1.1.1.0.0 f.1.1.1.1.1.1.0.1 f.1.1.0.1 f.1.1.0.0

abbrev pub make_created : CreatedFields → GtpBody
make_created f = body.Created f.1.0.1 f.1.0.0 f.1.1.0 f.1.1.1.0.0 f.1.1.1.0.1.1.0.1 f.1.1.1.0.1.1.0.0

abbrev pub make_modify : ModifyFields → GtpBody
make_modify f = body.Modify f.0.0 f.0.1.0.1 f.0.1.0.0

abbrev pub make_modified : ModifiedFields → GtpBody
make_modified f = body.Modified f.1.0.0

abbrev pub make_delete : ℕ × Nothing → GtpBody
make_delete f = body.Delete f.0

-- ---- the same as it is picked

-- the bearer that it says, and the tunnel of an interface
abbrev pub ebi_at : ℕ → List ℕ → Option ℕ
ebi_at end octets = and_then (found 73 end octets) (λ e. ebi.decode e.value)

abbrev pub fteid_at : ℕ → ℕ → List ℕ → Option (ℕ × ℕ)
fteid_at whose end octets = and_then (found 87 end octets) (λ e. (fteid whose).decode e.value)

abbrev pub pick_create : ℕ → List ℕ → Option GtpBody
pick_create end octets =
    and_then (found 1 end octets) (λ e. and_then (imsi.decode e.value) (λ subscriber. and_then (fteid_at 0x8a end octets) (λ sender.
    and_then (found 71 end octets) (λ e. and_then (apn.decode e.value) (λ name. and_then (found 72 end octets) (λ e. and_then (rates.decode e.value) (λ rate.
    and_then (found 93 end octets) (λ bearer. and_then (ebi_at bearer.stop bearer.value) (λ id.
    Some (body.Create subscriber id name rate.0 rate.1 sender.1 sender.0))))))))))

abbrev pub pick_created : ℕ → List ℕ → Option GtpBody
pick_created end octets =
    and_then (fteid_at 0x8b end octets) (λ sender. and_then (found 79 end octets) (λ e. and_then (address.decode e.value) (λ ip.
    and_then (found 93 end octets) (λ bearer. and_then (ebi_at bearer.stop bearer.value) (λ id. and_then (fteid_at 0x81 bearer.stop bearer.value) (λ tunnel.
    Some (body.Created sender.1 sender.0 ip id tunnel.1 tunnel.0)))))))

abbrev pub pick_modify : ℕ → List ℕ → Option GtpBody
pick_modify end octets =
    and_then (found 93 end octets) (λ bearer. and_then (ebi_at bearer.stop bearer.value) (λ id. and_then (fteid_at 0x80 bearer.stop bearer.value) (λ tunnel.
    Some (body.Modify id tunnel.1 tunnel.0))))

abbrev pub pick_modified : ℕ → List ℕ → Option GtpBody
pick_modified end octets = and_then (found 93 end octets) (λ bearer. and_then (ebi_at bearer.stop bearer.value) (λ id. Some (body.Modified id)))

abbrev pub pick_delete : ℕ → List ℕ → Option GtpBody
pick_delete end octets = and_then (ebi_at end octets) (λ id. Some (body.Delete id))

-- ---- all kinds

-- a message without values of its own
abbrev pub plain : {A : Type 0} → Rows A → GtpBody → Shape
plain {A} rows b = record { Fields = A; rows = λ all. rows; make = λ f. b; pick = λ end octets. Some b }

abbrev pub shape_of : Kind → Shape
shape_of kinds.Create = record { Fields = CreateFields; rows = λ all. create; make = make_create; pick = pick_create }
shape_of kinds.Created = record { Fields = CreatedFields; rows = created; make = make_created; pick = pick_created }
shape_of kinds.Modify = record { Fields = ModifyFields; rows = λ all. modify; make = make_modify; pick = pick_modify }
shape_of kinds.Modified = record { Fields = ModifiedFields; rows = modified; make = make_modified; pick = pick_modified }
shape_of kinds.Delete = record { Fields = ℕ × Nothing; rows = λ all. delete; make = make_delete; pick = pick_delete }
shape_of kinds.Deleted = plain cause_alone body.Deleted
shape_of kinds.Release = plain release body.Release
shape_of kinds.Released = plain cause_alone body.Released

-- the rows as reading goes by them
abbrev pub kind_rules : Kind → Bool → List Rule
kind_rules kind all = rules frame_in gtp ((shape_of kind).rows all)
