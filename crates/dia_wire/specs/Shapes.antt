-- Kinds of messages: the table of each, and what its fields say.
use Rattle.std.specs.Prelude.{ℕ, List, Option, Some}
use Rattle.tlv_elements.specs.Element.{Rule}
use Rattle.tlv_elements.specs.Grammar.{Rows, rules, and_then}
use Rattle.dia_avps.specs.Frame.{frame_in, dia, tgpp}
use Rattle.dia_avps.specs.Values.{sized, session, plmn, imsi}
use Rattle.dia_avps.specs.Finding.{found, unsigned_at, result_at}
use Rattle.dia_wire.specs.declared.dia.DiaBody.{DiaBody}
use Rattle.dia_wire.specs.declared.dia.DiaBody.TheVariants as body
use Rattle.dia_wire.specs.declared.kind.Kind.{Kind}
use Rattle.dia_wire.specs.declared.kind.Kind.TheVariants as kinds
use Rattle.dia_wire.specs.declared.said.Said.{Said}
use Rattle.dia_wire.specs.Commands.{code_of}
use Rattle.dia_wire.specs.Tables.{AskFields, PlainFields, VectorsFields, LocatedFields, ask_vectors, ask_location, ask_purge, vectors, located, result_alone}

-- the AVPs of a kind of message; what their values make; and how that is picked out of octets that the table spells
pub record Shape : Type 1 where
  pub Fields : Type 0
  pub rows : Rows Fields
  pub make : Fields → Said
  pub pick : ℕ → List ℕ → Option Said

-- ---- what the values make: the session, and what it is about

abbrev pub saying : List ℕ → DiaBody → Said
saying s b = record { session = s; body = b }

abbrev pub make_ask_vectors : AskFields → Said
make_ask_vectors f = saying f.0 (body.AskVectors f.1.0 f.1.1.0)

abbrev pub make_ask_location : AskFields → Said
make_ask_location f = saying f.0 (body.AskLocation f.1.0 f.1.1.0)

abbrev pub make_ask_purge : PlainFields → Said
make_ask_purge f = saying f.0 (body.AskPurge f.1.0)

abbrev pub make_vectors : VectorsFields → Said
make_vectors f = saying f.0 (body.Vectors f.1.1.0.0.0 f.1.1.0.0.1.0 f.1.1.0.0.1.1.0 f.1.1.0.0.1.1.1.0)

abbrev pub make_located : LocatedFields → Said
make_located f = saying f.0 (body.Located f.1.1.0.0.1.0 f.1.1.0.0.0)

abbrev pub make_purged : PlainFields → Said
make_purged f = saying f.0 body.Purged

abbrev pub make_rejected : ℕ → PlainFields → Said
make_rejected code f = saying f.0 (body.Rejected code f.1.0)

-- ---- the same as it is picked

abbrev pub session_at : ℕ → List ℕ → Option (List ℕ)
session_at end octets = and_then (found 263 0 end octets) (λ e. session.decode e.value)

abbrev pub imsi_at : ℕ → List ℕ → Option ℕ
imsi_at end octets = and_then (found 1 0 end octets) (λ e. imsi.decode e.value)

abbrev pub plmn_at : ℕ → List ℕ → Option ℕ
plmn_at end octets = and_then (found 1407 tgpp end octets) (λ e. plmn.decode e.value)

abbrev pub sized_at : ℕ → ℕ → ℕ → ℕ → List ℕ → Option (List ℕ)
sized_at code least most end octets = and_then (found code tgpp end octets) (λ e. (sized least most).decode e.value)

abbrev pub pick_ask_vectors : ℕ → List ℕ → Option Said
pick_ask_vectors end octets = and_then (session_at end octets) (λ s. and_then (imsi_at end octets) (λ i. and_then (plmn_at end octets) (λ p. Some (saying s (body.AskVectors i p)))))

abbrev pub pick_ask_location : ℕ → List ℕ → Option Said
pick_ask_location end octets = and_then (session_at end octets) (λ s. and_then (imsi_at end octets) (λ i. and_then (plmn_at end octets) (λ p. Some (saying s (body.AskLocation i p)))))

abbrev pub pick_ask_purge : ℕ → List ℕ → Option Said
pick_ask_purge end octets = and_then (session_at end octets) (λ s. and_then (imsi_at end octets) (λ i. Some (saying s (body.AskPurge i))))

abbrev pub pick_vectors : ℕ → List ℕ → Option Said
pick_vectors end octets =
    and_then (session_at end octets) (λ s. and_then (found 1413 tgpp end octets) (λ info. and_then (found 1414 tgpp info.stop info.value) (λ vector.
    and_then (sized_at 1447 16 16 vector.stop vector.value) (λ rand. and_then (sized_at 1448 4 16 vector.stop vector.value) (λ xres.
    and_then (sized_at 1449 16 16 vector.stop vector.value) (λ autn. and_then (sized_at 1450 32 32 vector.stop vector.value) (λ key.
    Some (saying s (body.Vectors rand xres autn key)))))))))

abbrev pub pick_located : ℕ → List ℕ → Option Said
pick_located end octets =
    and_then (session_at end octets) (λ s. and_then (found 1400 tgpp end octets) (λ subscription. and_then (found 1435 tgpp subscription.stop subscription.value) (λ ambr.
    and_then (unsigned_at 516 tgpp ambr.stop ambr.value) (λ ul. and_then (unsigned_at 515 tgpp ambr.stop ambr.value) (λ dl.
    Some (saying s (body.Located dl ul)))))))

abbrev pub pick_purged : ℕ → List ℕ → Option Said
pick_purged end octets = and_then (session_at end octets) (λ s. Some (saying s body.Purged))

abbrev pub pick_rejected : ℕ → ℕ → List ℕ → Option Said
pick_rejected code end octets = and_then (session_at end octets) (λ s. and_then (result_at end octets) (λ r. Some (saying s (body.Rejected code r))))

-- ---- all kinds

abbrev pub shape_of : Kind → Shape
shape_of kinds.AskVectors = record { Fields = AskFields; rows = ask_vectors; make = make_ask_vectors; pick = pick_ask_vectors }
shape_of kinds.AskLocation = record { Fields = AskFields; rows = ask_location; make = make_ask_location; pick = pick_ask_location }
shape_of kinds.AskPurge = record { Fields = PlainFields; rows = ask_purge; make = make_ask_purge; pick = pick_ask_purge }
shape_of kinds.Vectors = record { Fields = VectorsFields; rows = vectors; make = make_vectors; pick = pick_vectors }
shape_of kinds.Located = record { Fields = LocatedFields; rows = located; make = make_located; pick = pick_located }
shape_of kinds.Purged = record { Fields = PlainFields; rows = result_alone; make = make_purged; pick = pick_purged }
shape_of (kinds.Rejected command) = record { Fields = PlainFields; rows = result_alone; make = make_rejected (code_of command); pick = pick_rejected (code_of command) }

-- the rows as reading goes by them
abbrev pub kind_rules : Kind → List Rule
kind_rules kind = rules frame_in dia (shape_of kind).rows
