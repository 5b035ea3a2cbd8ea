-- Messages that fit into their open types whatever their fields are.
use Rattle.std.specs.Prelude.{ℕ, ◌+◌, ◌≤◌, List, [], ◌∷◌, Option, Some, None, IfSome}
use Rattle.std.specs.List.{AllByRecursion}
use Rattle.s1ap_pdu.specs.declared.pdu.Pdu.{Pdu}
use Rattle.aper_fields.proofs.Sizes.{most_of}
use Rattle.s1ap_pdu.specs.Values.{FieldValue, asn1_of}
use Rattle.s1ap_pdu.specs.Messages.{values_of}
use Rattle.s1ap_pdu.specs.Run.{IsRightValue}

-- At most so many bits are written for the fields that there are: their types say so, and how long they are where they are strings or lists.
abbrev pub most_of_all : List (Option FieldValue) → ℕ
most_of_all [] = 0
most_of_all (None ∷ values) = most_of_all values
most_of_all (Some v ∷ values) = most_of (asn1_of v) v + most_of_all values

-- a message of fields in their ranges, for which at most 130,000 bits are written in all
pub record IsSmall (p : Pdu) : Type 0 where
  pub fields : AllByRecursion (λ v. IfSome v IsRightValue) (values_of p)
  pub most : most_of_all (values_of p) ≤ 130000
