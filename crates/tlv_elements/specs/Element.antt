-- Elements of a message: what they are, where they stand, and their values; what a protocol says of all of them, and a table of some.
use Rattle.std.specs.Prelude.{◌≡◌, ℕ, ◌-◌, ◌<◌, ◌≤◌, nat_lt, Bool, List, length, Result, Ok, Err, if◌then◌else◌}
use Rattle.echo_base.specs.declared.reason.Reason.{Reason}
use Rattle.echo_base.specs.declared.reason.Reason.TheVariants as reasons
use Rattle.echo_base.specs.declared.refusal.Refusal.{Refusal}
use Rattle.echo_base.specs.Field.{Field, FieldReader}

-- a type and what tells apart elements of one type (an instance, a vendor); the places of its first octet and of what is behind its value; its value
pub record Element : Type 0 where
  pub tag : ℕ
  pub mark : ℕ
  pub place : ℕ
  pub stop : ℕ
  pub value : List ℕ

-- what a protocol says: how an element is framed at the front of octets that end at a place, and the reasons of refusals, by the tag
pub record Protocol : Type 0 where
  pub frame_at : ℕ → FieldReader Refusal Element
  pub wrong : ℕ → Reason
  pub repeated : ℕ → Reason
  pub missing : ℕ → Reason
  -- whether a group may have no octets
  pub takes_empty : Bool

-- a row of a table: which elements it names, whether one is needed, and what is said of one
pub record Rule : Type 0 where
  pub tag : ℕ
  pub mark : ℕ
  pub needed : Bool
  pub check : Element → Result (Unit {0}) Refusal

abbrev pub refusal_at : Reason → ℕ → Refusal
refusal_at reason place = record { reason = reason; place = place }

-- the refusal of what is not whole
abbrev pub truncated : ℕ → Refusal
truncated place = refusal_at reasons.Truncated place

-- where reading stands, in octets that end at a place
abbrev pub here_at : {E : Type 0} → ℕ → FieldReader E ℕ
here_at end left = Ok (end - length left, left)

abbrev pub here_in : {E : Type 0} → ℕ → Field E ℕ
here_in end = record { Stands = λ s v t. (v ≡ end - length s) × (s ≡ t); Refuses = λ s e. ⊥ }

-- whether so many octets are left, none of which is read
abbrev pub room_at : {E : Type 0} → E → ℕ → FieldReader E (Unit {0})
room_at short count left = if nat_lt (length left) count then Err short else Ok (tt, left)

abbrev pub room_in : {E : Type 0} → E → ℕ → Field E (Unit {0})
room_in short count = record { Stands = λ s v t. (count ≤ length s) × (s ≡ t); Refuses = λ s e. (length s < count) × (e ≡ short) }
