-- Values of elements, each as one piece: which octets stand for a value, how they are read and how they are written follow from it.
use Rattle.std.specs.Prelude.{◌≡◌, ℕ, ◌^◌, ◌<◌, ◌≤◌, ◌==◌, ◌&&◌, nat_le, Bool, true, false, List, [], ◌∷◌, ◌++◌, length, Option, Some, None, Ok, Err}
use Rattle.echo_base.specs.declared.refusal.Refusal.{Refusal}
use Rattle.echo_base.specs.Format as formats
use Rattle.echo_base.specs.Format.{just, meant}
use Rattle.echo_base.specs.Field.{Field, FieldReader, octet_in, octets_in, number_in, counted_in, octet_at, octets_at, number_at, counted_at, number_run, counted_run}
use Rattle.echo_base.specs.Reading as readings
use Rattle.echo_base.specs.Reading.{Read, done, known}
use Rattle.tlv_elements.specs.Element.{truncated}
use Rattle.tlv_elements.specs.Grammar.{Form}

pub data Piece : Type 0 → Type 1 where
  -- this octet
  given : ℕ → Piece (Unit {0})
  -- as many octets as these, whatever they are; these are written
  unread : List ℕ → Piece (Unit {0})
  -- an octet
  octet : Piece ℕ
  -- a number of so many octets, the highest first
  number : ℕ → Piece ℕ
  -- octets behind an octet with their count, from least to most of them
  counted : (least most : ℕ) → Piece (List ℕ)
  -- a number from least to most
  among : (least most : ℕ) → Piece ℕ → Piece ℕ
  -- a value behind this octet
  behind : {A : Type 0} → ℕ → Piece A → Piece A
  -- a value with this octet behind it
  before : {A : Type 0} → Piece A → ℕ → Piece A
  -- one behind the other
  also : {A B : Type 0} → Piece A → Piece B → Piece (A × B)

-- what is due inside a value: whatever it is, its element is told to be of wrong form
abbrev pub due : Refusal
due = truncated 0

-- ---- which octets stand for a value

-- a value with a property
abbrev pub Passes : {V : Type 0} → Type 0 → V → V → Type 0
Passes P v w = (w ≡ v) × P

unfoldable pub given_in : {E : Type 0} → E → ℕ → Field E (Unit {0})
given_in short wanted = formats.◌>>=◌ (octet_in short) (λ octet. meant (Passes (octet ≡ wanted) tt) short)

unfoldable pub piece_in : {A : Type 0} → Piece A → Field Refusal A
piece_in (given wanted) = given_in due wanted
piece_in (unread octets) = formats.◌>>=◌ (octets_in due (length octets)) (λ octets. just tt)
piece_in octet = octet_in due
piece_in (number n) = number_in due n
piece_in (counted least most) = formats.◌>>=◌ (counted_in due) (λ v. meant (Passes ((least ≤ length v) × (length v ≤ most)) v) due)
piece_in (among least most p) = formats.◌>>=◌ (piece_in p) (λ v. meant (Passes ((least ≤ v) × (v ≤ most)) v) due)
piece_in (behind wanted p) = formats.◌>>=◌ (given_in due wanted) (λ front. piece_in p)
piece_in (before p wanted) = formats.◌>>=◌ (piece_in p) (λ v. formats.◌>>=◌ (given_in due wanted) (λ back. just v))
piece_in (also p q) = formats.◌>>=◌ (piece_in p) (λ v. formats.◌>>=◌ (piece_in q) (λ w. just (v, w)))

-- ---- how it is read

-- a value that a test lets pass
abbrev pub passing : {V : Type 0} → Bool → V → Option V
passing true v = Some v
passing false v = None

unfoldable pub given_at : {E : Type 0} → E → ℕ → FieldReader E (Unit {0})
given_at short wanted = readings.◌>>=◌ (octet_at short) (λ octet. known (passing (octet == wanted) tt) short)

unfoldable pub piece_at : {A : Type 0} → Piece A → FieldReader Refusal A
piece_at (given wanted) = given_at due wanted
piece_at (unread octets) = readings.◌>>=◌ (octets_at due (length octets)) (λ octets. done tt)
piece_at octet = octet_at due
piece_at (number n) = number_at due n
piece_at (counted least most) = readings.◌>>=◌ (counted_at due) (λ v. known (passing (nat_le least (length v) && nat_le (length v) most) v) due)
piece_at (among least most p) = readings.◌>>=◌ (piece_at p) (λ v. known (passing (nat_le least v && nat_le v most) v) due)
piece_at (behind wanted p) = readings.◌>>=◌ (given_at due wanted) (λ front. piece_at p)
piece_at (before p wanted) = readings.◌>>=◌ (piece_at p) (λ v. readings.◌>>=◌ (given_at due wanted) (λ back. done v))
piece_at (also p q) = readings.◌>>=◌ (piece_at p) (λ v. readings.◌>>=◌ (piece_at q) (λ w. done (v, w)))

-- ---- which values can be written, and how

abbrev pub IsPiece : {A : Type 0} → Piece A → A → Type 0
IsPiece (given wanted) v = Unit {0}
IsPiece (unread octets) v = Unit {0}
IsPiece octet v = v < 256
IsPiece (number n) v = v < 256 ^ n
IsPiece (counted least most) v = (least ≤ length v) × (length v ≤ most)
IsPiece (among least most p) v = IsPiece p v × (least ≤ v) × (v ≤ most)
IsPiece (behind wanted p) v = IsPiece p v
IsPiece (before p wanted) v = IsPiece p v
IsPiece (also p q) v = IsPiece p v.0 × IsPiece q v.1

abbrev pub piece_run : {A : Type 0} → Piece A → A → List ℕ
piece_run (given wanted) v = wanted ∷ []
piece_run (unread octets) v = octets
piece_run octet v = v ∷ []
piece_run (number n) v = number_run n v
piece_run (counted least most) v = counted_run v
piece_run (among least most p) v = piece_run p v
piece_run (behind wanted p) v = wanted ∷ piece_run p v
piece_run (before p wanted) v = piece_run p v ++ wanted ∷ []
piece_run (also p q) v = piece_run p v.0 ++ piece_run q v.1

-- ---- the values of elements

abbrev pub value_read : {V : Type 0} → Read (List ℕ) Refusal V → Option V
value_read (Ok x) = Some x.0
value_read (Err e) = None

-- a piece that stands in front; what is behind it is not read
abbrev pub leading : {V : Type 0} → Piece V → Form V
leading p = record {
  Means = λ octets v. (rest : List ℕ) × (piece_in p).Stands octets v rest;
  decode = λ octets. value_read (piece_at p octets);
  IsValue = IsPiece p;
  run = piece_run p;
}

-- the end of the octets
abbrev pub end_in : {E : Type 0} → E → Field E (Unit {0})
end_in e = record { Stands = λ s v t. (s ≡ []) × (t ≡ []); Refuses = λ s x. (s ≡ [] → ⊥) × (x ≡ e) }

abbrev pub end_at : {E : Type 0} → E → FieldReader E (Unit {0})
end_at e [] = Ok (tt, [])
end_at e (o ∷ os) = Err e

-- a piece with nothing behind it
abbrev pub alone : {V : Type 0} → Piece V → Form V
alone p = record {
  Means = λ octets v. (piece_in p).Stands octets v [];
  decode = λ octets. value_read (readings.◌>>=◌ (piece_at p) (λ v. readings.◌>>=◌ (end_at due) (λ end. done v)) octets);
  IsValue = IsPiece p;
  run = piece_run p;
}
