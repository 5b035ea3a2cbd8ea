-- Tables of fields of octets: each row is a part of a value, with its octets and its range. Which octets spell the value, how they are read, which refusal is due and which values are in range follow from the table.
use Rattle.std.specs.Prelude.{◌≡◌, ◌⊎◌, ℕ, zero, suc, ◌+◌, ◌-◌, ◌^◌, ◌<◌, ◌≤◌, ◌==◌, ◌&&◌, nat_lt, nat_le, Bool, true, List, [], ◌++◌, length, take, drop, map, slice_get, Option, Some, None, Ok, Err, if◌then◌else◌}
use Rattle.std.specs.List.{range_with_len}
use Rattle.std.proofs.Common.{inl, inr}
use Rattle.byteorder.specs.Endian.{big_number, big_bytes}
use Rattle.echo_base.specs.declared.reason.Reason.TheVariants as reasons
use Rattle.echo_base.specs.declared.refusal.Refusal.{Refusal}
use Rattle.echo_base.specs.Format as formats
use Rattle.echo_base.specs.Format.{just, meant}
use Rattle.echo_base.specs.Reading as readings
use Rattle.echo_base.specs.Reading.{done, known}
use Rattle.device_types.specs.Octets.{AreOctets}

-- ---- where a reading stands

-- the place of the next octet, from 0, and the octets that are left
pub record Input : Type 0 where
  pub place : ℕ
  pub left : List ℕ

-- behind n octets more
abbrev pub behind : ℕ → Input → Input
behind n at = record { place = at.place + n; left = drop n at.left }

-- the refusal at the next octet
abbrev pub bad : Input → Refusal
bad at = record { reason = reasons.BadSession; place = at.place }

abbrev pub Format : Type 0 → Type 1
Format A = formats.Format Input Refusal A

abbrev pub Reader : Type 0 → Type 0
Reader A = readings.Reader Input Refusal A

-- ---- values that stand for numbers

-- which value stands for which number
pub data Code : Type 0 → Type 1 where
  -- numbers, as they are
  plain : Code ℕ
  -- one number, which says nothing
  only : ℕ → Code (Unit {0})
  -- the numbers of another, from k on
  from : {A : Type 0} → ℕ → Code A → Code A
  -- the values of a list, from 0 in their order
  listed : {A : Type 0} (values : List A) (place : A → ℕ) → ((a : A) → slice_get values (place a) ≡ Some a) → map place values ≡ range_with_len 0 (length values) → Code A

abbrev pub number_of : {A : Type 0} → Code A → A → ℕ
number_of plain v = v
number_of (only k) v = k
number_of (from k code) v = k + number_of code v
number_of (listed values place each places) v = place v

-- the value that stands for a number, if any
abbrev pub value_of : {A : Type 0} → Code A → ℕ → Option A
value_of plain n = Some n
value_of (only k) n = if n == k then Some tt else None
value_of (from k code) n = if nat_le k n then value_of code (n - k) else None
value_of (listed values place each places) n = slice_get values n

-- ---- fields

-- values of two types that are the same but for names
pub record Same (A B : Type 0) : Type 0 where
  pub make : A → B
  pub parts : B → A
  pub back : (a : A) → parts (make a) ≡ a
  pub again : (b : B) → make (parts b) ≡ b

-- a number of n octets can be that
abbrev pub is_most : ℕ → ℕ → Bool
is_most n most = nat_lt most (256 ^ n)

pub data Field : Type 0 → Type 1 where
  -- a value by its number in n octets, the highest first, from least to most
  number : {A : Type 0} → Code A → (n least most : ℕ) → is_most n most ≡ true → Field A
  -- no octets: always the same value
  always : {A : Type 0} → A → Field A
  -- n octets
  octets : ℕ → Field (List ℕ)
  -- octets behind an octet that says how many they are, at most so many
  counted : (most : ℕ) → is_most 1 most ≡ true → Field (List ℕ)
  -- an octet of 0 and the first behind it, or an octet of 1 and the second
  either : {A B : Type 0} → Field A → Field B → Field (A ⊎ B)
  -- one behind another
  also : {A B : Type 0} → Field A → Field B → Field (A × B)
  -- one behind another, whose octets depend on it
  on : {A B : Type 0} → Field A → (A → Field B) → Field (A × B)
  -- the same with other names
  named : {A B : Type 0} → Same A B → Field A → Field B

-- ---- tables

-- a row: a part of a value, and how it is spelled
pub record Row (S A : Type 0) : Type 1 where
  pub part : S → A
  pub field : Field A

-- the rows of a table in order; A are the parts, a pair of the first and the others
infixr 10 ◌▸◌
pub data Rows : Type 0 → Type 0 → Type 1 where
  last : {S A : Type 0} → Row S A → Rows S A
  ◌▸◌ : {S A B : Type 0} → Row S A → Rows S B → Rows S (A × B)

-- the parts of a value
abbrev pub parts_of : {S A : Type 0} → Rows S A → S → A
parts_of (last r) s = r.part s
parts_of (r ▸ rows) s = (r.part s, parts_of rows s)

-- the fields one behind another
abbrev pub fields_of : {S A : Type 0} → Rows S A → Field A
fields_of (last r) = r.field
fields_of (r ▸ rows) = also r.field (fields_of rows)

-- rows as one row
abbrev pub section : {S A : Type 0} → Rows S A → Row S A
section rows = record { part = parts_of rows; field = fields_of rows }

-- a function of the parts, one after another
abbrev pub Taking : {S A : Type 0} → Rows S A → Type 0 → Type 0
Taking (last {S} {A} r) T = A → T
Taking (◌▸◌ {S} {A} r rows) T = A → Taking rows T

-- what it makes of them
abbrev pub taken : {S A T : Type 0} → (rows : Rows S A) → Taking rows T → A → T
taken (last r) make parts = make parts
taken (r ▸ rows) make parts = taken rows (make parts.0) parts.1

-- a value and the parts that it is made of
pub record Table (S : Type 0) : Type 1 where
  pub Parts : Type 0
  pub rows : Rows S Parts
  pub make : Taking rows S
  pub back : (parts : Parts) → parts_of rows (taken rows make parts) ≡ parts
  pub again : (s : S) → taken rows make (parts_of rows s) ≡ s

-- a table as one field
abbrev pub whole : {S : Type 0} → Table S → Field S
whole t = named (record { make = taken t.rows t.make; parts = parts_of t.rows; back = t.back; again = t.again }) (fields_of t.rows)

-- ---- which octets spell a value, and which refusal is due

-- n octets
abbrev pub octets_in : ℕ → Format (List ℕ)
octets_in n = record {
  Stands = λ at v rest. (at.left ≡ v ++ rest.left) × (length v ≡ n) × (rest.place ≡ at.place + n);
  Refuses = λ at e. (length at.left < n) × (e ≡ bad at);
}

-- what is refused where it begins
abbrev pub from_here : {A : Type 0} → (Input → Format A) → Format A
from_here F = record { Stands = λ at v rest. (F at).Stands at v rest; Refuses = λ at e. (F at).Refuses at e }

-- a number that stands for this value, from least to most
abbrev pub IsNumberOf : {A : Type 0} → Code A → ℕ → ℕ → ℕ → A → Type 0
IsNumberOf code least most n v = (n ≡ number_of code v) × (least ≤ n) × (n ≤ most)

unfoldable pub number_in : {A : Type 0} → Code A → ℕ → ℕ → ℕ → Format A
number_in code n least most = from_here (λ at. formats.◌>>=◌ (octets_in n) (λ os. meant (IsNumberOf code least most (big_number n os)) (bad at)))

-- which of two stands behind it
abbrev pub choice_in : {A B : Type 0} → Format A → Format B → ℕ → Format (A ⊎ B)
choice_in F G zero = formats.◌>>=◌ F (λ a. just (inl a))
choice_in F G (suc n) = formats.◌>>=◌ G (λ b. just (inr b))

unfoldable pub format : {A : Type 0} → Field A → Format A
format (number code n least most fits) = number_in code n least most
format (always a) = just a
format (octets n) = octets_in n
format (counted most fits) = formats.◌>>=◌ (number_in plain 1 0 most) octets_in
format (either p q) = formats.◌>>=◌ (number_in plain 1 0 1) (choice_in (format p) (format q))
format (also p q) = formats.◌>>=◌ (format p) (λ a. formats.◌>>=◌ (format q) (λ b. just (a, b)))
format (on p q) = formats.◌>>=◌ (format p) (λ a. formats.◌>>=◌ (format (q a)) (λ b. just (a, b)))
format (named same p) = formats.◌>>=◌ (format p) (λ a. just (same.make a))

-- nothing is left
abbrev pub end_in : Format (Unit {0})
end_in = record {
  Stands = λ at v rest. (at.left ≡ []) × (at ≡ rest);
  Refuses = λ at e. (0 < length at.left) × (e ≡ bad at);
}

-- a value, and nothing behind it
unfoldable pub format_alone : {A : Type 0} → Field A → Format A
format_alone p = formats.◌>>=◌ (format p) (λ a. formats.◌>>=◌ end_in (λ end. just a))

-- ---- the same from left to right

unfoldable pub octets_at : ℕ → Reader (List ℕ)
octets_at n at = if nat_lt (length at.left) n then Err (bad at) else Ok (take n at.left, behind n at)

-- a number from least to most
unfoldable pub number_at : ℕ → ℕ → ℕ → Reader ℕ
number_at n least most at = readings.◌>>=◌ (octets_at n) (λ os. known (if nat_le least (big_number n os) && nat_le (big_number n os) most then Some (big_number n os) else None) (bad at)) at

-- the value of a number
unfoldable pub value_at : {A : Type 0} → Code A → ℕ → ℕ → ℕ → Reader A
value_at code n least most at = readings.◌>>=◌ (number_at n least most) (λ k. known (value_of code k) (bad at)) at

abbrev pub choice_at : {A B : Type 0} → Reader A → Reader B → ℕ → Reader (A ⊎ B)
choice_at f g zero = readings.◌>>=◌ f (λ a. done (inl a))
choice_at f g (suc n) = readings.◌>>=◌ g (λ b. done (inr b))

-- octets behind their count
abbrev pub counted_at : ℕ → Reader (List ℕ)
counted_at most = readings.◌>>=◌ (number_at 1 0 most) octets_at

unfoldable pub reading : {A : Type 0} → Field A → Reader A
reading (number code n least most fits) = value_at code n least most
reading (always a) = done a
reading (octets n) = octets_at n
reading (counted most fits) = counted_at most
reading (either p q) = readings.◌>>=◌ (number_at 1 0 1) (choice_at (reading p) (reading q))
reading (also p q) = readings.◌>>=◌ (reading p) (λ a. readings.◌>>=◌ (reading q) (λ b. done (a, b)))
reading (on p q) = readings.◌>>=◌ (reading p) (λ a. readings.◌>>=◌ (reading (q a)) (λ b. done (a, b)))
reading (named same p) = readings.◌>>=◌ (reading p) (λ a. done (same.make a))

unfoldable pub end_at : Reader (Unit {0})
end_at at = if nat_lt 0 (length at.left) then Err (bad at) else Ok (tt, at)

unfoldable pub reading_alone : {A : Type 0} → Field A → Reader A
reading_alone p = readings.◌>>=◌ (reading p) (λ a. readings.◌>>=◌ end_at (λ end. done a))

-- ---- the one run of octets that is written for a value

-- a number in n octets
unfoldable pub number_run : ℕ → ℕ → List ℕ
number_run n v = big_bytes n v

unfoldable pub run : {A : Type 0} → Field A → A → List ℕ
run (number code n least most fits) v = number_run n (number_of code v)
run (always a) v = []
run (octets n) v = v
run (counted most fits) v = number_run 1 (length v) ++ v
run (either p q) (inl a) = number_run 1 0 ++ run p a
run (either p q) (inr b) = number_run 1 1 ++ run q b
run (also p q) v = run p v.0 ++ run q v.1
run (on p q) v = run p v.0 ++ run (q v.0) v.1
run (named same p) v = run p (same.parts v)

-- what stands in front of it, and behind that the run
unfoldable pub written_onto : {A : Type 0} → Field A → A → List ℕ → List ℕ
written_onto (number code n least most fits) v front = front ++ number_run n (number_of code v)
written_onto (always a) v front = front
written_onto (octets n) v front = front ++ v
written_onto (counted most fits) v front = (front ++ number_run 1 (length v)) ++ v
written_onto (either p q) (inl a) front = written_onto p a (front ++ number_run 1 0)
written_onto (either p q) (inr b) front = written_onto q b (front ++ number_run 1 1)
written_onto (also p q) v front = written_onto q v.1 (written_onto p v.0 front)
written_onto (on p q) v front = written_onto (q v.0) v.1 (written_onto p v.0 front)
written_onto (named same p) v front = written_onto p (same.parts v) front

-- ---- a value in its range

abbrev pub InRange : {A : Type 0} → Field A → A → Type 0
InRange (number code n least most fits) v = (least ≤ number_of code v) × (number_of code v ≤ most)
InRange (always a) v = v ≡ a
InRange (octets n) v = (length v ≡ n) × AreOctets v
InRange (counted most fits) v = (length v ≤ most) × AreOctets v
InRange (either p q) (inl a) = InRange p a
InRange (either p q) (inr b) = InRange q b
InRange (also p q) v = InRange p v.0 × InRange q v.1
InRange (on p q) v = InRange p v.0 × InRange (q v.0) v.1
InRange (named same p) v = InRange p (same.parts v)
