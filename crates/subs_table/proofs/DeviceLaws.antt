-- Which device has a key.
use Rattle.std.proofs.Common.{◌≡◌, ◌≢◌, ◌↔◌, ℕ, zero, suc, ◌+◌, ◌-◌, ◌<◌, ◌≤◌, Bool, false, nat_eq, List, [], ◌∷◌, length, get_or, map, Option, Some, None, is_some, All, Any, refl, sym, ap, ◌∙◌, inl, inr, arith}
use Rattle.std.specs.Prelude.{slice_get, IsSomeAnd, IfSome}
use Rattle.std.specs.List.{range_with_len, IsDistinct, AllByRecursion}
use Rattle.std.proofs.lemmas.Bool.{cases_eq, eq-eqb, ne_eqb, eqb-false}
use Rattle.std.proofs.lemmas.Option.{slice_get_read, slice_get_within, get_or_from_slice_get}
use Rattle.std.proofs.lemmas.List.Elements.{All-nil, All-cons, All-head, All-tail}
use Rattle.device_types.specs.declared.subscriber.Subscriber.{Subscriber}
use Rattle.device_types.specs.declared.subscriber.DeviceId.{DeviceId}
use Rattle.subs_table.specs.Table.{number_of, RowHas, device_of, device_by, has_key}

-- ---- one row more in front

pub at_first : (key : Subscriber → ℕ) (row : Subscriber) (rows : List Subscriber) (k : ℕ) → key row ≡ k → device_by key (row ∷ rows) k ≡ Some (device_of row)
unfolding device_by
at_first key row rows k same = rw (eq-eqb (key row) k same) refl

pub at_other : (key : Subscriber → ℕ) (row : Subscriber) (rows : List Subscriber) (k : ℕ) → (key row ≡ k → ⊥) → device_by key (row ∷ rows) k ≡ device_by key rows k
unfolding device_by
at_other key row rows k other = rw (ne_eqb (key row) k other) refl

pub nowhere : (key : Subscriber → ℕ) (k : ℕ) → device_by key [] k ≡ None
unfolding device_by
nowhere key k = refl

Any-behind : {P : Subscriber → Type 0} (row : Subscriber) (rows : List Subscriber) → Any P rows → Any P (row ∷ rows)
Any-behind row rows h = (suc h.0, h.1, omega (arith, h.2), h.3, h.4)

-- a row has that number and that key
abbrev pub IsRowOf : (Subscriber → ℕ) → ℕ → DeviceId → Subscriber → Type 0
IsRowOf key k d row = (row.number ≡ d.0) × (key row ≡ k)

-- ---- where a device is found

pub device_found : (key : Subscriber → ℕ) (rows : List Subscriber) (k : ℕ) (d : DeviceId) → device_by key rows k ≡ Some d → Any (IsRowOf key k d) rows
device_found key [] k d e = let none = nowhere key k in cc
device_found key (row ∷ rows) k d e =
    elim (cases_eq (key row) k) [
      | inl same ↦
          let first = at_first key row rows k same in
          let device : device_of row ≡ d = cc in
          (zero, row, omega arith, refl, (ap (λ (x : DeviceId). x.0) device, same))
      | inr other ↦ Any-behind row rows (device_found key rows k d (sym (at_other key row rows k other) ∙ e))
    ]

apart_at : (test : ℕ → Bool) (key : Subscriber → ℕ) (rows : List Subscriber) (i : ℕ) (row : Subscriber) → AllByRecursion (λ y. test y ≡ false) (map key rows) → i < length rows → get_or rows i row ≡ row → test (key row) ≡ false
apart_at test key [] i row h within at = absurd (omega arith)
apart_at test key (first ∷ rows) zero row h within at = ap (λ x. test (key x)) (sym at) ∙ h.0
apart_at test key (first ∷ rows) (suc i) row h within at = apart_at test key rows i row h.1 (omega arith) at

pub device_only : (key : Subscriber → ℕ) (rows : List Subscriber) (k : ℕ) (d : DeviceId) → IsDistinct nat_eq (map key rows) → (i : ℕ) (row : Subscriber) → i < length rows → get_or rows i row ≡ row → IsRowOf key k d row → device_by key rows k ≡ Some d
unfolding IsDistinct
device_only key [] k d distinct i row within at is = absurd (omega arith)
device_only key (first ∷ rows) k d distinct zero row within at is =
    let same : key first ≡ k = ap key at ∙ is.1 in
    let number : first.number ≡ d.0 = ap (λ (x : Subscriber). x.number) at ∙ is.0 in
    let device : DeviceId → Option DeviceId = λ x. Some x in
    at_first key first rows k same ∙ ap (λ (n : ℕ). device (record { 0 = n })) number
device_only key (first ∷ rows) k d distinct (suc i) row within at is =
    let apart = apart_at (nat_eq (key first)) key rows i row distinct.0 (omega arith) at in
    let other : key first ≡ k → ⊥ = λ same. eqb-false (key first) (key row) apart (same ∙ sym is.1) in
    at_other key first rows k other ∙ device_only key rows k d distinct.1 i row (omega arith) at is

-- ---- where none is

none_all : (key : Subscriber → ℕ) (rows : List Subscriber) (k : ℕ) → device_by key rows k ≡ None → All (λ row. key row ≢ k) rows
none_all key [] k e = All-nil (λ row. key row ≢ k)
none_all key (row ∷ rows) k e =
    elim (cases_eq (key row) k) [
      | inl same ↦ let first = at_first key row rows k same in cc
      | inr other ↦ All-cons (λ row. key row ≢ k) row rows other (none_all key rows k (sym (at_other key row rows k other) ∙ e))
    ]

all_none : (key : Subscriber → ℕ) (rows : List Subscriber) (k : ℕ) → All (λ row. key row ≢ k) rows → device_by key rows k ≡ None
all_none key [] k h = nowhere key k
all_none key (row ∷ rows) k h =
    let other = All-head (λ row. key row ≢ k) row rows h in
    at_other key row rows k other ∙ all_none key rows k (All-tail (λ row. key row ≢ k) row rows h)

pub no_device_is : (key : Subscriber → ℕ) (rows : List Subscriber) (k : ℕ) (o : Option DeviceId) → o ≡ device_by key rows k → (o ≡ None) ↔ All (λ row. key row ≢ k) rows
no_device_is key rows k o is = (λ e. none_all key rows k (sym is ∙ e), λ h. is ∙ all_none key rows k h)

-- a device has the key exactly where a row has it
pub has_device : (key : Subscriber → ℕ) (rows : List Subscriber) (k : ℕ) → is_some (device_by key rows k) ≡ has_key key rows k
has_device key [] k = ap is_some (nowhere key k)
has_device key (row ∷ rows) k =
    elim (cases_eq (key row) k) [
      | inl same ↦ rw (at_first key row rows k same, eq-eqb (key row) k same) refl
      | inr other ↦ rw (at_other key row rows k other, ne_eqb (key row) k other) (has_device key rows k)
    ]

-- ---- the numbers

pub number_at : (rows : List Subscriber) (a : ℕ) → map number_of rows ≡ range_with_len a (length rows) → (k : ℕ) (row : Subscriber) → slice_get rows k ≡ Some row → row.number ≡ a + k
number_at [] a e k row at = cc
number_at (first ∷ rows) a e zero row at =
    let same : first ≡ row = cc in
    let number : first.number ≡ a = cc in
    let here : row.number ≡ first.number = ap (λ (x : Subscriber). x.number) (sym same) in omega arith
number_at (first ∷ rows) a e (suc k) row at =
    let rest : map number_of rows ≡ range_with_len (a + 1) (length rows) = cc in
    let there = number_at rows (a + 1) rest k row at in omega arith

pub number_here : (rows : List Subscriber) (d : ℕ) (row : Subscriber) → map number_of rows ≡ range_with_len 1 (length rows) → 1 ≤ d → d ≤ length rows → row ≡ get_or rows (d - 1) row → row.number ≡ d
number_here rows d row numbers least most at =
    let there = number_at rows 1 numbers (d - 1) row (slice_get_read rows (length rows) (d - 1) row refl (omega arith) at) in omega arith

-- ---- a device is found exactly where its row has the key

with_row : (o : Option Subscriber) (P : Subscriber → Type 0) → IsSomeAnd o P → (row : Subscriber) × (o ≡ Some row) × P row
with_row None P h = absurd h
with_row (Some row) P h = (row, refl, h)

from_row : (o : Option Subscriber) (P : Subscriber → Type 0) (row : Subscriber) → o ≡ Some row → P row → IsSomeAnd o P
from_row o P row e h = rw e h

row_found : (key : Subscriber → ℕ) (rows : List Subscriber) (k : ℕ) (d : DeviceId) → map number_of rows ≡ range_with_len 1 (length rows) → device_by key rows k ≡ Some d → RowHas rows d (λ row. key row ≡ k)
row_found key rows k d numbers e =
    let found = device_found key rows k d e in
    let at = slice_get_read rows (length rows) found.0 found.1 refl found.2 (sym found.3) in
    let number = number_at rows 1 numbers found.0 found.1 at in
    let place : d.0 - 1 ≡ found.0 = omega (arith, number, found.4.0) in
    (omega (arith, number, found.4.0), from_row (slice_get rows (d.0 - 1)) (λ row. key row ≡ k) found.1 (ap (slice_get rows) place ∙ at) found.4.1)

found_row : (key : Subscriber → ℕ) (rows : List Subscriber) (k : ℕ) (d : DeviceId) → map number_of rows ≡ range_with_len 1 (length rows) → IsDistinct nat_eq (map key rows) → RowHas rows d (λ row. key row ≡ k) → device_by key rows k ≡ Some d
found_row key rows k d numbers distinct h =
    let there = with_row (slice_get rows (d.0 - 1)) (λ row. key row ≡ k) h.1 in
    let number = number_at rows 1 numbers (d.0 - 1) there.0 there.1 in
    let least : 1 ≤ d.0 = h.0 in
    device_only key rows k d distinct (d.0 - 1) there.0 (slice_get_within rows (d.0 - 1) there.0 there.1) (get_or_from_slice_get rows (d.0 - 1) there.0 there.0 there.1) (omega arith, there.2)

pub device_is : (key : Subscriber → ℕ) (rows : List Subscriber) (k : ℕ) → map number_of rows ≡ range_with_len 1 (length rows) → IsDistinct nat_eq (map key rows) → (o : Option DeviceId) → o ≡ device_by key rows k
    → (d : DeviceId) → (o ≡ Some d) ↔ RowHas rows d (λ row. key row ≡ k)
device_is key rows k numbers distinct o is d = (λ e. row_found key rows k d numbers (sym is ∙ e), λ h. is ∙ found_row key rows k d numbers distinct h)

-- and it is a device of the table
pub device_within : (key : Subscriber → ℕ) (rows : List Subscriber) (k : ℕ) → map number_of rows ≡ range_with_len 1 (length rows) → (o : Option DeviceId) → o ≡ device_by key rows k → IfSome o (λ d. (1 ≤ d.0) × (d.0 ≤ length rows))
device_within key rows k numbers None is = tt
device_within key rows k numbers (Some d) is =
    let has = row_found key rows k d numbers (sym is) in
    let there = with_row (slice_get rows (d.0 - 1)) (λ row. key row ≡ k) has.1 in
    let within = slice_get_within rows (d.0 - 1) there.0 there.1 in
    (has.0, omega (arith, has.0, within))
