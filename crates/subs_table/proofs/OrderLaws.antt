-- The rows in the order of their IMSIs, and the map that has them.
use Rattle.std.proofs.Common.{◌≡◌, ℕ, ◌-◌, ◌<◌, ◌≤◌, false, ltb, eqb, nat_eq, nat_cmp, List, [], ◌∷◌, length, map, get_or, Some, None, refl, sym, ap, ◌∙◌, inl, inr, subst, arith}
use Rattle.std.specs.Prelude.{slice_get, All, Result, IfOk}
use Rattle.std.specs.declared.cmp.Ordering.TheVariants.{Less}
use Rattle.std.specs.List.{IsDistinct, AllByRecursion, range_with_len}
use Rattle.std.specs.List.Sorted.{IsStrictlySortedBy, IsStrictlyIncreasing, IsPermutation}
use Rattle.std.specs.Map.{lookup, keys_of, values_of}
use Rattle.std.specs.BTreeMap.{BTreeMap, is_at, IsOrdered}
use Rattle.std.proofs.lemmas.Bool.{cases_Bool, cases_eq, eq-eqb, ne_eqb, eqb-false, ltb-true, ltb-false}
use Rattle.std.proofs.lemmas.Bool.Decides.{nat_tests}
use Rattle.std.proofs.lemmas.Result.{IfOk-weaker}
use Rattle.std.proofs.lemmas.Option.{slice_get-get_or, same_Some}
use Rattle.std.proofs.lemmas.List.Elements.{All-head, All-tail, All-map}
use Rattle.std.proofs.lemmas.List.Sorted.{IsPermutation-refl, IsPermutation-cons, IsPermutation-middle, IsPermutation-trans, IsPermutation-map, All-permutation}
use Rattle.std.proofs.lemmas.Map.Keys.{IsStrictlyIncreasing-from_sorted}
use Rattle.device_types.specs.declared.subscriber.Subscriber.{Subscriber}
use Rattle.device_types.specs.declared.subscriber.DeviceId.{DeviceId}
use Rattle.subs_table.specs.Index.{IsIndex}
use Rattle.subs_table.specs.Order.{put, rows_by_imsi, devices_by_imsi, imsi_at}
use Rattle.subs_table.specs.Table.{number_of, imsi_of, device_of, device_by}
use Rattle.subs_table.proofs.DeviceLaws.{at_first, at_other, nowhere, number_at}
use Rattle.subs_table.proofs.IndexLaws.{is_at_is}

-- ---- each row once

put_moves : (row : Subscriber) (rows : List Subscriber) → IsPermutation (row ∷ rows) (put row rows)
put_moves row [] = IsPermutation-refl (row ∷ [])
put_moves row (other ∷ rows) = elim (cases_Bool (ltb row.imsi other.imsi)) [
  | inl t ↦ rw t (IsPermutation-refl (row ∷ other ∷ rows))
  | inr f ↦ rw f (IsPermutation-trans (row ∷ other ∷ rows) (other ∷ row ∷ rows) (other ∷ put row rows) (IsPermutation-middle (row ∷ []) other rows) (IsPermutation-cons other (row ∷ rows) (put row rows) (put_moves row rows)))
]

order_moves : (rows : List Subscriber) → IsPermutation rows (rows_by_imsi rows)
unfolding rows_by_imsi
order_moves [] = IsPermutation-refl []
order_moves (row ∷ rows) = IsPermutation-trans (row ∷ rows) (row ∷ rows_by_imsi rows) _ (IsPermutation-cons row rows (rows_by_imsi rows) (order_moves rows)) (put_moves row (rows_by_imsi rows))

-- ---- in order

all_put : (P : ℕ → Type 0) (row : Subscriber) (rows : List Subscriber) → P row.imsi → AllByRecursion P (map imsi_of rows) → AllByRecursion P (map imsi_of (put row rows))
all_put P row [] here all = (here, tt)
all_put P row (other ∷ rows) here all = elim (cases_Bool (ltb row.imsi other.imsi)) [
  | inl t ↦ rw t (here, all)
  | inr f ↦ rw f (all.0, all_put P row rows here all.1)
]

all_ordered : (P : ℕ → Type 0) (rows : List Subscriber) → AllByRecursion P (map imsi_of rows) → AllByRecursion P (map imsi_of (rows_by_imsi rows))
unfolding rows_by_imsi
all_ordered P [] all = tt
all_ordered P (row ∷ rows) all = all_put P row (rows_by_imsi rows) all.0 (all_ordered P rows all.1)

less : (a b : ℕ) → a < b → nat_cmp a b ≡ Less
less a b h = grind (arith, nat_tests)

below : (a b : ℕ) → nat_cmp a b ≡ Less → a < b
below a b h = grind (arith, nat_tests)

all_above : (a b : ℕ) (ks : List ℕ) → a < b → AllByRecursion (λ k. nat_cmp b k ≡ Less) ks → AllByRecursion (λ k. nat_cmp a k ≡ Less) ks
all_above a b [] lower all = tt
all_above a b (k ∷ ks) lower all = (less a k (omega (arith, lower, below b k all.0)), all_above a b ks lower all.1)

-- another IMSI than these
abbrev IsOther : Subscriber → List Subscriber → Type 0
IsOther row rows = AllByRecursion (λ k. nat_eq row.imsi k ≡ false) (map imsi_of rows)

put_sorted : (row : Subscriber) (rows : List Subscriber) → IsOther row rows → IsStrictlySortedBy nat_cmp (map imsi_of rows) → IsStrictlySortedBy nat_cmp (map imsi_of (put row rows))
unfolding IsStrictlySortedBy
put_sorted row [] other sorted = (tt, tt)
put_sorted row (first ∷ rows) other sorted = elim (cases_Bool (ltb row.imsi first.imsi)) [
  | inl t ↦
      let lower = ltb-true row.imsi first.imsi t in
      rw t ((less row.imsi first.imsi lower, all_above row.imsi first.imsi (map imsi_of rows) lower sorted.0), sorted)
  | inr f ↦
      let higher : first.imsi < row.imsi = omega (arith, ltb-false row.imsi first.imsi f, eqb-false row.imsi first.imsi other.0) in
      rw f (all_put (λ k. nat_cmp first.imsi k ≡ Less) row rows (less first.imsi row.imsi higher) sorted.0, put_sorted row rows other.1 sorted.1)
]

order_sorted : (rows : List Subscriber) → IsDistinct nat_eq (map imsi_of rows) → IsStrictlySortedBy nat_cmp (map imsi_of (rows_by_imsi rows))
unfolding rows_by_imsi IsDistinct IsStrictlySortedBy
order_sorted [] distinct = tt
order_sorted (row ∷ rows) distinct = put_sorted row (rows_by_imsi rows) (all_ordered (λ k. nat_eq row.imsi k ≡ false) rows distinct.0) (order_sorted rows distinct.1)

-- ---- the same devices

one_more : (row : Subscriber) (rows some : List Subscriber) (k : ℕ) → device_by imsi_of rows k ≡ device_by imsi_of some k → device_by imsi_of (row ∷ rows) k ≡ device_by imsi_of (row ∷ some) k
one_more row rows some k same = elim (cases_eq row.imsi k) [
  | inl here ↦ at_first imsi_of row rows k here ∙ sym (at_first imsi_of row some k here)
  | inr apart ↦ at_other imsi_of row rows k apart ∙ same ∙ sym (at_other imsi_of row some k apart)
]

swapped : (row other : Subscriber) (rows : List Subscriber) (k : ℕ) → nat_eq row.imsi other.imsi ≡ false → device_by imsi_of (other ∷ row ∷ rows) k ≡ device_by imsi_of (row ∷ other ∷ rows) k
swapped row other rows k apart = elim (cases_eq row.imsi k) [
  | inl here ↦
      let not : other.imsi ≡ k → ⊥ = λ there. eqb-false row.imsi other.imsi apart (here ∙ sym there) in
      at_other imsi_of other (row ∷ rows) k not ∙ at_first imsi_of row rows k here ∙ sym (at_first imsi_of row (other ∷ rows) k here)
  | inr elsewhere ↦ one_more other (row ∷ rows) rows k (at_other imsi_of row rows k elsewhere) ∙ sym (at_other imsi_of row (other ∷ rows) k elsewhere)
]

device_put : (row : Subscriber) (rows : List Subscriber) (k : ℕ) → IsOther row rows → device_by imsi_of (put row rows) k ≡ device_by imsi_of (row ∷ rows) k
device_put row [] k other = refl
device_put row (first ∷ rows) k other = elim (cases_Bool (ltb row.imsi first.imsi)) [
  | inl t ↦ rw t refl
  | inr f ↦ rw f (one_more first (put row rows) (row ∷ rows) k (device_put row rows k other.1) ∙ swapped row first rows k other.0)
]

device_ordered : (rows : List Subscriber) (k : ℕ) → IsDistinct nat_eq (map imsi_of rows) → device_by imsi_of (rows_by_imsi rows) k ≡ device_by imsi_of rows k
unfolding rows_by_imsi IsDistinct
device_ordered [] k distinct = refl
device_ordered (row ∷ rows) k distinct =
    device_put row (rows_by_imsi rows) k (all_ordered (λ k. nat_eq row.imsi k ≡ false) rows distinct.0) ∙ one_more row (rows_by_imsi rows) rows k (device_ordered rows k distinct.1)

-- ---- the map from the IMSIs

entries_of : List Subscriber → List (ℕ × DeviceId)
entries_of [] = []
entries_of (row ∷ rows) = (row.imsi, device_of row) ∷ entries_of rows

keys_are : (rows : List Subscriber) → keys_of (entries_of rows) ≡ map imsi_of rows
unfolding entries_of
keys_are [] = refl
keys_are (row ∷ rows) = ap (λ (ks : List ℕ). row.imsi ∷ ks) (keys_are rows)

values_are : (rows : List Subscriber) → values_of (entries_of rows) ≡ map device_of rows
unfolding entries_of
values_are [] = refl
values_are (row ∷ rows) = ap (λ (ds : List DeviceId). device_of row ∷ ds) (values_are rows)

found_by : (rows : List Subscriber) (k : ℕ) → lookup (is_at (nat_cmp k)) (entries_of rows) ≡ device_by imsi_of rows k
unfolding entries_of
found_by [] k = sym (nowhere imsi_of k)
found_by (row ∷ rows) k = elim (cases_eq row.imsi k) [
  | inl here ↦ rw (is_at_is k row.imsi, eq-eqb k row.imsi (sym here), at_first imsi_of row rows k here) refl
  | inr apart ↦ rw (is_at_is k row.imsi, ne_eqb k row.imsi (λ same. apart (sym same)), at_other imsi_of row rows k apart) (found_by rows k)
]

-- a key that is found stands above what each key stands above
above_found : (a k : ℕ) (es : List (ℕ × DeviceId)) (d : DeviceId) → AllByRecursion (λ q. nat_cmp a q ≡ Less) (keys_of es) → lookup (is_at (nat_cmp k)) es ≡ Some d → a < k
above_found a k [] d all found = absurd cc
above_found a k (e ∷ es) d all found = elim (cases_eq k e.0) [
  | inl same ↦ omega (arith, below a e.0 all.0, same)
  | inr apart ↦ above_found a k es d all.1 (rw (is_at_is k e.0, ne_eqb k e.0 apart) at found)
]

first_found : (e : ℕ × DeviceId) (es : List (ℕ × DeviceId)) → lookup (is_at (nat_cmp e.0)) (e ∷ es) ≡ Some e.1
first_found e es = rw (is_at_is e.0 e.0, eq-eqb e.0 e.0 refl) refl

later_found : (e : ℕ × DeviceId) (es : List (ℕ × DeviceId)) (k : ℕ) → (k ≡ e.0 → ⊥) → lookup (is_at (nat_cmp k)) (e ∷ es) ≡ lookup (is_at (nat_cmp k)) es
later_found e es k apart = rw (is_at_is k e.0, ne_eqb k e.0 apart) refl

-- no later key is as low as the first of another list where that is found
not_above : (e f : ℕ × DeviceId) (fs : List (ℕ × DeviceId)) → AllByRecursion (λ q. nat_cmp f.0 q ≡ Less) (keys_of fs) → lookup (is_at (nat_cmp e.0)) (f ∷ fs) ≡ Some e.1 → f.0 ≤ e.0
not_above e f fs all found = elim (cases_eq e.0 f.0) [
  | inl same ↦ omega arith
  | inr apart ↦ omega (arith, above_found f.0 e.0 fs e.1 all (sym (later_found f fs e.0 apart) ∙ found))
]

nothing_found : (a : ℕ) (es : List (ℕ × DeviceId)) → AllByRecursion (λ q. nat_cmp a q ≡ Less) (keys_of es) → lookup (is_at (nat_cmp a)) es ≡ None
nothing_found a [] all = refl
nothing_found a (e ∷ es) all =
    later_found e es a (λ same. (let lower = below a e.0 all.0 in omega (arith, lower, same))) ∙ nothing_found a es all.1

same_value : (e f : ℕ × DeviceId) (es fs : List (ℕ × DeviceId)) → e.0 ≡ f.0 → lookup (is_at (nat_cmp e.0)) (e ∷ es) ≡ lookup (is_at (nat_cmp e.0)) (f ∷ fs) → e.1 ≡ f.1
same_value e f es fs key same =
    let one = first_found e es in
    let other : lookup (is_at (nat_cmp e.0)) (f ∷ fs) ≡ Some f.1 = ap (λ (k : ℕ). lookup (is_at (nat_cmp k)) (f ∷ fs)) key ∙ first_found f fs in
    same_Some e.1 f.1 (sym one ∙ same ∙ other)

-- behind first entries with the same key
later_same : (e f : ℕ × DeviceId) (es fs : List (ℕ × DeviceId)) → e.0 ≡ f.0 → AllByRecursion (λ q. nat_cmp e.0 q ≡ Less) (keys_of es) → AllByRecursion (λ q. nat_cmp f.0 q ≡ Less) (keys_of fs)
    → ((k : ℕ) → lookup (is_at (nat_cmp k)) (e ∷ es) ≡ lookup (is_at (nat_cmp k)) (f ∷ fs)) → (k : ℕ) → lookup (is_at (nat_cmp k)) es ≡ lookup (is_at (nat_cmp k)) fs
later_same e f es fs key s t same k = elim (cases_eq k e.0) [
  | inl at ↦
      let one : lookup (is_at (nat_cmp k)) es ≡ None = rw at (nothing_found e.0 es s) in
      let other : lookup (is_at (nat_cmp k)) fs ≡ None = rw (at, key) (nothing_found f.0 fs t) in
      cc
  | inr apart ↦
      let one = later_found e es k apart in
      let other = later_found f fs k (λ at. apart (at ∙ sym key)) in
      let both = same k in
      cc
]

-- entries in order are told by what is found in them
same_entries : (es fs : List (ℕ × DeviceId)) → IsStrictlySortedBy nat_cmp (keys_of es) → IsStrictlySortedBy nat_cmp (keys_of fs) → ((k : ℕ) → lookup (is_at (nat_cmp k)) es ≡ lookup (is_at (nat_cmp k)) fs) → es ≡ fs
unfolding IsStrictlySortedBy
same_entries [] [] s t same = refl
same_entries [] (f ∷ fs) s t same = (let none = same f.0 ∙ first_found f fs in absurd cc)
same_entries (e ∷ es) [] s t same = (let none = sym (same e.0) ∙ first_found e es in absurd cc)
same_entries (e ∷ es) (f ∷ fs) s t same =
    let key : e.0 ≡ f.0 = omega (arith, not_above e f fs t.0 (sym (same e.0) ∙ first_found e es), not_above f e es s.0 (same f.0 ∙ first_found f fs)) in
    let value : e.1 ≡ f.1 = same_value e f es fs key (same e.0) in
    let rest = same_entries es fs s.1 t.1 (later_same e f es fs key s.0 t.0 same) in
    λ i. (key i, value i) ∷ rest i

-- the map that has the device of each row has them in this order
pub values_ordered : (rows : List Subscriber) (imsis : BTreeMap ℕ DeviceId) → IsOrdered nat_cmp imsis → IsDistinct nat_eq (map imsi_of rows) → IsIndex imsi_of rows imsis → values_of imsis.entries ≡ devices_by_imsi rows
values_ordered rows imsis ordered distinct index =
    let ours = entries_of (rows_by_imsi rows) in
    let sorted = subst (IsStrictlySortedBy nat_cmp) (sym (keys_are (rows_by_imsi rows))) (order_sorted rows distinct) in
    let same = same_entries imsis.entries ours ordered sorted (λ k. index k ∙ sym (found_by (rows_by_imsi rows) k ∙ device_ordered rows k distinct)) in
    ap values_of same ∙ values_are (rows_by_imsi rows)

-- ---- what the order says

-- the row stands where its number says
abbrev IsAtNumber : List Subscriber → Subscriber → Type 0
IsAtNumber rows row = (slice_get rows (row.number - 1) ≡ Some row) × (1 ≤ row.number) × (row.number ≤ length rows)

numbered : (rows : List Subscriber) → map number_of rows ≡ range_with_len 1 (length rows) → All (IsAtNumber rows) rows
numbered rows numbers k d within =
    let at = slice_get-get_or rows k d within in
    let number = number_at rows 1 numbers k (get_or rows k d) at in
    let place : (get_or rows k d).number - 1 ≡ k = omega (arith, number) in
    (ap (slice_get rows) place ∙ at, omega (arith, number), omega (arith, number, within))

ordered_rows : (rows : List Subscriber) → map number_of rows ≡ range_with_len 1 (length rows) → All (IsAtNumber rows) (rows_by_imsi rows)
ordered_rows rows numbers = All-permutation (IsAtNumber rows) rows (rows_by_imsi rows) (order_moves rows) (numbered rows numbers)

imsis_are : (rows some : List Subscriber) → All (IsAtNumber rows) some → map (imsi_at rows) (map device_of some) ≡ map imsi_of some
imsis_are rows [] all = refl
imsis_are rows (row ∷ some) all = rw (All-head (IsAtNumber rows) row some all).0 (ap (λ (ks : List ℕ). row.imsi ∷ ks) (imsis_are rows some (All-tail (IsAtNumber rows) row some all)))

pub imsis_increase : (rows : List Subscriber) → map number_of rows ≡ range_with_len 1 (length rows) → IsDistinct nat_eq (map imsi_of rows) → IsStrictlyIncreasing (map (imsi_at rows) (devices_by_imsi rows))
imsis_increase rows numbers distinct =
    subst IsStrictlyIncreasing (sym (imsis_are rows (rows_by_imsi rows) (ordered_rows rows numbers))) (IsStrictlyIncreasing-from_sorted (map imsi_of (rows_by_imsi rows)) (order_sorted rows distinct))

pub each_once : (rows : List Subscriber) → IsPermutation (map device_of rows) (devices_by_imsi rows)
each_once rows = IsPermutation-map device_of rows (rows_by_imsi rows) (order_moves rows)

pub devices_within : (rows : List Subscriber) → map number_of rows ≡ range_with_len 1 (length rows) → All (λ d. (1 ≤ d.0) × (d.0 ≤ length rows)) (devices_by_imsi rows)
devices_within rows numbers = All-map (λ (d : DeviceId). (1 ≤ d.0) × (d.0 ≤ length rows)) device_of (rows_by_imsi rows) (λ k d within. (let at = ordered_rows rows numbers k d within in (at.1, at.2)))

-- what holds of a list holds of what is equal to it
pub when_is : {A E : Type 0} (r : Result A E) (items : A → List DeviceId) (P : List DeviceId → Type 0) (devices : List DeviceId) → IfOk r (λ v. items v ≡ devices) → P devices → IfOk r (λ v. P (items v))
when_is r items P devices is p = IfOk-weaker r (λ v. items v ≡ devices) (λ v. P (items v)) (λ v e. subst P (sym e) p) is
