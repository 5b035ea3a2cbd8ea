-- The table and its maps, as a row is added.
use Rattle.std.proofs.Common.{◌≡◌, ℕ, ◌+◌, ◌<◌, Bool, true, false, cond, eqb, nat_eq, nat_cmp, List, [], ◌∷◌, ◌++◌, length, map, Option, Some, None, is_some, refl, sym, ap, subst, ◌∙◌, inl, inr, arith, length-append}
use Rattle.std.specs.Prelude.{nat_lt, if◌then◌else◌, Result, Ok, Err, is_ok, OnOk, OnErr}
use Rattle.std.specs.Result.{is_err}
use Rattle.std.specs.Option.{option_or}
use Rattle.std.specs.List.{list_any, range_with_len, IsDistinct}
use Rattle.std.specs.Cmp.{nat_eq_equiv}
use Rattle.std.specs.BTreeMap.{BTreeMap, get, is_at, Updates}
use Rattle.std.proofs.lemmas.Bool.{cases_eq, eq-eqb, ne_eqb, eqb-false, ltb-true, or_parts, or_from}
use Rattle.std.proofs.lemmas.Bool.Decides.{nat_tests}
use Rattle.std.proofs.lemmas.List.{map-append}
use Rattle.std.proofs.lemmas.List.Elements.{All-nil, All-push}
use Rattle.std.proofs.lemmas.Map.Keys.{IsDistinct-push}
use Rattle.device_types.specs.declared.subscriber.Subscriber.{Subscriber}
use Rattle.device_types.specs.declared.subscriber.DeviceId.{DeviceId}
use Rattle.echo_base.specs.declared.reason.Reason.TheVariants.{RepeatedImsi, RepeatedTmsi, TableFull}
use Rattle.device_types.specs.Subscriber.{IsSubscriber}
use Rattle.subs_table.specs.Table.{IsTable, number_of, imsi_of, tmsi_of, device_of, device_by, has_key, add_refusal, most_rows}
use Rattle.subs_table.specs.Index.{IsIndex, IsIndexed}
use Rattle.subs_table.proofs.DeviceLaws.{at_first, at_other, nowhere, has_device}

-- what a clause says of a result that is no error, and of one that is
pub when_ok : {A E : Type 0} {P : Type 0} (r : Result A E) {b : Bool} → b ≡ is_err r → b ≡ false → OnOk r P → P
when_ok (Ok v) is test h = h
when_ok (Err e) is test h = cc

pub when_err : {A E : Type 0} {P : Type 0} (r : Result A E) {b : Bool} → b ≡ is_err r → b ≡ true → OnErr r P → P
when_err (Ok v) is test h = cc
when_err (Err e) is test h = h

-- what a push that stored its value leaves, behind a growth of the room
pub pushed : {X E : Type 0} (old grown new : List X) (x : X) (r : Result (Unit {0}) E) (u : Unit {0}) → r ≡ Ok u → grown ≡ old → new ≡ (if is_ok r then grown ++ x ∷ [] else grown) → new ≡ old ++ x ∷ []
pushed old grown new x r u ok kept e = rw (ok, kept) at e

none_from_test : {A : Type 0} (o : Option A) → is_some o ≡ false → o ≡ None
none_from_test None e = refl
none_from_test (Some x) e = cc

pub is_at_is : (a b : ℕ) → is_at (nat_cmp a) b ≡ eqb a b
is_at_is a b = grind (arith, nat_tests)

-- ---- no rows

no_table : IsTable []
unfolding IsDistinct
no_table = record { numbers = refl; most = omega arith; imsis = tt; tmsis = tt; ranges = All-nil IsSubscriber }

no_index : (key : Subscriber → ℕ) (m : BTreeMap ℕ DeviceId) → m.entries ≡ [] → IsIndex key [] m
unfolding device_by
no_index key m empty k = rw empty refl

pub nothing_indexed : (rows : List Subscriber) (imsis tmsis : BTreeMap ℕ DeviceId) → rows ≡ [] → imsis.entries ≡ [] → tmsis.entries ≡ [] → IsIndexed rows imsis tmsis
nothing_indexed rows imsis tmsis none m n =
    subst (λ rows. IsIndexed rows imsis tmsis) (sym none) (record { table = no_table; by_imsi = no_index imsi_of imsis m; by_tmsi = no_index tmsi_of tmsis n })

-- ---- a row that is not refused

pub record IsNew (rows : List Subscriber) (row : Subscriber) : Type 0 where
  pub imsi : has_key imsi_of rows row.imsi ≡ false
  pub tmsi : has_key tmsi_of rows row.tmsi ≡ false
  pub room : length rows < most_rows

accepted : (imsi tmsi room : Bool) → (if imsi then Some RepeatedImsi else if tmsi then Some RepeatedTmsi else if room then None else Some TableFull) ≡ None → (imsi ≡ false) × (tmsi ≡ false) × (room ≡ true)
accepted true tmsi room e = cc
accepted false true room e = cc
accepted false false true e = (refl, refl, refl)
accepted false false false e = cc

pub is_new : (rows : List Subscriber) (row : Subscriber) → add_refusal rows row ≡ None → IsNew rows row
unfolding add_refusal
is_new rows row e =
    let tests = accepted (has_key imsi_of rows row.imsi) (has_key tmsi_of rows row.tmsi) (nat_lt (length rows) most_rows) e in
    record { imsi = tests.0; tmsi = tests.1; room = ltb-true (length rows) most_rows tests.2 }

-- ---- one row more

more_numbers : (a : ℕ) (rows : List Subscriber) (row : Subscriber) → map number_of rows ≡ range_with_len a (length rows) → row.number ≡ a + length rows
    → map number_of (rows ++ row ∷ []) ≡ range_with_len a (length (rows ++ row ∷ []))
more_numbers a [] row numbers number = let here : row.number ≡ a = omega arith in ap (λ n. n ∷ []) here
more_numbers a (first ∷ rows) row numbers number =
    let here : first.number ≡ a = cc in
    let rest : map number_of rows ≡ range_with_len (a + 1) (length rows) = cc in
    let there = more_numbers (a + 1) rows row rest (omega arith) in cc

not_among : (key : Subscriber → ℕ) (rows : List Subscriber) (k : ℕ) → has_key key rows k ≡ false → list_any (nat_eq k) (map key rows) ≡ false
not_among key [] k e = refl
not_among key (row ∷ rows) k e =
    let parts = or_parts (eqb (key row) k) (has_key key rows k) e in
    or_from (eqb k (key row)) (list_any (nat_eq k) (map key rows)) (ne_eqb k (key row) (λ same. eqb-false (key row) k parts.0 (sym same))) (not_among key rows k parts.1)

more_keys : (key : Subscriber → ℕ) (rows : List Subscriber) (row : Subscriber) → IsDistinct nat_eq (map key rows) → has_key key rows (key row) ≡ false → IsDistinct nat_eq (map key (rows ++ row ∷ []))
more_keys key rows row distinct new =
    rw (map-append key rows (row ∷ [])) (IsDistinct-push nat_eq_equiv (map key rows) (key row) distinct (not_among key rows (key row) new))

more_rows : (rows : List Subscriber) (row : Subscriber) → IsTable rows → row.number ≡ length rows + 1 → IsSubscriber row → IsNew rows row → IsTable (rows ++ row ∷ [])
more_rows rows row table number ranges new = record {
  numbers = more_numbers 1 rows row table.numbers (omega (arith, number));
  most = omega (arith, length-append rows (row ∷ []), new.room);
  imsis = more_keys imsi_of rows row table.imsis new.imsi;
  tmsis = more_keys tmsi_of rows row table.tmsis new.tmsi;
  ranges = All-push IsSubscriber rows row table.ranges ranges;
}

device_push : (key : Subscriber → ℕ) (rows : List Subscriber) (row : Subscriber) (k : ℕ) → device_by key (rows ++ row ∷ []) k ≡ option_or (device_by key rows k) (cond (eqb (key row) k) (Some (device_of row)) None)
device_push key [] row k =
    elim (cases_eq (key row) k) [
      | inl same ↦ rw (at_first key row [] k same, nowhere key k, eq-eqb (key row) k same) refl
      | inr other ↦ rw (at_other key row [] k other, nowhere key k, ne_eqb (key row) k other) refl
    ]
device_push key (first ∷ rows) row k =
    elim (cases_eq (key first) k) [
      | inl same ↦ rw (at_first key first (rows ++ row ∷ []) k same, at_first key first rows k same) refl
      | inr other ↦ rw (at_other key first (rows ++ row ∷ []) k other, at_other key first rows k other) (device_push key rows row k)
    ]

no_device : (key : Subscriber → ℕ) (rows : List Subscriber) (k : ℕ) → has_key key rows k ≡ false → device_by key rows k ≡ None
no_device key rows k new = none_from_test (device_by key rows k) (has_device key rows k ∙ new)

or_none : (o : Option DeviceId) → option_or o None ≡ o
or_none None = refl
or_none (Some d) = refl

more_index : (key : Subscriber → ℕ) (rows : List Subscriber) (row : Subscriber) (m n : BTreeMap ℕ DeviceId) → IsIndex key rows m → has_key key rows (key row) ≡ false
    → ((q : ℕ) → get nat_cmp n q ≡ cond (is_at (nat_cmp (key row)) q) (Some (device_of row)) (get nat_cmp m q)) → IsIndex key (rows ++ row ∷ []) n
more_index key rows row m n index new insert k =
    insert k ∙ elim (cases_eq (key row) k) [
      | inl same ↦
          let none : device_by key rows k ≡ None = ap (device_by key rows) (sym same) ∙ no_device key rows (key row) new in
          rw (is_at_is (key row) k, eq-eqb (key row) k same, device_push key rows row k, none, eq-eqb (key row) k same) refl
      | inr other ↦
          rw (is_at_is (key row) k, ne_eqb (key row) k other, device_push key rows row k, ne_eqb (key row) k other, or_none (device_by key rows k)) (index k)
    ]

-- a row whose IMSI was put into the map, and taken out again
back_index : (key : Subscriber → ℕ) (rows : List Subscriber) (row : Subscriber) (m n back : BTreeMap ℕ DeviceId) → IsIndex key rows m → has_key key rows (key row) ≡ false
    → ((q : ℕ) → get nat_cmp n q ≡ cond (is_at (nat_cmp (key row)) q) (Some (device_of row)) (get nat_cmp m q))
    → ((q : ℕ) → get nat_cmp back q ≡ cond (is_at (nat_cmp (key row)) q) None (get nat_cmp n q)) → IsIndex key rows back
back_index key rows row m n back index new insert remove k =
    remove k ∙ elim (cases_eq (key row) k) [
      | inl same ↦
          let none : device_by key rows k ≡ None = ap (device_by key rows) (sym same) ∙ no_device key rows (key row) new in
          rw (is_at_is (key row) k, eq-eqb (key row) k same, none) refl
      | inr other ↦
          let kept = insert k in
          rw (is_at_is (key row) k, ne_eqb (key row) k other) (kept ∙ rw (is_at_is (key row) k, ne_eqb (key row) k other) (index k))
    ]

same_index : (key : Subscriber → ℕ) (rows : List Subscriber) (m n : BTreeMap ℕ DeviceId) → IsIndex key rows m → n.entries ≡ m.entries → IsIndex key rows n
same_index key rows m n index same k = rw same (index k)

pub back_indexed : (rows same : List Subscriber) (row : Subscriber) (m n m' back n' : BTreeMap ℕ DeviceId) → IsIndexed rows m n → same ≡ rows → add_refusal rows row ≡ None
    → Updates nat_cmp m m' row.imsi (Some (device_of row)) → Updates nat_cmp m' back row.imsi None → n'.entries ≡ n.entries → IsIndexed same back n'
back_indexed rows same row m n m' back n' indexed kept accepted insert remove unchanged =
    let new = is_new rows row accepted in
    subst (λ rows. IsIndexed rows back n') (sym kept) (record {
      table = indexed.table;
      by_imsi = back_index imsi_of rows row m m' back indexed.by_imsi new.imsi insert.0 remove.0;
      by_tmsi = same_index tmsi_of rows n n' indexed.by_tmsi unchanged;
    })

pub more_indexed : (rows all : List Subscriber) (row : Subscriber) (m n m' n' : BTreeMap ℕ DeviceId) → IsIndexed rows m n → all ≡ rows ++ row ∷ [] → row.number ≡ length rows + 1 → IsSubscriber row → add_refusal rows row ≡ None
    → Updates nat_cmp m m' row.imsi (Some (device_of row)) → Updates nat_cmp n n' row.tmsi (Some (device_of row)) → IsIndexed all m' n'
more_indexed rows all row m n m' n' indexed pushed number ranges accepted imsis tmsis =
    let new = is_new rows row accepted in
    subst (λ rows. IsIndexed rows m' n') (sym pushed) (record {
      table = more_rows rows row indexed.table number ranges new;
      by_imsi = more_index imsi_of rows row m m' indexed.by_imsi new.imsi imsis.0;
      by_tmsi = more_index tmsi_of rows row n n' indexed.by_tmsi new.tmsi tmsis.0;
    })
