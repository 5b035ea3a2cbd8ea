-- Shards: their rows by device, and the rows of a store of them.
use Rattle.std.proofs.Common.{◌≡◌, ℕ, zero, suc, ◌+◌, ◌-◌, ◌≤◌, ◌<◌, Bool, true, false, cond, ⊎_elim, List, [], ◌∷◌, ◌++◌, length, set, get_or, replicate, Some, IsSome, refl, sym, ap, ◌∙◌, subst, arith, length-set, length-append, get_or-set_same, get_or-set_other}
use Rattle.std.specs.Prelude.{OnErr, Result, Ok, Err}
use Rattle.std.specs.BTreeMap.{BTreeMap, is_at, Updates}
use Rattle.std.specs.Cmp.{IsEquivalence}
use Rattle.std.specs.Option.{unwrap_or}
use Rattle.std.specs.Ordering.{nat_cmp, eq_by_cmp}
use Rattle.std.proofs.lemmas.Bool.{cases_eq, cases_lt, eq-eqb, ne_eqb, eqb-true}
use Rattle.std.proofs.lemmas.Cmp.{eq_by_cmp_equiv, nat_cmp_total}
use Rattle.std.proofs.lemmas.List.{get_or_default, get_or-replicate, length-replicate, set-get_or}
use Rattle.std.proofs.lemmas.List.FromFn.{length-map-range_with_len, get_or-map-range_with_len, fill_by_all}
use Rattle.std.proofs.lemmas.Map.{lookup-set_value}
use Rattle.std.proofs.lemmas.Nat.{mod_below}
use Rattle.device_types.specs.declared.step.Entry.{Entry}
use Rattle.session_row.specs.Row.{RowState}
use Rattle.subs_table.proofs.IndexLaws.{is_at_is}
use Rattle.session_store.specs.Charter.{CharterState, IsCharter}
use Rattle.session_store.specs.Law.{IsLawful}
use Rattle.session_store.specs.Rows.{StoreState, IsDevice, opening_row, row_of, AreLawful}
use Rattle.session_store.specs.Shards.{shard_count, shard_of, ShardState, IsHere, find_row, row_in, journal_in, with_row, AreLawfulHere, IsOpening, IsShard, no_shard, shard_at, stored_row, stored_rows, IsShardOf, AreShards, IsStore, AreOpened}
use Rattle.session_store.proofs.Rows.{set_lawful}

-- ---- one shard

at_itself : (d : ℕ) → is_at (nat_cmp d) d ≡ true
at_itself d = is_at_is d d ∙ eq-eqb d d refl

at_other : (d q : ℕ) → (d ≡ q → ⊥) → is_at (nat_cmp d) q ≡ false
at_other d q ne = is_at_is d q ∙ ne_eqb d q ne

find_with : (rows : List (ℕ × RowState)) (d q : ℕ) (row : RowState) → IsSome (find_row rows d) → find_row (with_row rows d row) q ≡ cond (is_at (nat_cmp d) q) (Some row) (find_row rows q)
find_with rows d q row has =
    let laws : IsEquivalence (eq_by_cmp nat_cmp) = eq_by_cmp_equiv nat_cmp_total in
    lookup-set_value laws (is_at (nat_cmp d)) (λ x y t. laws.congr d x y t) q row rows has

-- the row that was put there
pub find_same : (rows : List (ℕ × RowState)) (d : ℕ) (row : RowState) → IsSome (find_row rows d) → find_row (with_row rows d row) d ≡ Some row
find_same rows d row has = find_with rows d d row has ∙ ap (λ b. cond b (Some row) (find_row rows d)) (at_itself d)

other_by : (e : ℕ × RowState) (es : List (ℕ × RowState)) (d q : ℕ) (row : RowState) (b : Bool) → is_at (nat_cmp d) e.0 ≡ b → (d ≡ q → ⊥) → find_row (with_row es d row) q ≡ find_row es q
    → find_row (cond b ((e.0, row) ∷ es) (e ∷ with_row es d row)) q ≡ cond (is_at (nat_cmp q) e.0) (Some e.1) (find_row es q)
other_by e es d q row true is ne rest =
    let same : d ≡ e.0 = eqb-true d e.0 (sym (is_at_is d e.0) ∙ is) in
    let apart : is_at (nat_cmp q) e.0 ≡ false = at_other q e.0 (λ x. ne (same ∙ sym x)) in
    ap (λ b. cond b (Some row) (find_row es q)) apart ∙ sym (ap (λ b. cond b (Some e.1) (find_row es q)) apart)
other_by e es d q row false is ne rest = ap (λ o. cond (is_at (nat_cmp q) e.0) (Some e.1) o) rest

find_other : (rows : List (ℕ × RowState)) (d q : ℕ) (row : RowState) → (d ≡ q → ⊥) → find_row (with_row rows d row) q ≡ find_row rows q
find_other [] d q row ne = refl
find_other (e ∷ es) d q row ne = other_by e es d q row (is_at (nat_cmp d) e.0) refl ne (find_other es d q row ne)

pub in_same : (rows : List (ℕ × RowState)) (d : ℕ) (row : RowState) → IsSome (find_row rows d) → row_in (with_row rows d row) d ≡ row
in_same rows d row has = ap (λ o. unwrap_or o opening_row) (find_same rows d row has)

pub in_other : (rows : List (ℕ × RowState)) (d q : ℕ) (row : RowState) → (d ≡ q → ⊥) → row_in (with_row rows d row) q ≡ row_in rows q
in_other rows d q row ne = ap (λ o. unwrap_or o opening_row) (find_other rows d q row ne)

-- a row that was found
pub found : (rows : List (ℕ × RowState)) (d : ℕ) (row : RowState) → Some row ≡ find_row rows d → row_in rows d ≡ row
found rows d row e = sym (ap (λ o. unwrap_or o opening_row) e)

-- the shard with another lawful row for one of its devices
pub stays_shard : (follows : ℕ → List Entry → Entry → Type 0) (shard : ShardState) (d : ℕ) (row : RowState) → IsShard follows shard → IsHere shard d → IsLawful (follows d) row.journal → IsShard follows (record shard { rows = with_row shard.rows d row })
stays_shard follows shard d row is here lawful =
    let has = (is.rows d).1 here in record {
      in_form = is.in_form;
      rows = λ q. ⊎_elim
          (λ (e : d ≡ q). (
            λ h. subst (IsHere shard) e here,
            λ h. subst (λ (n : ℕ). IsSome (find_row (with_row shard.rows d row) n)) e (subst IsSome (sym (find_same shard.rows d row has)) refl),
          ))
          (λ (ne : d ≡ q → ⊥). let same = find_other shard.rows d q row ne in (λ h. (is.rows q).0 (subst IsSome same h), λ h. subst IsSome (sym same) ((is.rows q).1 h)))
          (cases_eq d q);
      lawful = λ q h. ⊎_elim
          (λ (e : d ≡ q).
          subst (λ (n : ℕ). IsLawful (follows n) (journal_in (with_row shard.rows d row) n)) e
          (subst (λ (r : RowState). IsLawful (follows d) r.journal) (sym (in_same shard.rows d row has)) lawful))
          (λ (ne : d ≡ q → ⊥). subst (λ (r : RowState). IsLawful (follows q) r.journal) (sym (in_other shard.rows d q row ne)) (is.lawful q h))
          (cases_eq d q);
    }

-- a row that was never seen, for one device more of the shard
pub opened_more : (m n : BTreeMap ℕ RowState) (i number : ℕ) → ((d : ℕ) → IsDevice i d → shard_of d ≡ number → find_row m.entries d ≡ Some opening_row) → Updates nat_cmp m n (i + 1) (Some opening_row) → (d : ℕ) → IsDevice (i + 1) d → shard_of d ≡ number → find_row n.entries d ≡ Some opening_row
opened_more m n i number before u d is lies = ⊎_elim
    (λ (e : i + 1 ≡ d). u.0 d ∙ ap (λ b. cond b (Some opening_row) (find_row m.entries d)) (ap (λ j. is_at (nat_cmp j) d) e ∙ at_itself d))
    (λ (ne : i + 1 ≡ d → ⊥).
    let most = is.1 in
    u.0 d ∙ ap (λ b. cond b (Some opening_row) (find_row m.entries d)) (at_other (i + 1) d ne) ∙ before d (is.0, omega (arith, most, ne)) lies)
    (cases_eq (i + 1) d)

pub opened_same : (m : BTreeMap ℕ RowState) (i number : ℕ) → ((d : ℕ) → IsDevice i d → shard_of d ≡ number → find_row m.entries d ≡ Some opening_row) → (shard_of (i + 1) ≡ number → ⊥) → (d : ℕ) → IsDevice (i + 1) d → shard_of d ≡ number → find_row m.entries d ≡ Some opening_row
opened_same m i number before apart d is lies =
    let most = is.1 in
    let other : d ≡ i + 1 → ⊥ = λ e. apart (ap shard_of (sym e) ∙ lies) in
    before d (is.0, omega (arith, most, other)) lies

pub owned_same : (m : BTreeMap ℕ RowState) (i number : ℕ) → ((d : ℕ) → IsSome (find_row m.entries d) → IsDevice i d × (shard_of d ≡ number)) → (d : ℕ) → IsSome (find_row m.entries d) → IsDevice (i + 1) d × (shard_of d ≡ number)
owned_same m i number before d has =
    let was = before d has in
    let most = was.0.1 in
    ((was.0.0, omega (arith, most)), was.1)

-- the devices that have a row, with one device more of the shard
pub owned_more : (m n : BTreeMap ℕ RowState) (i number : ℕ) → ((d : ℕ) → IsSome (find_row m.entries d) → IsDevice i d × (shard_of d ≡ number)) → shard_of (i + 1) ≡ number → Updates nat_cmp m n (i + 1) (Some opening_row) → (d : ℕ) → IsSome (find_row n.entries d) → IsDevice (i + 1) d × (shard_of d ≡ number)
owned_more m n i number before lies u d has = ⊎_elim
    (λ (e : i + 1 ≡ d). ((omega (arith, e), omega (arith, e)), ap shard_of (sym e) ∙ lies))
    (λ (ne : i + 1 ≡ d → ⊥).
    let same : find_row n.entries d ≡ find_row m.entries d = u.0 d ∙ ap (λ b. cond b (Some opening_row) (find_row m.entries d)) (at_other (i + 1) d ne) in
    owned_same m i number before d (subst IsSome same has))
    (cases_eq (i + 1) d)

-- ---- the rows of a store

pub shard_within : (d : ℕ) → shard_of d < shard_count
shard_within d = mod_below d shard_count (omega arith)

pub rows_count : (shards : List ShardState) (n : ℕ) → length (stored_rows shards n) ≡ n
rows_count shards n = length-map-range_with_len (λ i. stored_row shards (i + 1)) 0 n

pub row_stored : (shards : List ShardState) (n d : ℕ) → IsDevice n d → row_of (stored_rows shards n) d ≡ stored_row shards d
row_stored shards n d is =
    let least = is.0 in
    let most = is.1 in
    let place : d - 1 + 1 ≡ d = omega (arith, least) in
    get_or-map-range_with_len (λ i. stored_row shards (i + 1)) 0 n (d - 1) (d - 1) opening_row (omega (arith, least, most)) (omega arith) ∙ ap (stored_row shards) place

-- the row of a device, in the shard at the place of its number
pub row_placed : (shards : List ShardState) (n d : ℕ) (shard : ShardState) → IsDevice n d → shard_at shards (shard_of d) ≡ shard → row_in shard.rows d ≡ row_of (stored_rows shards n) d
row_placed shards n d shard is at = ap (λ (s : ShardState). row_in s.rows d) (sym at) ∙ sym (row_stored shards n d is)

-- a device of the store lies in the shard of its number
pub is_here : (charter : CharterState) (shards : List ShardState) (n d : ℕ) (shard : ShardState) → AreShards charter n shards → IsDevice n d → shard_at shards (shard_of d) ≡ shard → IsHere shard d
is_here charter shards n d shard are is at =
    let placed = subst (IsShardOf charter n (shard_of d)) at (are.each (shard_of d) (shard_within d)) in
    (subst (λ (m : ℕ). IsDevice m d) (sym placed.among) is, sym placed.placed)

-- the shard that is borrowed is that of the device
pub shard_is : (charter : CharterState) (n d k : ℕ) (shards : List ShardState) (shard : ShardState) → AreShards charter n shards → k ≡ shard_of d → shard ≡ get_or shards k shard → shard_at shards (shard_of d) ≡ shard
shard_is charter n d k shards shard are e at =
    let within = shard_within d in
    let count = are.count in
    get_or_default shards (shard_of d) no_shard shard (omega (arith, within, count)) ∙ ap (λ i. get_or shards i shard) (sym e) ∙ sym at

pub shard_placed : (charter : CharterState) (n d : ℕ) (shards : List ShardState) (shard : ShardState) → AreShards charter n shards → shard_at shards (shard_of d) ≡ shard → IsShardOf charter n (shard_of d) shard
shard_placed charter n d shards shard are at = subst (IsShardOf charter n (shard_of d)) at (are.each (shard_of d) (shard_within d))

-- a device of a store of these shards
pub device_in : (shards : List ShardState) (n d : ℕ) (rows : List RowState) → stored_rows shards n ≡ rows → IsDevice (length rows) d → IsDevice n d
device_in shards n d rows e is = subst (λ (m : ℕ). IsDevice m d) (ap length (sym e) ∙ rows_count shards n) is

-- the row of the device, with another shard in the place of its own
pub row_set : (charter : CharterState) (n d : ℕ) (shards : List ShardState) (shard : ShardState) → AreShards charter n shards → IsDevice n d → row_of (stored_rows (set shards (shard_of d) shard) n) d ≡ row_in shard.rows d
row_set charter n d shards shard are is =
    let within = shard_within d in
    let count = are.count in
    sym (row_placed (set shards (shard_of d) shard) n d shard is (get_or-set_same shards (shard_of d) shard no_shard (omega (arith, count, within))))

-- the shard put back
pub same_set : (charter : CharterState) (n d : ℕ) (shards : List ShardState) (was now : ShardState) → AreShards charter n shards → shard_at shards (shard_of d) ≡ was → now ≡ was → set shards (shard_of d) now ≡ shards
same_set charter n d shards was now are at e = ap (set shards (shard_of d)) (e ∙ sym at) ∙ set-get_or shards (shard_of d) no_shard

pub on_err : {A E : Type 0} (P Q : Type 0) (r : Result A E) → (P → Q) → OnErr r P → OnErr r Q
on_err P Q (Ok x) f h = tt
on_err P Q (Err e) f h = f h

-- another shard at the place of one, with the same charter, number and devices
pub shards_set : (charter : CharterState) (n k : ℕ) (shards : List ShardState) (shard : ShardState) → AreShards charter n shards → k < shard_count → IsShardOf charter n k shard → AreShards charter n (set shards k shard)
shards_set charter n k shards shard are within is =
    let count = are.count in record {
      count = length-set shards k shard ∙ are.count;
      each = λ i below. ⊎_elim
          (λ (e : i ≡ k). subst (λ (j : ℕ). IsShardOf charter n j (shard_at (set shards k shard) j)) (sym e)
          (subst (IsShardOf charter n k) (sym (get_or-set_same shards k shard no_shard (omega (arith, count, within)))) is))
          (λ (ne : i ≡ k → ⊥). subst (IsShardOf charter n i) (sym (get_or-set_other shards k i shard no_shard ne)) (are.each i below))
          (cases_eq i k);
    }

-- with another row for device d in its shard
row_there : (shards : List ShardState) (n d i : ℕ) (shard : ShardState) (row : RowState) → length shards ≡ shard_count → row_in shard.rows d ≡ row → shard.rows ≡ with_row (shard_at shards (shard_of d)).rows d row
    → (d ≡ i → stored_row (set shards (shard_of d) shard) i ≡ row) × ((d ≡ i → ⊥) → stored_row (set shards (shard_of d) shard) i ≡ stored_row shards i)
row_there shards n d i shard row count has new =
    let k = shard_of d in
    let was = shard_at shards k in
    let within = shard_within d in
    let at : shard_at (set shards k shard) k ≡ shard = get_or-set_same shards k shard no_shard (omega (arith, count, within)) in (
      λ e.
          subst (λ (j : ℕ). stored_row (set shards k shard) j ≡ row) e
          (ap (λ (s : ShardState). row_in s.rows d) at ∙ has),
      λ ne. ⊎_elim
          (λ (e : shard_of i ≡ k).
          ap (λ j. row_in (shard_at (set shards k shard) j).rows i) e
          ∙ ap (λ (s : ShardState). row_in s.rows i) at
          ∙ ap (λ rows. row_in rows i) new
          ∙ in_other was.rows d i row ne
          ∙ ap (λ j. row_in (shard_at shards j).rows i) (sym e))
          (λ (apart : shard_of i ≡ k → ⊥). ap (λ (s : ShardState). row_in s.rows i) (get_or-set_other shards k (shard_of i) shard no_shard apart))
          (cases_eq (shard_of i) k),
    )

pub rows_set : (shards : List ShardState) (n d : ℕ) (shard : ShardState) (row : RowState) → length shards ≡ shard_count → IsDevice n d → row_in shard.rows d ≡ row → shard.rows ≡ with_row (shard_at shards (shard_of d)).rows d row → stored_rows (set shards (shard_of d) shard) n ≡ set (stored_rows shards n) (d - 1) row
rows_set shards n d shard row count is has new =
    let all = stored_rows shards n in
    let least = is.0 in
    let most = is.1 in
    let long : length all ≡ n = rows_count shards n in
    sym (fill_by_all (λ i. stored_row (set shards (shard_of d) shard) (i + 1)) (set all (d - 1) row) n opening_row (length-set all (d - 1) row ∙ long)
    (λ i below. let there = row_there shards n d (i + 1) shard row count has new in
    ⊎_elim
    (λ (e : i ≡ d - 1).
    let same : d ≡ i + 1 = omega (arith, e, least) in
    ap (λ j. get_or (set all (d - 1) row) j opening_row) e ∙ get_or-set_same all (d - 1) row opening_row (omega (arith, long, least, most)) ∙ sym (there.0 same))
    (λ (ne : i ≡ d - 1 → ⊥).
    let apart : d ≡ i + 1 → ⊥ = λ e. ne (omega (arith, e)) in
    get_or-set_other all (d - 1) i row opening_row ne ∙ get_or-map-range_with_len (λ j. stored_row shards (j + 1)) 0 n i i opening_row below (omega arith) ∙ sym (there.1 apart))
    (cases_eq i (d - 1))))

-- the store with another lawful row for one of its devices
pub stays_store : (follows : ℕ → List Entry → Entry → Type 0) (charter : CharterState) (n d : ℕ) (shards : List ShardState) (was now : ShardState) (row : RowState) → IsStore follows charter n shards → IsDevice n d → shard_at shards (shard_of d) ≡ was → row_in now.rows d ≡ row → now ≡ record was { rows = with_row was.rows d row } → IsLawful (follows d) row.journal
    → IsStore follows charter n (set shards (shard_of d) now) × (stored_rows (set shards (shard_of d) now) n ≡ set (stored_rows shards n) (d - 1) row)
stays_store follows charter n d shards was now row is device at has new lawful =
    let k = shard_of d in
    let placed = subst (IsShardOf charter n k) at (is.placed.each k (shard_within d)) in
    let long : length (stored_rows shards n) ≡ n = rows_count shards n in
    let rows : stored_rows (set shards k now) n ≡ set (stored_rows shards n) (d - 1) row =
    rows_set shards n d now row is.placed.count device has
    (ap (λ (s : ShardState). s.rows) new ∙ ap (λ (s : ShardState). with_row s.rows d row) (sym at)) in
    let here : IsDevice (length (stored_rows shards n)) d = subst (λ (m : ℕ). IsDevice m d) (sym long) device in (
      record {
        in_form = is.in_form;
        placed = shards_set charter n k shards now is.placed (shard_within d) (rw new (record { under = placed.under; placed = placed.placed; among = placed.among }));
        lawful = subst (AreLawful follows) (sym rows) (set_lawful follows (stored_rows shards n) d row is.lawful here lawful);
      },
      rows,
    )

-- the shard of device d, of a store that is seen so
pub record IsShardIn (charter : CharterState) (n d : ℕ) (shards : List ShardState) (shard : ShardState) (store : StoreState) : Type 0 where
  pub at : shard_at shards (shard_of d) ≡ shard
  pub device : IsDevice n d
  pub here : IsHere shard d
  pub own : IsShardOf charter n (shard_of d) shard
  pub under : shard.charter ≡ store.charter
  pub row : row_in shard.rows d ≡ row_of store.rows d

-- the shard that is borrowed
pub shard_in : {charter : CharterState} {n d k reads : ℕ} {shards : List ShardState} {shard : ShardState} {store : StoreState} → AreShards charter n shards → record { charter = charter; rows = stored_rows shards n; reads = reads } ≡ store → IsDevice (length store.rows) d → k ≡ shard_of d → shard ≡ get_or shards k shard → IsShardIn charter n d shards shard store
shard_in {charter} {n} {d} {k} {reads} {shards} {shard} {store} are view is e value =
    let at = shard_is charter n d k shards shard are e value in
    let device = device_in shards n d store.rows (ap (λ (s : StoreState). s.rows) view) is in
    let own = shard_placed charter n d shards shard are at in record {
      at = at;
      device = device;
      here = is_here charter shards n d shard are device at;
      own = own;
      under = own.under ∙ ap (λ (s : StoreState). s.charter) view;
      row = row_placed shards n d shard device at ∙ ap (λ (s : StoreState). row_of s.rows d) view;
    }

-- the store with that shard put back, which has another lawful row for the device
pub put_back : (follows : CharterState → ℕ → List Entry → Entry → Type 0) → {charter : CharterState} {n d : ℕ} {shards : List ShardState} {was now : ShardState} {store : StoreState} {row : RowState} → IsStore (follows charter) charter n shards → IsShardIn charter n d shards was store → row_in now.rows d ≡ row → now ≡ record was { rows = with_row was.rows d row } → AreLawfulHere (follows now.charter) now
    → IsStore (follows charter) charter n (set shards (shard_of d) now) × (stored_rows (set shards (shard_of d) now) n ≡ set (stored_rows shards n) (d - 1) row)
put_back follows {charter} {n} {d} {shards} {was} {now} {store} {row} is own has new lawful =
    let same : now.charter ≡ charter = ap (λ (s : ShardState). s.charter) new ∙ own.own.under in
    let lies = subst (λ (s : ShardState). IsHere s d) (sym new) own.here in
    let there = subst (λ (x : CharterState). IsLawful (follows x d) (journal_in now.rows d)) same (lawful d lies) in
    stays_store (follows charter) charter n d shards was now row is own.device own.at has new (subst (λ (r : RowState). IsLawful (follows charter d) r.journal) has there)

-- ---- a store before any call

pub none_opened : (charter : CharterState) (devices : ℕ) (shards : List ShardState) → shards ≡ [] → AreOpened charter devices 0 shards
none_opened charter devices shards e = record { count = ap length e; each = λ number below. absurd (omega (arith, below)) }

last_of : (shards : List ShardState) (shard : ShardState) → shard_at (shards ++ shard ∷ []) (length shards) ≡ shard
last_of [] shard = refl
last_of (s ∷ ss) shard = last_of ss shard

before_last : (shards : List ShardState) (shard : ShardState) (i : ℕ) → i < length shards → shard_at (shards ++ shard ∷ []) i ≡ shard_at shards i
before_last [] shard i below = absurd (omega (arith, below))
before_last (s ∷ ss) shard zero below = refl
before_last (s ∷ ss) shard (suc i) below = before_last ss shard i (omega (arith, below))

pub one_opened : (charter : CharterState) (devices n : ℕ) (shards all : List ShardState) (shard : ShardState) → AreOpened charter devices n shards → IsShardOf charter devices n shard → IsOpening shard → all ≡ shards ++ shard ∷ [] → AreOpened charter devices (n + 1) all
one_opened charter devices n shards all shard o is opening e =
    let long = o.count in
    rw e (record {
      count = length-append shards (shard ∷ []) ∙ omega (arith, long);
      each = λ i below. ⊎_elim
          (λ (less : i < n). subst (λ (s : ShardState). IsShardOf charter devices i s × IsOpening s) (sym (before_last shards shard i (omega (arith, less, long)))) (o.each i less))
          (λ (past : n ≤ i).
          let place : i ≡ length shards = omega (arith, past, below, long) in
          let same : i ≡ n = omega (arith, past, below) in
          let at : shard_at (shards ++ shard ∷ []) i ≡ shard = ap (shard_at (shards ++ shard ∷ [])) place ∙ last_of shards shard in
          subst (λ (s : ShardState). IsShardOf charter devices i s × IsOpening s) (sym at) (subst (λ (j : ℕ). IsShardOf charter devices j shard) (sym same) is, opening))
          (cases_lt i n);
    })

pub are_shards : (charter : CharterState) (devices : ℕ) (shards : List ShardState) → AreOpened charter devices shard_count shards → AreShards charter devices shards
are_shards charter devices shards o = record { count = o.count; each = λ number below. (o.each number below).0 }

opened_row : (charter : CharterState) (devices d : ℕ) (shards : List ShardState) → AreOpened charter devices shard_count shards → IsDevice devices d → stored_row shards d ≡ opening_row
opened_row charter devices d shards o is =
    let k = shard_of d in
    (o.each k (shard_within d)).1 d (is_here charter shards devices d (shard_at shards k) (are_shards charter devices shards o) is refl)

pub opened_rows : (charter : CharterState) (devices : ℕ) (shards : List ShardState) → AreOpened charter devices shard_count shards → stored_rows shards devices ≡ replicate devices opening_row
opened_rows charter devices shards o =
    sym (fill_by_all (λ i. stored_row shards (i + 1)) (replicate devices opening_row) devices opening_row (length-replicate devices opening_row)
    (λ i below. get_or-replicate devices i opening_row opening_row below ∙ sym (opened_row charter devices (i + 1) shards o (omega arith, omega (arith, below)))))

lawful_nothing : (follows : List Entry → Entry → Type 0) → IsLawful follows []
lawful_nothing follows v entry g = absurd (cc)

pub opened_store : (follows : ℕ → List Entry → Entry → Type 0) (charter : CharterState) (devices : ℕ) (shards : List ShardState) → IsCharter charter → AreOpened charter devices shard_count shards → IsStore follows charter devices shards
opened_store follows charter devices shards in_form o = record {
  in_form = in_form;
  placed = are_shards charter devices shards o;
  lawful = λ d is.
      let device : IsDevice devices d = subst (λ (m : ℕ). IsDevice m d) (rows_count shards devices) is in
      subst (λ (r : RowState). IsLawful (follows d) r.journal) (sym (row_stored shards devices d device ∙ opened_row charter devices d shards o device)) (lawful_nothing (follows d));
}
