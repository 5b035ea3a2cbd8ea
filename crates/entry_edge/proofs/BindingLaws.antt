-- The map and the places, as a message is admitted.
use Rattle.std.proofs.Common.{◌≡◌, ◌≢◌, ℕ, ◌-◌, ◌<◌, ◌≤◌, Bool, true, false, ◌⊎◌, cond, ◌&&◌, eqb, nat_cmp, List, ◌∷◌, length, get_or, Option, Some, None, refl, sym, ap, subst, ◌∙◌, inl, inr, arith}
use Rattle.std.specs.Prelude.{Result, Ok, Err, IfSome, if◌then◌else◌}
use Rattle.std.specs.Ordering.{is_eq, ordering_then}
use Rattle.std.specs.declared.cmp.Ordering.{Ordering}
use Rattle.std.specs.declared.cmp.Ordering.TheVariants.{Less, Equal, Greater}
use Rattle.std.specs.BTreeMap.{BTreeMap, get, is_at, Updates}
use Rattle.std.proofs.Math.ListN.{set, length-set}
use Rattle.std.proofs.lemmas.Bool.{cases_Bool, cases_eq, eqb-true}
use Rattle.std.proofs.lemmas.Bool.Decides.{nat_tests}
use Rattle.std.proofs.lemmas.List.{get_or-set_same, get_or-set_other}
use Rattle.echo_base.specs.declared.reason.Reason.TheVariants.{UnknownPair}
use Rattle.echo_base.specs.declared.refusal.Refusal.{Refusal}
use Rattle.echo_base.specs.Answer.{refused}
use Rattle.device_types.specs.declared.subscriber.DeviceId.{DeviceId}
use Rattle.device_types.specs.Numbers.{IsWithin}
use Rattle.entry_edge.specs.declared.sent.Claim.{Claim}
use Rattle.entry_edge.specs.declared.sent.Claim.TheVariants.{Numbered, Noticed}
use Rattle.entry_edge.specs.declared.check.Taken.{Taken}
use Rattle.entry_edge.specs.declared.bindings.Bindings.{Bindings}
use Rattle.entry_edge.specs.Trace.{Turn, Admitted, Pair, pair_of, same_pair, is_named, binds, frees, left_by, opened, is_there, if_there, bound, agreed}
use Rattle.entry_edge.specs.Bound.{without, bound_after}
use Rattle.entry_edge.specs.Kept.{pair_cmp, is_device, AreRows, left, Keeps}
use Rattle.entry_edge.proofs.StepLaws.{one_pair, there, bound_step}

is_at_is : (a b : ℕ) → is_at (nat_cmp a) b ≡ eqb a b
is_at_is a b = grind (arith, nat_tests)

is_eq_then : (a b : Ordering) → is_eq (ordering_then a b) ≡ (is_eq a && is_eq b)
is_eq_then Less b = refl
is_eq_then Equal b = refl
is_eq_then Greater b = refl

pair_at : (p q : Pair) → is_at (pair_cmp p) q ≡ same_pair p q
pair_at p q = is_eq_then (nat_cmp p.0 q.0) (nat_cmp p.1 q.1) ∙ rw (is_at_is p.0 q.0, is_at_is p.1 q.1) refl

-- ---- the device of a pair

-- a device that has the pair is the one that opened it last
opener : (pair : Pair) (H : List Turn) (o : Option DeviceId) (d : ℕ) → is_device d (if_there pair H o) ≡ true → is_device d o ≡ true
opener pair H o d e = grind arith

bound_opener : (rows : ℕ) (H : List Turn) (b : Bindings) (pair : Pair) (d : ℕ) → Keeps rows H b → is_device d (bound pair H) ≡ true → is_device d (get pair_cmp b.opened pair) ≡ true
unfolding bound
bound_opener rows H b pair d k e = rw (k.opened pair) (opener pair H (opened pair H) d e)

of_rows : (rows : ℕ) (o : Option DeviceId) (d : ℕ) → IfSome o (λ x. IsWithin rows x.0) → is_device d o ≡ true → IsWithin rows d
of_rows rows None d row e = absurd (cc e)
of_rows rows (Some x) d row e = subst (λ (n : ℕ). IsWithin rows n) (eqb-true x.0 d e) row

pub bound_within : (rows : ℕ) (H : List Turn) (b : Bindings) (pair : Pair) (d : ℕ) → Keeps rows H b → is_device d (bound pair H) ≡ true → IsWithin rows d
bound_within rows H b pair d k e = of_rows rows (get pair_cmp b.opened pair) d (k.within pair) (bound_opener rows H b pair d k e)

-- no pair is bound to what is no row
pub beyond : (rows : ℕ) (H : List Turn) (b : Bindings) (pair : Pair) (d : ℕ) → Keeps rows H b → (IsWithin rows d → ⊥) → false ≡ is_device d (bound pair H)
beyond rows H b pair d k past =
    elim (cases_Bool (is_device d (bound pair H))) [
      | inl y ↦ absurd (past (bound_within rows H b pair d k y))
      | inr n ↦ sym n
    ]

pub agreed_on : (pair : Pair) (d : DeviceId) (o : Option DeviceId) → is_device d.0 o ≡ true → Ok d ≡ agreed pair d.0 o
agreed_on pair d None e = absurd (cc e)
agreed_on pair d (Some x) e = rw e (ap (λ (n : ℕ). let told : Result DeviceId Refusal = Ok (record { 0 = n }) in told) (sym (eqb-true x.0 d.0 e)))

pub not_agreed : (pair : Pair) (d : ℕ) (o : Option DeviceId) → is_device d o ≡ false → Err (refused (UnknownPair pair.0 pair.1)) ≡ agreed pair d o
not_agreed pair d o e = grind arith

-- ---- the places without a pair

left_read : (pair : Pair) (o : Option DeviceId) (d : ℕ) (places : List (Option Pair)) → IfSome o (λ x. IsWithin (length places) x.0) → 1 ≤ d → get_or (left pair o places) (d - 1) None ≡ (if is_device d o && is_there pair (get_or places (d - 1) None) then None else get_or places (d - 1) None)
left_read pair None d places row at = refl
left_read pair (Some x) d places row at = grind (arith, nat_tests, cases_eq x.0 d, get_or-set_same places (x.0 - 1) None None, get_or-set_other places (x.0 - 1) (d - 1) None None)

pub rows_there : (rows : ℕ) (H : List Turn) (b : Bindings) → Keeps rows H b → AreRows (length b.places.items) b.opened
rows_there rows H b k pair = subst (λ (n : ℕ). IfSome (get pair_cmp b.opened pair) (λ d. IsWithin n d.0)) (sym k.count) (k.within pair)

length_left : (pair : Pair) (o : Option DeviceId) (places : List (Option Pair)) → length (left pair o places) ≡ length places
length_left pair None places = refl
length_left pair (Some x) places = grind (arith, length-set places (x.0 - 1) None)

-- the pair has no device then
gone : (p : Pair) (x : Option Pair) (m y : Bool) → is_there p x ≡ y → (y ≡ true → m ≡ true) → is_there p (if m && y then None else x) ≡ false
gone p x m y test on = grind arith

-- and any other pair has the one that it had
stays : (p q : Pair) (x : Option Pair) (m y : Bool) → is_there p x ≡ y → same_pair p q ≡ false → is_there q (if m && y then None else x) ≡ is_there q x
stays p q x m y test other = grind (arith, there p x)

left_on : (rows : ℕ) (H : List Turn) (b : Bindings) (p q : Pair) (d : ℕ) (s : Bool) → Keeps rows H b → IsWithin rows d → same_pair p q ≡ s → is_there q (if is_device d (get pair_cmp b.opened p) && is_there p (get_or b.places.items (d - 1) None) then None else get_or b.places.items (d - 1) None) ≡ (if s then false else is_device d (bound q H))
left_on rows H b p q d true k row same =
    let x = get_or b.places.items (d - 1) None in
    let m = is_device d (get pair_cmp b.opened p) in
    subst (λ (r : Pair). is_there r (if m && is_there p x then None else x) ≡ false) (one_pair p q same) (gone p x m (is_there p x) refl (λ on. bound_opener rows H b p d k (sym (k.places p d row) ∙ on)))
left_on rows H b p q d false k row other =
    let x = get_or b.places.items (d - 1) None in
    stays p q x (is_device d (get pair_cmp b.opened p)) (is_there p x) refl other ∙ k.places q d row

left_places : (rows : ℕ) (H : List Turn) (b : Bindings) (p q : Pair) (d : ℕ) → Keeps rows H b → IsWithin rows d → is_there q (get_or (left p (get pair_cmp b.opened p) b.places.items) (d - 1) None) ≡ (if same_pair p q then false else is_device d (bound q H))
left_places rows H b p q d k row =
    ap (is_there q) (left_read p (get pair_cmp b.opened p) d b.places.items (rows_there rows H b k p) row.0) ∙ left_on rows H b p q d (same_pair p q) k row refl

-- ---- one message more

-- a message that is numbered or noticed binds nothing
pub unnamed : (claim : Claim) → ((n : ℕ) × (claim ≡ Numbered n)) ⊎ ((n : ℕ) × (claim ≡ Noticed n)) → is_named claim ≡ false
unnamed claim is = elim is [
  | inl numbered ↦ ap is_named numbered.1
  | inr noticed ↦ ap is_named noticed.1
]

opened_more : (H : List Turn) (t : Taken) (m n : BTreeMap Pair DeviceId) (w : Option DeviceId) → ((before : Option DeviceId) → left_by t before ≡ w) → ((q : Pair) → get pair_cmp m q ≡ opened q H) → Updates pair_cmp m n (pair_of t) w → (q : Pair) → get pair_cmp n q ≡ opened q (Admitted t ∷ H)
opened_more H t m n w is kept u q = u.0 q ∙ rw (pair_at (pair_of t) q, kept q, is (opened q H)) refl

within_test : (rows : ℕ) (test : Bool) (w before : Option DeviceId) → IfSome w (λ d. IsWithin rows d.0) → IfSome before (λ d. IsWithin rows d.0) → IfSome (cond test w before) (λ d. IsWithin rows d.0)
within_test rows true w before row kept = row
within_test rows false w before row kept = kept

within_more : (rows : ℕ) (m n : BTreeMap Pair DeviceId) (pair : Pair) (w : Option DeviceId) → IfSome w (λ d. IsWithin rows d.0) → AreRows rows m → Updates pair_cmp m n pair w → AreRows rows n
within_more rows m n pair w row kept u = λ q. subst (λ (o : Option DeviceId). IfSome o (λ d. IsWithin rows d.0)) (sym (u.0 q)) (within_test rows (is_at (pair_cmp pair) q) w (get pair_cmp m q) row (kept q))

-- a device that opens a pair is on no other
without_here : (t : DeviceId) (o : Option DeviceId) → is_device t.0 (without t o) ≡ false
without_here t o = grind (arith, nat_tests)

without_there : (t : DeviceId) (d : ℕ) (o : Option DeviceId) → t.0 ≢ d → is_device d (without t o) ≡ is_device d o
without_there t d o apart = grind (arith, nat_tests)

binds_here : (t : Taken) (q : Pair) (s : Bool) (before : Option DeviceId) → binds t ≡ true → same_pair (pair_of t) q ≡ s → s ≡ is_device t.device.0 (bound_after t q before)
binds_here t q s before named test = grind (arith, nat_tests, without_here t.device before)

binds_there : (t : Taken) (q : Pair) (d : ℕ) (s : Bool) (before : Option DeviceId) → binds t ≡ true → same_pair (pair_of t) q ≡ s → t.device.0 ≢ d → (if s then false else is_device d before) ≡ is_device d (bound_after t q before)
binds_there t q d s before named test apart = grind (arith, nat_tests, without_there t.device d before apart)

frees_there : (t : Taken) (q : Pair) (d : ℕ) (s : Bool) (before : Option DeviceId) → binds t ≡ false → frees t ≡ true → same_pair (pair_of t) q ≡ s → (if s then false else is_device d before) ≡ is_device d (bound_after t q before)
frees_there t q d s before unnamed free test = grind arith

-- any other message changes nothing
quiet_opened : (t : Taken) (s : Bool) (before : Option DeviceId) → binds t ≡ false → frees t ≡ false → (if s then left_by t before else before) ≡ before
quiet_opened t s before unnamed held = grind arith

quiet_bound : (t : Taken) (q : Pair) (s : Bool) (before : Option DeviceId) → binds t ≡ false → frees t ≡ false → same_pair (pair_of t) q ≡ s → bound_after t q before ≡ before
quiet_bound t q s before unnamed held test = grind arith

-- the places where the device of a message opens its pair
binds_places : (rows : ℕ) (H : List Turn) (t : Taken) (b : Bindings) (new : List (Option Pair)) → binds t ≡ true → Keeps rows H b → IsWithin rows t.device.0 → new ≡ set (left (pair_of t) (get pair_cmp b.opened (pair_of t)) b.places.items) (t.device.0 - 1) (Some (pair_of t)) → (q : Pair) (d : ℕ) → IsWithin rows d → is_there q (get_or new (d - 1) None) ≡ is_device d (bound q (Admitted t ∷ H))
binds_places rows H t b new named k row written q d at =
    let p : Pair = pair_of t in
    let before : List (Option Pair) = left p (get pair_cmp b.opened p) b.places.items in
    let count : length before ≡ rows = length_left p (get pair_cmp b.opened p) b.places.items ∙ k.count in
    let step : is_device d (bound q (Admitted t ∷ H)) ≡ is_device d (bound_after t q (bound q H)) = ap (is_device d) (bound_step q H t) in
    elim (cases_eq t.device.0 d) [
      | inl same ↦
          let here : d - 1 ≡ t.device.0 - 1 = omega arith in
          let room : t.device.0 - 1 < length before = omega (arith, count) in
          let read : get_or new (d - 1) None ≡ Some p = rw (written, here) (get_or-set_same before (t.device.0 - 1) (Some p) None room) in
          ap (is_there q) read ∙ binds_here t q (same_pair p q) (bound q H) named refl ∙ ap (λ (n : ℕ). is_device n (bound_after t q (bound q H))) same ∙ sym step
      | inr other ↦
          let apart : d - 1 ≢ t.device.0 - 1 = omega arith in
          let read : get_or new (d - 1) None ≡ get_or before (d - 1) None = rw written (get_or-set_other before (t.device.0 - 1) (d - 1) (Some p) None apart) in
          ap (is_there q) read ∙ left_places rows H b p q d k at ∙ binds_there t q d (same_pair p q) (bound q H) named refl other ∙ sym step
    ]

pub binds_more : (rows : ℕ) (H : List Turn) (t : Taken) (b c : Bindings) → binds t ≡ true → Keeps rows H b → IsWithin rows t.device.0 → Updates pair_cmp b.opened c.opened (pair_of t) (Some t.device) → c.places.items ≡ set (left (pair_of t) (get pair_cmp b.opened (pair_of t)) b.places.items) (t.device.0 - 1) (Some (pair_of t)) → Keeps rows (Admitted t ∷ H) c
binds_more rows H t b c named k row u written = record {
  opened = opened_more H t b.opened c.opened (Some t.device) (λ before. rw named refl) k.opened u;
  within = within_more rows b.opened c.opened (pair_of t) (Some t.device) row k.within u;
  count = ap length written ∙ length-set _ (t.device.0 - 1) (Some (pair_of t)) ∙ length_left (pair_of t) (get pair_cmp b.opened (pair_of t)) b.places.items ∙ k.count;
  places = binds_places rows H t b c.places.items named k row written;
}

pub frees_more : (rows : ℕ) (H : List Turn) (t : Taken) (b c : Bindings) → binds t ≡ false → frees t ≡ true → Keeps rows H b → Updates pair_cmp b.opened c.opened (pair_of t) None → c.places.items ≡ left (pair_of t) (get pair_cmp b.opened (pair_of t)) b.places.items → Keeps rows (Admitted t ∷ H) c
frees_more rows H t b c unnamed free k u written = record {
  opened = opened_more H t b.opened c.opened None (λ before. rw (unnamed, free) refl) k.opened u;
  within = within_more rows b.opened c.opened (pair_of t) None tt k.within u;
  count = ap length written ∙ length_left (pair_of t) (get pair_cmp b.opened (pair_of t)) b.places.items ∙ k.count;
  places = λ q d at. ap (λ (places : List (Option Pair)). is_there q (get_or places (d - 1) None)) written ∙ left_places rows H b (pair_of t) q d k at ∙ frees_there t q d (same_pair (pair_of t) q) (bound q H) unnamed free refl ∙ sym (ap (is_device d) (bound_step q H t));
}

pub quiet_more : (rows : ℕ) (H : List Turn) (t : Taken) (b : Bindings) → binds t ≡ false → frees t ≡ false → Keeps rows H b → Keeps rows (Admitted t ∷ H) b
quiet_more rows H t b unnamed held k = record {
  opened = λ q. k.opened q ∙ sym (quiet_opened t (same_pair (pair_of t) q) (opened q H) unnamed held);
  within = k.within;
  count = k.count;
  places = λ q d at. k.places q d at ∙ sym (ap (is_device d) (bound_step q H t ∙ quiet_bound t q (same_pair (pair_of t) q) (bound q H) unnamed held refl));
}
