-- What the answer of the row says of the merge, and what one entry more does to it.
use Rattle.std.proofs.Common.{◌≡◌, ◌==◌, ◌⊎◌, inl, inr, ℕ, ◌+◌, ◌-◌, ◌≤◌, ◌<◌, Bool, true, false, not, cond, ◌&&◌, eqb-true, eq-eqb, List, [], ◌∷◌, ◌++◌, length, length-append, Option, Some, None, refl, sym, ap, ◌∙◌, arith}
use Rattle.std.specs.Prelude.{nat_le, nat_lt, count_by}
use Rattle.std.specs.Cmp.{IsTotalOrder}
use Rattle.std.specs.Ordering.{is_lt, ordering_reverse}
use Rattle.std.specs.declared.cmp.Ordering.{Ordering}
use Rattle.std.specs.declared.cmp.Ordering.TheVariants.{Less, Equal, Greater}
use Rattle.std.proofs.Math.Seq.{get_or-append_seam}
use Rattle.std.proofs.lemmas.Bool.{and_parts, cases_lt, lt-ltb, false_from_ne_true}
use Rattle.std.proofs.lemmas.Cmp.{nat_cmp_total, on_total, then_total, tied_itself, tied_back, alike_right}
use Rattle.std.proofs.lemmas.List.Sums.{sum_by-append}
use Rattle.std.proofs.lemmas.Option.{slice_get-get_or}
use Rattle.epoch_agents.specs.declared.event.EpochAnswer.{EpochAnswer}
use Rattle.epoch_agents.specs.declared.event.EpochAnswer.TheVariants as told
use Rattle.epoch_agents.specs.declared.stream.Merged.{Merged}
use Rattle.epoch_agents.specs.declared.stream.Stream.{Stream}
use Rattle.epoch_agents.specs.Counts.{is_committed}
use Rattle.epoch_agents.specs.Merge.{falls, IsPassed}
use Rattle.epoch_agents.specs.Row.{is_named, count_named, current, is_current, is_below_current, current_stamp, row_answer}
use Rattle.epoch_agents.specs.Streams.{Name, name_of, triple_cmp, is_below}

-- ---- the order of names

triple_total : IsTotalOrder triple_cmp
triple_total = then_total (then_total (on_total (λ t. t.0) nat_cmp_total) (on_total (λ t. t.1) nat_cmp_total)) (on_total (λ t. t.2) nat_cmp_total)

less_of : (o : Ordering) → is_lt o ≡ true → o ≡ Less
less_of Less h = refl
less_of Equal h = absurd (cc)
less_of Greater h = absurd (cc)

pub below_upto : (x y z : Name) → is_below x y ≡ true → is_below z y ≡ false → is_below x z ≡ true
below_upto x y z below up = at (triple_cmp z y) refl up
  where
    lt : triple_cmp x y ≡ Less
    lt = less_of (triple_cmp x y) below

    at : (o : Ordering) → triple_cmp z y ≡ o → is_lt o ≡ false → is_lt (triple_cmp x z) ≡ true
    at Less e h = absurd (cc)
    at Equal e h = ap is_lt (sym (alike_right triple_total y z x (tied_back triple_total z y e))) ∙ below
    at Greater e h = ap is_lt (triple_total.trans x y z lt (triple_total.antisymm y z ∙ ap ordering_reverse e))

pub not_below_itself : (x : Name) → is_below x x ≡ false
not_below_itself x = ap is_lt (tied_itself triple_total x)

pub rises : (x y z : Name) → is_below y x ≡ false → is_below z y ≡ false → is_below z x ≡ false
rises x y z first then = false_from_ne_true (is_below z x) (λ h. let b = below_upto z x y h first in cc)

-- ---- one entry more

pub current_push : (merged : List Merged) (entry : Merged) → current (merged ++ entry ∷ []) ≡ Some entry
current_push merged entry =
    let long = length-append merged (entry ∷ []) in
    let at : length (merged ++ entry ∷ []) - 1 ≡ length merged = omega (arith, long) in
    rw at (slice_get-get_or (merged ++ entry ∷ []) (length merged) entry (omega (arith, long)) ∙ ap Some (get_or-append_seam merged entry [] entry))

pub count_push : (p : Merged → Bool) (merged : List Merged) (entry : Merged) → count_by p (merged ++ entry ∷ []) ≡ count_by p merged + cond (p entry) 1 0
count_push p merged entry = let e = sum_by-append (λ x. cond (p x) 1 0) merged (entry ∷ []) in omega (arith, e)

pub named_is : (a stamp : ℕ) (entry : Merged) → is_named a stamp entry ≡ true → (a ≡ entry.a) × (stamp ≡ entry.stamp)
named_is a stamp entry h = let p = and_parts (a == entry.a) (stamp == entry.stamp) h in (eqb-true a entry.a p.0, eqb-true stamp entry.stamp p.1)

-- ---- what the row says

-- message n of a name is the next one, and its name has not been passed
pub record Commits (streams : List Stream) (merged : List Merged) (a stamp n : ℕ) : Type 0 where
  pub next : n ≡ count_named a stamp merged + 1
  pub fresh : count_named a stamp merged ≡ 0 → is_below_current streams (current merged) a stamp ≡ false
  pub later : 0 < count_named a stamp merged → is_current (current merged) a stamp ≡ true

committed_when : (b1 b2 b3 b4 : Bool) (r t s v u : ℕ) (x : EpochAnswer) → x ≡ cond b1 (told.Repeat r) (cond b2 (told.OverAt t) (cond b3 (told.Low s) (cond b4 (told.Committed v) (told.Ahead u)))) → is_committed x ≡ true → (b2 ≡ false) × (b3 ≡ false) × (b4 ≡ true)
committed_when true b2 b3 b4 r t s v u x e h = absurd (let f = ap is_committed e in cc)
committed_when false true b3 b4 r t s v u x e h = absurd (let f = ap is_committed e in cc)
committed_when false false true b4 r t s v u x e h = absurd (let f = ap is_committed e in cc)
committed_when false false false false r t s v u x e h = absurd (let f = ap is_committed e in cc)
committed_when false false false true r t s v u x e h = (refl, refl, refl)

low_when : (b1 b2 b3 b4 : Bool) (r t s v u low : ℕ) → told.Low low ≡ cond b1 (told.Repeat r) (cond b2 (told.OverAt t) (cond b3 (told.Low s) (cond b4 (told.Committed v) (told.Ahead u)))) → (b3 ≡ true) × (low ≡ s)
low_when true b2 b3 b4 r t s v u low e = absurd (cc)
low_when false true b3 b4 r t s v u low e = absurd (cc)
low_when false false true b4 r t s v u low e = (refl, cc)
low_when false false false false r t s v u low e = absurd (cc)
low_when false false false true r t s v u low e = absurd (cc)

later_when : (t : ℕ) (c : Bool) → (nat_lt 0 t && not c) ≡ false → 0 < t → c ≡ true
later_when t true h low = refl
later_when t false h low = absurd (let f : (true && true) ≡ false = rw (lt-ltb 0 t low) at h in cc)

fresh_when : (t : ℕ) (c : Bool) → ((t == 0) && c) ≡ false → t ≡ 0 → c ≡ false
fresh_when t c h is = rw (eq-eqb t 0 is) at h

pub commits : (streams : List Stream) (merged : List Merged) (a stamp n : ℕ) (x : EpochAnswer) → x ≡ row_answer streams merged a stamp n → is_committed x ≡ true → Commits streams merged a stamp n
commits streams merged a stamp n x e h =
    let t = count_named a stamp merged in
    let w = committed_when (nat_le n t) (nat_lt 0 t && not (is_current (current merged) a stamp)) ((t == 0) && is_below_current streams (current merged) a stamp) (n == t + 1) _ _ _ _ _ x e h in
    record {
      next = eqb-true n (t + 1) w.2;
      fresh = fresh_when t (is_below_current streams (current merged) a stamp) w.1;
      later = later_when t (is_current (current merged) a stamp) w.0;
    }

pub passes : (streams : List Stream) (merged : List Merged) (a stamp n low : ℕ) → told.Low low ≡ row_answer streams merged a stamp n → IsPassed streams merged a stamp × (low ≡ current_stamp (current merged))
passes streams merged a stamp n low e =
    let t = count_named a stamp merged in
    let w = low_when (nat_le n t) (nat_lt 0 t && not (is_current (current merged) a stamp)) ((t == 0) && is_below_current streams (current merged) a stamp) (n == t + 1) _ _ _ _ _ low e in
    let p = and_parts (t == 0) (is_below_current streams (current merged) a stamp) w.0 in
    (record { below = p.1; none = eqb-true t 0 p.0 }, w.1)

-- the name of what is committed is not below the current one
pub not_below : (streams : List Stream) (merged : List Merged) (last entry : Merged) → current merged ≡ Some last → Commits streams merged entry.a entry.stamp entry.n → falls streams last entry ≡ false
not_below streams merged last entry at c = by (cases_lt 0 (count_named entry.a entry.stamp merged))
  where
    by : ((0 < count_named entry.a entry.stamp merged) ⊎ (count_named entry.a entry.stamp merged ≤ 0)) → falls streams last entry ≡ false
    by (inl some) =
        let same = named_is entry.a entry.stamp last (ap (λ o. is_current o entry.a entry.stamp) (sym at) ∙ c.later some) in
        rw (same.0, same.1) (not_below_itself (name_of streams last.a last.stamp))
    by (inr none) = ap (λ o. is_below_current streams o entry.a entry.stamp) (sym at) ∙ c.fresh (omega arith)

passed_below : (streams : List Stream) (merged : List Merged) (entry : Merged) (a stamp : ℕ) (last : Option Merged) → current merged ≡ last → Commits streams merged entry.a entry.stamp entry.n → is_below_current streams last a stamp ≡ true → is_below (name_of streams a stamp) (name_of streams entry.a entry.stamp) ≡ true
passed_below streams merged entry a stamp None at c h = absurd (cc)
passed_below streams merged entry a stamp (Some last) at c h = below_upto (name_of streams a stamp) (name_of streams last.a last.stamp) (name_of streams entry.a entry.stamp) h (not_below streams merged last entry at c)

not_named : (streams : List Stream) (merged : List Merged) (entry : Merged) (a stamp : ℕ) → Commits streams merged entry.a entry.stamp entry.n → IsPassed streams merged a stamp → is_named a stamp entry ≡ false
not_named streams merged entry a stamp c p = false_from_ne_true (is_named a stamp entry)
    (λ h. let same = named_is a stamp entry h in
    let none : count_named entry.a entry.stamp merged ≡ 0 = rw (← same.0, ← same.1) p.none in
    let below : is_below_current streams (current merged) entry.a entry.stamp ≡ true = rw (← same.0, ← same.1) p.below in
    let not_so = c.fresh none in
    cc)

no_more : (b : Bool) (m n : ℕ) → b ≡ false → n ≡ m + cond b 1 0 → n ≡ m
no_more true m n e is = absurd (cc)
no_more false m n e is = omega arith

-- a name that is passed stays so
pub passed_push : (streams : List Stream) (merged : List Merged) (entry : Merged) (a stamp : ℕ) → Commits streams merged entry.a entry.stamp entry.n → IsPassed streams merged a stamp → IsPassed streams (merged ++ entry ∷ []) a stamp
passed_push streams merged entry a stamp c p =
    let more = count_push (is_named a stamp) merged entry in
    let none = no_more (is_named a stamp entry) (count_named a stamp merged) (count_named a stamp (merged ++ entry ∷ [])) (not_named streams merged entry a stamp c p) more in
    let below = passed_below streams merged entry a stamp (current merged) refl c p.below in
    record { below = ap (λ o. is_below_current streams o a stamp) (current_push merged entry) ∙ below; none = none ∙ p.none }
