-- Seats are dealt, joined and compared; how a front begins and ends.
use Rattle.std.proofs.Common.{◌≡◌, ◌≢◌, ◌⊎◌, ℕ, zero, suc, ◌+◌, ◌<◌, ◌≤◌, ◌==◌, ◌||◌, Bool, true, false, List, [], ◌∷◌, ◌++◌, length, set, map, reverse, All, refl, sym, ap, ◌∙◌, subst, inl, inr, ⊎_elim, arith, cond, length-append, append_assoc}
use Rattle.std.specs.Prelude.{slice_index, slice_set}
use Rattle.std.specs.List.{range_with_len}
use Rattle.std.proofs.lemmas.List.{map-append}
use Rattle.std.proofs.lemmas.List.Elements.{All-append}
use Rattle.std.proofs.lemmas.List.Folds.{list_any-append}
use Rattle.std.proofs.lemmas.List.FromFn.{map-range_with_len_more}
use mathlib.Core.Option.{some, none, some-injective, some-ne-none}
use mathlib.Core.Option as maybe
use mathlib.Core.List.{IsPrefix, reverse-cons}
use mathlib.Core.Logic.{dite}
use native.Mathlib.Decide.{ℕ_discrete}
use lib.ListN.{get_elem?}
use Rattle.atomic_table.specs.Table.{State, Me, Act, keeps, step, Valid, homes_after, carried_after, Allows, Splits, Joins, opening, Final, Seen}
use Rattle.atomic_table.proofs.Lists.{set_else, at_set, at_longer}
use Rattle.front_lock.specs.declared.view.Stage.TheVariants.{Idle}
use Rattle.front_lock.specs.declared.view.View.{View}
use Rattle.front_lock.specs.Numbers.{turns_of, speaks_for, list_of, empty_lists, longer_of}
use Rattle.front_lock.specs.View.{is_live, has_ticket, has_value, view_at, fresh_view, dealer_view, dealt_views, spent_view, KnowsItsTurns}
use Rattle.front_lock.specs.Rule.{ticket_count, Knows, Stands, Apart, IsHome, IsAway, Keeps, KeepsAt}
use Rattle.front_lock.specs.Steps.{Compares, dealer_left, number_dealt, views_joined}
use Rattle.front_lock.specs.Turns.{IsClosed}
use Rattle.front_lock.proofs.Histories.{off, list_of-append, list_of-empty_lists, prefix_shorter, in_order, turns_of-between, speaks_for_below, speaks_for_all, speaks_for_one, speaks_for_itself, list_of-one}
use Rattle.front_lock.proofs.Views.{is_served-has_value, has_ticket-is_served, is_live-has_ticket, weight, flip, knows_at, stands_aside, placed, moved_at, moved}

-- ---- lists

module _ {A : Type 0} where
  at_end : (l : List A) (a b : A) (j : ℕ) → get_elem? (l ++ a ∷ []) j ≡ some b → (get_elem? l j ≡ some b) ⊎ ((j ≡ length l) × (a ≡ b))
  at_end [] a b zero e = inr (refl, some-injective a b e)
  at_end [] a b (suc j) e = absurd (some-ne-none b (sym e))
  at_end (x ∷ xs) a b zero e = inl e
  at_end (x ∷ xs) a b (suc j) e = ⊎_elim inl (λ (t : (j ≡ length xs) × (a ≡ b)). inr (ap suc t.0, t.1)) (at_end xs a b j e)

  set_both : (l : List A) (i j : ℕ) (a b : A) → i ≢ j → set (set l i a) j b ≡ set (set l j b) i a
  set_both [] i j a b ne = refl
  set_both (x ∷ xs) zero zero a b ne = absurd (ne refl)
  set_both (x ∷ xs) zero (suc j) a b ne = refl
  set_both (x ∷ xs) (suc i) zero a b ne = refl
  set_both (x ∷ xs) (suc i) (suc j) a b ne = ap (λ l. x ∷ l) (set_both xs i j a b (λ e. ne (ap suc e)))

  pub all_more : (P : A → Type 0) (l m : List A) (x : A) → m ≡ l ++ x ∷ [] → All P l → P x → All P m
  all_more P l m x is h p = subst (All P) (sym is) (All-append P l (x ∷ []) h one)
    where
      one : All P (x ∷ [])
      one zero d lt = p
      one (suc k) d lt = absurd (omega arith)

  pub all_reverse : (P : A → Type 0) (l : List A) → All P l → All P (reverse l)
  all_reverse P [] h = h
  all_reverse P (x ∷ xs) h = all_more P (reverse xs) (reverse (x ∷ xs)) x (reverse-cons x xs) (all_reverse P xs (λ k d lt. h (suc k) d (omega arith))) (h zero x (omega arith))

  pub map_reverse : {B : Type 0} (f : A → B) (l : List A) → map f (reverse l) ≡ reverse (map f l)
  map_reverse f [] = refl
  map_reverse f (x ∷ xs) = ap (map f) (reverse-cons x xs) ∙ (map-append f (reverse xs) (x ∷ []) ∙ (ap (λ l. l ++ f x ∷ []) (map_reverse f xs) ∙ sym (reverse-cons (f x) (map f xs))))

  -- one more, where k more were to come
  pub longer_by : (l m : List A) (x : A) (k j n : ℕ) → m ≡ l ++ x ∷ [] → suc j ≡ k → length l + suc k ≡ n → length m + suc j ≡ n
  longer_by l m x k j n is down room = let e : length m ≡ length l + 1 = ap length is ∙ length-append l (x ∷ []) in omega arith

module _ {X B : Type 0} where
  ticket_count-more : (l : List (View X B)) (v : View X B) → ticket_count (l ++ v ∷ []) ≡ ticket_count l + weight v.stage
  ticket_count-more [] v = omega arith
  ticket_count-more (u ∷ us) v = let h = ticket_count-more us v in omega arith

  module _ {T : Type 0} (turns : T → List X) (basis : T → B) (by : X → ℕ) (b : B) (seats : ℕ) where
    abbrev Rule : State T (View X B) → Type 0
    Rule = Keeps turns basis by b seats

    -- the rule with one view more, which has no ticket
    grown_at : (s : State T (View X B)) (tickets serving : ℕ) (history : List X) → KeepsAt turns basis by b seats tickets serving history s → (v : View X B) → has_ticket v.stage ≡ false
        → Knows by b seats history v
        → ((j : ℕ) (u : View X B) → get_elem? s.views j ≡ some u → Apart v u)
        → KeepsAt turns basis by b seats tickets serving history (record { words = s.words; homes = s.homes; views = s.views ++ v ∷ [] })
    grown_at s tickets serving history h v aside mine apart = record {
      words = h.words;
      bound = h.bound;
      counted = (let c = ticket_count-more s.views v in let all = h.counted in let none : weight v.stage ≡ 0 = ap (λ t. cond t 1 0) aside in omega arith);
      knows = (λ j u e. ⊎_elim (λ at. h.knows j u at) (λ (t : (j ≡ length s.views) × (v ≡ u)). subst (Knows by b seats history) t.1 mine) (at_end s.views v u j e));
      stands = (λ j u e. ⊎_elim (λ at. h.stands j u at) (λ (t : (j ≡ length s.views) × (v ≡ u)). subst (Stands tickets serving history (s.homes ≡ none ∷ [])) t.1 (stands_aside tickets serving history (s.homes ≡ none ∷ []) v aside)) (at_end s.views v u j e));
      apart = (λ i j u w ne e f. ⊎_elim
          (λ (at : get_elem? s.views i ≡ some u). ⊎_elim
          (λ (there : get_elem? s.views j ≡ some w). h.apart i j u w ne at there)
          (λ (t : (j ≡ length s.views) × (v ≡ w)). subst (Apart u) t.1 (flip v u (apart i u at)))
          (at_end s.views v w j f))
          (λ (t : (i ≡ length s.views) × (v ≡ u)). ⊎_elim
          (λ (there : get_elem? s.views j ≡ some w). subst (λ x. Apart x w) t.1 (apart j w there))
          (λ (r : (j ≡ length s.views) × (v ≡ w)). absurd (ne (t.0 ∙ sym r.0)))
          (at_end s.views v w j f))
          (at_end s.views v u i e));
      place = ⊎_elim inl (λ (a : IsAway s.views s.homes). inr (record { id = a.id; view = a.view; gone = a.gone; at = at_longer s.views (v ∷ []) a.id a.view a.at; has = a.has })) h.place;
      numbers = h.numbers;
    }

    -- ---- a seat is split

    splits_dealer : (id k : ℕ) → 0 < k → Splits Rule id (dealer_view b seats (suc k)) (dealer_view b seats k) (fresh_view b seats k)
    splits_dealer id k some_left s h at =
        let v = dealer_view b seats (suc k) in
        let w : View X B = dealer_view b seats k in
        let f = h.facts.knows id v at in
        let up : (n : ℕ) → speaks_for {X = X} n (empty_lists k) ≡ true → speaks_for {X = X} n (empty_lists (suc k)) ≡ true = λ n e. speaks_for_all X n (suc k) (let q = speaks_for_below X n k e in omega arith) in
        let last : speaks_for {X = X} k (empty_lists (suc k)) ≡ true = speaks_for_all X k (suc k) (omega arith) in
        let nil : (n : ℕ) → speaks_for {X = X} n (empty_lists (suc k)) ≡ true → turns_of by n h.history ≡ [] = λ n e. f.lists n e ∙ list_of-empty_lists n (suc k) in
        let one : (n : ℕ) → speaks_for {X = X} n ((k, []) ∷ []) ≡ true → n ≡ k = λ n. speaks_for_one X n k in
        let left : KeepsAt turns basis by b seats h.tickets h.serving h.history (record { words = s.words; homes = s.homes; views = set s.views id w }) =
        moved_at turns basis by b seats s h.tickets h.serving h.history h.facts id v w at h.tickets h.serving h.history s.words s.homes h.facts.words h.facts.bound (let all = h.facts.counted in omega arith)
        (record {
          basis = f.basis;
          count = f.count;
          own = (λ _. speaks_for_all X 0 k some_left);
          below = (λ n e. f.below n (up n e));
          lists = (λ n e. nil n (up n e) ∙ sym (list_of-empty_lists n k));
          told = (λ n e. sym (list_of-empty_lists n k));
          seen = f.seen;
          met = f.met;
        })
        (λ j u _ there. h.facts.knows j u there)
        (stands_aside h.tickets h.serving h.history (s.homes ≡ none ∷ []) w refl)
        (λ j u _ there. h.facts.stands j u there)
        (λ j u ne there. let p = h.facts.apart id j v u (λ q. ne (sym q)) at there in record { tickets = (λ e. absurd (off e)); numbers = (λ n e. p.numbers n (up n e)) })
        (placed turns basis by b seats s h.history id v w at (λ q. q) h.facts.place)
        h.facts.numbers in
        record {
          tickets = h.tickets;
          serving = h.serving;
          history = h.history;
          facts = grown_at (record { words = s.words; homes = s.homes; views = set s.views id w }) h.tickets h.serving h.history left (fresh_view b seats k) refl
              (record {
                basis = f.basis;
                count = f.count;
                own = (λ _. speaks_for_itself X k);
                below = (λ n e. subst (λ q. q < seats) (sym (one n e)) (f.below k last));
                lists = (λ n e. subst (λ q. turns_of by q h.history ≡ list_of q ((k, []) ∷ [])) (sym (one n e)) (nil k last ∙ sym (list_of-one {X = X} k k)));
                told = (λ n e. subst (λ q. [] ≡ list_of {X = X} q ((k, []) ∷ [])) (sym (one n e)) (sym (list_of-one {X = X} k k)));
                seen = f.seen;
                met = (h.history, refl);
              })
              (λ j u e. record {
                tickets = (λ q. absurd (off q));
                numbers = (λ n p q. let is = one n p in ⊎_elim
                    (λ (t : (j ≡ id) × (w ≡ u)). let lt = speaks_for_below X n k (ap (λ (x : View X B). speaks_for n x.mine) t.1 ∙ q) in omega arith)
                    (λ (t : (j ≢ id) × (get_elem? s.views j ≡ some u)). (h.facts.apart id j v u (λ r. t.0 (sym r)) at t.1).numbers n (ap (λ m. speaks_for {X = X} m (empty_lists (suc k))) is ∙ last) q)
                    (at_set s.views id j w u e));
              });
        }

    pub splits : (id : ℕ) (m : Me T (View X B)) (n k : ℕ) → n ≡ seats → 0 < k → m ≡ (dealer_view b n (suc k), []) → Splits Rule id m.0 (dealer_left m.0) (number_dealt m.0)
    splits id m n k same some_left is = subst (λ (v : View X B). Splits Rule id v (dealer_left v) (number_dealt v)) (sym (ap (λ (p : Me T (View X B)). p.0) is ∙ ap (λ q. dealer_view b q (suc k)) same)) (splits_dealer id k some_left)

    -- ---- a seat is joined to another

    either_of : (p q : Bool) → (p || q) ≡ true → (p ≡ true) ⊎ (q ≡ true)
    either_of true q e = inl refl
    either_of false q e = inr e

    speaker_of : (v w : View X B) (k : ℕ) → speaks_for k (v.mine ++ w.mine) ≡ true → (speaks_for k v.mine ≡ true) ⊎ (speaks_for k w.mine ≡ true)
    speaker_of v w k q = either_of (speaks_for k v.mine) (speaks_for k w.mine) (sym (list_any-append (λ (e : ℕ × List X). k == e.0) v.mine w.mine) ∙ q)

    -- the kept view knows what both knew
    knows_both : (history : List X) (v w : View X B) → v.stage ≡ Idle → w.stage ≡ Idle → Knows by b seats history v → Knows by b seats history w → Knows by b seats history (views_joined v w)
    knows_both history v w idle idle' f e =
        let live : is_live v.stage ≡ true = ap is_live idle in
        let live' : is_live w.stage ≡ true = ap is_live idle' in
        let both = in_order v.seen w.seen history (f.seen live) (e.seen live') in
        let all_lists : (k : ℕ) → speaks_for k (v.mine ++ w.mine) ≡ true → turns_of by k history ≡ list_of k (v.mine ++ w.mine) = λ k q. lists_of k (speaks_for k v.mine) refl (f.lists k) (⊎_elim (λ t. inl t) (λ t. inr (e.lists k t)) (speaker_of v w k q)) in
        record {
          basis = f.basis;
          count = f.count;
          own = (λ q. list_any-append (λ (e : ℕ × List X). v.number == e.0) v.mine w.mine ∙ ap (λ t. t || speaks_for v.number w.mine) (f.own q));
          below = (λ k q. ⊎_elim (λ t. f.below k t) (λ t. e.below k t) (speaker_of v w k q));
          lists = all_lists;
          told = (λ k q. ⊎_elim
              (λ t. turns_of-between by k v.seen (longer_of v.seen w.seen) history both.first both.longer (f.told k t ∙ sym (f.lists k t)))
              (λ t. turns_of-between by k w.seen (longer_of v.seen w.seen) history both.second both.longer (e.told k t ∙ sym (e.lists k t)))
              (speaker_of v w k q) ∙ all_lists k q);
          seen = (λ _. both.longer);
          met = both.shorter;
        }
      where
        lists_of : (k : ℕ) (t : Bool) → speaks_for k v.mine ≡ t → (speaks_for k v.mine ≡ true → turns_of by k history ≡ list_of k v.mine) → ((speaks_for k v.mine ≡ true) ⊎ (turns_of by k history ≡ list_of k w.mine)) → turns_of by k history ≡ list_of k (v.mine ++ w.mine)
        lists_of k true is f o = f is ∙ sym (list_of-append k v.mine w.mine ∙ ap (λ t. cond t (list_of k v.mine) (list_of k w.mine)) is)
        lists_of k false is f o = ⊎_elim (λ q. absurd (off (sym is ∙ q))) (λ q. q ∙ sym (list_of-append k v.mine w.mine ∙ ap (λ t. cond t (list_of k v.mine) (list_of k w.mine)) is)) o

    -- a spent view knows nothing
    knows_spent : (history : List X) → Knows by b seats history spent_view
    knows_spent history = record {
      basis = (λ q. absurd (off q));
      count = (λ q. absurd (off q));
      own = (λ q. absurd (off q));
      below = (λ k q. absurd (off q));
      lists = (λ k q. absurd (off q));
      told = (λ k q. absurd (off q));
      seen = (λ q. absurd (off q));
      met = (history, refl);
    }

    joins_to : (s : State T (View X B)) (h : Rule s) (id other : ℕ) (v w : View X B) → v.stage ≡ Idle → w.stage ≡ Idle → get_elem? s.views id ≡ some v → other ≢ id → get_elem? s.views other ≡ some w
        → Rule (record { words = s.words; homes = s.homes; views = set (set s.views other spent_view) id (views_joined v w) })
    joins_to s h id other v w idle idle' at ne there =
        let none_has : weight v.stage ≡ 0 = ap weight idle in
        let none_has' : weight w.stage ≡ 0 = ap weight idle' in
        let s' : State T (View X B) = record { words = s.words; homes = s.homes; views = set s.views other spent_view } in
        let one : KeepsAt turns basis by b seats h.tickets h.serving h.history s' =
        moved_at turns basis by b seats s h.tickets h.serving h.history h.facts other w spent_view there h.tickets h.serving h.history s.words s.homes h.facts.words h.facts.bound (let all = h.facts.counted in omega arith)
        (knows_spent h.history)
        (λ j u _ is. h.facts.knows j u is)
        (stands_aside h.tickets h.serving h.history (s.homes ≡ none ∷ []) spent_view refl)
        (λ j u _ is. h.facts.stands j u is)
        (λ j u _ is. record { tickets = (λ q. absurd (off q)); numbers = (λ k q. absurd (off q)) })
        (placed turns basis by b seats s h.history other w spent_view there (λ q. absurd (off (ap has_value (sym idle') ∙ q))) h.facts.place)
        h.facts.numbers in
        let at' : get_elem? s'.views id ≡ some v = set_else s.views other id spent_view (λ q. ne (sym q)) ∙ at in
        let two : KeepsAt turns basis by b seats h.tickets h.serving h.history (record { words = s.words; homes = s.homes; views = set s'.views id (views_joined v w) }) =
        moved_at turns basis by b seats s' h.tickets h.serving h.history one id v (views_joined v w) at' h.tickets h.serving h.history s.words s.homes h.facts.words h.facts.bound (let all = one.counted in omega arith)
        (knows_both h.history v w idle idle' (h.facts.knows id v at) (h.facts.knows other w there))
        (λ j u _ is. one.knows j u is)
        (stands_aside h.tickets h.serving h.history (s.homes ≡ none ∷ []) (views_joined v w) (ap has_ticket idle))
        (λ j u _ is. one.stands j u is)
        (λ j u apart is. ⊎_elim
        (λ (t : (j ≡ other) × (spent_view ≡ u)). subst (Apart (views_joined v w)) t.1 (record { tickets = (λ _ q. absurd (off q)); numbers = (λ k _ q. absurd (off q)) }))
        (λ (t : (j ≢ other) × (get_elem? s.views j ≡ some u)).
        let p = h.facts.apart id j v u (λ q. apart (sym q)) at t.1 in
        let r = h.facts.apart other j w u (λ q. t.0 (sym q)) there t.1 in
        record { tickets = p.tickets; numbers = (λ k q. ⊎_elim (λ x. p.numbers k x) (λ x. r.numbers k x) (speaker_of v w k q)) })
        (at_set s.views other j spent_view u is))
        (placed turns basis by b seats s' h.history id v (views_joined v w) at' (λ q. q) one.place)
        h.facts.numbers in
        record { tickets = h.tickets; serving = h.serving; history = h.history; facts = two }

    pub joins : (id other : ℕ) (v w : View X B) → v.stage ≡ Idle → w.stage ≡ Idle → Joins Rule id v other w (views_joined v w) spent_view
    joins id other v w idle idle' s h at ne there =
        subst (λ (l : List (View X B)). Rule (record { words = s.words; homes = s.homes; views = l })) (set_both s.views other id spent_view (views_joined v w) ne)
        (joins_to s h id other v w idle idle' at ne (sym (set_else s.views id other (views_joined v w) ne) ∙ there))

    -- what both had seen is compared
    pub compares : (slots id : ℕ) (m : Me T (View X B)) → m.0.stage ≡ Idle → length m.0.met ≤ length m.0.seen → Allows Rule slots id m 0 (λ n. n) (Compares by (step slots 0 0 0 none) m)
    compares slots id m idle le s h len at lt =
        let v = m.0 in
        let k = h.facts.knows id v at in
        let live : is_live v.stage ≡ true = ap is_live idle in
        let w = view_at v.stage v.ticket v.seen v.mine v in
        let Goal : List ℕ → Type 0 = λ ws. (w : View X B) × (a : Act T) × Valid s.homes m.1 a × Rule (record { words = slice_set ws 0 (slice_index ws 0); homes = homes_after s.homes m.1 a; views = set s.views id w }) × Compares by (step slots 0 0 0 none) m (slice_index ws 0) (w, carried_after m.1 a) in
        subst Goal (sym h.facts.words) (
          w,
          keeps,
          tt,
          moved turns basis by b seats s h id v w at h.tickets h.serving s.homes h.facts.bound (let all = h.facts.counted in omega arith)
              (knows_at by b seats h.history v v.stage v.ticket live k)
              (stands_aside h.tickets h.serving h.history (s.homes ≡ none ∷ []) w (ap has_ticket idle))
              (λ j u _ is. h.facts.stands j u is)
              (λ j u ne is. let p = h.facts.apart id j v u (λ q. ne (sym q)) at is in record { tickets = p.tickets; numbers = p.numbers })
              (placed turns basis by b seats s h.history id v w at (λ q. q) h.facts.place),
          (prefix_shorter v.met v.seen h.history k.met (k.seen live) le, refl, record { own = k.own live; told = k.told }),
        )

    -- ---- the end: no other seat can hold the value, since each speaks for its own number

    pub closes : (id : ℕ) (v : View X B) (ws : List ℕ) (xs : List T) (z : T) → v.stage ≡ Idle → ((k : ℕ) → k < seats → speaks_for k v.mine ≡ true)
        → Final (Seen Rule id v) ws xs → get_elem? xs 0 ≡ some z → IsClosed turns basis by b seats v z
    closes id v ws xs z idle all last there =
        let s = last.0 in
        let h = last.1.0 in
        let at = last.1.1 in
        let f = h.facts.knows id v at in
        ⊎_elim
        (λ (y : IsHome turns basis b h.history s.homes).
        let same : y.value ≡ z = some-injective y.value z (sym (last.4 0 y.value (ap (λ (l : List (maybe.Option T)). get_elem? l 0) y.here)) ∙ there) in
        subst (IsClosed turns basis by b seats v) same (record {
          basis_is = y.basis_is;
          seen = subst (IsPrefix v.seen) (sym y.turns_are) (f.seen (ap is_live idle));
          lists = (λ k lt. ap (turns_of by k) y.turns_are ∙ f.lists k (all k lt));
          others = (λ k le. ap (turns_of by k) y.turns_are ∙ h.facts.numbers k le);
        }))
        (λ (a : IsAway s.views s.homes).
        let g = h.facts.knows a.id a.view a.at in
        let stage = a.view.stage in
        let own = g.own (is_live-has_ticket stage (has_ticket-is_served stage (is_served-has_value stage a.has))) in
        dite (ℕ_discrete a.id id)
        (λ same. let e : a.view ≡ v = some-injective a.view v (sym a.at ∙ (ap (λ k. get_elem? s.views k) same ∙ at)) in absurd (off (ap has_value (sym idle) ∙ (ap (λ (x : View X B). has_value x.stage) (sym e) ∙ a.has))))
        (λ ne. absurd ((h.facts.apart a.id id a.view v ne a.at at).numbers a.view.number own (all a.view.number (g.below a.view.number own)))))
        h.facts.place

  -- ---- the seats that are dealt

  pub knows_itself : (by : X → ℕ) (b : B) (seats k : ℕ) → KnowsItsTurns {X = X} {B = B} by (fresh_view b seats k)
  knows_itself by b seats k = record { own = speaks_for_itself X k; told = λ n _. sym (list_of-one {X = X} n k) }

  pub deals_on : {S : Type 0} (f : S → View X B) (l m : List S) (x : S) (b : B) (seats k j : ℕ) (all : List (View X B)) → j ≡ k → m ≡ l ++ x ∷ [] → f x ≡ fresh_view b seats k
      → map f l ++ dealt_views b seats (suc k) ≡ all → map f m ++ dealt_views b seats j ≡ all
  deals_on f l m x b seats k j all same more is h =
      ap (λ q. map f m ++ dealt_views b seats q) same ∙ ap (λ t. map f t ++ dealt_views b seats k) more ∙ (ap (λ t. t ++ dealt_views b seats k) (map-append f l (x ∷ [])) ∙ (append_assoc (map f l) (f x ∷ []) (dealt_views b seats k) ∙ (ap (λ v. map f l ++ v ∷ dealt_views b seats k) is ∙ h)))

  -- in the order of their numbers
  pub reverse-dealt_views : (b : B) (seats k : ℕ) → reverse (dealt_views {X = X} b seats k) ≡ map (fresh_view {X = X} b seats) (range_with_len 0 k)
  reverse-dealt_views b seats zero = refl
  reverse-dealt_views b seats (suc k) =
      let next : k + 1 ≡ suc k = omega arith in
      reverse-cons (fresh_view {X = X} b seats k) (dealt_views {X = X} b seats k) ∙ (ap (λ l. l ++ fresh_view {X = X} b seats k ∷ []) (reverse-dealt_views b seats k) ∙ (sym (map-range_with_len_more (fresh_view {X = X} b seats) 0 k k (omega arith)) ∙ ap (λ n. map (fresh_view {X = X} b seats) (range_with_len 0 n)) next))

  -- the front at the start
  pub opens : {T : Type 0} (turns : T → List X) (basis : T → B) (by : X → ℕ) (seats : ℕ) (y : T) → turns y ≡ [] → 0 < seats
      → Keeps turns basis by (basis y) seats (opening (0 ∷ 0 ∷ 0 ∷ []) (y ∷ []) (dealer_view (basis y) seats seats))
  opens {T = T} turns basis by seats y empty some_seats = record {
    tickets = 0;
    serving = 0;
    history = [];
    facts = record {
      words = refl;
      bound = omega arith;
      counted = refl;
      knows = (λ i v e. subst (Knows by (basis y) seats []) (is i v e) (record { basis = (λ _. refl); count = (λ _. refl); own = (λ _. speaks_for_all X 0 seats some_seats); below = (λ k q. speaks_for_below X k seats q); lists = (λ k _. sym (list_of-empty_lists k seats)); told = (λ k _. sym (list_of-empty_lists k seats)); seen = (λ _. ([], refl)); met = ([], refl) }));
      stands = (λ i v e. stands_aside 0 0 [] (map some (y ∷ []) ≡ none ∷ []) v (ap (λ (u : View X B). has_ticket u.stage) (sym (is i v e))));
      apart = (λ i j v w ne at there. absurd (ne (first i v at ∙ sym (first j w there))));
      place = inl (record { value = y; here = refl; turns_are = empty; basis_is = refl });
      numbers = (λ k _. refl);
    };
  }
    where
      first : (i : ℕ) (v : View X B) → get_elem? (dealer_view (basis y) seats seats ∷ []) i ≡ some v → i ≡ 0
      first zero v e = refl
      first (suc i) v e = absurd (some-ne-none v (sym e))

      is : (i : ℕ) (v : View X B) → get_elem? (dealer_view (basis y) seats seats ∷ []) i ≡ some v → dealer_view (basis y) seats seats ≡ v
      is zero v e = some-injective _ _ e
      is (suc i) v e = absurd (some-ne-none v (sym e))
