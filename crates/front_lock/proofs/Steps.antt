-- Each step of a turn keeps the rule.
use Rattle.std.proofs.Common.{◌≡◌, ◌≢◌, ℕ, ◌+◌, ◌^◌, ◌<◌, ◌==◌, true, List, [], ◌∷◌, ◌++◌, length, set, Option, Some, None, refl, sym, ap, ◌∙◌, subst, inl, inr, ⊎_elim, arith}
use Rattle.std.specs.Prelude.{slice_index, slice_set}
use mathlib.Core.Option.{some, none, some-injective, some-ne-none}
use mathlib.Core.Option as maybe
use mathlib.Core.List.{IsPrefix}
use mathlib.Core.Logic.{dite}
use native.Mathlib.Decide.{ℕ_discrete}
use base.Growing.{prefix_refl, prefix_trans}
use prog.Atomic.{either}
use lib.ListN.{get_elem?}
use Rattle.atomic_table.specs.Table.{State, Me, Act, keeps, takes, gives, step, Valid, homes_after, carried_after, Allows}
use Rattle.atomic_table.proofs.Lists.{exchanged}
use Rattle.front_lock.specs.declared.view.Stage.{Stage}
use Rattle.front_lock.specs.declared.view.Stage.TheVariants.{Idle, Waiting, Served, Holding}
use Rattle.front_lock.specs.declared.view.View.{View}
use Rattle.front_lock.specs.Numbers.{turns_of, speaks_for, list_of, with_turn}
use Rattle.front_lock.specs.View.{is_live, has_ticket, is_served, has_value, view_at}
use Rattle.front_lock.specs.Rule.{Knows, Apart, IsHome, IsAway, Keeps}
use Rattle.front_lock.specs.Steps.{Draws, Looks, Takes, Raises, Returns, Passes}
use Rattle.front_lock.proofs.Histories.{off, turns_of-else, turns_of-here, speaks_for-with_turn, list_of-with_turn_else, list_of-with_turn_here}
use Rattle.front_lock.proofs.Views.{is_served-has_value, has_ticket-is_served, weight, set_at, knows_seen, knows_at, stands_aside, placed, moved_at, moved, unmoved}

module _ {T X B : Type 0} (turns : T → List X) (basis : T → B) (by : X → ℕ) (b : B) (seats : ℕ) where
  abbrev Rule : State T (View X B) → Type 0
  Rule = Keeps turns basis by b seats

  -- what a step leaves, with the words written out
  abbrev Leaves : State T (View X B) → ℕ → Me T (View X B) → List ℕ → (Me T (View X B) → Type 0) → Type 0
  Leaves s id me words then = (w : View X B) × (a : Act T) × Valid s.homes me.1 a × Rule (record { words = words; homes = homes_after s.homes me.1 a; views = set s.views id w }) × then (w, carried_after me.1 a)

  -- two seats that are served are one
  two_served : (s : State T (View X B)) (h : Rule s) (i j : ℕ) (v u : View X B) → j ≢ i → get_elem? s.views i ≡ some v → get_elem? s.views j ≡ some u → is_served v.stage ≡ true → is_served u.stage ≡ true → ⊥
  two_served s h i j v u ne at there sv su = (h.facts.apart j i u v ne there at).tickets (has_ticket-is_served u.stage su) (has_ticket-is_served v.stage sv) ((h.facts.stands j u there).now su ∙ sym ((h.facts.stands i v at).now sv))

  -- the view of a seat with a ticket, at another stage where it keeps it, is as far apart from the others
  apart_on : (s : State T (View X B)) (h : Rule s) (id : ℕ) (v : View X B) (stage : Stage) (seen : List X) → get_elem? s.views id ≡ some v → has_ticket v.stage ≡ true
      → (j : ℕ) (u : View X B) → j ≢ id → get_elem? s.views j ≡ some u → Apart (view_at stage v.ticket seen v.mine v) u
  apart_on s h id v stage seen at queues j u ne there = let p = h.facts.apart id j v u (λ k. ne (sym k)) at there in record { tickets = (λ _. p.tickets queues); numbers = p.numbers }

  -- ---- a ticket is drawn

  pub draws : (slots id : ℕ) (v : View X B) (c : List (ℕ × T)) (old : ℕ) → v.stage ≡ Idle → old < 2 ^ 62
      → Allows Rule slots id (v, c) 0 (λ n. either (n == old) (old + 1) n) (Draws (step slots 0 old (old + 1) none) (v, c))
  draws slots id v c old idle low s h len at lt =
      let Goal : List ℕ → Type 0 = λ ws. Leaves s id (v, c) (slice_set ws 0 (either (slice_index ws 0 == old) (old + 1) (slice_index ws 0))) (Draws (step slots 0 old (old + 1) none) (v, c) (slice_index ws 0)) in
      subst Goal (sym h.facts.words) (exchanged h.tickets old (old + 1) (λ n. Leaves s id (v, c) (n ∷ h.serving ∷ length h.history ∷ []) (Draws (step slots 0 old (old + 1) none) (v, c) h.tickets)) hit miss)
    where
      hit : h.tickets ≡ old → Leaves s id (v, c) ((old + 1) ∷ h.serving ∷ length h.history ∷ []) (Draws (step slots 0 old (old + 1) none) (v, c) h.tickets)
      hit e =
          let w = view_at Waiting old v.seen v.mine v in
          let none : weight v.stage ≡ 0 = ap weight idle in
          let all = h.facts.counted in (
            w,
            keeps,
            tt,
            moved turns basis by b seats s h id v w at (old + 1) h.serving s.homes (omega arith) (omega arith)
                (knows_at by b seats h.history v Waiting old (ap is_live idle) (h.facts.knows id v at))
                (record { from = (λ _. omega arith); to = (λ _. omega arith); now = (λ k. absurd (off k)); whole = (λ k. absurd (off k)); out = (λ k. absurd (off k)) })
                (λ j u ne there. let g = h.facts.stands j u there in record { from = g.from; to = (λ k. let t = g.to k in omega arith); now = g.now; whole = g.whole; out = g.out })
                (λ j u ne there. record { tickets = (λ _ k same. let t = (h.facts.stands j u there).to k in omega arith); numbers = (h.facts.apart id j v u (λ k. ne (sym k)) at there).numbers })
                (placed turns basis by b seats s h.history id v w at (λ k. absurd (off (ap has_value (sym idle) ∙ k))) h.facts.place),
            ((λ _. refl), (λ ne. absurd (ne e))),
          )

      miss : h.tickets ≢ old → Leaves s id (v, c) (h.tickets ∷ h.serving ∷ length h.history ∷ []) (Draws (step slots 0 old (old + 1) none) (v, c) h.tickets)
      miss ne = (v, keeps, tt, unmoved turns basis by b seats s h id v at, ((λ e. absurd (ne e)), (λ _. refl)))

  -- ---- what is served is looked at

  pub looks : (slots id : ℕ) (v : View X B) (c : List (ℕ × T)) → v.stage ≡ Waiting
      → Allows Rule slots id (v, c) 1 (λ n. n) (Looks (step slots 1 0 0 none) (v, c))
  looks slots id v c waits s h len at lt =
      let Goal : List ℕ → Type 0 = λ ws. Leaves s id (v, c) (slice_set ws 1 (slice_index ws 1)) (Looks (step slots 1 0 0 none) (v, c) (slice_index ws 1)) in
      subst Goal (sym h.facts.words) (dite (ℕ_discrete h.serving v.ticket) hit miss)
    where
      hit : h.serving ≡ v.ticket → Leaves s id (v, c) (h.tickets ∷ h.serving ∷ length h.history ∷ []) (Looks (step slots 1 0 0 none) (v, c) h.serving)
      hit e =
          let w = view_at Served v.ticket v.seen v.mine v in
          let f = h.facts.stands id v at in
          let queues : has_ticket v.stage ≡ true = ap has_ticket waits in
          let one : weight v.stage ≡ 1 = ap weight waits in
          let all = h.facts.counted in (
            w,
            keeps,
            tt,
            moved turns basis by b seats s h id v w at h.tickets h.serving s.homes h.facts.bound (omega arith)
                (knows_at by b seats h.history v Served v.ticket (ap is_live waits) (h.facts.knows id v at))
                (record { from = (λ _. f.from queues); to = (λ _. f.to queues); now = (λ _. sym e); whole = (λ k. absurd (off k)); out = (λ k. absurd (off k)) })
                (λ j u _ there. h.facts.stands j u there)
                (apart_on s h id v Served v.seen at queues)
                (placed turns basis by b seats s h.history id v w at (λ k. absurd (off (ap has_value (sym waits) ∙ k))) h.facts.place),
            ((λ _. refl), (λ ne. absurd (ne e))),
          )

      miss : h.serving ≢ v.ticket → Leaves s id (v, c) (h.tickets ∷ h.serving ∷ length h.history ∷ []) (Looks (step slots 1 0 0 none) (v, c) h.serving)
      miss ne = (v, keeps, tt, unmoved turns basis by b seats s h id v at, ((λ e. absurd (ne e)), (λ _. refl)))

  -- ---- the value is taken

  takes_alone : (slots id : ℕ) (v : View X B) → v.stage ≡ Served
      → Allows Rule slots id (v, []) 1 (λ n. n) (Takes turns basis (step slots 1 0 0 none) (v, []))
  takes_alone slots id v served s h len at lt =
      let Goal : List ℕ → Type 0 = λ ws. Leaves s id (v, []) (slice_set ws 1 (slice_index ws 1)) (Takes turns basis (step slots 1 0 0 none) (v, []) (slice_index ws 1)) in
      subst Goal (sym h.facts.words) (⊎_elim home away h.facts.place)
    where
      is : is_served v.stage ≡ true
      is = ap is_served served

      away : IsAway s.views s.homes → Leaves s id (v, []) (h.tickets ∷ h.serving ∷ length h.history ∷ []) (Takes turns basis (step slots 1 0 0 none) (v, []) h.serving)
      away a = dite (ℕ_discrete a.id id)
          (λ same. let e : a.view ≡ v = some-injective a.view v (sym a.at ∙ (ap (λ k. get_elem? s.views k) same ∙ at)) in absurd (off (ap has_value (sym served) ∙ (ap (λ (x : View X B). has_value x.stage) (sym e) ∙ a.has))))
          (λ ne. absurd (two_served s h id a.id v a.view ne at a.at is (is_served-has_value a.view.stage a.has)))

      home : IsHome turns basis b h.history s.homes → Leaves s id (v, []) (h.tickets ∷ h.serving ∷ length h.history ∷ []) (Takes turns basis (step slots 1 0 0 none) (v, []) h.serving)
      home y =
          let w = view_at Holding v.ticket (turns y.value) v.mine v in
          let k = h.facts.knows id v at in
          let f = h.facts.stands id v at in
          let live : is_live v.stage ≡ true = ap is_live served in
          let queues : has_ticket v.stage ≡ true = ap has_ticket served in
          let one : weight v.stage ≡ 1 = ap weight served in
          let all = h.facts.counted in
          let gone : set s.homes 0 none ≡ none ∷ [] = ap (λ (l : List (maybe.Option T)). set l 0 none) y.here in (
            w,
            takes 0 y.value,
            ap (λ (l : List (maybe.Option T)). get_elem? l 0) y.here,
            moved turns basis by b seats s h id v w at h.tickets h.serving (set s.homes 0 none) h.facts.bound (omega arith)
                (knows_seen by b seats h.history v Holding v.ticket (turns y.value) live k (λ n e. ap (turns_of by n) y.turns_are ∙ k.lists n e) (subst (λ l. IsPrefix l h.history) (sym y.turns_are) (prefix_refl h.history)))
                (record { from = (λ _. f.from queues); to = (λ _. f.to queues); now = (λ _. f.now is); whole = (λ _. y.turns_are); out = (λ _. gone) })
                (λ j u ne there. let g = h.facts.stands j u there in record { from = g.from; to = g.to; now = g.now; whole = g.whole; out = (λ _. gone) })
                (apart_on s h id v Holding (turns y.value) at queues)
                (inr (record { id = id; view = w; gone = gone; at = set_at s.views id v w at; has = refl })),
            (y.value, refl, k.basis live ∙ ap Some (sym y.basis_is), subst (IsPrefix v.seen) (sym y.turns_are) (k.seen live)),
          )

  pub takes_value : (slots id : ℕ) (m : Me T (View X B)) → m.1 ≡ [] → m.0.stage ≡ Served → Allows Rule slots id m 1 (λ n. n) (Takes turns basis (step slots 1 0 0 none) m)
  takes_value slots id m empty served = subst (λ c. Allows Rule slots id (m.0, c) 1 (λ n. n) (Takes turns basis (step slots 1 0 0 none) (m.0, c))) (sym empty) (takes_alone slots id m.0 served)

  -- ---- it is given back

  returns_alone : (slots id : ℕ) (v : View X B) (y : T) → v.stage ≡ Holding → turns y ≡ v.seen → v.basis ≡ Some (basis y)
      → Allows Rule slots id (v, (0, y) ∷ []) 1 (λ n. n) (Returns (step slots 1 0 0 none) (v, (0, y) ∷ []))
  returns_alone slots id v y holds same based s h len at lt =
      let Goal : List ℕ → Type 0 = λ ws. Leaves s id (v, (0, y) ∷ []) (slice_set ws 1 (slice_index ws 1)) (Returns (step slots 1 0 0 none) (v, (0, y) ∷ []) (slice_index ws 1)) in
      subst Goal (sym h.facts.words) back
    where
      is : is_served v.stage ≡ true
      is = ap is_served holds

      back : Leaves s id (v, (0, y) ∷ []) (h.tickets ∷ h.serving ∷ length h.history ∷ []) (Returns (step slots 1 0 0 none) (v, (0, y) ∷ []) h.serving)
      back =
          let w = view_at Served v.ticket v.seen v.mine v in
          let k = h.facts.knows id v at in
          let f = h.facts.stands id v at in
          let live : is_live v.stage ≡ true = ap is_live holds in
          let queues : has_ticket v.stage ≡ true = ap has_ticket holds in
          let one : weight v.stage ≡ 1 = ap weight holds in
          let all = h.facts.counted in
          let here : set s.homes 0 (some y) ≡ some y ∷ [] = ap (λ (l : List (maybe.Option T)). set l 0 (some y)) (f.out (ap has_value holds)) in (
            w,
            gives,
            tt,
            moved turns basis by b seats s h id v w at h.tickets h.serving (set s.homes 0 (some y)) h.facts.bound (omega arith)
                (knows_at by b seats h.history v Served v.ticket live k)
                (record { from = (λ _. f.from queues); to = (λ _. f.to queues); now = (λ _. f.now is); whole = (λ n. absurd (off n)); out = (λ n. absurd (off n)) })
                (λ j u ne there. let g = h.facts.stands j u there in record { from = g.from; to = g.to; now = g.now; whole = g.whole; out = (λ n. absurd (two_served s h id j v u ne at there is (is_served-has_value u.stage n))) })
                (apart_on s h id v Served v.seen at queues)
                (inl (record { value = y; here = here; turns_are = same ∙ f.whole (ap has_value holds); basis_is = ap unsome (sym based ∙ k.basis live) })),
            refl,
          )
        where
          unsome : Option B → B
          unsome (Some k) = k
          unsome None = b

  pub returns_value : (slots id : ℕ) (m : Me T (View X B)) (y : T) → m.1 ≡ (0, y) ∷ [] → m.0.stage ≡ Holding → turns y ≡ m.0.seen → m.0.basis ≡ Some (basis y)
      → Allows Rule slots id m 1 (λ n. n) (Returns (step slots 1 0 0 none) m)
  returns_value slots id m y held holds same based = subst (λ c. Allows Rule slots id (m.0, c) 1 (λ n. n) (Returns (step slots 1 0 0 none) (m.0, c))) (sym held) (returns_alone slots id m.0 y holds same based)

  -- ---- the length of the history is raised

  raises_alone : (slots id : ℕ) (v : View X B) (y : T) (x : X) (new : ℕ) → v.stage ≡ Holding → turns y ≡ v.seen ++ x ∷ [] → by x ≡ v.number → new ≡ length (turns y)
      → Allows Rule slots id (v, (0, y) ∷ []) 2 (λ _. new) (λ _. Raises turns (step slots 2 new 0 none) (v, (0, y) ∷ []) new)
  raises_alone slots id v y x new holds added mine new_is s h len at lt =
      let Goal : List ℕ → Type 0 = λ ws. Leaves s id (v, (0, y) ∷ []) (slice_set ws 2 new) (Raises turns (step slots 2 new 0 none) (v, (0, y) ∷ []) new) in
      subst Goal (sym h.facts.words) up
    where
      is : is_served v.stage ≡ true
      is = ap is_served holds

      live : is_live v.stage ≡ true
      live = ap is_live holds

      now : turns y ≡ h.history ++ x ∷ []
      now = added ∙ ap (λ l. l ++ x ∷ []) ((h.facts.stands id v at).whole (ap has_value holds))

      further : IsPrefix h.history (turns y)
      further = (x ∷ [], sym now)

      else_of : (k : ℕ) → k ≢ v.number → turns_of by k (turns y) ≡ turns_of by k h.history
      else_of k ne = ap (turns_of by k) now ∙ turns_of-else by k h.history x (λ e. ne (e ∙ mine))

      speaks_it : (k : ℕ) → speaks_for k (with_turn v.number x v.mine) ≡ true → speaks_for k v.mine ≡ true
      speaks_it k e = sym (speaks_for-with_turn v.number k x v.mine) ∙ e

      all_lists : (k : ℕ) → speaks_for k (with_turn v.number x v.mine) ≡ true → turns_of by k (turns y) ≡ list_of k (with_turn v.number x v.mine)
      all_lists k e =
          let f = h.facts.knows id v at in
          dite (ℕ_discrete k v.number)
          (λ q. ap (turns_of by k) now ∙ (turns_of-here by k h.history x (q ∙ sym mine) ∙ (ap (λ l. l ++ x ∷ []) (f.lists k (speaks_it k e)) ∙ subst (λ n. list_of n v.mine ++ x ∷ [] ≡ list_of n (with_turn v.number x v.mine)) (sym q) (sym (list_of-with_turn_here v.number x v.mine (f.own live))))))
          (λ ne. else_of k ne ∙ (f.lists k (speaks_it k e) ∙ sym (list_of-with_turn_else v.number k x v.mine ne)))

      -- the other views know of the longer history what they knew
      others : (j : ℕ) (u : View X B) → j ≢ id → get_elem? s.views j ≡ some u → Knows by b seats (turns y) u
      others j u ne there =
          let g = h.facts.knows j u there in
          let p = h.facts.apart id j v u (λ k. ne (sym k)) at there in
          record {
            basis = g.basis;
            count = g.count;
            own = g.own;
            below = g.below;
            lists = (λ k e. else_of k (λ q. p.numbers k (ap (λ n. speaks_for n v.mine) q ∙ (h.facts.knows id v at).own live) e) ∙ g.lists k e);
            told = g.told;
            seen = (λ l. prefix_trans u.seen h.history (turns y) (g.seen l) further);
            met = prefix_trans u.met h.history (turns y) g.met further;
          }

      up : Leaves s id (v, (0, y) ∷ []) (h.tickets ∷ h.serving ∷ new ∷ []) (Raises turns (step slots 2 new 0 none) (v, (0, y) ∷ []) new)
      up =
          let w = view_at Holding v.ticket (turns y) (with_turn v.number x v.mine) v in
          let k = h.facts.knows id v at in
          let f = h.facts.stands id v at in
          let queues : has_ticket v.stage ≡ true = ap has_ticket holds in
          let one : weight v.stage ≡ 1 = ap weight holds in
          let all = h.facts.counted in (
            w,
            keeps,
            tt,
            record {
              tickets = h.tickets;
              serving = h.serving;
              history = turns y;
              facts = moved_at turns basis by b seats s h.tickets h.serving h.history h.facts id v w at h.tickets h.serving (turns y) (h.tickets ∷ h.serving ∷ new ∷ []) s.homes (ap (λ n. h.tickets ∷ h.serving ∷ n ∷ []) new_is) h.facts.bound (omega arith)
                  (record {
                    basis = (λ _. k.basis live);
                    count = (λ _. k.count live);
                    own = (λ _. speaks_for-with_turn v.number v.number x v.mine ∙ k.own live);
                    below = (λ n e. k.below n (speaks_it n e));
                    lists = all_lists;
                    told = all_lists;
                    seen = (λ _. prefix_refl (turns y));
                    met = (turns y, refl);
                  })
                  others
                  (record { from = (λ _. f.from queues); to = (λ _. f.to queues); now = (λ _. f.now is); whole = (λ _. refl); out = (λ _. f.out (ap has_value holds)) })
                  (λ j u ne there. let g = h.facts.stands j u there in record { from = g.from; to = g.to; now = g.now; whole = (λ n. absurd (two_served s h id j v u ne at there is (is_served-has_value u.stage n))); out = g.out })
                  (λ j u ne there. let p = h.facts.apart id j v u (λ n. ne (sym n)) at there in record { tickets = (λ _. p.tickets queues); numbers = (λ n e. p.numbers n (speaks_it n e)) })
                  (⊎_elim
                  (λ (n : IsHome turns basis b h.history s.homes). absurd (some-ne-none n.value (some-injective (some n.value) none (ap (λ (l : List (maybe.Option T)). get_elem? l 0) (sym n.here ∙ f.out (ap has_value holds))))))
                  (λ a. inr (record { id = id; view = w; gone = a.gone; at = set_at s.views id v w at; has = refl }))
                  h.facts.place)
                  (λ n le. else_of n (λ q. let low = k.below v.number (k.own live) in omega arith) ∙ h.facts.numbers n le);
            },
            (x, y, refl, added, refl),
          )

  pub raises : (slots id : ℕ) (m : Me T (View X B)) (y : T) (x : X) (new : ℕ) → m.1 ≡ (0, y) ∷ [] → m.0.stage ≡ Holding → turns y ≡ m.0.seen ++ x ∷ [] → by x ≡ m.0.number → new ≡ length (turns y)
      → Allows Rule slots id m 2 (λ _. new) (λ _. Raises turns (step slots 2 new 0 none) m new)
  raises slots id m y x new held holds added mine is = subst (λ c. Allows Rule slots id (m.0, c) 2 (λ _. new) (λ _. Raises turns (step slots 2 new 0 none) (m.0, c) new)) (sym held) (raises_alone slots id m.0 y x new holds added mine is)

  -- ---- the next ticket is served

  pub passes : (slots id : ℕ) (v : View X B) (c : List (ℕ × T)) (new : ℕ) → v.stage ≡ Served → new ≡ v.ticket + 1
      → Allows Rule slots id (v, c) 1 (λ _. new) (λ _. Passes by (step slots 1 new 0 none) (v, c) new)
  passes slots id v c new served new_is s h len at lt =
      let Goal : List ℕ → Type 0 = λ ws. Leaves s id (v, c) (slice_set ws 1 new) (Passes by (step slots 1 new 0 none) (v, c) new) in
      subst Goal (sym h.facts.words) on
    where
      on : Leaves s id (v, c) (h.tickets ∷ new ∷ length h.history ∷ []) (Passes by (step slots 1 new 0 none) (v, c) new)
      on =
          let w = view_at Idle 0 v.seen v.mine v in
          let is : is_served v.stage ≡ true = ap is_served served in
          let queues : has_ticket v.stage ≡ true = ap has_ticket served in
          let one : weight v.stage ≡ 1 = ap weight served in
          let all = h.facts.counted in
          let mine : v.ticket ≡ h.serving = (h.facts.stands id v at).now is in (
            w,
            keeps,
            tt,
            moved turns basis by b seats s h id v w at h.tickets new s.homes h.facts.bound (omega arith)
                (knows_at by b seats h.history v Idle 0 (ap is_live served) (h.facts.knows id v at))
                (stands_aside h.tickets new h.history (s.homes ≡ none ∷ []) w refl)
                (λ j u ne there. let g = h.facts.stands j u there in record {
                  from = (λ k. let low = g.from k in let else = (h.facts.apart id j v u (λ k. ne (sym k)) at there).tickets queues k in omega arith);
                  to = g.to;
                  now = (λ k. absurd (two_served s h id j v u ne at there is k));
                  whole = g.whole;
                  out = g.out;
                })
                (λ j u ne there. record { tickets = (λ k. absurd (off k)); numbers = (h.facts.apart id j v u (λ k. ne (sym k)) at there).numbers })
                (placed turns basis by b seats s h.history id v w at (λ k. absurd (off (ap has_value (sym served) ∙ k))) h.facts.place),
            (refl, record { own = (h.facts.knows id v at).own (ap is_live served); told = (h.facts.knows id v at).told }),
          )
