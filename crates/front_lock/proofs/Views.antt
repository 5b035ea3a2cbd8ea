-- The rule where the view of one seat changes.
use Rattle.std.proofs.Common.{◌≡◌, ◌≢◌, ◌⊎◌, ℕ, zero, suc, ◌+◌, ◌^◌, ◌≤◌, true, false, List, [], ◌∷◌, length, set, refl, sym, ap, ◌∙◌, subst, inl, inr, ⊎_elim, arith, true≢false, cond}
use mathlib.Core.Option.{some, none, some-injective, some-ne-none}
use mathlib.Core.Option as maybe
use mathlib.Core.List.{IsPrefix}
use mathlib.Core.Logic.{dite}
use native.Mathlib.Decide.{ℕ_discrete}
use lib.ListN.{get_elem?}
use Rattle.atomic_table.specs.Table.{State}
use Rattle.atomic_table.proofs.Lists.{at_set, set_else, set_again}
use Rattle.front_lock.specs.declared.view.Stage.{Stage}
use Rattle.front_lock.specs.declared.view.Stage.TheVariants.{Spent, Idle, Waiting, Served, Holding}
use Rattle.front_lock.specs.declared.view.View.{View}
use Rattle.front_lock.specs.Numbers.{turns_of, speaks_for, list_of}
use Rattle.front_lock.specs.View.{is_live, has_ticket, is_served, has_value, view_at}
use Rattle.front_lock.specs.Rule.{ticket_count, Knows, Stands, Apart, IsHome, IsAway, Keeps, KeepsAt}

-- ---- stages

pub is_served-has_value : (s : Stage) → has_value s ≡ true → is_served s ≡ true
is_served-has_value Spent e = e
is_served-has_value Idle e = e
is_served-has_value Waiting e = e
is_served-has_value Served e = refl
is_served-has_value Holding e = refl

pub has_ticket-is_served : (s : Stage) → is_served s ≡ true → has_ticket s ≡ true
has_ticket-is_served Spent e = e
has_ticket-is_served Idle e = e
has_ticket-is_served Waiting e = refl
has_ticket-is_served Served e = refl
has_ticket-is_served Holding e = refl

pub is_live-has_ticket : (s : Stage) → has_ticket s ≡ true → is_live s ≡ true
is_live-has_ticket Spent e = e
is_live-has_ticket Idle e = refl
is_live-has_ticket Waiting e = refl
is_live-has_ticket Served e = refl
is_live-has_ticket Holding e = refl

-- what a stage adds to the count of tickets
abbrev pub weight : Stage → ℕ
weight s = cond (has_ticket s) 1 0

-- ---- lists

module _ {A : Type 0} where
  pub set_at : (l : List A) (i : ℕ) (a b : A) → get_elem? l i ≡ some a → get_elem? (set l i b) i ≡ some b
  set_at [] i a b e = absurd (some-ne-none a (sym e))
  set_at (x ∷ xs) zero a b e = refl
  set_at (x ∷ xs) (suc i) a b e = set_at xs i a b e

  all_set : (P : A → Type 0) (l : List A) (i : ℕ) (w : A) → ((j : ℕ) (u : A) → j ≢ i → get_elem? l j ≡ some u → P u) → P w → (j : ℕ) (u : A) → get_elem? (set l i w) j ≡ some u → P u
  all_set P l i w others mine j u e = ⊎_elim (λ (t : (j ≡ i) × (w ≡ u)). subst P t.1 mine) (λ (t : (j ≢ i) × (get_elem? l j ≡ some u)). others j u t.0 t.1) (at_set l i j w u e)

module _ {X B : Type 0} where
  -- ---- one view

  -- a live view at another stage and with another ticket, which has seen so much of the history and the turns of its lists
  pub knows_seen : (by : X → ℕ) (b : B) (seats : ℕ) (history : List X) (v : View X B) (stage : Stage) (ticket : ℕ) (seen : List X) → is_live v.stage ≡ true → Knows by b seats history v
      → ((k : ℕ) → speaks_for k v.mine ≡ true → turns_of by k seen ≡ list_of k v.mine) → IsPrefix seen history → Knows by b seats history (view_at stage ticket seen v.mine v)
  knows_seen by b seats history v stage ticket seen live k told begins = record {
    basis = (λ _. k.basis live);
    count = (λ _. k.count live);
    own = (λ _. k.own live);
    below = k.below;
    lists = k.lists;
    told = told;
    seen = (λ _. begins);
    met = (history, refl);
  }

  -- one that has seen no more knows the same
  pub knows_at : (by : X → ℕ) (b : B) (seats : ℕ) (history : List X) (v : View X B) (stage : Stage) (ticket : ℕ) → is_live v.stage ≡ true → Knows by b seats history v → Knows by b seats history (view_at stage ticket v.seen v.mine v)
  knows_at by b seats history v stage ticket live k = knows_seen by b seats history v stage ticket v.seen live k k.told (k.seen live)

  -- one with no ticket stands anywhere
  pub stands_aside : (tickets serving : ℕ) (history : List X) (IsOut : Type 0) (v : View X B) → has_ticket v.stage ≡ false → Stands tickets serving history IsOut v
  stands_aside tickets serving history IsOut v aside = record {
    from = (λ k. absurd (no k));
    to = (λ k. absurd (no k));
    now = (λ k. absurd (no (has_ticket-is_served v.stage k)));
    whole = (λ k. absurd (no (has_ticket-is_served v.stage (is_served-has_value v.stage k))));
    out = (λ k. absurd (no (has_ticket-is_served v.stage (is_served-has_value v.stage k))));
  }
    where
      no : has_ticket v.stage ≡ true → ⊥
      no k = true≢false (sym k ∙ aside)

  -- ---- two views

  pub flip : (v w : View X B) → Apart v w → Apart w v
  flip v w p = record { tickets = (λ a b e. p.tickets b a (sym e)); numbers = (λ k a b. p.numbers k b a) }

  -- ---- all views

  ticket_count-set : (vs : List (View X B)) (i : ℕ) (v w : View X B) → get_elem? vs i ≡ some v → ticket_count (set vs i w) + weight v.stage ≡ ticket_count vs + weight w.stage
  ticket_count-set [] i v w e = absurd (some-ne-none v (sym e))
  ticket_count-set (u ∷ us) zero v w e = let s : u ≡ v = some-injective u v e in let t : weight u.stage ≡ weight v.stage = ap (λ (x : View X B). weight x.stage) s in omega arith
  ticket_count-set (u ∷ us) (suc i) v w e = let h = ticket_count-set us i v w e in omega arith

  apart_set : (vs : List (View X B)) (i : ℕ) (w : View X B)
      → ((j k : ℕ) (u v : View X B) → j ≢ k → get_elem? vs j ≡ some u → get_elem? vs k ≡ some v → Apart u v)
      → ((j : ℕ) (u : View X B) → j ≢ i → get_elem? vs j ≡ some u → Apart w u)
      → (j k : ℕ) (u v : View X B) → j ≢ k → get_elem? (set vs i w) j ≡ some u → get_elem? (set vs i w) k ≡ some v → Apart u v
  apart_set vs i w old mine j k u v ne e f = ⊎_elim
      (λ (t : (j ≡ i) × (w ≡ u)). ⊎_elim
      (λ (s : (k ≡ i) × (w ≡ v)). absurd (ne (t.0 ∙ sym s.0)))
      (λ (s : (k ≢ i) × (get_elem? vs k ≡ some v)). subst (λ x. Apart x v) t.1 (mine k v s.0 s.1))
      (at_set vs i k w v f))
      (λ (t : (j ≢ i) × (get_elem? vs j ≡ some u)). ⊎_elim
      (λ (s : (k ≡ i) × (w ≡ v)). subst (λ x. Apart u x) s.1 (flip w u (mine j u t.0 t.1)))
      (λ (s : (k ≢ i) × (get_elem? vs k ≡ some v)). old j k u v ne t.1 s.1)
      (at_set vs i k w v f))
      (at_set vs i j w u e)

  away_set : {T : Type 0} (vs : List (View X B)) (homes : List (maybe.Option T)) (i : ℕ) (v w : View X B) → get_elem? vs i ≡ some v → (has_value v.stage ≡ true → has_value w.stage ≡ true)
      → IsAway vs homes → IsAway (set vs i w) homes
  away_set vs homes i v w at keeps a = dite (ℕ_discrete a.id i)
      (λ same. let is : a.view ≡ v = some-injective a.view v (sym a.at ∙ (ap (λ k. get_elem? vs k) same ∙ at)) in
      record { id = i; view = w; gone = a.gone; at = set_at vs i v w at; has = keeps (ap (λ (x : View X B). has_value x.stage) (sym is) ∙ a.has) })
      (λ else. record { id = a.id; view = a.view; gone = a.gone; at = set_else vs i a.id w else ∙ a.at; has = a.has })

  module _ {T : Type 0} (turns : T → List X) (basis : T → B) (by : X → ℕ) (b : B) (seats : ℕ) where
    -- the value stays where it is
    pub placed : (s : State T (View X B)) (history : List X) (id : ℕ) (v w : View X B) → get_elem? s.views id ≡ some v → (has_value v.stage ≡ true → has_value w.stage ≡ true)
        → IsHome turns basis b history s.homes ⊎ IsAway s.views s.homes → IsHome turns basis b history s.homes ⊎ IsAway (set s.views id w) s.homes
    placed s history id v w at keeps = ⊎_elim inl (λ a. inr (away_set s.views s.homes id v w at keeps a))

    -- the rule after one view is changed
    pub moved_at : (s : State T (View X B)) (drawn served : ℕ) (past : List X) → KeepsAt turns basis by b seats drawn served past s → (id : ℕ) (v w : View X B) → get_elem? s.views id ≡ some v
        → (tickets serving : ℕ) (history : List X) (words : List ℕ) (homes : List (maybe.Option T)) → words ≡ tickets ∷ serving ∷ length history ∷ [] → tickets ≤ 2 ^ 62
        → serving + (ticket_count s.views + weight w.stage) ≡ tickets + weight v.stage
        → Knows by b seats history w → ((j : ℕ) (u : View X B) → j ≢ id → get_elem? s.views j ≡ some u → Knows by b seats history u)
        → Stands tickets serving history (homes ≡ none ∷ []) w → ((j : ℕ) (u : View X B) → j ≢ id → get_elem? s.views j ≡ some u → Stands tickets serving history (homes ≡ none ∷ []) u)
        → ((j : ℕ) (u : View X B) → j ≢ id → get_elem? s.views j ≡ some u → Apart w u)
        → (IsHome turns basis b history homes ⊎ IsAway (set s.views id w) homes)
        → ((k : ℕ) → seats ≤ k → turns_of by k history ≡ [])
        → KeepsAt turns basis by b seats tickets serving history (record { words = words; homes = homes; views = set s.views id w })
    moved_at s drawn served past h id v w at tickets serving history words homes words_are bound count knows others stands queue apart place numbers = record {
      words = words_are;
      bound = bound;
      counted = (let c = ticket_count-set s.views id v w at in omega arith);
      knows = all_set (Knows by b seats history) s.views id w others knows;
      stands = all_set (Stands tickets serving history (homes ≡ none ∷ [])) s.views id w queue stands;
      apart = apart_set s.views id w h.apart apart;
      place = place;
      numbers = numbers;
    }

    -- the same where no turn is made
    pub moved : (s : State T (View X B)) (h : Keeps turns basis by b seats s) (id : ℕ) (v w : View X B) → get_elem? s.views id ≡ some v
        → (tickets serving : ℕ) (homes : List (maybe.Option T)) → tickets ≤ 2 ^ 62
        → serving + (ticket_count s.views + weight w.stage) ≡ tickets + weight v.stage
        → Knows by b seats h.history w
        → Stands tickets serving h.history (homes ≡ none ∷ []) w → ((j : ℕ) (u : View X B) → j ≢ id → get_elem? s.views j ≡ some u → Stands tickets serving h.history (homes ≡ none ∷ []) u)
        → ((j : ℕ) (u : View X B) → j ≢ id → get_elem? s.views j ≡ some u → Apart w u)
        → (IsHome turns basis b h.history homes ⊎ IsAway (set s.views id w) homes)
        → Keeps turns basis by b seats (record { words = tickets ∷ serving ∷ length h.history ∷ []; homes = homes; views = set s.views id w })
    moved s h id v w at tickets serving homes bound count knows stands queue apart place = record {
      tickets = tickets;
      serving = serving;
      history = h.history;
      facts = moved_at s h.tickets h.serving h.history h.facts id v w at tickets serving h.history (tickets ∷ serving ∷ length h.history ∷ []) homes refl bound count knows (λ j u _ there. h.facts.knows j u there) stands queue apart place h.facts.numbers;
    }

    -- the same where nothing changes
    pub unmoved : (s : State T (View X B)) (h : Keeps turns basis by b seats s) (id : ℕ) (v : View X B) → get_elem? s.views id ≡ some v
        → Keeps turns basis by b seats (record { words = h.tickets ∷ h.serving ∷ length h.history ∷ []; homes = s.homes; views = set s.views id v })
    unmoved s h id v at = subst (λ (p : List ℕ × List (View X B)). Keeps turns basis by b seats (record { words = p.0; homes = s.homes; views = p.1 })) (λ i. (h.facts.words i, sym (set_again s.views id v at) i)) h
