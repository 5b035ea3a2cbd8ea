-- What the steps of one turn say together.
use Rattle.std.proofs.Common.{◌≡◌, ℕ, List, [], ◌∷◌, ◌++◌, length, get_or, Some, sym, ap, subst, ◌∙◌}
use Rattle.std.specs.Prelude.{Result, Ok, Err, IfOk, IfErr}
use mathlib.Core.List.{IsPrefix}
use Rattle.atomic_table.specs.Table.{Me}
use Rattle.front_lock.specs.declared.view.Stage.TheVariants.{Idle, Holding}
use Rattle.front_lock.specs.declared.view.View.{View}
use Rattle.front_lock.specs.Numbers.{with_turn}
use Rattle.front_lock.specs.View.{view_at}
use Rattle.front_lock.specs.Turns.{AddsTurn, RunsJob, MakesTurn, MissesTurn}

module _ {A E : Type 0} where
  pub when_ok : (r : Result A E) (P : A → Type 0) (a : A) → r ≡ Ok a → IfOk r P → P a
  when_ok r P a is h = subst (λ q. IfOk q P) is h

  pub when_err : (r : Result A E) (P : E → Type 0) (e : E) → r ≡ Err e → IfErr r P → P e
  when_err r P e is h = subst (λ q. IfErr q P) is h

module _ {A : Type 0} where
  snoc_one : (l : List A) (x y : A) → l ++ x ∷ [] ≡ l ++ y ∷ [] → x ≡ y
  snoc_one [] x y e = ap (λ m. get_or m 0 x) e
  snoc_one (z ∷ l) x y e = snoc_one l x y (cc e)

  held_one : (x y : A) → ◌≡◌ {A = List (ℕ × A)} ((0, x) ∷ []) ((0, y) ∷ []) → x ≡ y
  held_one x y e = ap (λ (m : List (ℕ × A)). (get_or m 0 (0, x)).1) e

module _ {T X B : Type 0} (turns : T → List X) (basis : T → B) where
  -- a seat with the view v took a value, and the job ran on it
  pub record HasRun (v : View X B) (Outcome : B → List X → List X → Type 0) (count : ℕ) (m : Me T (View X B)) : Type 0 where
    pub old : T
    pub new : T
    pub me : m ≡ (view_at Holding v.ticket (turns old) v.mine v, (0, new) ∷ [])
    pub basis_was : v.basis ≡ Some (basis old)
    pub basis_is : v.basis ≡ Some (basis new)
    pub seen : IsPrefix v.seen (turns old)
    pub count_is : count ≡ length (turns new)
    pub outcome : Outcome (basis old) (turns old) (turns new)

  pub has_run : (v : View X B) (Outcome : B → List X → List X → Type 0) (count : ℕ) (m n : Me T (View X B)) (y : T)
      → m ≡ (view_at Holding v.ticket (turns y) v.mine v, (0, y) ∷ []) → v.basis ≡ Some (basis y) → IsPrefix v.seen (turns y)
      → RunsJob turns basis Outcome m count n → HasRun v Outcome count n
  has_run v Outcome count m n y took based seen ran =
      let same : ran.old ≡ y = held_one ran.old y (sym ran.held ∙ ap (λ (k : Me T (View X B)). k.1) took) in
      record {
        old = ran.old;
        new = ran.new;
        me = ran.holds ∙ (ap (λ (k : Me T (View X B)). (k.0, (0, ran.new) ∷ [])) took ∙ ap (λ (y : T). (view_at Holding v.ticket (turns y) v.mine v, (0, ran.new) ∷ [])) (sym same));
        basis_was = based ∙ ap (λ (y : T). Some (basis y)) (sym same);
        basis_is = based ∙ (ap (λ (y : T). Some (basis y)) (sym same) ∙ ap Some (sym ran.basis_is));
        seen = subst (λ (y : T). IsPrefix v.seen (turns y)) (sym same) seen;
        count_is = ran.count_is;
        outcome = ran.outcome;
      }

  -- it added a turn, and the length of the history was raised
  pub has_raised : {A : Type 0} (by : X → ℕ) (number : ℕ) (done : B → List X → X → A → Type 0) (a : A) (v : View X B) (Outcome : B → List X → List X → Type 0) (count : ℕ) (m n : Me T (View X B)) (x : X) (y : T)
      → (r : HasRun v Outcome count m) (t : AddsTurn by number (done (basis r.old)) (turns r.old) a (turns r.new))
      → m.1 ≡ (0, y) ∷ [] → turns y ≡ m.0.seen ++ x ∷ [] → n ≡ (view_at Holding m.0.ticket (turns y) (with_turn m.0.number x m.0.mine) m.0, m.1)
      → n ≡ (view_at Holding v.ticket (turns r.new) (with_turn v.number t.turn v.mine) v, (0, r.new) ∷ [])
  has_raised by number done a v Outcome count m n x y r t held longer up =
      let same : y ≡ r.new = held_one y r.new (sym held ∙ ap (λ (k : Me T (View X B)). k.1) r.me) in
      let one : x ≡ t.turn = snoc_one (turns r.old) x t.turn (sym (longer ∙ ap (λ (k : Me T (View X B)). k.0.seen ++ x ∷ []) r.me) ∙ (ap turns same ∙ t.added)) in
      up ∙ (ap (λ (k : Me T (View X B)). (view_at Holding k.0.ticket (turns y) (with_turn k.0.number x k.0.mine) k.0, k.1)) r.me ∙ (λ i. (view_at Holding v.ticket (turns (same i)) (with_turn v.number (one i) v.mine) v, (0, r.new) ∷ [])))

  pub makes_turn : {A : Type 0} (by : X → ℕ) (number : ℕ) (done : B → List X → X → A → Type 0) (a : A) (v : View X B) (Outcome : B → List X → List X → Type 0) (count : ℕ) (m n k : Me T (View X B))
      → (r : HasRun v Outcome count m) (t : AddsTurn by number (done (basis r.old)) (turns r.old) a (turns r.new)) → v.number ≡ number
      → n ≡ (view_at Holding v.ticket (turns r.new) (with_turn v.number t.turn v.mine) v, (0, r.new) ∷ []) → k ≡ (view_at Idle 0 n.0.seen n.0.mine n.0, [])
      → MakesTurn turns basis by done v a k.0
  makes_turn by number done a v Outcome count m n k r t mine up out = record {
    value = r.old;
    turn = t.turn;
    basis_is = r.basis_was;
    seen = r.seen;
    view_is = ap (λ (q : Me T (View X B)). q.0) out ∙ (ap (λ (q : Me T (View X B)). view_at Idle 0 q.0.seen q.0.mine q.0) up ∙ ap (λ l. view_at Idle 0 l (with_turn v.number t.turn v.mine) v) t.added);
    of = t.of ∙ sym mine;
    is_done = t.is_done;
  }

  pub misses_turn : (v : View X B) (Outcome : B → List X → List X → Type 0) (count : ℕ) (m k : Me T (View X B)) → HasRun v Outcome count m → k ≡ (view_at Idle 0 m.0.seen m.0.mine m.0, []) → MissesTurn turns basis v k.0
  misses_turn v Outcome count m k r out = record {
    value = r.old;
    basis_is = r.basis_was;
    seen = r.seen;
    view_is = ap (λ (q : Me T (View X B)). q.0) out ∙ ap (λ (q : Me T (View X B)). view_at Idle 0 q.0.seen q.0.mine q.0) r.me;
  }
