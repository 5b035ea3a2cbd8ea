-- Where what a replica holds comes from.
use Rattle.std.proofs.Common.{◌≡◌, ◌==◌, ℕ, Bool, true, false, cond, List, [], ◌∷◌, ◌++◌, Option, Some, None, refl, sym, ap, ◌∙◌, subst}
use Rattle.std.specs.List.{AllByRecursion}
use Rattle.std.specs.Prelude.{◌↔◌}
use Rattle.device_types.specs.declared.event.Event.TheVariants.{Take, Answer, Read, Write, Stop}
use Rattle.device_types.specs.declared.event.EventAnswer.{EventAnswer}
use Rattle.device_types.specs.declared.event.EventAnswer.TheVariants as told
use Rattle.schedule_laws.specs.Counts.{Turn, Arrival, Held, after_read, held_after, hand}
use Rattle.schedule_laws.specs.Counts.Held.{Nothing, Taken, Ready}
use Rattle.schedule_laws.specs.Origins.{brought, ends, was_told, IsBetween, IsFrom, IsReadySince}
use Rattle.schedule_laws.specs.Promise.{Holds}

-- ---- what one turn does to a hand

took_if : (b : Bool) (p : ℕ × Arrival) (h : Held) (d : ℕ) (what : Arrival) → cond b (Some p) None ≡ Some (d, what) → cond b (Taken p.0 p.1) h ≡ Taken d what
took_if true p h d what e = let is : p ≡ (d, what) = cc in rw is refl
took_if false p h d what e = absurd (cc)

none_if : {X : Type 0} (b : Bool) (x : X) (y h : Held) → cond b (Some x) None ≡ None → cond b y h ≡ h
none_if true x y h e = absurd (cc)
none_if false x y h e = refl

told_if : (b : Bool) (a c : EventAnswer) (h : Held) → cond b (Some a) None ≡ Some c → cond b (after_read a h) h ≡ after_read c h
told_if true a c h e = let is : a ≡ c = cc in rw is refl
told_if false a c h e = absurd (cc)

took : (r : ℕ) (t : Turn) (h : Held) (d : ℕ) (what : Arrival) → brought r t ≡ Some (d, what) → held_after r t.0 t.1 h ≡ Taken d what
took r (Take q e n, told.Taken) h d what b = took_if (q == r) _ h d what b
took r (Answer q e lane k, told.Taken) h d what b = took_if (q == r) _ h d what b
took r _ h d what b = absurd (cc)

pub ended : (r : ℕ) (t : Turn) (h : Held) → ends r t ≡ true → held_after r t.0 t.1 h ≡ Nothing
ended r (Stop q, told.Stopped) h e = rw e refl
ended r (Write q, told.Committed v) h e = rw e refl
ended r (Write q, told.Stale v w) h e = rw e refl
ended r _ h e = absurd (cc)

told_as : (r : ℕ) (t : Turn) (h : Held) (a : EventAnswer) → was_told r t ≡ Some a → held_after r t.0 t.1 h ≡ after_read a h
told_as r (Read q, b) h a e = told_if (q == r) b a h e
told_as r _ h a e = absurd (cc)

stays : (r : ℕ) (t : Turn) (h : Held) → IsBetween r t → was_told r t ≡ None → held_after r t.0 t.1 h ≡ h
stays r (Take q e m, told.Taken) h b n = none_if (q == r) _ _ h b.0
stays r (Answer q e lane k, told.Taken) h b n = none_if (q == r) _ _ h b.0
stays r (Stop q, told.Stopped) h b n = rw b.1 refl
stays r (Write q, told.Committed v) h b n = rw b.1 refl
stays r (Write q, told.Stale v w) h b n = rw b.1 refl
stays r (Read q, a) h b n = none_if (q == r) _ _ h n
stays r _ h b n = refl

-- ---- a read leaves what arrived

keeps : (d : ℕ) (what : Arrival) (a : EventAnswer) (h : Held) → Holds d what h → Holds d what (after_read a h)
keeps d what (told.Ready v) Nothing i = absurd i
keeps d what (told.Ready v) (Taken e other) i = i
keeps d what (told.Ready v) (Ready e other w) i = i
keeps d what _ Nothing i = absurd i
keeps d what _ (Taken e other) i = i
keeps d what _ (Ready e other w) i = i

kept : (d : ℕ) (what : Arrival) (a : EventAnswer) (h : Held) → Holds d what (after_read a h) → Holds d what h
kept d what (told.Ready v) Nothing i = absurd i
kept d what (told.Ready v) (Taken e other) i = i
kept d what (told.Ready v) (Ready e other w) i = i
kept d what _ Nothing i = absurd i
kept d what _ (Taken e other) i = i
kept d what _ (Ready e other w) i = i

makes : (d : ℕ) (what : Arrival) (v : ℕ) (h : Held) → Holds d what h → after_read (told.Ready v) h ≡ Ready d what v
makes d what v Nothing i = absurd i
makes d what v (Taken e other) i = rw (i.0, i.1) refl
makes d what v (Ready e other w) i = rw (i.0, i.1) refl

made : (d : ℕ) (what : Arrival) (v : ℕ) (a : EventAnswer) (h : Held) → after_read a h ≡ Ready d what v → (a ≡ told.Ready v) × Holds d what h
made d what v (told.Ready w) Nothing e = absurd (cc)
made d what v (told.Ready w) (Taken f other) e = let p : w ≡ v = cc in let q : d ≡ f = cc in let s : what ≡ other = cc in (ap told.Ready p, (q, s))
made d what v (told.Ready w) (Ready f other u) e = let p : w ≡ v = cc in let q : d ≡ f = cc in let s : what ≡ other = cc in (ap told.Ready p, (q, s))
made d what v _ Nothing e = absurd (cc)
made d what v _ (Taken f other) e = absurd (cc)
made d what v _ (Ready f other u) e = absurd (cc)

-- ---- what arrived

abbrev later : (r d : ℕ) (what : Arrival) (t : Turn) (H : List Turn) → IsBetween r t → IsFrom r d what H → IsFrom r d what (t ∷ H)
later r d what t H b f = record { after = t ∷ f.after; origin = f.origin; before = f.before; parts = ap (λ l. t ∷ l) f.parts; brings = f.brings; between = (b, f.between) }

pub from : (r d : ℕ) (what : Arrival) (H : List Turn) → Holds d what (hand r H) → IsFrom r d what H
from r d what [] i = absurd i
from r d what (t ∷ H) i = by (brought r t) (ends r t) (was_told r t) refl refl refl (from r d what H)
  where
    by : (b : Option (ℕ × Arrival)) (x : Bool) (w : Option EventAnswer) → brought r t ≡ b → ends r t ≡ x → was_told r t ≡ w → (Holds d what (hand r H) → IsFrom r d what H) → IsFrom r d what (t ∷ H)
    by (Some p) x w f g h more =
        let is : Holds d what (Taken p.0 p.1) = subst (Holds d what) (took r t (hand r H) p.0 p.1 f) i in
        record { after = []; origin = t; before = H; parts = refl; brings = rw (is.0, is.1) f; between = tt }
    by None true w f g h more = absurd (subst (Holds d what) (ended r t (hand r H) g) i)
    by None false None f g h more = later r d what t H (f, g) (more (subst (Holds d what) (stays r t (hand r H) (f, g) h) i))
    by None false (Some a) f g h more = later r d what t H (f, g) (more (kept d what a (hand r H) (subst (Holds d what) (told_as r t (hand r H) a h) i)))

holds_still : (r d : ℕ) (what : Arrival) (after K : List Turn) → AllByRecursion (IsBetween r) after → Holds d what (hand r K) → Holds d what (hand r (after ++ K))
holds_still r d what [] K b i = i
holds_still r d what (t ∷ after) K b i = by (was_told r t) refl (holds_still r d what after K b.1 i)
  where
    by : (w : Option EventAnswer) → was_told r t ≡ w → Holds d what (hand r (after ++ K)) → Holds d what (hand r (t ∷ (after ++ K)))
    by None e j = subst (Holds d what) (sym (stays r t (hand r (after ++ K)) b.0 e)) j
    by (Some a) e j = subst (Holds d what) (sym (told_as r t (hand r (after ++ K)) a e)) (keeps d what a (hand r (after ++ K)) j)

at_origin : (r d : ℕ) (what : Arrival) (t : Turn) (H : List Turn) → brought r t ≡ Some (d, what) → Holds d what (hand r (t ∷ H))
at_origin r d what t H b = subst (Holds d what) (sym (took r t (hand r H) d what b)) (refl, refl)

holds : (r d : ℕ) (what : Arrival) (H : List Turn) → IsFrom r d what H → Holds d what (hand r H)
holds r d what H f =
    subst (λ K. Holds d what (hand r K)) f.parts
    (holds_still r d what f.after (f.origin ∷ f.before) f.between (at_origin r d what f.origin f.before f.brings))

pub held_is : (r d : ℕ) (what : Arrival) (H : List Turn) → Holds d what (hand r H) ↔ IsFrom r d what H
held_is r d what H = (from r d what H, holds r d what H)

pub nothing_is : (r : ℕ) (H : List Turn) → (hand r H ≡ Nothing) ↔ ((d : ℕ) (what : Arrival) → IsFrom r d what H → ⊥)
nothing_is r H = ((λ e d what f. subst (Holds d what) e (holds r d what H f)), (λ none. by (hand r H) refl none))
  where
    by : (h : Held) → hand r H ≡ h → ((d : ℕ) (what : Arrival) → IsFrom r d what H → ⊥) → hand r H ≡ Nothing
    by Nothing e none = e
    by (Taken d what) e none = absurd (none d what (from r d what H (subst (Holds d what) (sym e) (refl, refl))))
    by (Ready d what v) e none = absurd (none d what (from r d what H (subst (Holds d what) (sym e) (refl, refl))))

-- ---- steps that were made of it

ready : (r d : ℕ) (what : Arrival) (v : ℕ) (H : List Turn) → hand r H ≡ Ready d what v → IsReadySince r d what v H
ready r d what v [] e = absurd (cc)
ready r d what v (t ∷ H) e = by (brought r t) (ends r t) (was_told r t) refl refl refl (ready r d what v H)
  where
    by : (b : Option (ℕ × Arrival)) (x : Bool) (w : Option EventAnswer) → brought r t ≡ b → ends r t ≡ x → was_told r t ≡ w → (hand r H ≡ Ready d what v → IsReadySince r d what v H) → IsReadySince r d what v (t ∷ H)
    by (Some p) x w f g h more = absurd (let bad = sym (took r t (hand r H) p.0 p.1 f) ∙ e in cc)
    by None true w f g h more = absurd (let bad = sym (ended r t (hand r H) g) ∙ e in cc)
    by None false None f g h more =
        let old = more (sym (stays r t (hand r H) (f, g) h) ∙ e) in
        (later r d what t H (f, g) old.0, record { after = t ∷ old.1.after; read = old.1.read; before = old.1.before; parts = ap (λ l. t ∷ l) old.1.parts; tells = old.1.tells; none = (h, old.1.none) })
    by None false (Some a) f g h more =
        let is = made d what v a (hand r H) (sym (told_as r t (hand r H) a h) ∙ e) in
        let old = from r d what H is.1 in
        (later r d what t H (f, g) old, record { after = []; read = t; before = old.after; parts = refl; tells = h ∙ ap Some is.0; none = tt })

ready_still : (r d : ℕ) (what : Arrival) (v : ℕ) (after : List Turn) (t : Turn) (before K : List Turn) → AllByRecursion (IsBetween r) (after ++ t ∷ before) → AllByRecursion (λ u. was_told r u ≡ None) after → was_told r t ≡ Some (told.Ready v) → Holds d what (hand r K) → hand r ((after ++ t ∷ before) ++ K) ≡ Ready d what v
ready_still r d what v [] t before K b n e i = told_as r t (hand r (before ++ K)) (told.Ready v) e ∙ makes d what v (hand r (before ++ K)) (holds_still r d what before K b.1 i)
ready_still r d what v (u ∷ after) t before K b n e i =
    stays r u (hand r ((after ++ t ∷ before) ++ K)) b.0 n.0 ∙ ready_still r d what v after t before K b.1 n.1 e i

is_ready : (r d : ℕ) (what : Arrival) (v : ℕ) (H : List Turn) → IsReadySince r d what v H → hand r H ≡ Ready d what v
is_ready r d what v H f =
    let K = f.0.origin ∷ f.0.before in
    let here = at_origin r d what f.0.origin f.0.before f.0.brings in
    let between = subst (AllByRecursion (IsBetween r)) (sym f.1.parts) f.0.between in
    let all = ap (λ l. hand r (l ++ K)) f.1.parts ∙ ap (hand r) f.0.parts in
    sym all ∙ ready_still r d what v f.1.after f.1.read f.1.before K between f.1.none f.1.tells here

pub ready_is : (r d : ℕ) (what : Arrival) (v : ℕ) (H : List Turn) → (hand r H ≡ Ready d what v) ↔ IsReadySince r d what v H
ready_is r d what v H = (ready r d what v H, is_ready r d what v H)
