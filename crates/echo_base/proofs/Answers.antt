-- A step that did not fail, one that did, and what stands behind it.
use Rattle.std.proofs.Common.{◌≡◌, ◌⊎◌, Bool, true, false, not, cond, Result, Ok, Err, IsOkAnd, refl, sym, ap, ◌∙◌, inl, inr}
use Rattle.echo_base.specs.declared.refusal.Refusal.{Refusal}
use Rattle.echo_base.specs.declared.refusal.Bad.{Bad}
use Rattle.echo_base.specs.declared.refusal.Bad.TheVariants.{Refused, OutOfMemory}
use Rattle.echo_base.specs.Answer.{◌>>=◌, Answers, IsAnswerTaking}

abbrev pub ok_of : {A E : Type 0} → A → Result A E
ok_of v = Ok v

abbrev pub err_of : {A E : Type 0} → E → Result A E
err_of e = Err e

pub ok_err : {A E : Type 0} (v : A) (e : E) → ok_of v ≡ Err e → ⊥
ok_err v e h = cc

pub ok_is : {A E : Type 0} (v w : A) → ok_of {E = E} v ≡ Ok w → v ≡ w
ok_is v w h = cc

pub err_is : {A E : Type 0} (d e : E) → err_of {A = A} d ≡ Err e → d ≡ e
err_is d e h = cc

-- a value, and what is left behind it
pub ok_parts : {S A E : Type 0} (v w : A) (s t : S) → ok_of {A = A × S} {E = E} (v, s) ≡ Ok (w, t) → (v ≡ w) × (s ≡ t)
ok_parts {S} {A} v w s t h = (let e : ◌≡◌ {A = A × S} (v, s) (w, t) = ok_is (v, s) (w, t) h in (ap (λ (x : A × S). x.0) e, ap (λ (x : A × S). x.1) e))

-- ---- one behind another

abbrev pub bind : {E A B : Type 0} → Result A E → (A → Result B E) → Result B E
bind r f = r >>= f

-- both gave a value
pub bind_ok : {E A B : Type 0} (r : Result A E) (f : A → Result B E) (y : B) → bind r f ≡ Ok y → (x : A) × (r ≡ Ok x) × (f x ≡ Ok y)
bind_ok (Ok x) f y h = (x, refl, h)
bind_ok (Err e) f y h = absurd (ok_err y e (sym h))

-- the first failed, or the second
pub bind_err : {E A B : Type 0} (r : Result A E) (f : A → Result B E) (e : E) → bind r f ≡ Err e → (r ≡ Err e) ⊎ ((x : A) × (r ≡ Ok x) × (f x ≡ Err e))
bind_err (Ok x) f e h = inr (x, refl, h)
bind_err (Err d) f e h = inl (ap err_of (err_is d e h))

pub bind_same : {E A B : Type 0} (r : Result A E) (f g : A → Result B E) → ((x : A) → f x ≡ g x) → bind r f ≡ bind r g
bind_same (Ok x) f g same = same x
bind_same (Err e) f g same = refl

pub bind_assoc : {E A B C : Type 0} (r : Result A E) (f : A → Result B E) (g : B → Result C E) → bind (bind r f) g ≡ bind r (λ x. bind (f x) g)
bind_assoc (Ok x) f g = refl
bind_assoc (Err e) f g = refl

-- ---- tests

-- a test that has to hold
pub passed_ok : {A E : Type 0} (b : Bool) (d : E) (x y : A) → cond b (ok_of x) (Err d) ≡ Ok y → (b ≡ true) × (x ≡ y)
passed_ok true d x y h = (refl, ok_is x y h)
passed_ok false d x y h = absurd (ok_err y d (sym h))

pub passed_err : {A E : Type 0} (b : Bool) (d e : E) (x : A) → cond b (ok_of x) (Err d) ≡ Err e → (b ≡ false) × (e ≡ d)
passed_err true d e x h = absurd (ok_err x e h)
passed_err false d e x h = (refl, sym (err_is d e h))

-- a test that must not hold
pub refused_ok : {A E : Type 0} (b : Bool) (d : E) (x y : A) → cond b (Err d) (ok_of x) ≡ Ok y → (b ≡ false) × (x ≡ y)
refused_ok true d x y h = absurd (ok_err y d (sym h))
refused_ok false d x y h = (refl, ok_is x y h)

pub refused_err : {A E : Type 0} (b : Bool) (d e : E) (x : A) → cond b (Err d) (ok_of x) ≡ Err e → (b ≡ true) × (e ≡ d)
refused_err true d e x h = (refl, sym (err_is d e h))
refused_err false d e x h = absurd (ok_err x e h)

-- the one, and then something else, by the other
pub turned : {E A B : Type 0} (b : Bool) (x : A) (e : E) (k : A → Result B E) → cond b (Err e) (k x) ≡ bind (cond (not b) (ok_of x) (Err e)) k
turned true x e k = refl
turned false x e k = refl

-- ---- what a call answered

-- it is right, where what is wanted is right
pub answers_right : {A : Type 0} (Takes Right : A → Type 0) (Due : Refusal → Type 0) (wanted : Result A Refusal) (result : Result A Bad) → IsAnswerTaking Takes wanted result → ((v : A) → wanted ≡ Ok v → Right v) → ((e : Refusal) → wanted ≡ Err e → Due e) → Answers Right Due ((v : A) × Takes v × Right v) result
answers_right Takes Right Due wanted (Ok v) h right due = right v h
answers_right Takes Right Due wanted (Err (Refused e)) h right due = due e h
answers_right Takes Right Due (Ok v) (Err OutOfMemory) h right due = (v, h, right v refl)
answers_right Takes Right Due (Err e) (Err OutOfMemory) h right due = absurd h

-- no other value, and no refusal, where a value is wanted
pub answers_only : {A : Type 0} (Takes : A → Type 0) (wanted : Result A Refusal) (result : Result A Bad) → IsAnswerTaking Takes wanted result → (v : A) → wanted ≡ Ok v → Answers (λ w. w ≡ v) (λ e. ⊥) (Unit {0}) result
answers_only Takes wanted (Ok w) h v is = ok_is w v (sym h ∙ is)
answers_only Takes wanted (Err (Refused e)) h v is = ok_err v e (sym is ∙ h)
answers_only Takes wanted (Err OutOfMemory) h v is = tt

-- a refusal that is wanted, whatever memory there is
pub answers_refused : {A : Type 0} (Takes : A → Type 0) (wanted : Result A Refusal) (result : Result A Bad) → IsAnswerTaking Takes wanted result → (e : Refusal) → wanted ≡ Err e → result ≡ Err (Refused e)
answers_refused Takes wanted (Ok v) h e is = absurd (ok_err v e (sym h ∙ is))
answers_refused Takes wanted (Err (Refused d)) h e is = ap (λ (x : Refusal). Err (Refused x)) (err_is d e (sym h ∙ is))
answers_refused {A} Takes wanted (Err OutOfMemory) h e is = absurd (let none : IsOkAnd {T = A} (err_of e) Takes = rw is at h in none)
