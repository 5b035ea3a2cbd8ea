-- What the form of a session says of reading and writing sessions.
use Rattle.std.proofs.Common.{◌≡◌, ◌⊎◌, ◌↔◌, ℕ, zero, suc, ◌+◌, ◌≤◌, lit≤, rules, List, [], ◌++◌, length, Result, Ok, Err, IsOkAnd, refl, sym, ap, subst, ◌∙◌, inl, inr}
use Rattle.std.proofs.lemmas.List.{append-nil}
use Rattle.device_types.specs.Octets.{AreOctets}
use Rattle.device_types.specs.declared.session.Second.{Second}
use Rattle.device_types.specs.declared.session.Second.TheVariants as seconds
use Rattle.device_types.specs.declared.session.Session.{Session}
use Rattle.device_types.specs.declared.session.Stage.{Stage}
use Rattle.device_types.specs.declared.session.Stage.TheVariants as stages
use Rattle.device_types.specs.Rule.{number as stage_number}
use Rattle.device_types.specs.Second.{second_number}
use Rattle.device_types.specs.Session.{IsSession}
use Rattle.echo_base.specs.declared.reason.Reason.TheVariants as reasons
use Rattle.echo_base.specs.declared.reason.Reason.{Reason}
use Rattle.echo_base.specs.declared.refusal.Refusal.{Refusal}
use Rattle.echo_base.specs.declared.refusal.Bad.{Bad}
use Rattle.echo_base.specs.declared.refusal.Bad.TheVariants.{Refused, OutOfMemory}
use Rattle.echo_base.specs.Answer.{Answers, IsAnswerTaking}
use Rattle.echo_base.specs.Reading as readings
use Rattle.echo_base.specs.Reading.{Read, GivesTaking}
use Rattle.echo_base.proofs.Answers.{ok_of, ok_err, ok_is, err_is}
use Rattle.echo_base.specs.Format.{IsExactly}
use Rattle.echo_base.proofs.Formats.{value_ok, value_err, just_exactly, behind}
use Rattle.session_form.specs.Fields.{Input, Format, Code, plain, Field, number, always, octets, counted, either, also, on, named, number_in, choice_in, format, format_alone, run, InRange}
use Rattle.session_form.specs.Form.{form_field, session_field, session_format, start, form_of, IsInRange, IsFormOf, IsWrongAt, TakesMemory, session_at, session_in}
use Rattle.session_form.specs.declared.version.Version.{Version}
use Rattle.session_form.specs.declared.version.Version.TheVariants as versions
use Rattle.session_form.proofs.Exact.{alone_exactly}
use Rattle.session_form.proofs.Spelled.{spelled, written}

-- ---- a value alone

alone_written : {A : Type 0} (p : Field A) (os : List ℕ) (v : A) (rest : Input) → AreOctets os → (format_alone p).Stands (start os) v rest → InRange p v × (os ≡ run p v)
unfolding format_alone
alone_written p os v rest are s =
    let w = written p (start os) s.0 s.1 are s.2 in
    let value : v ≡ s.0 = s.3.3.0 in
    let none : s.1.left ≡ [] = s.3.2.0 in
    rw value (w.0, w.1 ∙ ap (λ (more : List ℕ). run p s.0 ++ more) none ∙ append-nil (run p s.0))

alone_spelled : {A : Type 0} (p : Field A) (v : A) → InRange p v → (rest : Input) × (format_alone p).Stands (start (run p v)) v rest
unfolding format_alone
alone_spelled p v r =
    let behind : Input = record { place = 0 + length (run p v); left = [] } in
    let here : (format p).Stands (start (run p v)) v behind = rw (append-nil (run p v)) at (spelled p v r 0 []) in
    (behind, (v, behind, here, (tt, behind, (refl, refl), (refl, refl))))

-- ---- each refusal is BadSession

abbrev IsDue : {A : Type 0} → Format A → Type 0
IsDue F = (at : Input) (e : Refusal) → F.Refuses at e → e.reason ≡ reasons.BadSession

number_due : {A : Type 0} (code : Code A) (n least most : ℕ) → IsDue (number_in code n least most)
unfolding number_in
number_due code n least most at e h = elim h [
  | inl short ↦ ap (λ (d : Refusal). d.reason) short.1
  | inr x ↦ ap (λ (d : Refusal). d.reason) x.3.1
]

choice_due : {A B : Type 0} (F : Format A) (G : Format B) → IsDue F → IsDue G → (n : ℕ) → IsDue (choice_in F G n)
choice_due F G f g zero at e h = elim h [
  | inl first ↦ f at e first
  | inr x ↦ absurd x.3
]
choice_due F G f g (suc n) at e h = elim h [
  | inl first ↦ g at e first
  | inr x ↦ absurd x.3
]

due : {A : Type 0} (p : Field A) → IsDue (format p)
unfolding format
due (number code n least most fits) at e h = number_due code n least most at e h
due (always a) at e h = absurd h
due (octets n) at e h = ap (λ (d : Refusal). d.reason) h.1
due (counted most fits) at e h = elim h [
  | inl first ↦ number_due plain 1 0 most at e first
  | inr x ↦ ap (λ (d : Refusal). d.reason) x.3.1
]
due (either p q) at e h = elim h [
  | inl first ↦ number_due plain 1 0 1 at e first
  | inr x ↦ choice_due (format p) (format q) (due p) (due q) x.0 x.1 e x.3
]
due (also p q) at e h = elim h [
  | inl first ↦ due p at e first
  | inr x ↦ elim x.3 [
    | inl second ↦ due q x.1 e second
    | inr y ↦ absurd y.3
  ]
]
due (on p q) at e h = elim h [
  | inl first ↦ due p at e first
  | inr x ↦ elim x.3 [
    | inl second ↦ due (q x.0) x.1 e second
    | inr y ↦ absurd y.3
  ]
]
due (named same p) at e h = elim h [
  | inl first ↦ due p at e first
  | inr x ↦ absurd x.3
]

alone_due : {A : Type 0} (p : Field A) → IsDue (format_alone p)
unfolding format_alone
alone_due p at e h = elim h [
  | inl first ↦ due p at e first
  | inr x ↦ elim x.3 [
    | inl more ↦ ap (λ (d : Refusal). d.reason) more.1
    | inr y ↦ absurd y.3
  ]
]

refusal_is : (e : Refusal) → e.reason ≡ reasons.BadSession → e ≡ (let d : Refusal = record { reason = reasons.BadSession; place = e.place } in d)
refusal_is e h = ap (λ (r : Reason). (let d : Refusal = record { reason = r; place = e.place } in d)) h

-- ---- sessions

session_exactly : IsExactly session_format session_at
unfolding session_format session_at
session_exactly = behind _ _ _ _ (alone_exactly form_field) (λ form. just_exactly form.1)

pub form_exact : (os : List ℕ) (s : Session) → AreOctets os → (session_in os ≡ Ok s) ↔ IsFormOf os s
unfolding session_in session_format
form_exact os s are = (
  (λ h.
      let x = value_ok (session_at (start os)) s h in
      let f = session_exactly.found (start os) s x.0 x.1 in
      let w = alone_written form_field os f.0 f.1 are f.2 in
      let is : s ≡ f.0.1 = f.3.0 in
      let own = subst (λ (t : Session). InRange form_field (f.0.0, t) × (os ≡ run form_field (f.0.0, t))) (sym is) w in
      (f.0.0, own.0, own.1)),
  (λ f.
      let w = alone_spelled form_field (f.0, s) f.1 in
      rw f.2 (ap readings.value_of (session_exactly.only (start (run form_field (f.0, s))) s w.0 ((f.0, s), w.0, w.1, (refl, refl))))),
)

pub wrong_exact : (os : List ℕ) (place : ℕ) → (session_in os ≡ Err (record { reason = reasons.BadSession; place = place })) ↔ IsWrongAt os place
unfolding session_in IsWrongAt
wrong_exact os place = (
  (λ h. session_exactly.wrong (start os) _ (value_err (session_at (start os)) _ h)),
  (λ r. ap readings.value_of (session_exactly.refused (start os) _ r)),
)

session_due : IsDue session_format
unfolding session_format
session_due at e h = elim h [
  | inl first ↦ alone_due form_field at e first
  | inr x ↦ absurd x.3
]

pub wrong_is : (os : List ℕ) (e : Refusal) → session_in os ≡ Err e → (e.reason ≡ reasons.BadSession) × IsWrongAt os e.place
unfolding session_in IsWrongAt
wrong_is os e h =
    let r = session_exactly.wrong (start os) e (value_err (session_at (start os)) e h) in
    let reason : e.reason ≡ reasons.BadSession = session_due (start os) e r in
    (reason, rw (refusal_is e reason) at r)

-- octets are the form of one session alone
pub one_session : (os : List ℕ) (s t : Session) → AreOctets os → IsFormOf os s → IsFormOf os t → s ≡ t
one_session os s t are f g = ok_is s t (sym ((form_exact os s are).1 f) ∙ (form_exact os t are).1 g)

pub one_place : (os : List ℕ) (m n : ℕ) → IsWrongAt os m → IsWrongAt os n → m ≡ n
one_place os m n f g = ap (λ (e : Refusal). e.place) (err_is {A = Session} _ _ (sym ((wrong_exact os m).1 f) ∙ (wrong_exact os n).1 g))

pub not_both : (os : List ℕ) (s : Session) (place : ℕ) → AreOctets os → IsFormOf os s → IsWrongAt os place → ⊥
not_both os s place are f g = ok_err s _ (sym ((form_exact os s are).1 f) ∙ (wrong_exact os place).1 g)

pub either_holds : (os : List ℕ) → AreOctets os → ((s : Session) × IsFormOf os s) ⊎ ((place : ℕ) × IsWrongAt os place)
either_holds os are = by (session_in os) refl
  where
    by : (r : Result Session Refusal) → session_in os ≡ r → ((s : Session) × IsFormOf os s) ⊎ ((place : ℕ) × IsWrongAt os place)
    by (Ok s) h = inl (s, (form_exact os s are).0 h)
    by (Err e) h = inr (e.place, (wrong_is os e h).1)

-- the stages and the states of the second connection end there
pub stage_most : (stage : Stage) → stage_number stage ≤ 17
stage_most stages.Detached = lit≤ tt
stage_most _ = lit≤ tt

pub second_most : (second : Second) → second_number second ≤ 4
second_most seconds.None = lit≤ tt
second_most _ = lit≤ tt

-- a session as sessions are stored is in the ranges of form 2
pub in_range : (s : Session) → IsSession s → IsInRange s
in_range s h = search (rules, stage_most, second_most)

-- and so is one in the ranges of either form
pub wider : (version : Version) (s : Session) → InRange (session_field version) s → IsInRange s
wider versions.One s h = search (rules, stage_most, second_most)
wider versions.Two s h = h

pub read_in_range : (os : List ℕ) (s : Session) → IsFormOf os s → IsInRange s
read_in_range os s f = wider f.0 s f.1.1

-- and what is written for it is a form of it
pub is_form : (s : Session) → IsInRange s → (os : List ℕ) → os ≡ form_of s → IsFormOf os s
unfolding form_of
is_form s r os written = (versions.Two, ((lit≤ tt, lit≤ tt), r), written)

-- ---- what the code answered

pub gives_answer : (result : Result Session Bad) (os : List ℕ) (rest : Input) → GivesTaking TakesMemory result rest (session_at (start os)) → IsAnswerTaking TakesMemory (session_in os) result
unfolding session_in
gives_answer (Ok s) os rest h = rw h refl
gives_answer (Err (Refused e)) os rest h = rw h refl
gives_answer (Err OutOfMemory) os rest h = taken (session_at (start os)) h
  where
    taken : (r : Read Input Refusal Session) → IsOkAnd r (λ x. TakesMemory x.0) → IsOkAnd (readings.value_of r) TakesMemory
    taken (Ok x) h = h
    taken (Err e) h = absurd h

pub answers_alone : (result : Result Session Bad) (os : List ℕ) → IsAnswerTaking TakesMemory (session_in os) result → (s : Session) → session_in os ≡ Ok s → Answers (λ t. t ≡ s) (λ e. ⊥) (TakesMemory s) result
answers_alone (Ok t) os h s is = ok_is t s (sym h ∙ is)
answers_alone (Err (Refused e)) os h s is = ok_err s e (sym is ∙ h)
answers_alone (Err OutOfMemory) os h s is = (let some : IsOkAnd (ok_of {E = Refusal} s) TakesMemory = rw is at h in some)
