-- Reading a field is exact for its format.
use Rattle.std.proofs.Common.{◌≡◌, ℕ, zero, suc, ◌+◌, ◌-◌, ◌≤◌, ◌&&◌, Bool, true, false, cond, eqb, ltb, leb, List, [], ◌∷◌, length, take, drop, map, Option, Some, None, Ok, refl, sym, ap, ◌∙◌, arith, inl, inr}
use Rattle.std.proofs.lemmas.Bool.{ltb-true, ltb-false, lt-ltb, le-ltb, leb-true, le-leb, and_parts, eqb-true, eq-eqb}
use Rattle.std.proofs.lemmas.List.{take_at, drop_at, take-append-drop, length-append, length-take, nil_from_length}
use Rattle.std.proofs.lemmas.Option.{same_Some}
use Rattle.std.specs.Prelude.{slice_get}
use Rattle.std.specs.List.{range_with_len}
use Rattle.byteorder.specs.Endian.{big_number}
use Rattle.echo_base.specs.declared.refusal.Refusal.{Refusal}
use Rattle.echo_base.specs.Format.{IsExactly, Decides}
use Rattle.echo_base.specs.Reading.{known}
use Rattle.echo_base.proofs.Answers.{ok_of, bind, bind_same, bind_assoc, refused_ok, refused_err}
use Rattle.echo_base.proofs.Formats.{just_exactly, behind, known_exactly}
use Rattle.session_form.specs.Fields as fields
use Rattle.session_form.specs.Fields.{Input, bad, Format, Reader, Code, plain, only, from, listed, number_of, value_of, Field, number, always, octets, counted, either, also, on, named, octets_in, from_here, IsNumberOf, number_in, choice_in, format, end_in, format_alone, octets_at, number_at, value_at, choice_at, reading, end_at, reading_alone}

-- ---- inputs

same_input : (p q : ℕ) (xs ys : List ℕ) → p ≡ q → xs ≡ ys → (let i : Input = record { place = p; left = xs } in i) ≡ (let j : Input = record { place = q; left = ys } in j)
same_input p q xs ys h k = rw (h, k) refl

same_ok : {A : Type 0} (v w : A) (s t : Input) → v ≡ w → s ≡ t → ok_of {A = A × Input} {E = Refusal} (v, s) ≡ Ok (w, t)
same_ok v w s t h k = rw (h, k) refl

-- ---- pieces

pub octets_exactly : (n : ℕ) → IsExactly (octets_in n) (octets_at n)
unfolding octets_at
octets_exactly n = record {
  found = λ at v rest h.
      let t = refused_ok (ltb (length at.left) n) (bad at) (take n at.left, fields.behind n at) (v, rest) h in
      let long : n ≤ length at.left = ltb-false _ _ t.0 in
      let taken : take n at.left ≡ v = ap (λ (x : List ℕ × Input). x.0) t.1 in
      let gone : fields.behind n at ≡ rest = ap (λ (x : List ℕ × Input). x.1) t.1 in
      (rw (← taken, ← gone) (sym (take-append-drop n at.left)), omega (arith, ap length taken, length-take n at.left), ap (λ (i : Input). i.place) (sym gone));
  only = λ at v rest s.
      let long : ltb (length at.left) n ≡ false = le-ltb _ _ (omega (arith, ap length s.0, s.1, length-append v rest.left)) in
      let taken : take n at.left ≡ v = ap (take n) s.0 ∙ take_at v rest.left n s.1 in
      let gone : drop n at.left ≡ rest.left = ap (drop n) s.0 ∙ drop_at v rest.left n s.1 in
      rw long (same_ok (take n at.left) v (fields.behind n at) rest taken (same_input (at.place + n) rest.place (drop n at.left) rest.left (sym s.2) gone));
  wrong = λ at e h.
      let t = refused_err (ltb (length at.left) n) (bad at) e (take n at.left, fields.behind n at) h in
      (ltb-true _ _ t.0, t.1);
  refused = λ at e h. rw (lt-ltb (length at.left) n h.0, h.1) refl;
}

here_exactly : {A : Type 0} (F : Input → Format A) (f : Input → Reader A) → ((at : Input) → IsExactly (F at) (f at)) → IsExactly (from_here F) (λ at. f at at)
here_exactly F f each = record {
  found = λ at. (each at).found at;
  only = λ at. (each at).only at;
  wrong = λ at. (each at).wrong at;
  refused = λ at. (each at).refused at;
}

same_exactly : {A : Type 0} (F : Format A) (f g : Reader A) → ((at : Input) → g at ≡ f at) → IsExactly F f → IsExactly F g
same_exactly F f g same p = record {
  found = λ at v rest h. p.found at v rest (sym (same at) ∙ h);
  only = λ at v rest s. same at ∙ p.only at v rest s;
  wrong = λ at e h. p.wrong at e (sym (same at) ∙ h);
  refused = λ at e r. same at ∙ p.refused at e r;
}

-- ---- values by their numbers

some_if : {A : Type 0} (b : Bool) (o : Option A) (w : A) → cond b o None ≡ Some w → (b ≡ true) × (o ≡ Some w)
some_if true o w h = (refl, h)
some_if false o w h = absurd cc

is_placed : {A : Type 0} (place : A → ℕ) (values : List A) (first n : ℕ) (a : A) → map place values ≡ range_with_len first (length values) → slice_get values n ≡ Some a → place a ≡ first + n
is_placed place [] first n a e h = absurd cc
is_placed place (x ∷ values) first zero a e h = (let at : place x ≡ first = cc in let same : x ≡ a = same_Some x a h in omega (arith, at, ap place same))
is_placed place (x ∷ values) first (suc n) a e h = (let more : map place values ≡ range_with_len (first + 1) (length values) = cc in let at = is_placed place values (first + 1) n a more h in omega (arith, at))

-- a value that stands for a number has it
pub number_again : {A : Type 0} (code : Code A) (n : ℕ) (a : A) → value_of code n ≡ Some a → n ≡ number_of code a
number_again plain n a h = same_Some n a h
number_again (only k) n a h = eqb-true n k (some_if (eqb n k) (Some tt) a h).0
number_again (from k code) n a h = (let t = some_if (leb k n) (value_of code (n - k)) a h in let at = number_again code (n - k) a t.1 in let low = leb-true _ _ t.0 in omega (arith, at, low))
number_again (listed values place each places) n a h = (let at = is_placed place values 0 n a places h in omega (arith, at))

-- each value stands for its number
pub number_back : {A : Type 0} (code : Code A) (a : A) → value_of code (number_of code a) ≡ Some a
number_back plain a = refl
number_back (only k) a = rw (eq-eqb k k refl) refl
number_back (from k code) a = (let m = number_of code a in let low : leb k (k + m) ≡ true = le-leb k (k + m) (omega arith) in let less : k + m - k ≡ m = omega arith in rw (low, less) (number_back code a))
number_back (listed values place each places) a = each a

abbrev decided : {A : Type 0} → Code A → ℕ → ℕ → ℕ → Option A
decided code least most n = cond (leb least n && leb n most) (value_of code n) None

decides : {A : Type 0} (code : Code A) (least most n : ℕ) → Decides (decided code least most n) (IsNumberOf code least most n)
decides code least most n = record {
  found = λ w h.
      let t = some_if (leb least n && leb n most) (value_of code n) w h in
      let parts = and_parts (leb least n) (leb n most) t.0 in
      (number_again code n w t.1, leb-true _ _ parts.0, leb-true _ _ parts.1);
  only = λ w p. rw (le-leb least n p.1, le-leb n most p.2) (ap (value_of code) p.0 ∙ number_back code w);
}

abbrev decided_at : {A : Type 0} → Code A → ℕ → ℕ → ℕ → Input → Reader A
decided_at code n least most at = λ from. bind (octets_at n from) (λ x. known (decided code least most (big_number n x.0)) (bad at) x.1)

decided_exactly : {A : Type 0} (code : Code A) (n least most : ℕ) → IsExactly (number_in code n least most) (λ at. decided_at code n least most at at)
unfolding number_in
decided_exactly code n least most = here_exactly _ (decided_at code n least most) (λ at. behind _ _ _ _ (octets_exactly n) (λ os. known_exactly _ _ _ (decides code least most (big_number n os))))

pub plain_exactly : (n least most : ℕ) → IsExactly (number_in plain n least most) (number_at n least most)
unfolding number_at
plain_exactly n least most = decided_exactly plain n least most

known_twice : {A : Type 0} (code : Code A) (b : Bool) (k : ℕ) (e : Refusal) (s : Input) → bind (known {E = Refusal} (cond b (Some k) None) e s) (λ y. known (value_of code y.0) e y.1) ≡ known (cond b (value_of code k) None) e s
known_twice code true k e s = refl
known_twice code false k e s = refl

pub value_exactly : {A : Type 0} (code : Code A) (n least most : ℕ) → IsExactly (number_in code n least most) (value_at code n least most)
unfolding number_at value_at
value_exactly code n least most = same_exactly _ (λ at. decided_at code n least most at at) _
    (λ at. bind_assoc (octets_at n at) _ _ ∙ bind_same (octets_at n at) _ _ (λ x. known_twice code (leb least (big_number n x.0) && leb (big_number n x.0) most) (big_number n x.0) (bad at) x.1))
    (decided_exactly code n least most)

choice_exactly : {A B : Type 0} (F : Format A) (f : Reader A) (G : Format B) (g : Reader B) → IsExactly F f → IsExactly G g → (n : ℕ) → IsExactly (choice_in F G n) (choice_at f g n)
choice_exactly F f G g p q zero = behind _ _ _ _ p (λ a. just_exactly (inl a))
choice_exactly F f G g p q (suc n) = behind _ _ _ _ q (λ b. just_exactly (inr b))

-- ---- fields

pub exactly : {A : Type 0} (p : Field A) → IsExactly (format p) (reading p)
unfolding format reading
exactly (number code n least most fits) = value_exactly code n least most
exactly (always a) = just_exactly a
exactly (octets n) = octets_exactly n
exactly (counted most fits) = behind _ _ _ _ (plain_exactly 1 0 most) octets_exactly
exactly (either p q) = behind _ _ _ _ (plain_exactly 1 0 1) (choice_exactly _ _ _ _ (exactly p) (exactly q))
exactly (also p q) = behind _ _ _ _ (exactly p) (λ a. behind _ _ _ _ (exactly q) (λ b. just_exactly (a, b)))
exactly (on p q) = behind _ _ _ _ (exactly p) (λ a. behind _ _ _ _ (exactly (q a)) (λ b. just_exactly (a, b)))
exactly (named same p) = behind _ _ _ _ (exactly p) (λ a. just_exactly (same.make a))

end_exactly : IsExactly end_in end_at
unfolding end_at
end_exactly = record {
  found = λ at v rest h.
      let t = refused_ok (ltb 0 (length at.left)) (bad at) (tt, at) (v, rest) h in
      let none : length at.left ≤ 0 = ltb-false _ _ t.0 in
      (nil_from_length at.left (omega (arith, none)), ap (λ (x : Unit {0} × Input). x.1) t.1);
  only = λ at v rest s.
      let none : ltb 0 (length at.left) ≡ false = le-ltb _ _ (omega (arith, ap length s.0)) in
      rw none (same_ok tt v at rest refl s.1);
  wrong = λ at e h.
      let t = refused_err (ltb 0 (length at.left)) (bad at) e (tt, at) h in
      (ltb-true _ _ t.0, t.1);
  refused = λ at e h. rw (lt-ltb 0 (length at.left) h.0, h.1) refl;
}

pub alone_exactly : {A : Type 0} (p : Field A) → IsExactly (format_alone p) (reading_alone p)
unfolding format_alone reading_alone
alone_exactly p = behind _ _ _ _ (exactly p) (λ a. behind _ _ _ _ end_exactly (λ end. just_exactly a))
