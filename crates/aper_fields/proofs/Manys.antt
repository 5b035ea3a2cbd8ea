-- Values one behind another are read exactly.
use Rattle.std.proofs.Common.{◌≡◌, ℕ, zero, suc, ◌+◌, ◌-◌, ◌<◌, Bool, List, [], ◌∷◌, ◌++◌, length, Ok, Err, refl, sym, ap, ◌∙◌, subst, append_assoc, inl, inr, arith, sub-one}
use Rattle.std.proofs.lemmas.List.{append-nil, length-append}
use Rattle.echo_base.specs.declared.refusal.Refusal.{Refusal}
use Rattle.aper_fields.specs.Reading.{Input, Read}
use Rattle.aper_fields.specs.Format.{Format, Stands, IsExactly}
use Rattle.aper_fields.proofs.Octet.{input, same_input}
use Rattle.echo_base.proofs.Answers.{bind_ok, bind_err, ok_err, ok_is, ok_of}
use Rattle.aper_fields.proofs.Formats.{stands_read}
use Rattle.aper_fields.specs.SequenceReading.{Reader}
use Rattle.aper_fields.specs.Many.{InOrder, StandInOrder, RefusesInOrder, many_in, many_at}

-- ---- the loop

-- one of them was read, and the others are left
pub many_next : {A : Type 0} (f : List A → Reader A) (left : ℕ) (before after : List A) (i j : Input) (x : A) (all : Read (List A)) → 0 < left → f before i ≡ Ok (x, j) → after ≡ before ++ x ∷ [] → many_at f left before i ≡ all → many_at f (left - 1) after j ≡ all
unfolding many_at
many_next f zero before after i j x all some read next e = absurd (omega arith)
many_next f (suc n) before after i j x all some read next e = rw (sub-one, next) (sym (rw read refl) ∙ e)

-- ---- what stands, and what is refused

one_more : {A : Type 0} (before : List A) (x : A) (xs : List A) → (before ++ x ∷ []) ++ xs ≡ before ++ x ∷ xs
one_more before x xs = append_assoc before (x ∷ []) xs

none : {A : Type 0} (F : List A → Format A) (before : List A) (i : Input) → StandInOrder F before i [] i
none F before i = record { run = []; spelt = refl; left = refl; offset = omega arith }

-- one, and those behind it
more : {A : Type 0} (F : List A → Format A) (before : List A) (i : Input) (x : A) (j : Input) (xs : List A) (k : Input) → Stands (F before) i x j → StandInOrder F (before ++ x ∷ []) j xs k → StandInOrder F before i (x ∷ xs) k
more F before i x j xs k first rest = record {
  run = first.0 ++ rest.run;
  spelt = (first.0, rest.run, refl, first.1, subst (λ o. InOrder F (before ++ x ∷ []) o xs rest.run) first.3 rest.spelt);
  left = first.2 ∙ ap (λ (l : List Bool). first.0 ++ l) rest.left ∙ sym (append_assoc first.0 rest.run k.left);
  offset = omega (arith, first.3, rest.offset, length-append first.0 rest.run);
}

found : {A : Type 0} (F : List A → Format A) (f : List A → Reader A) → ((b : List A) → IsExactly (F b) (f b)) → (n : ℕ) (before : List A) (i : Input) (all : List A) (j : Input) → many_at f n before i ≡ Ok (all, j) → (xs : List A) × (all ≡ before ++ xs) × (length xs ≡ n) × StandInOrder F before i xs j
unfolding many_at
found F f p zero before i all j e =
    let g : (before, i) ≡ (all, j) = ok_is _ _ e in
    ([], sym (ap (λ (y : List _ × Input). y.0) g) ∙ sym (append-nil before), refl, subst (λ (k : Input). StandInOrder F before i [] k) (ap (λ (y : List _ × Input). y.1) g) (none F before i))
found F f p (suc n) before i all j e =
    let x = bind_ok (f before i) (λ y. many_at f n (before ++ y.0 ∷ []) y.1) (all, j) e in
    let rest = found F f p n (before ++ x.0.0 ∷ []) x.0.1 all j x.2 in
    (x.0.0 ∷ rest.0, rest.1 ∙ one_more before x.0.0 rest.0, ap suc rest.2, more F before i x.0.0 x.0.1 rest.0 j ((p before).spells.found i x.0.1 x.0.0 x.1) rest.3)

wrong : {A : Type 0} (F : List A → Format A) (f : List A → Reader A) → ((b : List A) → IsExactly (F b) (f b)) → (n : ℕ) (before : List A) (i : Input) (e : Refusal) → many_at f n before i ≡ Err e → RefusesInOrder F n before i e
unfolding many_at
wrong F f p zero before i e h = absurd (ok_err _ e h)
wrong F f p (suc n) before i e h =
    elim (bind_err (f before i) (λ y. many_at f n (before ++ y.0 ∷ []) y.1) e h) [
      | inl first ↦ ([], i, none F before i, omega arith, subst (λ (b : List _). (F b).Refuses i e) (sym (append-nil before)) ((p before).wrong i e first))
      | inr x ↦
          let rest = wrong F f p n (before ++ x.0.0 ∷ []) x.0.1 e x.2 in (
            x.0.0 ∷ rest.0,
            rest.1,
            more F before i x.0.0 x.0.1 rest.0 rest.1 ((p before).spells.found i x.0.1 x.0.0 x.1) rest.2,
            omega (arith, rest.3),
            subst (λ (b : List _). (F b).Refuses rest.1 e) (one_more before x.0.0 rest.0) rest.4,
          )
    ]

-- the first of them stands, and the others behind it
parts : {A : Type 0} (F : List A → Format A) (before : List A) (i : Input) (x : A) (xs : List A) (k : Input) → StandInOrder F before i (x ∷ xs) k → (j : Input) × Stands (F before) i x j × StandInOrder F (before ++ x ∷ []) j xs k
parts F before i x xs k s =
    let front = s.spelt.0 in
    let back = s.spelt.1 in
    let j = input (i.offset + length front) (back ++ k.left) in (
      j,
      (front, s.spelt.3, s.left ∙ ap (λ (l : List Bool). l ++ k.left) s.spelt.2 ∙ append_assoc front back k.left, refl),
      record { run = back; spelt = s.spelt.4; left = refl; offset = omega (arith, s.offset, ap length s.spelt.2, length-append front back) },
    )

here : {A : Type 0} (F : List A → Format A) (before : List A) (i j : Input) → StandInOrder F before i [] j → i ≡ j
here F before i j s = same_input _ _ _ _ (omega (arith, s.offset, ap length s.spelt)) (s.left ∙ ap (λ (l : List Bool). l ++ j.left) s.spelt)

refused : {A : Type 0} (F : List A → Format A) (f : List A → Reader A) → ((b : List A) → IsExactly (F b) (f b)) → (xs : List A) (n : ℕ) (before : List A) (i j : Input) (e : Refusal) → StandInOrder F before i xs j → length xs < n → (F (before ++ xs)).Refuses j e → many_at f n before i ≡ Err e
unfolding many_at
refused F f p xs zero before i j e s lt r = absurd (omega arith)
refused F f p [] (suc n) before i j e s lt r =
    let all : before ++ [] ≡ before = append-nil before in
    rw ((p before).refused i e (subst (λ (k : Input). (F before).Refuses k e) (sym (here F before i j s)) (subst (λ (b : List _). (F b).Refuses j e) all r))) refl
refused F f p (x ∷ xs) (suc n) before i j e s lt r =
    let q = parts F before i x xs j s in
    rw (stands_read (F before) (f before) (p before).spells i x q.0 q.1) (refused F f p xs n (before ++ x ∷ []) q.0 j e q.2 (omega arith) (subst (λ (b : List _). (F b).Refuses j e) (sym (one_more before x xs)) r))

stands : {A : Type 0} (F : List A → Format A) (f : List A → Reader A) → ((b : List A) → IsExactly (F b) (f b)) → (xs : List A) (before : List A) (i j : Input) → StandInOrder F before i xs j → many_at f (length xs) before i ≡ Ok (before ++ xs, j)
unfolding many_at
stands F f p [] before i j s = ap (λ (b : List _). ok_of (b, i)) (sym (append-nil before)) ∙ ap (λ (k : Input). ok_of (before ++ [], k)) (here F before i j s)
stands F f p (x ∷ xs) before i j s =
    let q = parts F before i x xs j s in
    rw (stands_read (F before) (f before) (p before).spells i x q.0 q.1) (stands F f p xs (before ++ x ∷ []) q.0 j q.2 ∙ ap (λ (b : List _). ok_of (b, j)) (one_more before x xs))

pub many_exactly : {A : Type 0} (F : List A → Format A) (f : List A → Reader A) → ((b : List A) → IsExactly (F b) (f b)) → (n : ℕ) → IsExactly (many_in F n) (many_at f n [])
many_exactly F f p n = record {
  spells = record {
    found = λ i j all e.
        let x = found F f p n [] i all j e in
        let is : x.0 ≡ all = sym x.1 in
        (x.3.run, (ap length (sym is) ∙ x.2, subst (λ (l : List _). InOrder F [] i.offset l x.3.run) is x.3.spelt), x.3.left, x.3.offset);
    only = λ at xs run rest s. ap (λ k. many_at f k [] (input at (run ++ rest))) (sym s.0) ∙ stands F f p xs [] (input at (run ++ rest)) (input (at + length run) rest) (record { run = run; spelt = s.1; left = refl; offset = refl });
  };
  wrong = λ i e h. wrong F f p n [] i e h;
  refused = λ i e h. refused F f p h.0 n [] i h.1 e h.2 h.3 h.4;
}
