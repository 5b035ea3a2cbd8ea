-- Open types and containers are read exactly.
use Rattle.std.proofs.Common.{◌≡◌, ℕ, ◌+◌, ◌*◌, ◌<◌, ◌≤◌, Bool, false, cond, ltb, eqb, List, [], ◌++◌, length, take, Result, Ok, Err, refl, sym, ap, ◌∙◌, subst, inl, inr, arith}
use Rattle.std.proofs.lemmas.Bool.{cases_Bool, ltb-true, ltb-false, lt-ltb, le-ltb, eqb-true, eqb-false, ne_eqb}
use Rattle.std.proofs.lemmas.List.{append-nil, take_at, drop_at, take-append-drop, length-append, length-take, nil_from_length, replicate-append-replicate}
use Rattle.echo_base.specs.declared.reason.Reason.TheVariants as reasons
use Rattle.echo_base.specs.declared.refusal.Refusal.{Refusal}
use Rattle.aper_fields.specs.Bits.{bits, zeros, gap}
use Rattle.aper_fields.specs.Reading.{Input, Read, Gives, ◌>>=◌, refusal, forward, bits_at, padding_at, length_octets_at, content_at, open_at, end_at, empty_at, close_at, whole_at, contained_at}
use Rattle.aper_fields.specs.Run.{closing}
use Rattle.aper_fields.specs.Spelling.{Octets, Open, Holds, Contained, IsExact}
use Rattle.aper_fields.specs.Format.{Format, Stands, IsExactly, bits_in, padding_in, counting, length_octets_in, open_in, EndRefuses, EndsExactly, empty_in, CloseRefuses, ClosesExactly, WholeRefuses, contained_in}
use Rattle.aper_fields.proofs.Octet.{input, same_input}
use Rattle.aper_fields.proofs.Exact.{padding_exact, then_exact}
use Rattle.aper_fields.proofs.BitLaws.{bits-zero}
use Rattle.echo_base.proofs.Answers.{bind, bind_ok, bind_err, ok_of, err_of, err_is, ok_err, passed_ok, passed_err, refused_ok, refused_err}
use Rattle.aper_fields.proofs.Formats.{stands_read, bits_exactly, padding_exactly, passing_exactly, then_exactly, counting_exactly}
use Rattle.aper_fields.proofs.ExactPieces.{length_octets_exactly}

-- ---- open types

content_exact : (start : Input) (n : ℕ) → IsExact (Octets n) (content_at start n)
unfolding content_at
content_exact start n = record {
  found = λ i j v e.
      let g = refused_ok (ltb (length i.left) (8 * n)) (refusal reasons.Truncated start) (input i.offset (take (8 * n) i.left), forward (8 * n) i) (v, j) e in
      let long : 8 * n ≤ length i.left = ltb-false _ _ g.0 in
      let len : length (take (8 * n) i.left) ≡ 8 * n = omega (arith, length-take (8 * n) i.left) in
      let is : forward (8 * n) i ≡ j = ap (λ (x : Input × Input). x.1) g.1 in
      let value : input i.offset (take (8 * n) i.left) ≡ v = ap (λ (x : Input × Input). x.0) g.1 in
      (take (8 * n) i.left, rw (← value) (refl, len, refl), rw (← is) (sym (take-append-drop (8 * n) i.left)), rw (← is, len) refl);
  only = λ at v run rest p.
      let len : length run ≡ 8 * n = ap length p.2 ∙ p.1 in
      let long : ltb (length (run ++ rest)) (8 * n) ≡ false = le-ltb _ _ (omega (arith, len, length-append run rest)) in
      let is : input at run ≡ v = same_input _ _ _ _ (sym p.0) p.2 in
      rw (long, take_at run rest (8 * n) len, drop_at run rest (8 * n) len, is, len) refl;
}

content_short : (start : Input) (n : ℕ) (i : Input) (e : Refusal) → content_at start n i ≡ Err e → (length i.left < 8 * n) × (e ≡ refusal reasons.Truncated start)
unfolding content_at
content_short start n i e h =
    let t = refused_err (ltb (length i.left) (8 * n)) (refusal reasons.Truncated start) e (input i.offset (take (8 * n) i.left), forward (8 * n) i) h in
    (ltb-true _ _ t.0, t.1)

content_refused : (start : Input) (n : ℕ) (i : Input) → length i.left < 8 * n → content_at start n i ≡ Err (refusal reasons.Truncated start)
unfolding content_at
content_refused start n i h = rw (lt-ltb _ _ h) refl

pub open_exactly : IsExactly open_in open_at
unfolding open_at
open_exactly =
    then_exactly padding_in padding_at (λ _. counting length_octets_in Octets) (λ p j. bind (length_octets_at j) (λ n. content_at j n.0 n.1)) padding_exactly
    (λ p. counting_exactly length_octets_in length_octets_at Octets content_at length_octets_exactly content_exact content_short content_refused)

pub open_exact : IsExact Open open_at
open_exact = open_exactly.spells

-- ---- containers

-- nothing is left but zeros
pub end_is : (i j : Input) (u : Unit {0}) → end_at i ≡ Ok (u, j) → i.left ≡ zeros (gap i.offset)
unfolding end_at
end_is i j u e =
    let x = bind_ok (padding_at i) (λ p. cond (eqb (length p.1.left) 0) (Ok (tt, i)) (Err (refusal reasons.TrailingBytes p.1))) (u, j) e in
    let g = passed_ok (eqb (length x.0.1.left) 0) (refusal reasons.TrailingBytes x.0.1) (tt, i) (u, j) x.2 in
    let p = padding_exact.found i x.0.1 tt x.1 in
    let none : x.0.1.left ≡ [] = nil_from_length x.0.1.left (eqb-true _ _ g.0) in
    p.2 ∙ ap (λ (l : List Bool). p.0 ++ l) none ∙ append-nil p.0 ∙ p.1

pub end_again : (at : ℕ) → end_at (input at (zeros (gap at))) ≡ Ok (tt, input at (zeros (gap at)))
unfolding end_at
end_again at =
    let nil : zeros (gap at) ++ [] ≡ zeros (gap at) = append-nil (zeros (gap at)) in
    let p : padding_at (input at (zeros (gap at))) ≡ Ok (tt, input (at + length (zeros (gap at))) []) = subst (λ (l : List Bool). padding_at (input at l) ≡ Ok (tt, input (at + length (zeros (gap at))) [])) nil (padding_exact.only at tt (zeros (gap at)) [] refl) in
    rw p refl

-- ---- closing

empty_exactly : IsExactly empty_in empty_at
unfolding empty_at
empty_exactly = passing_exactly (λ octet. eqb octet 0) reasons.NonZeroPadding (bits_in 8) (bits_at 8) (bits_exactly 8)

abbrev closed : Result (Unit {0} × Input) Refusal → Result (Unit {0}) Refusal
closed r = r >>= λ end. Ok tt

closed_ok : (r : Result (Unit {0} × Input) Refusal) (u : Unit {0}) → closed r ≡ Ok u → (x : Unit {0} × Input) × (r ≡ Ok x)
closed_ok (Ok x) u e = (x, refl)
closed_ok (Err d) u e = absurd (ok_err u d (sym e))

closed_err : (r : Result (Unit {0} × Input) Refusal) (e : Refusal) → closed r ≡ Err e → r ≡ Err e
closed_err (Ok x) e h = absurd (ok_err tt e h)
closed_err (Err d) e h = ap err_of (err_is {A = Unit {0}} d e h)

-- an octet of zeros, and what is behind it
empty_stands : (i : Input) (octet : ℕ) (j : Input) → Stands empty_in i octet j → (i.left ≡ zeros 8 ++ j.left) × (j.offset ≡ i.offset + 8)
empty_stands i octet j s =
    let none : octet ≡ 0 = eqb-true octet 0 s.1.0 in
    let run : s.0 ≡ zeros 8 = s.1.1.1 ∙ ap (bits 8) none ∙ bits-zero 8 in
    (s.2 ∙ ap (λ (l : List Bool). l ++ j.left) run, s.3 ∙ ap (λ (l : List Bool). i.offset + length l) run)

close_is : (c i : Input) (u : Unit {0}) → close_at c i ≡ Ok u → i.left ≡ zeros (closing c.offset i.offset)
unfolding close_at
close_is c i u e =
    elim (cases_Bool (eqb i.offset c.offset)) [
      | inl t ↦
          let x = bind_ok (empty_at i) (λ octet. closed (end_at octet.1)) u (rw t at e) in
          let s = empty_stands i x.0.0 x.0.1 (empty_exactly.spells.found i x.0.1 x.0.0 x.1) in
          let y = closed_ok (end_at x.0.1) u x.2 in
          rw t (s.0 ∙ ap (λ (l : List Bool). zeros 8 ++ l) (end_is x.0.1 y.0.1 y.0.0 y.1 ∙ ap (λ o. zeros (gap o)) s.1) ∙ replicate-append-replicate 8 (gap (i.offset + 8)) false)
      | inr f ↦ let y = closed_ok (end_at i) u (rw f at e) in rw f (end_is i y.0.1 y.0.0 y.1)
    ]

empty_again : (at : ℕ) (rest : List Bool) → empty_at (input at (zeros 8 ++ rest)) ≡ Ok (0, input (at + 8) rest)
empty_again at rest = empty_exactly.spells.only at 0 (zeros 8) rest (refl, (omega arith, sym (bits-zero 8)))

pub close_again : (c : Input) (at : ℕ) → close_at c (input at (zeros (closing c.offset at))) ≡ Ok tt
unfolding close_at
close_again c at =
    elim (cases_Bool (eqb at c.offset)) [
      | inl t ↦ rw (t, ← replicate-append-replicate 8 (gap (at + 8)) false, empty_again at (zeros (gap (at + 8))), end_again (at + 8)) refl
      | inr f ↦ rw (f, end_again at) refl
    ]

pub whole_found : {A : Type 0} (P : ℕ → A → List Bool → Type 0) (f : Input → Read A) → IsExact P f → (c : Input) (v : A) → whole_at f c ≡ Ok v → Holds P c v
unfolding whole_at
whole_found P f p c v e =
    let x = bind_ok (f c) (λ y. close_at c y.1 >>= λ z. Ok y.0) v e in
    let y = bind_ok (close_at c x.0.1) (λ z. Ok x.0.0) v x.2 in
    let is : x.0.0 ≡ v = let h : ok_of x.0.0 ≡ Ok v = y.2 in cc in
    let r = p.found c x.0.1 x.0.0 x.1 in
    (r.0, subst (λ w. P c.offset w r.0) is r.1, r.2 ∙ ap (λ (l : List Bool). r.0 ++ l) (close_is c x.0.1 y.0 y.1 ∙ ap (λ o. zeros (closing c.offset o)) r.3))

pub whole_only : {A : Type 0} (P : ℕ → A → List Bool → Type 0) (f : Input → Read A) → IsExact P f → (c : Input) (v : A) → Holds P c v → whole_at f c ≡ Ok v
unfolding whole_at
whole_only P f p c v h =
    let rest = zeros (closing c.offset (c.offset + length h.0)) in
    let e : c ≡ input c.offset (h.0 ++ rest) = same_input _ _ _ _ refl h.2 in
    let read : f c ≡ Ok (v, input (c.offset + length h.0) rest) = ap f e ∙ p.only c.offset v h.0 rest h.1 in
    rw (read, close_again c (c.offset + length h.0)) refl

pub contained_exact : {A : Type 0} (P : ℕ → A → List Bool → Type 0) (f : Input → Read A) → IsExact P f → IsExact (Contained P) (contained_at f)
unfolding contained_at
contained_exact P f p =
    then_exact Open open_at (λ c _ v run. Holds P c v × (run ≡ [])) (λ i c j. whole_at f c >>= λ v. Ok (v, j)) open_exact
    (λ i c. record {
      found = λ j k v e.
          let x = bind_ok (whole_at f c) (λ w. Ok (w, j)) (v, k) e in
          let g : (x.0, j) ≡ (v, k) = let h : ok_of (x.0, j) ≡ Ok (v, k) = x.2 in cc in
          let is : x.0 ≡ v = ap (λ (y : _ × Input). y.0) g in
          ([], (whole_found P f p c v (x.1 ∙ ap ok_of is), refl), ap (λ (y : _ × Input). y.1.left) g, ap (λ (y : _ × Input). y.1.offset) (sym g) ∙ omega arith);
      only = λ at v run rest h.
          let none : run ≡ [] = h.1 in
          rw (whole_only P f p c v h.0, none) (ap (λ o. ok_of (v, input o rest)) (omega arith));
    })

-- ---- their refusals

end_wrong : (i : Input) (e : Refusal) → end_at i ≡ Err e → EndRefuses i e
unfolding end_at
end_wrong i e h =
    elim (bind_err (padding_at i) (λ p. cond (eqb (length p.1.left) 0) (Ok (tt, i)) (Err (refusal reasons.TrailingBytes p.1))) e h) [
      | inl first ↦ inl (padding_exactly.wrong i e first)
      | inr x ↦
          let t = passed_err (eqb (length x.0.1.left) 0) (refusal reasons.TrailingBytes x.0.1) e (tt, i) x.2 in
          inr (x.0.0, x.0.1, padding_exactly.spells.found i x.0.1 x.0.0 x.1, omega (arith, eqb-false _ _ t.0), t.1)
    ]

end_refused : (i : Input) (e : Refusal) → EndRefuses i e → end_at i ≡ Err e
unfolding end_at
end_refused i e h =
    elim h [
      | inl first ↦ rw (padding_exactly.refused i e first) refl
      | inr x ↦
          let ne : eqb (length x.1.left) 0 ≡ false = ne_eqb _ _ (λ z. absurd (omega (arith, z, x.3))) in
          rw (stands_read padding_in padding_at padding_exactly.spells i x.0 x.1 x.2, ne, x.4) refl
    ]

-- what `end` says
pub end_reads : (r : Result (Unit {0}) Refusal) (i : Input) → Gives r i i (end_at i) → EndsExactly r i
end_reads (Ok u) i g = (end_is i i u g, λ _. refl, λ e h. absurd (ok_err _ e (sym g ∙ end_refused i e h)))
end_reads (Err d) i g = (end_wrong i d g.0, λ z. absurd (ok_err _ d (sym (end_again i.offset) ∙ ap (λ bits. end_at (input i.offset bits)) (sym z) ∙ g.0)), λ e h. ap err_of (err_is d e (sym g.0 ∙ end_refused i e h)))

close_wrong : (c i : Input) (e : Refusal) → close_at c i ≡ Err e → CloseRefuses c i e
unfolding close_at
close_wrong c i e h =
    elim (cases_Bool (eqb i.offset c.offset)) [
      | inl t ↦
          rw t (elim (bind_err (empty_at i) (λ octet. closed (end_at octet.1)) e (rw t at h)) [
            | inl first ↦ inl (empty_exactly.wrong i e first)
            | inr x ↦ inr (x.0.0, x.0.1, empty_exactly.spells.found i x.0.1 x.0.0 x.1, end_wrong x.0.1 e (closed_err (end_at x.0.1) e x.2))
          ])
      | inr f ↦ rw f (end_wrong i e (closed_err (end_at i) e (rw f at h)))
    ]

close_refused : (c i : Input) (e : Refusal) → CloseRefuses c i e → close_at c i ≡ Err e
unfolding close_at
close_refused c i e h =
    elim (cases_Bool (eqb i.offset c.offset)) [
      | inl t ↦
          rw t (elim (rw t at h) [
            | inl first ↦ rw (empty_exactly.refused i e first) refl
            | inr x ↦ rw (stands_read empty_in empty_at empty_exactly.spells i x.0 x.1 x.2, end_refused x.1 e x.3) refl
          ])
      | inr f ↦ let last : EndRefuses i e = rw f at h in rw (f, end_refused i e last) refl
    ]

-- what `close` says
pub close_reads : (r : Result (Unit {0}) Refusal) (c i : Input) → r ≡ close_at c i → ClosesExactly r c i
close_reads (Ok u) c i g = (close_is c i u (sym g), λ _. refl, λ e h. absurd (ok_err u e (g ∙ close_refused c i e h)))
close_reads (Err d) c i g = (close_wrong c i d (sym g), λ z. absurd (ok_err tt d (sym (close_again c i.offset) ∙ ap (λ bits. close_at c (input i.offset bits)) (sym z) ∙ sym g)), λ e h. g ∙ close_refused c i e h)

pub whole_wrong : {A : Type 0} (F : Format A) (f : Input → Read A) → IsExactly F f → (c : Input) (e : Refusal) → whole_at f c ≡ Err e → WholeRefuses F c e
unfolding whole_at
whole_wrong F f p c e h =
    elim (bind_err (f c) (λ v. bind (close_at c v.1) (λ z. Ok v.0)) e h) [
      | inl first ↦ inl (p.wrong c e first)
      | inr x ↦ inr (x.0.0, x.0.1, p.spells.found c x.0.1 x.0.0 x.1, elim (bind_err (close_at c x.0.1) (λ z. Ok x.0.0) e x.2) [ inl last ↦ close_wrong c x.0.1 e last | inr y ↦ absurd (ok_err _ e y.2) ])
    ]

pub whole_refused : {A : Type 0} (F : Format A) (f : Input → Read A) → IsExactly F f → (c : Input) (e : Refusal) → WholeRefuses F c e → whole_at f c ≡ Err e
unfolding whole_at
whole_refused F f p c e h =
    elim h [
      | inl first ↦ rw (p.refused c e first) refl
      | inr x ↦ rw (stands_read F f p.spells c x.0 x.1 x.2, close_refused c x.1 e x.3) refl
    ]

pub contained_exactly : {A : Type 0} (F : Format A) (f : Input → Read A) → IsExactly F f → IsExactly (contained_in F) (contained_at f)
unfolding contained_at
contained_exactly F f p = record {
  spells = contained_exact F.Spells f p.spells;
  wrong = λ i e h.
      elim (bind_err (open_at i) (λ c. bind (whole_at f c.0) (λ v. Ok (v, c.1))) e h) [
        | inl first ↦ inl (open_exactly.wrong i e first)
        | inr x ↦ inr (x.0.0, x.0.1, open_exactly.spells.found i x.0.1 x.0.0 x.1, elim (bind_err (whole_at f x.0.0) (λ v. Ok (v, x.0.1)) e x.2) [ inl last ↦ whole_wrong F f p x.0.0 e last | inr y ↦ absurd (ok_err _ e y.2) ])
      ];
  refused = λ i e h.
      elim h [
        | inl first ↦ rw (open_exactly.refused i e first) refl
        | inr x ↦ rw (stands_read open_in open_at open_exactly.spells i x.0 x.1 x.2, whole_refused F f p x.0 e x.3) refl
      ];
}
