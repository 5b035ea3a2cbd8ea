-- What is written for a value in its range is what spells it, and nothing else does.
use Rattle.std.proofs.Common.{◌≡◌, ◌⊎◌, ℕ, zero, suc, ◌+◌, ◌^◌, ◌<◌, ◌≤◌, true, List, [], ◌∷◌, ◌++◌, length, refl, sym, ap, subst, ◌∙◌, arith, append_assoc, inl, inr}
use Rattle.std.proofs.lemmas.Bool.{ltb-true}
use Rattle.std.proofs.lemmas.List.{length-append, append-nil}
use Rattle.std.proofs.lemmas.List.Elements.{All-nil, All-cons, All-head, All-tail}
use Rattle.byteorder.specs.Endian.{big_number, big_bytes}
use Rattle.byteorder.specs.Numbers.{big_number-reads_back, length-bytes_high_first}
use Rattle.device_types.specs.Octets.{AreOctets}
use Rattle.session_form.specs.Fields.{Input, Format, Code, plain, number_of, Field, number, always, octets, counted, either, also, on, named, is_most, number_in, choice_in, format, number_run, run, written_onto, InRange}
use Rattle.session_form.proofs.Octets.{octets_back}

-- ---- a run behind what stands in front of it

pub onto_is : {A : Type 0} (p : Field A) (v : A) (front : List ℕ) → written_onto p v front ≡ front ++ run p v
unfolding run written_onto
onto_is (number code n least most fits) v front = refl
onto_is (always a) v front = sym (append-nil front)
onto_is (octets n) v front = refl
onto_is (counted most fits) v front = append_assoc front (number_run 1 (length v)) v
onto_is (either p q) (inl a) front = onto_is p a (front ++ number_run 1 0) ∙ append_assoc front (number_run 1 0) (run p a)
onto_is (either p q) (inr b) front = onto_is q b (front ++ number_run 1 1) ∙ append_assoc front (number_run 1 1) (run q b)
onto_is (also p q) v front =
    onto_is q v.1 (written_onto p v.0 front) ∙ ap (λ (os : List ℕ). os ++ run q v.1) (onto_is p v.0 front) ∙ append_assoc front (run p v.0) (run q v.1)
onto_is (on p q) v front =
    onto_is (q v.0) v.1 (written_onto p v.0 front) ∙ ap (λ (os : List ℕ). os ++ run (q v.0) v.1) (onto_is p v.0 front) ∙ append_assoc front (run p v.0) (run (q v.0) v.1)
onto_is (named same p) v front = onto_is p (same.parts v) front

-- ---- octets of both parts

pub octets_in_front : (xs ys : List ℕ) → AreOctets (xs ++ ys) → AreOctets xs
octets_in_front [] ys are = All-nil (λ octet. octet < 256)
octets_in_front (x ∷ xs) ys are = All-cons (λ octet. octet < 256) x xs (All-head (λ octet. octet < 256) x (xs ++ ys) are) (octets_in_front xs ys (All-tail (λ octet. octet < 256) x (xs ++ ys) are))

pub octets_behind : (xs ys : List ℕ) → AreOctets (xs ++ ys) → AreOctets ys
octets_behind [] ys are = are
octets_behind (x ∷ xs) ys are = octets_behind xs ys (All-tail (λ octet. octet < 256) x (xs ++ ys) are)

-- ---- what is written spells the value

-- a value stands where its octets do, and behind them is what follows
abbrev IsSpelled : {A : Type 0} → Format A → A → List ℕ → Type 0
IsSpelled F v os = (place : ℕ) (rest : List ℕ) → F.Stands (record { place = place; left = os ++ rest }) v (record { place = place + length os; left = rest })

length-number_run : (n v : ℕ) → length (number_run n v) ≡ n
unfolding number_run
length-number_run n v = length-bytes_high_first n v

number_spelled : {A : Type 0} (code : Code A) (n least most : ℕ) → is_most n most ≡ true → (v : A) → least ≤ number_of code v → number_of code v ≤ most → IsSpelled (number_in code n least most) v (number_run n (number_of code v))
unfolding number_in number_run
number_spelled code n least most fits v low high place rest =
    let k = number_of code v in
    let top : most < 256 ^ n = ltb-true _ _ fits in
    let below : k < 256 ^ n = omega (arith, high, top) in
    let long : length (big_bytes n k) ≡ n = length-bytes_high_first n k in
    let back : big_number n (big_bytes n k) ≡ k = ap (big_number n) (sym (append-nil (big_bytes n k))) ∙ big_number-reads_back n k [] below in
    (big_bytes n k, record { place = place + length (big_bytes n k); left = rest }, (refl, long, ap (λ (m : ℕ). place + m) long), ((back, rw back low, rw back high), refl))

both_spelled : {A : Type 0} (F : Format A) (v : A) (front back : List ℕ) (place : ℕ) (rest : List ℕ) → F.Stands (record { place = place; left = front ++ (back ++ rest) }) v (record { place = place + length front; left = back ++ rest }) → F.Stands (record { place = place; left = (front ++ back) ++ rest }) v (record { place = place + length front; left = back ++ rest })
both_spelled F v front back place rest h = rw (append_assoc front back rest) h

at_end : {A : Type 0} (F : Format A) (v : A) (front back : List ℕ) (place : ℕ) (rest : List ℕ) → F.Stands (record { place = place + length front; left = back ++ rest }) v (record { place = place + length front + length back; left = rest }) → F.Stands (record { place = place + length front; left = back ++ rest }) v (record { place = place + length (front ++ back); left = rest })
at_end F v front back place rest h =
    let sum : place + length (front ++ back) ≡ place + length front + length back = omega (arith, length-append front back) in
    rw sum h

pub spelled : {A : Type 0} (p : Field A) (v : A) → InRange p v → IsSpelled (format p) v (run p v)
unfolding format run
spelled (number code n least most fits) v r place rest = number_spelled code n least most fits v r.0 r.1 place rest
spelled (always a) v r place rest = (let here : place ≡ place + 0 = omega arith in (r, ap (λ (p : ℕ). (let at : Input = record { place = p; left = rest } in at)) here))
spelled (octets n) v r place rest = (refl, r.0, ap (λ (m : ℕ). place + m) r.0)
spelled (counted most fits) v r place rest =
    let front = number_run 1 (length v) in (
      length v,
      record { place = place + length front; left = v ++ rest },
      both_spelled (number_in plain 1 0 most) (length v) front v place rest (number_spelled plain 1 0 most fits (length v) (omega arith) r.0 place (v ++ rest)),
      (refl, refl, omega (arith, length-append front v)),
    )
spelled (either p q) (inl a) r place rest =
    let front = number_run 1 0 in
    let back = run p a in (
      0,
      record { place = place + length front; left = back ++ rest },
      both_spelled (number_in plain 1 0 1) 0 front back place rest (number_spelled plain 1 0 1 refl 0 (omega arith) (omega arith) place (back ++ rest)),
      (a, _, at_end (format p) a front back place rest (spelled p a r (place + length front) rest), (refl, refl)),
    )
spelled (either p q) (inr b) r place rest =
    let front = number_run 1 1 in
    let back = run q b in (
      1,
      record { place = place + length front; left = back ++ rest },
      both_spelled (number_in plain 1 0 1) 1 front back place rest (number_spelled plain 1 0 1 refl 1 (omega arith) (omega arith) place (back ++ rest)),
      (b, _, at_end (format q) b front back place rest (spelled q b r (place + length front) rest), (refl, refl)),
    )
spelled (also p q) v r place rest =
    let front = run p v.0 in
    let back = run q v.1 in (
      v.0,
      record { place = place + length front; left = back ++ rest },
      both_spelled (format p) v.0 front back place rest (spelled p v.0 r.0 place (back ++ rest)),
      (v.1, _, at_end (format q) v.1 front back place rest (spelled q v.1 r.1 (place + length front) rest), (refl, refl)),
    )
spelled (on p q) v r place rest =
    let front = run p v.0 in
    let back = run (q v.0) v.1 in (
      v.0,
      record { place = place + length front; left = back ++ rest },
      both_spelled (format p) v.0 front back place rest (spelled p v.0 r.0 place (back ++ rest)),
      (v.1, _, at_end (format (q v.0)) v.1 front back place rest (spelled (q v.0) v.1 r.1 (place + length front) rest), (refl, refl)),
    )
spelled (named same p) v r place rest =
    (same.parts v, _, spelled p (same.parts v) r place rest, (sym (same.again v), refl))

-- ---- what spells a value is what is written for it, and the value is in its range

abbrev IsWritten : {A : Type 0} → Field A → Input → A → Input → Type 0
IsWritten p at v rest = InRange p v × (at.left ≡ run p v ++ rest.left)

number_written : {A : Type 0} (code : Code A) (n least most : ℕ) (at : Input) (v : A) (rest : Input) → AreOctets at.left → (number_in code n least most).Stands at v rest → (least ≤ number_of code v) × (number_of code v ≤ most) × (at.left ≡ number_run n (number_of code v) ++ rest.left)
unfolding number_in number_run
number_written code n least most at v rest are s =
    let os = s.0 in
    let between : Input = s.1 in
    let here : at.left ≡ os ++ between.left = s.2.0 in
    let count : length os ≡ n = s.2.1 in
    let value : big_number n os ≡ number_of code v = s.3.0.0 in
    let behind : between ≡ rest = s.3.1 in
    let mine : AreOctets os = octets_in_front os between.left (subst AreOctets here are) in
    let same : big_bytes n (number_of code v) ≡ os = ap (big_bytes n) (sym value) ∙ rw count at (octets_back os mine) in
    (rw (← value) s.3.0.1, rw (← value) s.3.0.2, rw (same, ← behind) here)

-- octets that are left are octets
left_octets : (at rest : Input) (os : List ℕ) → AreOctets at.left → at.left ≡ os ++ rest.left → AreOctets rest.left
left_octets at rest os are here = octets_behind os rest.left (subst AreOctets here are)

joined : (at between rest : Input) (front back : List ℕ) → at.left ≡ front ++ between.left → between.left ≡ back ++ rest.left → at.left ≡ (front ++ back) ++ rest.left
joined at between rest front back h k = h ∙ ap (λ (os : List ℕ). front ++ os) k ∙ sym (append_assoc front back rest.left)

choice_written : {A B : Type 0} (p : Field A) (q : Field B) (n : ℕ) (at : Input) (v : A ⊎ B) (rest : Input) → ((a : A) (from to : Input) → AreOctets from.left → (format p).Stands from a to → IsWritten p from a to) → ((b : B) (from to : Input) → AreOctets from.left → (format q).Stands from b to → IsWritten q from b to) → n ≤ 1 → AreOctets at.left → (choice_in (format p) (format q) n).Stands at v rest → InRange (either p q) v × (number_run 1 n ++ at.left ≡ run (either p q) v ++ rest.left)
unfolding run
choice_written p q zero at v rest f g one are s =
    let w = f s.0 at s.1 are s.2 in
    let value : v ≡ inl s.0 = s.3.0 in
    let end : s.1 ≡ rest = s.3.1 in
    rw (value, ← end) (w.0, ap (λ (os : List ℕ). number_run 1 0 ++ os) w.1 ∙ sym (append_assoc (number_run 1 0) (run p s.0) s.1.left))
choice_written p q (suc n) at v rest f g one are s =
    let w = g s.0 at s.1 are s.2 in
    let value : v ≡ inr s.0 = s.3.0 in
    let end : s.1 ≡ rest = s.3.1 in
    let none : n ≡ 0 = omega (arith, one) in
    rw (value, ← end, none) (w.0, ap (λ (os : List ℕ). number_run 1 1 ++ os) w.1 ∙ sym (append_assoc (number_run 1 1) (run q s.0) s.1.left))

pub written : {A : Type 0} (p : Field A) (at : Input) (v : A) (rest : Input) → AreOctets at.left → (format p).Stands at v rest → IsWritten p at v rest
unfolding format run
written (number code n least most fits) at v rest are s = (let w = number_written code n least most at v rest are s in ((w.0, w.1), w.2))
written (always a) at v rest are s = (s.0, ap (λ (i : Input). i.left) s.1)
written (octets n) at v rest are s = ((s.1, octets_in_front v rest.left (subst AreOctets s.0 are)), s.0)
written (counted most fits) at v rest are s =
    let n = s.0 in
    let between : Input = s.1 in
    let w = number_written plain 1 0 most at n between are s.2 in
    let later : AreOctets between.left = left_octets at between (number_run 1 n) are w.2 in
    let count : length v ≡ n = s.3.1 in
    ((rw count w.1, octets_in_front v rest.left (subst AreOctets s.3.0 later)), joined at between rest (number_run 1 (length v)) v (rw count w.2) s.3.0)
written (either p q) at v rest are s =
    let n = s.0 in
    let between : Input = s.1 in
    let w = number_written plain 1 0 1 at n between are s.2 in
    let later : AreOctets between.left = left_octets at between (number_run 1 n) are w.2 in
    let c = choice_written p q n between v rest (λ a from to. written p from a to) (λ b from to. written q from b to) w.1 later s.3 in
    (c.0, w.2 ∙ c.1)
written (also p q) at v rest are s =
    let a = s.0 in
    let between : Input = s.1 in
    let w = written p at a between are s.2 in
    let later : AreOctets between.left = left_octets at between (run p a) are w.1 in
    let b = s.3.0 in
    let x = written q between b s.3.1 later s.3.2 in
    let value : v ≡ (a, b) = s.3.3.0 in
    let end : s.3.1 ≡ rest = s.3.3.1 in
    rw (value, ← end) ((w.0, x.0), joined at between s.3.1 (run p a) (run q b) w.1 x.1)
written (on p q) at v rest are s =
    let a = s.0 in
    let between : Input = s.1 in
    let w = written p at a between are s.2 in
    let later : AreOctets between.left = left_octets at between (run p a) are w.1 in
    let b = s.3.0 in
    let x = written (q a) between b s.3.1 later s.3.2 in
    let value : v ≡ (a, b) = s.3.3.0 in
    let end : s.3.1 ≡ rest = s.3.3.1 in
    rw (value, ← end) ((w.0, x.0), joined at between s.3.1 (run p a) (run (q a) b) w.1 x.1)
written (named same p) at v rest are s =
    let w = written p at s.0 s.1 are s.2 in
    let value : v ≡ same.make s.0 = s.3.0 in
    let end : s.1 ≡ rest = s.3.1 in
    rw (value, ← end, same.back s.0) w
