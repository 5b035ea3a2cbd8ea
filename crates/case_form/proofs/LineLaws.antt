-- The lines that bstr gives are those of the definition.
use Rattle.std.proofs.Common.{◌≡◌, ℕ, zero, suc, ◌+◌, ◌-◌, ◌<◌, ◌≤◌, ◌⊎◌, Bool, true, false, eqb, ltb, List, [], ◌∷◌, ◌++◌, map, length, take, drop, get_or, refl, sym, ap, ◌∙◌, inl, inr, arith}
use Rattle.std.specs.List.{All, slice_split}
use Rattle.std.specs.Str.Lines.{lines, lines_of_parts, strip_carriage_return}
use Rattle.std.proofs.lemmas.Bool.{cases_Bool, eqb-true}
use Rattle.std.proofs.lemmas.Bool.Decides.{nat_tests}
use Rattle.std.proofs.lemmas.List.{take_all, drop_all, take_at, drop_at, length-append, append_assoc}
use Rattle.std.proofs.lemmas.List.Elements.{All-nil, All-cons, All-head, All-tail}
use Rattle.std.proofs.lemmas.List.Splits.{slice_split_none, slice_split_at, length-slice_split}
use Rattle.std.proofs.Math.Seq.{get_or-append_seam}
use Rattle.bstr.specs.Text as bstr
use Rattle.bstr.specs.Text.{line_len, lines_from, without_terminator, no_cr}

abbrev is_lf : ℕ → Bool
is_lf octet = eqb octet 10

abbrev IsPlain : ℕ → Type 0
IsPlain octet = is_lf octet ≡ false

abbrev IsPart : List ℕ → Type 0
IsPart part = All IsPlain part

-- no LF, or the part before the first
record Cut (octets : List ℕ) : Type 0 where
  part : List ℕ
  rest : List ℕ
  whole : octets ≡ part ++ 10 ∷ rest
  plain : IsPart part

cut_of : (octets : List ℕ) → IsPart octets ⊎ Cut octets
cut_of [] = inl (All-nil IsPlain)
cut_of (octet ∷ octets) = elim (cases_Bool (is_lf octet)) [
  | inl t ↦ inr (record { part = []; rest = octets; whole = ap (λ x. x ∷ octets) (eqb-true _ _ t); plain = All-nil IsPlain })
  | inr f ↦ elim (cut_of octets) [
    | inl p ↦ inl (All-cons IsPlain octet octets f p)
    | inr cut ↦ inr (record { part = octet ∷ cut.part; rest = cut.rest; whole = ap (λ (l : List ℕ). octet ∷ l) cut.whole; plain = All-cons IsPlain octet cut.part f cut.plain })
  ]
]

line_len-part : (part : List ℕ) → IsPart part → line_len part ≡ length part
unfolding line_len
line_len-part [] p = refl
line_len-part (octet ∷ part) p = rw (All-head IsPlain octet part p) (ap suc (line_len-part part (All-tail IsPlain octet part p)))

line_len-cut : (part rest : List ℕ) → IsPart part → line_len (part ++ 10 ∷ rest) ≡ length part + 1
unfolding line_len
line_len-cut [] rest p = refl
line_len-cut (octet ∷ part) rest p = rw (All-head IsPlain octet part p) (omega (arith, line_len-cut part rest (All-tail IsPlain octet part p)))

strip_is : (part : List ℕ) → no_cr part ≡ strip_carriage_return part
strip_is [] = refl
strip_is (octet ∷ part) = grind (arith, nat_tests)

last_line : (part : List ℕ) → IsPart part → without_terminator part ≡ part
last_line [] p = refl
last_line (octet ∷ part) p =
    let last : is_lf (get_or (octet ∷ part) (length (octet ∷ part) - 1) 0) ≡ false = p (length (octet ∷ part) - 1) 0 (omega arith) in
    grind (arith, nat_tests)

ended_line : (part : List ℕ) → without_terminator (part ++ 10 ∷ []) ≡ strip_carriage_return part
ended_line part =
    let len : length (part ++ 10 ∷ []) - 1 ≡ length part = omega (arith, length-append part (10 ∷ [])) in
    let some : ltb 0 (length (part ++ 10 ∷ [])) ≡ true = grind (arith, nat_tests, length-append part (10 ∷ [])) in
    rw (some, len, get_or-append_seam part 10 [] 0, take_at part (10 ∷ []) (length part) refl) (strip_is part)

lines_from-nil : (n : ℕ) → lines_from n [] ≡ []
unfolding lines_from
lines_from-nil zero = refl
lines_from-nil (suc n) = refl

parts_behind : (part rest : List ℕ) → lines_of_parts (part ∷ slice_split is_lf rest) ≡ strip_carriage_return part ∷ lines rest
parts_behind part rest = two (slice_split is_lf rest) (omega (arith, length-slice_split is_lf rest))
  where
    two : (parts : List (List ℕ)) → 0 < length parts → lines_of_parts (part ∷ parts) ≡ strip_carriage_return part ∷ lines_of_parts parts
    two [] h = absurd (omega arith)
    two (x ∷ xs) h = refl

-- one line, without a LF at its end
one_line : (octet : ℕ) (part : List ℕ) → IsPart (octet ∷ part) → lines (octet ∷ part) ≡ (octet ∷ part) ∷ []
one_line octet part p =
    let some : eqb (suc (length part)) 0 ≡ false = grind (arith, nat_tests) in
    rw (slice_split_none is_lf (octet ∷ part) p, some) refl

lines_from-more : (n : ℕ) (octets : List ℕ) → 0 < length octets → lines_from (suc n) octets ≡ take (line_len octets) octets ∷ lines_from n (drop (line_len octets) octets)
unfolding lines_from
lines_from-more n [] some = absurd (omega arith)
lines_from-more n (octet ∷ octets) some = refl

lines_from-part : (n octet : ℕ) (part : List ℕ) → IsPart (octet ∷ part) → lines_from (suc n) (octet ∷ part) ≡ (octet ∷ part) ∷ []
lines_from-part n octet part p =
    let len : line_len (octet ∷ part) ≡ length (octet ∷ part) = line_len-part (octet ∷ part) p in
    lines_from-more n (octet ∷ part) (omega arith) ∙ rw (len, take_all (length (octet ∷ part)) (octet ∷ part) (omega arith), drop_all (length (octet ∷ part)) (octet ∷ part) (omega arith), lines_from-nil n) refl

lines_from-cut : (n : ℕ) (part rest : List ℕ) → IsPart part → lines_from (suc n) (part ++ 10 ∷ rest) ≡ (part ++ 10 ∷ []) ∷ lines_from n rest
lines_from-cut n part rest p =
    let group : part ++ 10 ∷ rest ≡ (part ++ 10 ∷ []) ++ rest = sym (append_assoc part (10 ∷ []) rest) in
    let len : length (part ++ 10 ∷ []) ≡ length part + 1 = length-append part (10 ∷ []) in
    lines_from-more n (part ++ 10 ∷ rest) (omega (arith, length-append part (10 ∷ rest))) ∙ rw (line_len-cut part rest p, group, take_at (part ++ 10 ∷ []) rest (length part + 1) len, drop_at (part ++ 10 ∷ []) rest (length part + 1) len) refl

-- the lines, from any number of turns that is large enough
lines_are : (n : ℕ) (octets : List ℕ) → length octets ≤ n → map without_terminator (lines_from n octets) ≡ lines octets
lines_are n [] small = ap (map without_terminator) (lines_from-nil n)
lines_are zero (octet ∷ octets) small = absurd (omega arith)
lines_are (suc n) (octet ∷ octets) small = elim (cut_of (octet ∷ octets)) [
  | inl p ↦ ap (map without_terminator) (lines_from-part n octet octets p) ∙ ap (λ (l : List ℕ). l ∷ []) (last_line (octet ∷ octets) p) ∙ sym (one_line octet octets p)
  | inr cut ↦
      let shorter : length cut.rest ≤ n = omega (arith, ap length cut.whole, length-append cut.part (10 ∷ cut.rest)) in
      let first : map without_terminator (lines_from (suc n) (octet ∷ octets)) ≡ without_terminator (cut.part ++ 10 ∷ []) ∷ map without_terminator (lines_from n cut.rest) =
      ap (λ (l : List ℕ). map without_terminator (lines_from (suc n) l)) cut.whole ∙ ap (map without_terminator) (lines_from-cut n cut.part cut.rest cut.plain) in
      let split : lines (octet ∷ octets) ≡ lines_of_parts (cut.part ∷ slice_split is_lf cut.rest) =
      ap lines cut.whole ∙ ap lines_of_parts (slice_split_at is_lf cut.part 10 cut.rest cut.plain refl) in
      first ∙ rw (ended_line cut.part, lines_are n cut.rest shorter) refl ∙ sym (parts_behind cut.part cut.rest) ∙ sym split
]

pub bstr_lines : (octets : List ℕ) → map without_terminator (bstr.lines_of octets) ≡ lines octets
bstr_lines octets = lines_are (length octets) octets (omega arith)
