-- Reading words is exact: what is read stands there, and what stands there is read.
use Rattle.std.proofs.Common.{◌≡◌, ℕ, ◌^◌, ◌<◌, ◌≤◌, Bool, true, false, eqb, leb, ◌&&◌, List, [], ◌∷◌, ◌++◌, length, get_or, Option, Some, None, Result, Ok, Err, refl, sym, ap, ◌∙◌, subst, inl, inr, arith}
use Rattle.std.specs.Prelude.{◌≢◌, if◌then◌else◌}
use Rattle.std.specs.Fmt.{decimal}
use Rattle.std.specs.List.{list_all}
use Rattle.std.specs.Char.{is_ascii_digit}
use Rattle.std.specs.Str.{bytes_eq}
use Rattle.std.specs.Str.Parse.{digits_value}
use Rattle.std.proofs.lemmas.Bool.{cases_Bool, leb-true, le-leb, eqb-true}
use Rattle.std.proofs.lemmas.Bool.Decides.{nat_tests}
use Rattle.std.proofs.lemmas.Fmt.{decimal_digit, decimal-digits_value, digits_decimal, digits_value-decimal, decimal_nonempty, first_decimal}
use Rattle.std.proofs.lemmas.List.{append-nil, nil_from_length}
use Rattle.std.proofs.lemmas.Option.{cond_some, same_Some}
use Rattle.std.proofs.lemmas.Slice.Eq.{bytes_eq-Decides}
use Rattle.device_types.specs.Numbers.{IsWithin}
use Rattle.case_form.specs.Number.{is_numeral, number_of}
use Rattle.echo_base.specs.Reading.{◌>>=◌, done, known}
use Rattle.echo_base.proofs.Answers.{ok_err, ok_parts, bind_ok}
use Rattle.echo_base.proofs.Formats.{known_ok}
use Rattle.case_form.specs.Words.{Reader, word_at, number_at, all_read, whole, words_of}
use Rattle.case_form.proofs.NumberLaws.{digits, numeral_parts}

-- ---- numbers

both : (a b : Bool) → (a && b) ≡ true → (a ≡ true) × (b ≡ true)
both true b e = (refl, e)
both false b e = absurd cc

first_is_not_zero : (word : List ℕ) → is_numeral word ≡ true → get_or word 0 0 ≡ 48 → ⊥
first_is_not_zero word e z = grind (arith, nat_tests)

pub number_found : (most n : ℕ) (word : List ℕ) → most < 2 ^ 32 → number_of most word ≡ Some n → IsWithin most n × (word ≡ decimal n)
unfolding number_of
number_found most n word small e =
    let found = cond_some (is_numeral word && leb (digits_value 10 word) most) (digits_value 10 word) n e in
    let tests = both (is_numeral word) (leb (digits_value 10 word) most) found.0 in
    let parts = numeral_parts word tests.0 in
    let value : digits_value 10 word ≡ n = found.1 in
    let high : n ≤ most = omega (arith, leb-true (digits_value 10 word) most tests.1, value) in
    let text : decimal (digits_value 10 word) ≡ word = decimal-digits_value digits word parts.1 parts.0 (λ z. absurd (first_is_not_zero word tests.0 z)) (omega (arith, value, high)) in
    let is : word ≡ decimal n = sym text ∙ ap decimal value in
    let low : n ≢ 0 = λ z. first_is_not_zero word tests.0 (ap (λ (l : List ℕ). get_or l 0 0) (is ∙ ap decimal z ∙ decimal_digit 0 (omega arith))) in
    ((omega (arith, low), high), is)

pub number_only : (most n : ℕ) → most < 2 ^ 32 → IsWithin most n → number_of most (decimal n) ≡ Some n
unfolding number_of
number_only most n small within =
    let value : digits_value 10 (decimal n) ≡ n = digits_value-decimal digits n (omega arith) in
    let all : list_all is_ascii_digit (decimal n) ≡ true = digits_decimal digits n (omega arith) in
    let some : eqb (length (decimal n)) 0 ≡ false = le_eqb (length (decimal n)) 0 (decimal_nonempty n (omega arith)) in
    let first : eqb (get_or (decimal n) 0 0) 48 ≡ false = le_eqb (get_or (decimal n) 0 0) 48 (first_decimal n within.0 (omega arith)) in
    rw (all, some, first, value, le-leb n most within.1) refl
  where
    le_eqb : (a b : ℕ) → b < a → eqb a b ≡ false
    le_eqb a b h = grind (arith, nat_tests)

-- ---- one behind another

pub record IsExact {A : Type 0} (Spells : A → List (List ℕ) → Type 0) (f : Reader A) : Type 0 where
  pub found : (words rest : List (List ℕ)) (v : A) → f words ≡ Ok (v, rest) → (run : List (List ℕ)) × Spells v run × (words ≡ run ++ rest)
  pub only : (v : A) (run rest : List (List ℕ)) → Spells v run → f (run ++ rest) ≡ Ok (v, rest)

-- nothing more
abbrev pub Ends : {A : Type 0} → A → A → List (List ℕ) → Type 0
Ends a v run = (v ≡ a) × (run ≡ [])

pub done_exact : {A : Type 0} (a : A) → IsExact (Ends a) (done a)
done_exact a = record {
  found = λ words rest v e. let p = ok_parts a v words rest e in ([], (sym p.0, refl), p.1);
  only = λ v run rest s. rw (s.0, s.1) refl;
}

word_found : (words rest : List (List ℕ)) (word : List ℕ) → word_at words ≡ Ok (word, rest) → words ≡ word ∷ rest
word_found [] rest word e = absurd (ok_err (word, rest) tt (sym e))
word_found (first ∷ words) rest word e = let p = ok_parts first word words rest e in rw (p.0, p.1) refl

-- the next word, whichever
pub word_exact : IsExact (λ word run. run ≡ word ∷ []) word_at
word_exact = record { found = λ words rest word e. (word ∷ [], refl, word_found words rest word e); only = λ word run rest s. rw s refl }

-- a word that stands for a value
pub value_exact : {A : Type 0} (value_of : List ℕ → Option A) (word_of : A → List ℕ) (P : A → Type 0) → ((word : List ℕ) (v : A) → value_of word ≡ Some v → P v × (word ≡ word_of v)) → ((v : A) → P v → value_of (word_of v) ≡ Some v) → IsExact (λ v run. P v × (run ≡ word_of v ∷ [])) (word_at >>= λ word. known (value_of word) tt)
value_exact value_of word_of P found only = record {
  found = λ words rest v e.
      let x = bind_ok (word_at words) (λ x. known (value_of x.0) tt x.1) (v, rest) e in
      let d = known_ok (value_of x.0.0) tt x.0.1 v rest x.2 in
      let f = found x.0.0 v d.0 in
      (word_of v ∷ [], (f.0, refl), word_found words x.0.1 x.0.0 x.1 ∙ rw (f.1, d.1) refl);
  only = λ v run rest s. rw (s.1, only v s.0) refl;
}

-- a word that stands for a value, where a value has many words
pub known_exact : {A : Type 0} (value_of : List ℕ → Option A) → IsExact (λ v run. (word : List ℕ) × (value_of word ≡ Some v) × (run ≡ word ∷ [])) (word_at >>= λ word. known (value_of word) tt)
known_exact value_of = record {
  found = λ words rest v e.
      let x = bind_ok (word_at words) (λ x. known (value_of x.0) tt x.1) (v, rest) e in
      let d = known_ok (value_of x.0.0) tt x.0.1 v rest x.2 in
      (x.0.0 ∷ [], (x.0.0, d.0, refl), word_found words x.0.1 x.0.0 x.1 ∙ rw d.1 refl);
  only = λ v run rest s. rw (s.2, s.1) refl;
}

pub number_exact : (most : ℕ) → most < 2 ^ 32 → IsExact (λ n run. IsWithin most n × (run ≡ decimal n ∷ [])) (number_at most)
unfolding number_at
number_exact most small = value_exact (number_of most) decimal (IsWithin most) (λ word n e. number_found most n word small e) (λ n within. number_only most n small within)

all_read_some : {A : Type 0} (r : Result (A × List (List ℕ)) (Unit {0})) (v : A) → all_read r ≡ Some v → r ≡ Ok (v, [])
all_read_some (Err none) v e = absurd cc
all_read_some (Ok x) v e =
    let p = cond_some (eqb (length x.1) 0) x.0 v e in
    let none : x.1 ≡ [] = nil_from_length x.1 (eqb-true _ _ p.0) in
    rw (← p.1, ← none) refl

-- all words of a line
pub whole_found : {A : Type 0} (S : A → List (List ℕ) → Type 0) (f : Reader A) → IsExact S f → (line : List ℕ) (v : A) → whole f line ≡ Some v → S v (words_of line)
whole_found S f p line v e =
    let x = p.found (words_of line) [] v (all_read_some (f (words_of line)) v e) in
    subst (λ (l : List (List ℕ)). S v l) (sym (x.2 ∙ append-nil x.0)) x.1

pub whole_only : {A : Type 0} (S : A → List (List ℕ) → Type 0) (f : Reader A) → IsExact S f → (line : List ℕ) (v : A) → S v (words_of line) → whole f line ≡ Some v
whole_only S f p line v s = rw (← append-nil (words_of line)) (rw (p.only v (words_of line) [] s) refl)

-- a word that stands for a value, and what is read behind it
abbrev pub Next : {A B : Type 0} → (A → Type 0) → (A → List ℕ) → (A → B → List (List ℕ) → Type 0) → B → List (List ℕ) → Type 0
Next {A} P word_of Q b run = (a : A) × P a × (tail : List (List ℕ)) × Q a b tail × (run ≡ word_of a ∷ tail)

pub next_exact : {A B : Type 0} (P : A → Type 0) (word_of : A → List ℕ) (f : Reader A) (Q : A → B → List (List ℕ) → Type 0) (g : A → Reader B) → IsExact (λ a run. P a × (run ≡ word_of a ∷ [])) f → ((a : A) → IsExact (Q a) (g a)) → IsExact (Next P word_of Q) (f >>= g)
next_exact P word_of f Q g p q = record {
  found = λ words rest b e.
      let x = bind_ok (f words) (λ x. g x.0 x.1) (b, rest) e in
      let front = p.found words x.0.1 x.0.0 x.1 in
      let back = (q x.0.0).found x.0.1 rest b x.2 in
      let words_are : words ≡ word_of x.0.0 ∷ (back.0 ++ rest) = front.2 ∙ ap (λ (l : List (List ℕ)). l ++ x.0.1) front.1.1 ∙ ap (λ (l : List (List ℕ)). word_of x.0.0 ∷ l) back.2 in
      (word_of x.0.0 ∷ back.0, (x.0.0, front.1.0, back.0, back.1, refl), words_are);
  only = λ b run rest s. rw (s.4, p.only s.0 (word_of s.0 ∷ []) (s.2 ++ rest) (s.1, refl)) ((q s.0).only b s.2 rest s.3);
}

-- ---- words from a table

-- a table of words, and the value that each stands for
abbrev pub in_table : {A : Type 0} → List (List ℕ × A) → List ℕ → Option A
in_table [] word = None
in_table (row ∷ table) word = if bytes_eq word row.0 then Some row.1 else in_table table word

abbrev pub IsTableOf : {A : Type 0} → (A → List ℕ) → List (List ℕ × A) → Type 0
IsTableOf word_of [] = Unit {0}
IsTableOf word_of (row ∷ table) = (row.0 ≡ word_of row.1) × IsTableOf word_of table

pub in_table_found : {A : Type 0} (word_of : A → List ℕ) (table : List (List ℕ × A)) → IsTableOf word_of table → (word : List ℕ) (v : A) → in_table table word ≡ Some v → word ≡ word_of v
in_table_found word_of [] t word v e = absurd cc
in_table_found word_of (row ∷ table) t word v e = elim (cases_Bool (bytes_eq word row.0)) [
  | inl y ↦ let same : Some row.1 ≡ Some v = rw y at e in (bytes_eq-Decides word row.0).0 y ∙ t.0 ∙ ap word_of (same_Some row.1 v same)
  | inr n ↦ let later : in_table table word ≡ Some v = rw n at e in in_table_found word_of table t.1 word v later
]
