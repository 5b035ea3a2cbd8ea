-- What a word is to clap, where it names an option or is a value.
use Rattle.std.proofs.Common.{◌≡◌, ℕ, ◌+◌, Bool, true, false, cond, List, [], ◌∷◌, length, take, Option, Some, None, refl, sym, ap, ◌∙◌, take_all, arith}
use Rattle.std.specs.Prelude.{nat_lt, suc, ◌&&◌, ◌==◌, option_map}
use Rattle.std.specs.List.{list_any, position_or_len}
use Rattle.std.specs.Str.{bytes_eq}
use Rattle.std.proofs.lemmas.Bool.Decides.{nat_tests}
use Rattle.clap.specs.Lexer.{long_of, short_of, name_and_value}
use Rattle.command_words.specs.declared.options.Takes.{Takes}
use Rattle.command_words.specs.declared.options.Takes.TheVariants as takes
use Rattle.command_words.specs.Options.{Named, named, named_by, parted, is_value, number_of, may_have}

-- ---- where the first `=` stands

one_more_each : (m n : ℕ) → nat_lt (1 + m) (suc n) ≡ nat_lt m n
one_more_each m n = grind (arith, nat_tests)

-- one stands there where the first is in front of the end
stands : (text : List ℕ) → nat_lt (position_or_len (λ octet. octet == 61) text) (length text) ≡ list_any (λ octet. octet == 61) text
stands [] = refl
stands (x ∷ text) = go (x == 61) refl (stands text)
  where
    go : (b : Bool) → (x == 61) ≡ b → nat_lt (position_or_len (λ octet. octet == 61) text) (length text) ≡ list_any (λ octet. octet == 61) text → nat_lt (position_or_len (λ octet. octet == 61) (x ∷ text)) (length (x ∷ text)) ≡ list_any (λ octet. octet == 61) (x ∷ text)
    go true e rest = rw e (grind (arith, nat_tests))
    go false e rest = rw e (one_more_each (position_or_len (λ octet. octet == 61) text) (length text) ∙ rest)

none_before : (text : List ℕ) → list_any (λ octet. octet == 61) text ≡ false → take (position_or_len (λ octet. octet == 61) text) text ≡ text
none_before text e =
    let n = position_or_len (λ octet. octet == 61) text in
    let end : nat_lt n (length text) ≡ false = stands text ∙ e in
    take_all n text (grind (arith, nat_tests))

parted_is : (text : List ℕ) → named_by text ≡ name_and_value text
parted_is text = go (list_any (λ octet. octet == 61) text) refl
  where
    go : (b : Bool) → list_any (λ octet. octet == 61) text ≡ b → parted text (cond (nat_lt (position_or_len (λ octet. octet == 61) text) (length text)) (Some (position_or_len (λ octet. octet == 61) text)) None) ≡ name_and_value text
    go true e = rw (stands text, e) refl
    go false e = rw (stands text, e, none_before text e) refl

-- ---- values

value_of : (takes : Takes) (text : List ℕ) → may_have takes text ≡ true → is_value text ≡ true
unfolding number_of
value_of (takes.Number least most default) text e = go (is_value text) refl e
  where
    go : (b : Bool) → is_value text ≡ b → may_have (takes.Number least most default) text ≡ true → is_value text ≡ true
    go true t e = t
    go false t e = let no : false ≡ true = rw t at e in cc
value_of takes.Nothing text e = cc

-- a value is no flag, and names nothing
pub record IsPlain (text : List ℕ) : Type 0 where
  pub named : named text ≡ None
  pub long : long_of text ≡ None
  pub short : short_of text ≡ None
  pub apart : bytes_eq text (45 ∷ 45 ∷ []) ≡ false

not_hyphen : (x : ℕ) (text : List ℕ) → is_value (x ∷ text) ≡ true → (x == 45) ≡ false
not_hyphen x text e = grind (arith, nat_tests)

plain_by : (x : ℕ) (text : List ℕ) → (x == 45) ≡ false → IsPlain (x ∷ text)
unfolding named
plain_by x [] e = record { named = refl; long = rw e refl; short = rw e refl; apart = rw e refl }
plain_by x (y ∷ text) e = record { named = rw e refl; long = rw e refl; short = rw e refl; apart = rw e refl }

pub value_is_plain : (takes : Takes) (text : List ℕ) → may_have takes text ≡ true → IsPlain text
value_is_plain takes [] e = let v = value_of takes [] e in cc
value_is_plain takes (x ∷ text) e = plain_by x text (not_hyphen x text (value_of takes (x ∷ text) e))

-- ---- names

-- a word that names something names it to clap too
pub record IsFlag (word name : List ℕ) (value : Option (List ℕ)) : Type 0 where
  pub long : long_of word ≡ Some (name, value)
  pub apart : bytes_eq word (45 ∷ 45 ∷ []) ≡ false

abbrev some_named : Named → Option Named
some_named n = Some n

flag_by : (text name : List ℕ) (value : Option (List ℕ)) → named_by text ≡ (name, value) → (name ≡ [] → ⊥) → IsFlag (45 ∷ 45 ∷ text) name value
flag_by [] name value e some = absurd (some (sym (ap (λ (n : Named). n.0) e)))
flag_by (x ∷ text) name value e some = record { long = ap some_named (sym (parted_is (x ∷ text)) ∙ e); apart = refl }

pub flag_word : (word name : List ℕ) (value : Option (List ℕ)) → named word ≡ Some (name, value) → (name ≡ [] → ⊥) → IsFlag word name value
unfolding named
flag_word [] name value e some = cc
flag_word (x ∷ []) name value e some = cc
flag_word (x ∷ y ∷ text) name value e some = go (x == 45 && y == 45) refl e
  where
    go : (b : Bool) → (x == 45 && y == 45) ≡ b → option_map named_by (cond (x == 45 && y == 45) (Some text) None) ≡ Some (name, value) → IsFlag (x ∷ y ∷ text) name value
    go false t e = let no : None ≡ some_named (name, value) = rw t at e in cc
    go true t e =
        let one : x ≡ 45 = grind (arith, nat_tests) in
        let two : y ≡ 45 = grind (arith, nat_tests) in
        let same : Some (named_by text) ≡ some_named (name, value) = rw t at e in
        let parts : named_by text ≡ (name, value) = cc in
        rw (one, two) (flag_by text name value parts some)
