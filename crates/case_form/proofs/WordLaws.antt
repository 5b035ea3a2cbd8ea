-- The words of a line, one after another.
use Rattle.std.proofs.Common.{◌≡◌, ℕ, ◌+◌, ◌-◌, ◌≤◌, Bool, true, false, eqb, ltb, not, cond, List, [], ◌∷◌, length, take, drop, Option, Some, None, refl, arith}
use Rattle.std.specs.Prelude.{position}
use denote.Ref.{Bor}
use Rattle.std.specs.Option.{is_some, option_copied}
use Rattle.std.specs.List.{position_or_len}
use Rattle.std.proofs.lemmas.Bool.{ltb-true, ltb-false, lt-ltb, le-ltb}
use Rattle.std.proofs.lemmas.Bool.Decides.{nat_tests}
use Rattle.std.proofs.lemmas.Option.{cond_some}
use Rattle.std.proofs.lemmas.List.{take_rest}
use Rattle.std.proofs.lemmas.List.Splits.{slice_split_first, slice_split_none, length-slice_split}
use Rattle.std.proofs.lemmas.List.Sums.{position_or_len_is, fails_before_first}
use Rattle.memchr.specs.Find.{IsFirstByte, is_byte}
use Rattle.case_form.specs.Words.{words_of, words_left}

abbrev is_space : ℕ → Bool
is_space octet = eqb octet 32

is_false : (b : Bool) → ¬ (b ≡ true) → b ≡ false
is_false true h = absurd (h refl)
is_false false h = refl

-- where the first space stands
pub space_found : (line : List ℕ) (at : Option ℕ) → IsFirstByte (is_byte 32) line at → at ≡ position is_space line
space_found line None none =
    let end : position_or_len is_space line ≡ length line = position_or_len_is is_space line (length line) 0 (omega arith) (λ k within. is_false _ (none k (omega arith) within)) (λ above. absurd (omega arith)) in
    rw (end, le-ltb (length line) (length line) (omega arith)) refl
space_found line (Some at) (before, hit) =
    let first : position_or_len is_space line ≡ at = position_or_len_is is_space line at 0 (omega (arith, before.high)) (λ k within. is_false _ (before.before k (omega arith) within)) (λ within. hit) in
    rw (first, lt-ltb at (length line) before.high) refl

-- no space: the line is the one word
pub last_word : (line : List ℕ) → position is_space line ≡ None → words_of line ≡ line ∷ []
last_word line e =
    let none : length line ≤ position_or_len is_space line = ltb-false _ _ (cond_none (ltb (position_or_len is_space line) (length line)) (position_or_len is_space line) e) in
    slice_split_none is_space line (λ k d lt. fails_before_first is_space line k d (omega arith))
  where
    cond_none : (b : Bool) (n : ℕ) → cond b (Some n) None ≡ None → b ≡ false
    cond_none true n e = absurd cc
    cond_none false n e = refl

-- the word before a space, and those behind it
pub first_word : (line : List ℕ) (at : ℕ) → position is_space line ≡ Some at → words_of line ≡ take at line ∷ words_of (take (length line - (at + 1)) (drop (at + 1) line))
first_word line at e =
    let found = cond_some (ltb (position_or_len is_space line) (length line)) (position_or_len is_space line) at e in
    let split = slice_split_first is_space line 0 (ltb-true _ _ found.0) in
    rw (take_rest line (at + 1)) (rw (← found.1) split)

-- the words are read to the end where nothing is left
pub words_at_end : (left : Option (Bor (List ℕ))) (none : Bool) → is_some left ≡ not none → none ≡ eqb (length (words_left (option_copied left))) 0
words_at_end None none e = grind arith
words_at_end (Some line) none e = rw (length-slice_split is_space line.now) (grind (arith, nat_tests))
