-- The words of a line, and reading them from left to right.
use Rattle.std.specs.Prelude.{ℕ, ◌==◌, List, [], ◌∷◌, length, Option, Some, None, Result, Ok, Err, if◌then◌else◌}
use Rattle.std.specs.List.{slice_split}
use Rattle.echo_base.specs.Reading as readings
use Rattle.echo_base.specs.Reading.{◌>>=◌, known}
use Rattle.case_form.specs.Number.{number_of}

-- the parts between spaces
abbrev pub words_of : List ℕ → List (List ℕ)
words_of line = slice_split (λ octet. octet == 32) line

-- the words that are left of a line, or none where it was read to its end
abbrev pub words_left : Option (List ℕ) → List (List ℕ)
words_left None = []
words_left (Some line) = words_of line

-- a way to read words, which says of no value why there is none
abbrev pub Reader : Type 0 → Type 0
Reader A = readings.Reader (List (List ℕ)) (Unit {0}) A

-- the next word
abbrev pub word_at : Reader (List ℕ)
word_at [] = Err tt
word_at (word ∷ words) = Ok (word, words)

-- the next word as a number from 1 to the most
unfoldable pub number_at : ℕ → Reader ℕ
number_at most = do
  word ← word_at
  known (number_of most word) tt

abbrev pub all_read : {A : Type 0} → Result (A × List (List ℕ)) (Unit {0}) → Option A
all_read (Ok x) = if length x.1 == 0 then Some x.0 else None
all_read (Err none) = None

-- the value that a line is, with all of its words
abbrev pub whole : {A : Type 0} → Reader A → List ℕ → Option A
whole f line = all_read (f (words_of line))
