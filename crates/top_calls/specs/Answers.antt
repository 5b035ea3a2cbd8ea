-- What comes of a case text: a text, or a refusal with its number and line.
use Rattle.std.specs.Prelude.{◌≡◌, ◌≤◌, ℕ, List, Option, Some, None, Result, Ok, Err}
use Rattle.echo_base.specs.Reason.{reason_number}
use Rattle.echo_base.specs.declared.reason.Reason.{Reason}
use Rattle.case_form.specs.declared.case.CaseBad.{CaseBad}
use Rattle.case_form.specs.declared.case.CaseBad.TheVariants as bads
use Rattle.top_calls.specs.declared.no_text.NoText.{NoText}
use Rattle.top_calls.specs.declared.no_text.NoText.TheVariants as no
use Rattle.top_calls.specs.Case.{IsCase, case_by}

abbrev pub unless_bad : Option (ℕ × Reason) → List ℕ → Result (List ℕ) (ℕ × ℕ)
unless_bad None text = Ok text
unless_bad (Some bad) text = Err (reason_number bad.1, bad.0)

-- why there is no text where there is no case
abbrev pub no_text_of : CaseBad → NoText
no_text_of (bads.Refused reason line) = no.Refused (reason_number reason) line
no_text_of bads.OutOfMemory = no.OutOfMemory

-- a refusal is of a line, and these are numbered from 1
abbrev pub IsOfLine : NoText → Type 0
IsOfLine (no.Refused number line) = 1 ≤ line
IsOfLine no.OutOfMemory = Unit {0}

-- ---- of a top call, by what its words are, by the case that a command makes, and by what it makes of its case text

module _ {C : Type 0} (made_by : C → Option (List ℕ)) (answer_of : C → List ℕ → Result (List ℕ) (ℕ × ℕ)) where
  -- the words are a command, it had its case text from the source, and that is what it makes of it
  pub record AnswersBy (words : Option C) (before after : Option (List ℕ)) (answer : Result (List ℕ) (ℕ × ℕ)) : Type 0 where
    pub command : C
    pub octets : List ℕ
    pub words_are : words ≡ Some command
    pub case_is : IsCase (made_by command) before octets after
    pub answer_is : answer_of command octets ≡ answer

  -- the words are a command, and that is what it is to make of a source that has that left
  pub record OwesBy (words : Option C) (left : Option (List ℕ)) (answer : Result (List ℕ) (ℕ × ℕ)) : Type 0 where
    pub command : C
    pub octets : List ℕ
    pub words_are : words ≡ Some command
    pub case_is : case_by (made_by command) left ≡ Some octets
    pub answer_is : answer_of command octets ≡ answer
