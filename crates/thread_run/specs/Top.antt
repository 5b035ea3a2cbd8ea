-- What the top call with threads answers.
use Rattle.std.specs.Prelude.{◌≡◌, ℕ, true, List, Option, Some, is_some, Result, Ok, String, IsSomeAnd}
use Rattle.std.specs.declared.alloc.Global.{Global}
use Rattle.command_words.specs.Command.{threads_command_of}
use Rattle.command_words.specs.declared.command.ThreadsCommand.{ThreadsCommand}
use Rattle.thread_run.specs.Answer.{answer_of, made_by}
use Rattle.thread_run.specs.Shards.{AreShardsBy}
use Rattle.top_calls.specs.Answers.{AnswersBy, OwesBy}
use Rattle.top_calls.specs.Case.{IsCase}
use Rattle.worker_pool.specs.declared.run.Ran.{Ran}

abbrev pub IsMaking : ThreadsCommand → Type 0
IsMaking command = is_some (made_by command) ≡ true

-- the words are a command, it had its case text from the source, and that is what it makes of it
abbrev pub Answers : List (String Global) → Option (List ℕ) → Option (List ℕ) → Result (List ℕ) (ℕ × ℕ) → Type 0
Answers words before after answer = AnswersBy made_by answer_of (threads_command_of words) before after answer

-- the same of a text, and the floor holds the closed shards of a run of that case
pub record Tells (words : List (String Global)) (before after : Option (List ℕ)) (floor : Option Ran) (text : List ℕ) : Type 0 where
  pub command : ThreadsCommand
  pub octets : List ℕ
  pub words_are : threads_command_of words ≡ Some command
  pub case_is : IsCase (made_by command) before octets after
  pub text_is : answer_of command octets ≡ Ok text
  pub shards : IsSomeAnd floor (AreShardsBy octets)

-- the words are a command, and that is what it is to make of a source that has that left
abbrev pub Owes : List (String Global) → Option (List ℕ) → Result (List ℕ) (ℕ × ℕ) → Type 0
Owes words left answer = OwesBy made_by answer_of (threads_command_of words) left answer
