-- What the top call answers.
use Rattle.std.specs.Prelude.{◌≡◌, ℕ, Bool, true, List, Option, Some, None, is_some, option_map, Result, Ok, String}
use Rattle.std.specs.declared.alloc.Global.{Global}
use Rattle.command_words.specs.declared.command.Command.{Command}
use Rattle.command_words.specs.declared.command.Command.TheVariants.{Plain, Replay, Show, S11, S6a, Make, Epochs, Crash}
use Rattle.command_words.specs.Command.{command_of}
use Rattle.device_types.specs.declared.finals.DeviceEnd.{DeviceEnd}
use Rattle.schedule_laws.specs.Counts.{Turn}
use Rattle.schedule_laws.specs.Setting.{Setting}
use Rattle.top_calls.specs.Answers.{AnswersBy, OwesBy}
use Rattle.top_calls.specs.declared.source.MadeCase.{MadeCase}
use Rattle.top_calls.specs.Case.{case_made, IsCase}
use Rattle.echo_run.specs.Answer.{answer_of, told_by, Ran}

-- ---- the case text of a command

-- the numbers of the case that a command makes; the others read one
abbrev pub made_in : Command → Option MadeCase
made_in Plain = None
made_in (Replay replicas) = None
made_in (Show protocol) = None
made_in S11 = None
made_in S6a = None
made_in (Make number devices rounds text) = Some (record { number = number; devices = devices; rounds = rounds })
made_in (Epochs device number events) = None
made_in (Crash after) = None

abbrev pub made_by : Command → Option (List ℕ)
made_by command = option_map case_made (made_in command)

abbrev pub IsMaking : Command → Type 0
IsMaking command = is_some (made_by command) ≡ true

-- ---- what comes of it

-- the words are a command, it had its case text from the source, and that is what it makes of it
abbrev pub Answers : List (String Global) → Option (List ℕ) → Option (List ℕ) → Result (List ℕ) (ℕ × ℕ) → Type 0
Answers words before after answer = AnswersBy made_by answer_of (command_of words) before after answer

-- the same on a floor with this setting, these answers and these ends
pub record Tells (words : List (String Global)) (before after : Option (List ℕ)) (exact : Bool) (setting : Option Setting) (given : List Turn) (ends : List DeviceEnd) (text : List ℕ) : Type 0 where
  pub command : Command
  pub octets : List ℕ
  pub words_are : command_of words ≡ Some command
  pub case_is : IsCase (made_by command) before octets after
  pub ran : Ran command octets exact setting given ends
  pub text_is : told_by command octets given ends ≡ Ok text

-- the words are a command, and that is what it is to make of a source that has that left
abbrev pub Owes : List (String Global) → Option (List ℕ) → Result (List ℕ) (ℕ × ℕ) → Type 0
Owes words left answer = OwesBy made_by answer_of (command_of words) left answer
