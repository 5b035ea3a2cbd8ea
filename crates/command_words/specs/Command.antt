-- The words of a command.
use Rattle.std.specs.Prelude.{ℕ, ◌+◌, ◌*◌, ◌≤◌, ◌==◌, ◌&&◌, nat_le, Bool, true, List, [], ◌∷◌, codes, map, string_bytes, String, Option, Some, None, option_and_then, if◌then◌else◌}
use Rattle.std.specs.Str.{bytes_eq}
use Rattle.std.specs.declared.alloc.Global.{Global}
use Rattle.device_types.specs.Numbers.{IsWithin}
use Rattle.command_words.specs.declared.command.Command.{Command}
use Rattle.command_words.specs.declared.command.Command.TheVariants as command
use Rattle.command_words.specs.declared.command.Protocol.{Protocol}
use Rattle.command_words.specs.declared.command.Protocol.TheVariants as protocol
use Rattle.command_words.specs.declared.command.ThreadsCommand.{ThreadsCommand}
use Rattle.command_words.specs.declared.command.ThreadsCommand.TheVariants as threads
use Rattle.command_words.specs.declared.command.AnyCommand.{AnyCommand}
use Rattle.command_words.specs.declared.command.AnyCommand.TheVariants as any
use Rattle.command_words.specs.declared.command.TopCall.{TopCall}
use Rattle.command_words.specs.declared.command.TopCall.TheVariants as top
use Rattle.command_words.specs.declared.command.Word.{Word}
use Rattle.command_words.specs.declared.command.Word.TheVariants.{Plain, Replay, Show, S11, S6a, Make, Epochs, Crash, Run, Load}
use Rattle.command_words.specs.declared.options.Name.{Name}
use Rattle.command_words.specs.declared.options.Name.TheVariants.{Replicas, Number, Devices, Rounds, Text, Device, Events, After, Kind, Workers}
use Rattle.command_words.specs.Options.{are_options, is_given, number_in, text_of}

-- the word of a command; each top call knows its own commands only
abbrev pub word_of : TopCall → List ℕ → Option Word
word_of top.Replay name =
    if bytes_eq name (codes "plain") then Some Plain
    else if bytes_eq name (codes "replay") then Some Replay
    else if bytes_eq name (codes "show") then Some Show
    else if bytes_eq name (codes "s11") then Some S11
    else if bytes_eq name (codes "s6a") then Some S6a
    else if bytes_eq name (codes "make") then Some Make
    else if bytes_eq name (codes "epochs") then Some Epochs
    else if bytes_eq name (codes "crash") then Some Crash
    else None
word_of top.Threads name =
    if bytes_eq name (codes "run") then Some Run
    else if bytes_eq name (codes "load") then Some Load
    else None

-- the options that a command may have
abbrev pub options_of : Word → List Name
options_of Plain = []
options_of Replay = Replicas ∷ []
options_of Show = Kind ∷ []
options_of S11 = []
options_of S6a = []
options_of Make = Number ∷ Devices ∷ Rounds ∷ Text ∷ []
options_of Epochs = Device ∷ Number ∷ Events ∷ []
options_of Crash = After ∷ []
options_of Run = Workers ∷ []
options_of Load = Number ∷ Devices ∷ Rounds ∷ Workers ∷ []

-- a made case has at most 800 visits
abbrev pub most_visits : ℕ
most_visits = 800

abbrev pub has_few_visits : List (List ℕ) → Bool
has_few_visits words = nat_le (number_in words Devices * (number_in words Rounds + 1)) most_visits

-- what a command asks of its numbers together
abbrev pub is_small : Word → List (List ℕ) → Bool
is_small Plain words = true
is_small Replay words = true
is_small Show words = true
is_small S11 words = true
is_small S6a words = true
is_small Make words = has_few_visits words
is_small Epochs words = true
is_small Crash words = true
is_small Run words = true
is_small Load words = has_few_visits words

-- the protocol of a number
abbrev pub protocol_of : ℕ → Protocol
protocol_of kind = if kind == 0 then protocol.S1ap else (if kind == 1 then protocol.Gtp else protocol.Diameter)

-- the command of that word, with its options
unfoldable pub command_by : Word → List (List ℕ) → AnyCommand
command_by Plain words = any.Replay command.Plain
command_by Replay words = any.Replay (command.Replay (number_in words Replicas))
command_by Show words = any.Replay (command.Show (protocol_of (number_in words Kind)))
command_by S11 words = any.Replay command.S11
command_by S6a words = any.Replay command.S6a
command_by Make words = any.Replay (command.Make (number_in words Number) (number_in words Devices) (number_in words Rounds) (is_given words (text_of Text)))
command_by Epochs words = any.Replay (command.Epochs (number_in words Device) (number_in words Number) (number_in words Events))
command_by Crash words = any.Replay (command.Crash (number_in words After))
command_by Run words = any.Threads (threads.Run (number_in words Workers))
command_by Load words = any.Threads (threads.Load (number_in words Number) (number_in words Devices) (number_in words Rounds) (number_in words Workers))

-- the words behind that word are its options
unfoldable pub are_of : Word → List (List ℕ) → Bool
are_of word words = are_options (options_of word) words && is_small word words

abbrev pub command_with : List (List ℕ) → Word → Option AnyCommand
command_with words word = if are_of word words then Some (command_by word words) else None

-- the first word is the command, and all others are of its options
abbrev pub command_in : TopCall → List (List ℕ) → Option AnyCommand
command_in call [] = None
command_in call (name ∷ words) = option_and_then (command_with words) (word_of call name)

abbrev pub of_replay : AnyCommand → Option Command
of_replay (any.Replay c) = Some c
of_replay (any.Threads c) = None

abbrev pub of_threads : AnyCommand → Option ThreadsCommand
of_threads (any.Replay c) = None
of_threads (any.Threads c) = Some c

-- the command that words are of the top call that runs a schedule
unfoldable pub command_of : List (String Global) → Option Command
command_of words = option_and_then of_replay (command_in top.Replay (map string_bytes words))

-- the command that words are of the top call that runs threads
unfoldable pub threads_command_of : List (String Global) → Option ThreadsCommand
threads_command_of words = option_and_then of_threads (command_in top.Threads (map string_bytes words))

abbrev pub HasFewVisits : ℕ → ℕ → Type 0
HasFewVisits devices rounds = (1 ≤ devices) × (devices * (rounds + 1) ≤ most_visits)

-- the numbers of a command are in their limits
abbrev pub IsInLimits : Command → Type 0
IsInLimits command.Plain = Unit {0}
IsInLimits (command.Replay replicas) = IsWithin 16 replicas
IsInLimits (command.Show protocol) = Unit {0}
IsInLimits command.S11 = Unit {0}
IsInLimits command.S6a = Unit {0}
IsInLimits (command.Make number devices rounds text) = HasFewVisits devices rounds
IsInLimits (command.Epochs device number events) = IsWithin 4096 device × (events ≤ 100000)
IsInLimits (command.Crash after) = Unit {0}

abbrev pub IsThreadsInLimits : ThreadsCommand → Type 0
IsThreadsInLimits (threads.Run workers) = IsWithin 16 workers
IsThreadsInLimits (threads.Load number devices rounds workers) = HasFewVisits devices rounds × IsWithin 16 workers

abbrev pub IsAnyInLimits : AnyCommand → Type 0
IsAnyInLimits (any.Replay c) = IsInLimits c
IsAnyInLimits (any.Threads c) = IsThreadsInLimits c
