-- A command of what clap has read.
use Rattle.std.proofs.Common.{◌≡◌, ℕ, Bool, true, false, List, Some, refl, ap, subst, ◌∙◌}
use Rattle.std.specs.Prelude.{codes}
use Rattle.clap.specs.Matches.{first_value, found_of, one_text}
use Rattle.clap.specs.declared.parser.matches.ArgMatches.{ArgMatches}
use Rattle.command_words.specs.declared.command.AnyCommand.TheVariants as any
use Rattle.command_words.specs.declared.command.Command.TheVariants as command
use Rattle.command_words.specs.declared.command.Protocol.{Protocol}
use Rattle.command_words.specs.declared.command.ThreadsCommand.TheVariants as threads
use Rattle.command_words.specs.declared.command.Word.{Word}
use Rattle.command_words.specs.declared.command.Word.TheVariants.{Replay, Show, Make, Epochs, Crash, Run, Load}
use Rattle.command_words.specs.declared.options.Name.{Name}
use Rattle.command_words.specs.declared.options.Name.TheVariants as option
use Rattle.command_words.specs.Command.{command_by, options_of, protocol_of}
use Rattle.command_words.specs.Matches.{HasRead, is_flag}
use Rattle.command_words.specs.Options.{is_given, number_by, number_in, option_named, takes_of, text_of}
use Rattle.command_words.proofs.Accepted.{flag_is}

abbrev pub IsNumber : ArgMatches → Name → ℕ → Type 0
IsNumber m o n = n ≡ number_by (takes_of o) (first_value (found_of m) (text_of o))

abbrev pub Read : Word → Word → List (List ℕ) → ArgMatches → Type 0
Read word this words m = (word ≡ this) × HasRead (options_of word) words m

-- what clap read of an option is the number in the words
number_is : (word this : Word) (words : List (List ℕ)) (m : ArgMatches) (o : Name) (n : ℕ) → Read word this words m → option_named (options_of this) (text_of o) ≡ Some o → is_flag (takes_of o) ≡ false → IsNumber m o n → n ≡ number_in words o
unfolding number_in
number_is word this words m o n read named kind e =
    let here = subst (λ (w : Word). HasRead (options_of w) words m) read.0 read.1 in
    e ∙ ap (number_by (takes_of o)) (here.numbers o named kind)

pub replay_read : (word : Word) (words : List (List ℕ)) (m : ArgMatches) (replicas : ℕ) → Read word Replay words m → IsNumber m option.Replicas replicas → any.Replay (command.Replay replicas) ≡ command_by word words
unfolding command_by
replay_read word words m replicas read r = rw (read.0, number_is word Replay words m option.Replicas replicas read refl refl r) refl

pub show_read : (word : Word) (words : List (List ℕ)) (m : ArgMatches) (kind : ℕ) (protocol : Protocol) → Read word Show words m → IsNumber m option.Kind kind → protocol ≡ protocol_of kind → any.Replay (command.Show protocol) ≡ command_by word words
unfolding command_by
show_read word words m kind protocol read k p = rw (read.0, p, number_is word Show words m option.Kind kind read refl refl k) refl

pub make_read : (word : Word) (words : List (List ℕ)) (m : ArgMatches) (number devices rounds : ℕ) (name : List ℕ) (text : Bool) → Read word Make words m →
    IsNumber m option.Number number → IsNumber m option.Devices devices → IsNumber m option.Rounds rounds →
    name ≡ text_of option.Text → (one_text (found_of m) name ≡ Some (codes "true") → text ≡ true) → (one_text (found_of m) name ≡ Some (codes "false") → text ≡ false) → any.Replay (command.Make number devices rounds text) ≡ command_by word words
unfolding command_by
make_read word words m number devices rounds name text read n d r named when_set when_clear =
    let here = subst (λ (w : Word). HasRead (options_of w) words m) read.0 read.1 in
    let text_is : text ≡ is_given words (text_of option.Text) = flag_is text _ (is_given words (text_of option.Text)) when_set when_clear (ap (one_text (found_of m)) named ∙ here.flags option.Text refl refl) in
    rw (
      read.0,
      number_is word Make words m option.Number number read refl refl n,
      number_is word Make words m option.Devices devices read refl refl d,
      number_is word Make words m option.Rounds rounds read refl refl r,
      text_is,
    ) refl

pub epochs_read : (word : Word) (words : List (List ℕ)) (m : ArgMatches) (device number events : ℕ) → Read word Epochs words m →
    IsNumber m option.Device device → IsNumber m option.Number number → IsNumber m option.Events events → any.Replay (command.Epochs device number events) ≡ command_by word words
unfolding command_by
epochs_read word words m device number events read d n e =
    rw (
      read.0,
      number_is word Epochs words m option.Device device read refl refl d,
      number_is word Epochs words m option.Number number read refl refl n,
      number_is word Epochs words m option.Events events read refl refl e,
    ) refl

pub crash_read : (word : Word) (words : List (List ℕ)) (m : ArgMatches) (after : ℕ) → Read word Crash words m → IsNumber m option.After after → any.Replay (command.Crash after) ≡ command_by word words
unfolding command_by
crash_read word words m after read a = rw (read.0, number_is word Crash words m option.After after read refl refl a) refl

pub run_read : (word : Word) (words : List (List ℕ)) (m : ArgMatches) (workers : ℕ) → Read word Run words m → IsNumber m option.Workers workers → any.Threads (threads.Run workers) ≡ command_by word words
unfolding command_by
run_read word words m workers read w = rw (read.0, number_is word Run words m option.Workers workers read refl refl w) refl

pub load_read : (word : Word) (words : List (List ℕ)) (m : ArgMatches) (number devices rounds workers : ℕ) → Read word Load words m →
    IsNumber m option.Number number → IsNumber m option.Devices devices → IsNumber m option.Rounds rounds → IsNumber m option.Workers workers → any.Threads (threads.Load number devices rounds workers) ≡ command_by word words
unfolding command_by
load_read word words m number devices rounds workers read n d r w =
    rw (
      read.0,
      number_is word Load words m option.Number number read refl refl n,
      number_is word Load words m option.Devices devices read refl refl d,
      number_is word Load words m option.Rounds rounds read refl refl r,
      number_is word Load words m option.Workers workers read refl refl w,
    ) refl
