-- Each top call has its own commands only.
use Rattle.std.proofs.Common.{◌≡◌, ℕ, Bool, true, false, List, [], ◌∷◌, Option, Some, None, refl}
use Rattle.std.specs.Prelude.{option_and_then, codes, if◌then◌else◌}
use Rattle.std.specs.Str.{bytes_eq}
use Rattle.command_words.specs.declared.command.AnyCommand.{AnyCommand}
use Rattle.command_words.specs.declared.command.AnyCommand.TheVariants as any
use Rattle.command_words.specs.declared.command.TopCall.{TopCall}
use Rattle.command_words.specs.declared.command.TopCall.TheVariants as top
use Rattle.command_words.specs.declared.command.Word.{Word}
use Rattle.command_words.specs.declared.command.Word.TheVariants.{Plain, Replay, Show, S11, S6a, Make, Epochs, Crash, Run, Load}
use Rattle.command_words.specs.Command.{are_of, command_by, command_in, command_with, of_replay, of_threads, word_of}

abbrev call_of : AnyCommand → TopCall
call_of (any.Replay c) = top.Replay
call_of (any.Threads c) = top.Threads

-- whatever the options are, the command of that word is of that top call
abbrev Owns : TopCall → Option Word → Type 0
Owns call None = Unit {0}
Owns call (Some w) = (words : List (List ℕ)) → call_of (command_by w words) ≡ call

either : (call : TopCall) (b : Bool) (w : Word) (other : Option Word) → Owns call (Some w) → Owns call other → Owns call (if b then Some w else other)
either call true w other this rest = this
either call false w other this rest = rest

words_own : (call : TopCall) (name : List ℕ) → Owns call (word_of call name)
unfolding command_by
words_own top.Replay name =
    either top.Replay (bytes_eq name (codes "plain")) Plain _ (λ words. refl) (
    either top.Replay (bytes_eq name (codes "replay")) Replay _ (λ words. refl) (
    either top.Replay (bytes_eq name (codes "show")) Show _ (λ words. refl) (
    either top.Replay (bytes_eq name (codes "s11")) S11 _ (λ words. refl) (
    either top.Replay (bytes_eq name (codes "s6a")) S6a _ (λ words. refl) (
    either top.Replay (bytes_eq name (codes "make")) Make _ (λ words. refl) (
    either top.Replay (bytes_eq name (codes "epochs")) Epochs _ (λ words. refl) (
    either top.Replay (bytes_eq name (codes "crash")) Crash None (λ words. refl) tt)))))))
words_own top.Threads name =
    either top.Threads (bytes_eq name (codes "run")) Run _ (λ words. refl) (
    either top.Threads (bytes_eq name (codes "load")) Load None (λ words. refl) tt)

abbrev IsOwn : TopCall → Option AnyCommand → Type 0
IsOwn call None = Unit {0}
IsOwn call (Some c) = call_of c ≡ call

with_own : (call : TopCall) (words : List (List ℕ)) (w : Option Word) → Owns call w → IsOwn call (option_and_then (command_with words) w)
with_own call words None own = tt
with_own call words (Some w) own = go (are_of w words)
  where
    go : (b : Bool) → IsOwn call (if b then Some (command_by w words) else None)
    go true = own words
    go false = tt

commands_own : (call : TopCall) (words : List (List ℕ)) → IsOwn call (command_in call words)
commands_own call [] = tt
commands_own call (name ∷ words) = with_own call words (word_of call name) (words_own call name)

-- so where none is there for one, none is there at all
pub none_of_replay : (words : List (List ℕ)) → option_and_then of_replay (command_in top.Replay words) ≡ None → command_in top.Replay words ≡ None
none_of_replay words = go (command_in top.Replay words) (commands_own top.Replay words)
  where
    go : (c : Option AnyCommand) → IsOwn top.Replay c → option_and_then of_replay c ≡ None → c ≡ None
    go None own e = refl
    go (Some (any.Replay c)) own e = cc
    go (Some (any.Threads c)) own e = cc

pub none_of_threads : (words : List (List ℕ)) → option_and_then of_threads (command_in top.Threads words) ≡ None → command_in top.Threads words ≡ None
none_of_threads words = go (command_in top.Threads words) (commands_own top.Threads words)
  where
    go : (c : Option AnyCommand) → IsOwn top.Threads c → option_and_then of_threads c ≡ None → c ≡ None
    go None own e = refl
    go (Some (any.Replay c)) own e = cc
    go (Some (any.Threads c)) own e = cc
