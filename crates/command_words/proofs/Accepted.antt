-- clap takes words that are options of a command, and finds in them what they say.
use Rattle.std.proofs.Common.{◌≡◌, ℕ, Bool, true, false, not, cond, List, [], ◌∷◌, Option, Some, None, refl, sym, ap, ap₂, subst, ◌∙◌, ◌+◌, ◌<◌, length, take, get_or}
use Rattle.std.proofs.lemmas.List.{map-append, take_more}
use Rattle.std.specs.Prelude.{◌&&◌, ◌||◌, map, fold, option_map, option_and_then, slice_get, codes}
use Rattle.std.specs.List.{list_all, list_any}
use Rattle.std.specs.Option.{option_or}
use Rattle.clap.specs.Simple.{App, built, is_simple, is_buildable, is_ready, is_ready_leaf, matches_of}
use Rattle.clap.specs.Takes.{takes, built_takes, default_passes, is_given as is_used}
use Rattle.clap.specs.Walk.{Row, Rule, first_of, one_of, row_text, is_early_multiple, finished, nothing_held, rows_after, walk, with_default}
use Rattle.command_words.specs.declared.options.Name.{Name}
use Rattle.clap.specs.Simple.{HasMatchesOf, app_of, app_of_fields, new_app, on_top, with_rule}
use Rattle.clap.specs.Built.{AddsArg}
use Rattle.clap.specs.Walk.{rule_of}
use Rattle.clap.specs.declared.builder.arg.Arg.{Arg}
use Rattle.clap.specs.declared.builder.command.Command.{Command}
use Rattle.clap.specs.declared.builder.command.Command.TheViews.{out-Command}
use Rattle.clap.specs.declared.parser.matches.ArgMatches.{ArgMatches}
use Rattle.clap.specs.Matches.{found_of}
use Rattle.clap.proofs.WalkLemmas.{first_value-rows, one_text-rows}
use Rattle.command_words.specs.Matches.{app, asked, is_flag, HasRead}
use Rattle.command_words.specs.Options.{text_of, takes_of, option_named, all_fit, are_options, each_once, is_given, value_in}
use Rattle.command_words.proofs.Clap.{both, filled_is, level, row, rows_of, rule, rule_by, walks}
use Rattle.command_words.proofs.Found.{default_in, defaults, default_row, flag_has_one, look, number_has_none, row_in, text_in}

-- ---- the command is simple

simple_asked : (options : List Name) → list_all (λ a. a.is_simple) (map asked options) ≡ true
simple_asked [] = refl
simple_asked (o ∷ options) = simple_asked options

simple_rules : (options : List Name) → list_all (λ a. a.is_simple) (map rule options) ≡ true
simple_rules [] = refl
simple_rules (o ∷ options) = simple_rules options

free_rules : (options : List Name) → list_all (λ a. a.is_free) (map rule options) ≡ true
free_rules [] = refl
free_rules (o ∷ options) = free_rules options

none_required : (rows : List Row) (options : List Name) → list_all (λ a. not a.required || is_used a.id rows) (map rule options) ≡ true
none_required rows [] = refl
none_required rows (o ∷ options) = none_required rows options

none_early : (n : ℕ) (options : List Name) → list_any (is_early_multiple n) (map rule options) ≡ false
none_early n [] = refl
none_early n (o ∷ options) = none_early n options

default_fits : (name : List ℕ) (flag : Bool) → default_passes (rule_by name flag) ≡ true
default_fits name true = refl
default_fits name false = refl

defaults_pass : (options : List Name) → list_all default_passes (map rule options) ≡ true
defaults_pass [] = refl
defaults_pass (o ∷ options) = rw (default_fits (text_of o) (is_flag (takes_of o))) (defaults_pass options)

abbrev built_app : List ℕ → List Rule → App
built_app name rules = record { top = level name rules; subs = [] }

built_is : (name : List ℕ) (options : List Name) → built (app name (map asked options)) ≡ built_app name (map rule options)
built_is name options = ap (built_app name) (filled_is options 1)

app_simple : (name : List ℕ) (options : List Name) → is_simple (app name (map asked options)) ≡ true
app_simple name options =
    let buildable : is_buildable (app name (map asked options)) ≡ true = rw (simple_asked options) refl in
    let ready : is_ready (level name (map rule options)) ≡ true = rw (simple_rules options, none_early _ options) refl in
    subst (λ (b : App). (is_buildable (app name (map asked options)) && (is_ready b.top && list_all is_ready_leaf b.subs)) ≡ true) (sym (built_is name options)) (rw (buildable, ready) refl)

-- ---- what it makes of the words

pub record IsRead (name : List ℕ) (options : List Name) (words : List (List ℕ)) : Type 0 where
  pub simple : is_simple (app name (map asked options)) ≡ true
  pub passes : takes (app name (map asked options)) words ≡ true
  pub rows : (o : Name) → row_in o (matches_of (app name (map asked options)) words) ≡ option_or (option_map (row o) (text_in o words)) (default_in o options)

pub is_read : (name : List ℕ) (options : List Name) (words : List (List ℕ)) → all_fit options None words ≡ true → each_once words ≡ true → IsRead name options words
is_read name options words fit each =
    let rules = map rule options in
    let all = walks name options words None [] nothing_held (record { passes = refl; gives = refl }) fit each (λ n has. cc) in
    let simple = app_simple name options in
    let built_passes : built_takes (built_app name rules) nothing_held words ≡ true = rw (all.1.stopped, all.0, all.1.settles.passes, defaults_pass options, free_rules options, none_required (finished rules (walk rules [] nothing_held words).held) options) refl in
    let found : (o : Name) → row_in o (rows_after rules [] words) ≡ option_or (option_map (row o) (text_in o words)) (default_in o options) =
    λ o. ap (λ (rs : List Row). row_in o (fold with_default rs rules)) all.1.settles.gives
    ∙ defaults o options (rows_of options None words)
    ∙ ap (λ (r : Option Row). option_or r (default_in o options)) (look options o words None fit) in
    record {
      simple = simple;
      passes = rw simple (subst (λ (b : App). built_takes b nothing_held words ≡ true) (sym (built_is name options)) built_passes);
      rows = λ o. subst (λ (b : App). row_in o (rows_after b.top.rules (map (λ s. (s.name, s.aliases)) b.subs) words) ≡ option_or (option_map (row o) (text_in o words)) (default_in o options)) (sym (built_is name options)) (found o);
    }

-- ---- values and flags

given_value : (o : Name) (value : Option (List ℕ)) → option_and_then (λ r. slice_get r.values 0) (option_or (option_map (row o) value) None) ≡ value
given_value o None = refl
given_value o (Some value) = refl

pub number_read : (name : List ℕ) (options : List Name) (words : List (List ℕ)) → IsRead name options words → (o : Name) → is_flag (takes_of o) ≡ false → first_of (text_of o) (matches_of (app name (map asked options)) words) ≡ value_in (text_of o) words
number_read name options words read o kind =
    let text : text_in o words ≡ value_in (text_of o) words = rw kind refl in
    ap (option_and_then (λ (r : Row). slice_get r.values 0)) (read.rows o ∙ ap (option_or (option_map (row o) (text_in o words))) (number_has_none o options kind)) ∙ given_value o (text_in o words) ∙ text

abbrev flag_word : Bool → List ℕ
flag_word given = cond given (codes "true") (codes "false")

given_flag : (name : List ℕ) (o : Name) (given : Bool) → is_flag (takes_of o) ≡ true → option_and_then row_text (option_or (option_map (row o) (cond given (Some (codes "true")) None)) (Some (default_row (text_of o)))) ≡ Some (flag_word given)
given_flag name o true kind = rw kind refl
given_flag name o false kind = refl

pub flag_read : (name : List ℕ) (options : List Name) (words : List (List ℕ)) → IsRead name options words → (o : Name) → is_flag (takes_of o) ≡ true → option_named options (text_of o) ≡ Some o → one_of (text_of o) (matches_of (app name (map asked options)) words) ≡ Some (flag_word (is_given words (text_of o)))
flag_read name options words read o kind found =
    let text : text_in o words ≡ cond (is_given words (text_of o)) (Some (codes "true")) None = rw kind refl in
    ap (option_and_then row_text) (read.rows o ∙ ap (λ (v : Option (List ℕ)). option_or (option_map (row o) v) (default_in o options)) text ∙ ap (option_or (option_map (row o) (cond (is_given words (text_of o)) (Some (codes "true")) None))) (flag_has_one o options kind found))
    ∙ given_flag name o (is_given words (text_of o)) kind

-- ---- the code

-- a new command without help and version
pub bare_app : (name : List ℕ) (a b c d : Command) → app_of a ≡ new_app name → out-Command b ≡ record (out-Command a) { no_binary_name = true } → out-Command c ≡ record (out-Command b) { disable_help_flag = true } → out-Command d ≡ record (out-Command c) { disable_version_flag = true } → app_of d ≡ app name []
bare_app name a b c d is first second third =
    ap app_of_fields third
    ∙ ap (on_top (λ s. record s { disable_version_flag = true })) (ap app_of_fields second
    ∙ ap (on_top (λ s. record s { disable_help_flag = true })) (ap app_of_fields first
    ∙ ap (on_top (λ s. record s { no_binary_name = true })) is))

-- one option more
pub more_app : (name : List ℕ) (options : List Name) (i : ℕ) (d : Name) (before after : Command) (arg : Arg) → i < length options → AddsArg before arg after → arg.global ≡ false → rule_of arg ≡ asked (get_or options i d) → app_of before ≡ app name (map asked (take i options)) → app_of after ≡ app name (map asked (take (i + 1) options))
more_app name options i d before after arg lt adds own rule_is is =
    adds.shape own ∙ ap₂ with_rule is rule_is
    ∙ ap (app name) (sym (ap (map asked) (take_more options i d lt) ∙ map-append asked (take i options) (get_or options i d ∷ [])))

pub has_read : (name : List ℕ) (options : List Name) (words : List (List ℕ)) (a : App) (m : ArgMatches) → IsRead name options words → a ≡ app name (map asked options) → HasMatchesOf a words m → HasRead options words m
has_read name options words a m read is has =
    let rows_are = (has (ap is_simple is ∙ read.simple)).0 ∙ ap (λ (b : App). matches_of b words) is in
    record {
      numbers = λ o found kind. first_value-rows (found_of m) (text_of o) ∙ ap (first_of (text_of o)) rows_are ∙ number_read name options words read o kind;
      flags = λ o found kind. one_text-rows (found_of m) (text_of o) ∙ ap (one_of (text_of o)) rows_are ∙ flag_read name options words read o kind found;
    }

pub flag_is : (b : Bool) (text : Option (List ℕ)) (given : Bool) → (text ≡ Some (codes "true") → b ≡ true) → (text ≡ Some (codes "false") → b ≡ false) → text ≡ Some (flag_word given) → b ≡ given
flag_is b text true when_set when_clear e = when_set e
flag_is b text false when_set when_clear e = when_clear e

pub options_parts : (options : List Name) (words : List (List ℕ)) → are_options options words ≡ true → (all_fit options None words ≡ true) × (each_once words ≡ true)
unfolding are_options
options_parts options words e = both _ _ (both _ _ e).0
