-- The options of a command as `clap` is asked for them, and what it finds.
use Rattle.std.specs.Prelude.{◌≡◌, Bool, true, false, List, [], codes, Some, if◌then◌else◌}
use Rattle.clap.specs.Matches.{first_value, found_of, one_text}
use Rattle.clap.specs.Simple.{App, new_rule, new_shape}
use Rattle.clap.specs.Walk.{Rule, Text}
use Rattle.clap.specs.declared.builder.action.ArgAction.{ArgAction}
use Rattle.clap.specs.declared.builder.action.ArgAction.TheVariants.{Set, SetTrue}
use Rattle.clap.specs.declared.parser.matches.ArgMatches.{ArgMatches}
use Rattle.command_words.specs.declared.options.Name.{Name}
use Rattle.command_words.specs.declared.options.Takes.{Takes}
use Rattle.command_words.specs.declared.options.Takes.TheVariants as takes
use Rattle.command_words.specs.Options.{text_of, takes_of, option_named, is_given, value_in}

abbrev pub is_flag : Takes → Bool
is_flag (takes.Number least most default) = false
is_flag takes.Nothing = true

abbrev pub action_for : Bool → ArgAction
action_for true = SetTrue
action_for false = Set

-- an argument with that long name
abbrev pub asked_by : Text → Bool → Rule
asked_by name flag = record (new_rule name) { long = Some name; action = Some (action_for flag) }

abbrev pub asked : Name → Rule
asked o = asked_by (text_of o) (is_flag (takes_of o))

-- a command with these options and no others
abbrev pub app : Text → List Rule → App
app name rules = record {
  top = record (new_shape name) {
    no_binary_name = true;
    disable_help_flag = true;
    disable_version_flag = true;
    rules = rules;
  };
  subs = [];
}

-- of each of the options, what was found is what the words say
pub record HasRead (options : List Name) (words : List Text) (m : ArgMatches) : Type 0 where
  pub numbers : (o : Name) → option_named options (text_of o) ≡ Some o → is_flag (takes_of o) ≡ false → first_value (found_of m) (text_of o) ≡ value_in (text_of o) words
  pub flags : (o : Name) → option_named options (text_of o) ≡ Some o → is_flag (takes_of o) ≡ true → one_text (found_of m) (text_of o) ≡ Some (if is_given words (text_of o) then codes "true" else codes "false")
