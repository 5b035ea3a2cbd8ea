-- The options of a command, and the words that give them. One that takes a number is given as the one word `--name=number`, or as the two words `--name` and
-- `number`; a flag is given as `--name`.
use Rattle.std.specs.Prelude.{ℕ, ◌+◌, ◌==◌, ◌&&◌, ◌||◌, not, nat_le, Bool, true, false, List, [], ◌∷◌, length, take, drop, position, find, slice_get, codes, Option, Some, None, is_some, unwrap_or, option_map, option_and_then, if◌then◌else◌}
use Rattle.std.specs.List.{list_all, list_any}
use Rattle.std.specs.Option.{option_map_or}
use Rattle.std.specs.Char.{is_ascii_digit}
use Rattle.std.specs.Str.{bytes_eq}
use Rattle.std.specs.Str.Parse.{digits_value}
use Rattle.command_words.specs.declared.options.Name.{Name}
use Rattle.command_words.specs.declared.options.Name.TheVariants.{Replicas, Number, Devices, Rounds, Text, Device, Events, After, Kind, Workers}
use Rattle.command_words.specs.declared.options.Takes.{Takes}
use Rattle.command_words.specs.declared.options.Takes.TheVariants as takes

-- ---- the rows of the options

abbrev pub text_of : Name → List ℕ
text_of Replicas = codes "replicas"
text_of Number = codes "number"
text_of Devices = codes "devices"
text_of Rounds = codes "rounds"
text_of Text = codes "text"
text_of Device = codes "device"
text_of Events = codes "events"
text_of After = codes "after"
text_of Kind = codes "kind"
text_of Workers = codes "workers"

-- a number from the first to the second, and the one where no word gives it; or nothing
abbrev pub takes_of : Name → Takes
takes_of Replicas = takes.Number 1 16 (Some 2)
takes_of Number = takes.Number 0 4294967295 None
takes_of Devices = takes.Number 1 800 None
takes_of Rounds = takes.Number 0 799 None
takes_of Text = takes.Nothing
takes_of Device = takes.Number 1 4096 None
takes_of Events = takes.Number 0 100000 (Some 100)
takes_of After = takes.Number 0 4294967295 None
takes_of Kind = takes.Number 0 2 (Some 0)
takes_of Workers = takes.Number 1 16 (Some 4)

abbrev pub is_required : Takes → Bool
is_required (takes.Number least most default) = not (is_some default)
is_required takes.Nothing = false

-- ---- values

-- one to ten decimal digits, with no sign
abbrev pub is_value : List ℕ → Bool
is_value text = nat_le 1 (length text) && nat_le (length text) 10 && list_all is_ascii_digit text

-- the number that a value is, within these limits
unfoldable pub number_of : ℕ → ℕ → List ℕ → Option ℕ
number_of least most text =
    if is_value text && nat_le least (digits_value 10 text) && nat_le (digits_value 10 text) most then Some (digits_value 10 text) else None

-- an option may have that value
abbrev pub may_have : Takes → List ℕ → Bool
may_have (takes.Number least most default) text = is_some (number_of least most text)
may_have takes.Nothing text = false

-- the number of an option with that value, or with none; a required one has a value
abbrev pub number_by : Takes → Option (List ℕ) → ℕ
number_by (takes.Number least most default) value = unwrap_or (option_and_then (number_of least most) value) (unwrap_or default least)
number_by takes.Nothing value = 0

-- ---- a word

-- a name, and its value where that stands behind the name in the same word
abbrev pub Named : Type 0
Named = List ℕ × Option (List ℕ)

-- the parts before and behind the octet of that index
abbrev pub parted : List ℕ → Option ℕ → Named
parted text None = (text, None)
parted text (Some at) = (take at text, Some (drop (at + 1) text))

-- they are parted at the first `=`
abbrev pub named_by : List ℕ → Named
named_by text = parted text (position (λ octet. octet == 61) text)

-- what stands behind two hyphens
abbrev pub behind_hyphens : List ℕ → Option (List ℕ)
behind_hyphens [] = None
behind_hyphens (one ∷ []) = None
behind_hyphens (one ∷ other ∷ text) = if one == 45 && other == 45 then Some text else None

-- what a word names
unfoldable pub named : List ℕ → Option Named
named word = option_map named_by (behind_hyphens word)

-- the word names the option of that name
unfoldable pub names : List ℕ → List ℕ → Bool
names name word = option_map_or (λ n. bytes_eq n.0 name) (named word) false

-- ---- words

-- the first of the options that has that name
abbrev pub option_named : List Name → List ℕ → Option Name
option_named options name = find (λ o. bytes_eq (text_of o) name) options

-- what waits for its value behind the word that names an option
abbrev pub after_option : Name → Takes → Option (List ℕ) → Option (Option Name)
after_option o (takes.Number least most default) None = Some (Some o)
after_option o (takes.Number least most default) (Some value) = if may_have (takes.Number least most default) value then Some None else None
after_option o takes.Nothing None = Some None
after_option o takes.Nothing (Some value) = None

abbrev pub after_named : List Name → Option Named → Option (Option Name)
after_named options None = None
after_named options (Some (name, value)) = option_and_then (λ o. after_option o (takes_of o) value) (option_named options name)

-- what waits behind a word, where an option waits or none; the word may fit neither
abbrev pub after_word : List Name → Option Name → List ℕ → Option (Option Name)
after_word options None word = after_named options (named word)
after_word options (Some o) word = if may_have (takes_of o) word then Some None else None

-- each word names an option, or is the value of the one that waits for it
abbrev pub all_fit : List Name → Option Name → List (List ℕ) → Bool
all_fit options waiting [] = not (is_some waiting)
all_fit options waiting (word ∷ words) = option_map_or (λ next. all_fit options next words) (after_word options waiting word) false

-- a word of these names the option of that name
abbrev pub is_given : List (List ℕ) → List ℕ → Bool
is_given words name = list_any (names name) words

abbrev pub is_given_again : List (List ℕ) → Option Named → Bool
is_given_again words None = false
is_given_again words (Some n) = is_given words n.0

-- no two words name one option
abbrev pub each_once : List (List ℕ) → Bool
each_once [] = true
each_once (word ∷ words) = not (is_given_again words (named word)) && each_once words

abbrev pub has_required : List Name → List (List ℕ) → Bool
has_required options words = list_all (λ o. not (is_required (takes_of o)) || is_given words (text_of o)) options

-- the words give some of these options, each at most once, and all that are required
unfoldable pub are_options : List Name → List (List ℕ) → Bool
are_options options words = all_fit options None words && each_once words && has_required options words

-- ---- what they give

-- the value behind the name in its word, or in the next
abbrev pub value_at : Option Named → List (List ℕ) → Option (List ℕ)
value_at None words = None
value_at (Some (name, Some value)) words = Some value
value_at (Some (name, None)) words = slice_get words 0

-- the value of the option of that name
abbrev pub value_in : List ℕ → List (List ℕ) → Option (List ℕ)
value_in name [] = None
value_in name (word ∷ words) = if names name word then value_at (named word) words else value_in name words

-- the number of an option
unfoldable pub number_in : List (List ℕ) → Name → ℕ
number_in words o = number_by (takes_of o) (value_in (text_of o) words)
