-- What clap reads of the options of a command.
use Rattle.std.proofs.Common.{◌≡◌, ℕ, Bool, true, false, not, List, [], ◌∷◌, ◌++◌, Option, Some, None, refl, sym, ap, subst, ◌∙◌, append_assoc}
use Rattle.std.specs.Prelude.{◌&&◌, ◌||◌, if◌then◌else◌, map, fold, option_map, option_and_then, codes}
use Rattle.std.specs.Option.{option_map_or}
use Rattle.std.specs.Str.{bytes_eq}
use Rattle.std.proofs.lemmas.List.{append-nil}
use Rattle.std.proofs.lemmas.List.Folds.{list_any-append}
use Rattle.std.proofs.lemmas.Slice.Eq.{bytes_eq-Decides}
use Rattle.clap.specs.Simple.{Shape, default_of, missing_of, parser_for, values_of, new_shape, filled_from}
use Rattle.clap.specs.Takes.{settle_passes, use_passes, turn_passes, walk_passes}
use Rattle.clap.specs.Walk.{Held, Row, Rule, Waiting, Walk, arg_by_id, arg_by_long, at_row, has_row, idle, option, reacted, reading_by, settled, used, walked, more_values}
use Rattle.clap.specs.declared.parser.matches.ValueSource.TheVariants.{CommandLine}
use Rattle.command_words.specs.declared.options.Name.{Name}
use Rattle.command_words.specs.declared.options.Name.TheVariants.{Replicas, Number, Devices, Rounds, Text, Device, Events, After, Kind, Workers}
use Rattle.command_words.specs.declared.options.Takes.{Takes}
use Rattle.command_words.specs.declared.options.Takes.TheVariants as takes
use Rattle.command_words.specs.Matches.{action_for, asked, asked_by, is_flag}
use Rattle.command_words.specs.Options.{Named, named, names, text_of, takes_of, may_have, option_named, after_option, after_named, all_fit, is_given, is_given_again, each_once}
use Rattle.command_words.proofs.Spelling.{IsPlain, IsFlag, value_is_plain, flag_word}

-- ---- the rules

-- an option as clap fills in the argument
abbrev pub rule_by : List ℕ → Bool → Rule
rule_by name flag = record (asked_by name flag) {
  range = Some (record { start_inclusive = values_of (action_for flag); end_inclusive = values_of (action_for flag) });
  defaults = default_of (action_for flag);
  missing = missing_of (action_for flag);
  parser = Some (parser_for (action_for flag));
}

abbrev pub rule : Name → Rule
rule o = rule_by (text_of o) (is_flag (takes_of o))

pub filled_is : (options : List Name) (i : ℕ) → filled_from i (map asked options) ≡ map rule options
filled_is [] i = refl
filled_is (o ∷ options) i = ap (λ (rules : List Rule). rule o ∷ rules) (filled_is options i)

abbrev pub level : List ℕ → List Rule → Shape
level name rules = record (new_shape name) {
  no_binary_name = true;
  disable_help_flag = true;
  disable_version_flag = true;
  disable_help_subcommand = true;
  is_built = true;
  rules = rules;
}

-- ---- names

pub same : (a b : List ℕ) → bytes_eq a b ≡ true → a ≡ b
same a b = (bytes_eq-Decides a b).0

pub itself : (a : List ℕ) → bytes_eq a a ≡ true
itself a = (bytes_eq-Decides a a).1 refl

-- every option
every : List Name
every = Replicas ∷ Number ∷ Devices ∷ Rounds ∷ Text ∷ Device ∷ Events ∷ After ∷ Kind ∷ Workers ∷ []

has_name : (o : Name) → option_named every (text_of o) ≡ Some o
unfolding every
has_name Replicas = refl
has_name Number = refl
has_name Devices = refl
has_name Rounds = refl
has_name Text = refl
has_name Device = refl
has_name Events = refl
has_name After = refl
has_name Kind = refl
has_name Workers = refl

some_name : (o : Name) → text_of o ≡ [] → ⊥
some_name Replicas e = cc
some_name Number e = cc
some_name Devices e = cc
some_name Rounds e = cc
some_name Text e = cc
some_name Device e = cc
some_name Events e = cc
some_name After e = cc
some_name Kind e = cc
some_name Workers e = cc

-- two options of one name are one
pub one_name : (o p : Name) → text_of o ≡ text_of p → o ≡ p
one_name o p e = let found : Some o ≡ Some p = sym (has_name o) ∙ ap (option_named every) e ∙ has_name p in cc

found_is : (options : List Name) (name : List ℕ) (o : Name) → option_named options name ≡ Some o → text_of o ≡ name
found_is [] name o e = cc
found_is (p ∷ options) name o e = go (bytes_eq (text_of p) name) refl e (found_is options name o)
  where
    go : (b : Bool) → bytes_eq (text_of p) name ≡ b → option_named (p ∷ options) name ≡ Some o → (option_named options name ≡ Some o → text_of o ≡ name) → text_of o ≡ name
    go true t e rest = let it : Some p ≡ Some o = rw t at e in let is : p ≡ o = cc in subst (λ (q : Name). text_of q ≡ name) is (same _ _ t)
    go false t e rest = rest (rw t at e)

by_long : (options : List Name) (name : List ℕ) → arg_by_long (map rule options) name ≡ option_map rule (option_named options name)
by_long [] name = refl
by_long (o ∷ options) name = go (bytes_eq (text_of o) name) refl (by_long options name)
  where
    go : (b : Bool) → bytes_eq (text_of o) name ≡ b → arg_by_long (map rule options) name ≡ option_map rule (option_named options name) → arg_by_long (map rule (o ∷ options)) name ≡ option_map rule (option_named (o ∷ options) name)
    go true t rest = rw t refl
    go false t rest = rw t rest

by_id : (options : List Name) (name : List ℕ) → arg_by_id (map rule options) name ≡ option_map rule (option_named options name)
by_id [] name = refl
by_id (o ∷ options) name = go (bytes_eq (text_of o) name) refl (by_id options name)
  where
    go : (b : Bool) → bytes_eq (text_of o) name ≡ b → arg_by_id (map rule options) name ≡ option_map rule (option_named options name) → arg_by_id (map rule (o ∷ options)) name ≡ option_map rule (option_named (o ∷ options) name)
    go true t rest = rw t refl
    go false t rest = rw t rest

-- ---- rows

abbrev pub row_by : List ℕ → Bool → List ℕ → Row
row_by name flag value = record { id = name; values = value ∷ []; count = None; source = Some CommandLine; reading = reading_by (rule_by name flag) }

abbrev pub row : Name → List ℕ → Row
row o = row_by (text_of o) (is_flag (takes_of o))

pub at_end : (id : List ℕ) (change : Row → List Row) (missing rows : List Row) → has_row id rows ≡ false → at_row id change missing rows ≡ rows ++ missing
at_end id change missing [] e = refl
at_end id change missing (r ∷ rows) e = go (bytes_eq r.id id) refl e (at_end id change missing rows)
  where
    go : (b : Bool) → bytes_eq r.id id ≡ b → has_row id (r ∷ rows) ≡ false → (has_row id rows ≡ false → at_row id change missing rows ≡ rows ++ missing) → at_row id change missing (r ∷ rows) ≡ r ∷ rows ++ missing
    go true t e rest = let no : true ≡ false = rw t at e in cc
    go false t e rest = let more : has_row id rows ≡ false = rw t at e in rw (t, rest more) refl

no_row : (id : List ℕ) (rows : List Row) → has_row id rows ≡ false → at_row id (λ r. []) [] rows ≡ rows
no_row id rows e = at_end id (λ r. []) [] rows e ∙ append-nil rows

used_number : (name value : List ℕ) (rows : List Row) → has_row name rows ≡ false → used (rule_by name false) (value ∷ []) rows ≡ rows ++ row_by name false value ∷ []
used_number name value rows e = rw (no_row name rows e) (at_end name (more_values CommandLine (value ∷ [])) (row_by name false value ∷ []) rows e)

used_flag : (name : List ℕ) (rows : List Row) → has_row name rows ≡ false → used (rule_by name true) [] rows ≡ rows ++ row_by name true (codes "true") ∷ []
used_flag name rows e = rw (no_row name rows e) (at_end name (more_values CommandLine (codes "true" ∷ [])) (row_by name true (codes "true") ∷ []) rows e)

number_passes : (name value : List ℕ) (rows : List Row) → has_row name rows ≡ false → use_passes false (rule_by name false) (value ∷ []) rows ≡ true
number_passes name value rows e = rw e refl

flag_passes : (name : List ℕ) (rows : List Row) → has_row name rows ≡ false → use_passes false (rule_by name true) [] rows ≡ true
flag_passes name rows e = rw e refl

-- ---- a word

abbrev pub standing : Waiting → Held → Walk
standing waiting h = record { held = h; waiting = waiting; position = 1; is_trailing = false; stopped = None }

abbrev pub held : List Row → Option (List ℕ × List (List ℕ)) → ℕ → Held
held rows pending skip = record { rows = rows; pending = pending; skip = skip }

-- the word takes the walk from one state to another, and passes
pub record Steps (name : List ℕ) (rules : List Rule) (before : Walk) (word : List ℕ) (after : Walk) : Type 0 where
  pub walked : walked rules [] before word ≡ after
  pub passes : turn_passes (level name rules) [] before word ≡ true

-- nothing is left that the walk has to settle but what it can, and then these are the rows
pub record Settles (rules : List Rule) (rows : List Row) (h : Held) : Type 0 where
  pub passes : settle_passes rules false h ≡ true
  pub gives : (settled rules h).rows ≡ rows

and_true : (b : Bool) → b ≡ true → (b && true) ≡ true
and_true b e = rw e refl

attached_steps : (of name word value : List ℕ) (rules : List Rule) (rows : List Row) (h : Held) → IsFlag word name (Some value) → arg_by_long rules name ≡ Some (rule_by name false) → Settles rules rows h → has_row name rows ≡ false → Steps of rules (standing idle h) word (standing idle (reacted rules (rule_by name false) (value ∷ []) h)) × Settles rules (rows ++ row_by name false value ∷ []) (reacted rules (rule_by name false) (value ∷ []) h)
unfolding walked
attached_steps of name word value rules rows h flag found before fresh =
    let taken : use_passes false (rule_by name false) (value ∷ []) (settled rules h).rows ≡ true = ap (use_passes false (rule_by name false) (value ∷ [])) before.gives ∙ number_passes name value rows fresh in (
      record { walked = rw (flag.apart, flag.long, found) refl; passes = rw (flag.apart, flag.long, found, before.passes) (and_true _ taken) },
      record { passes = refl; gives = ap (used (rule_by name false) (value ∷ [])) before.gives ∙ used_number name value rows fresh },
    )

flag_steps : (of name word : List ℕ) (rules : List Rule) (rows : List Row) (h : Held) → IsFlag word name None → arg_by_long rules name ≡ Some (rule_by name true) → Settles rules rows h → has_row name rows ≡ false → Steps of rules (standing idle h) word (standing idle (reacted rules (rule_by name true) [] h)) × Settles rules (rows ++ row_by name true (codes "true") ∷ []) (reacted rules (rule_by name true) [] h)
unfolding walked
flag_steps of name word rules rows h flag found before fresh =
    let taken : use_passes false (rule_by name true) [] (settled rules h).rows ≡ true = ap (use_passes false (rule_by name true) []) before.gives ∙ flag_passes name rows fresh in (
      record { walked = rw (flag.apart, flag.long, found) refl; passes = rw (flag.apart, flag.long, found, before.passes) (and_true _ taken) },
      record { passes = refl; gives = ap (used (rule_by name true) []) before.gives ∙ used_flag name rows fresh },
    )

name_steps : (of name word : List ℕ) (rules : List Rule) (rows : List Row) (h : Held) → IsFlag word name None → arg_by_long rules name ≡ Some (rule_by name false) → Settles rules rows h → Steps of rules (standing idle h) word (standing (option name) (held rows (Some (name, [])) h.skip))
unfolding walked
name_steps of name word rules rows h flag found before = record {
  walked = rw (flag.apart, flag.long, found) (ap (λ (rs : List Row). standing (option name) (held rs (Some (name, [])) h.skip)) before.gives);
  passes = rw (flag.apart, flag.long, found) (and_true _ before.passes);
}

value_steps : (of name word : List ℕ) (rules : List Rule) (rows : List Row) (skip : ℕ) → IsPlain word → arg_by_id rules name ≡ Some (rule_by name false) → has_row name rows ≡ false → Steps of rules (standing (option name) (held rows (Some (name, [])) skip)) word (standing idle (held rows (Some (name, word ∷ [])) skip)) × Settles rules (rows ++ row_by name false word ∷ []) (held rows (Some (name, word ∷ [])) skip)
unfolding walked
value_steps of name word rules rows skip plain found fresh = (
  record { walked = rw (plain.apart, plain.long, plain.short, found, itself name) refl; passes = rw (plain.apart, plain.long, plain.short) refl },
  record { passes = rw found (number_passes name word rows fresh); gives = rw found (used_number name word rows fresh) },
)

-- ---- what a word is that fits

pub data Reads (options : List Name) (word : List ℕ) (words : List (List ℕ)) : Type 0 where
  joined : (o : Name) (value : List ℕ) → named word ≡ Some (text_of o, Some value) → option_named options (text_of o) ≡ Some o → is_flag (takes_of o) ≡ false → all_fit options None words ≡ true → Reads options word words
  begun : (o : Name) → named word ≡ Some (text_of o, None) → option_named options (text_of o) ≡ Some o → is_flag (takes_of o) ≡ false → all_fit options (Some o) words ≡ true → Reads options word words
  alone : (o : Name) → named word ≡ Some (text_of o, None) → option_named options (text_of o) ≡ Some o → is_flag (takes_of o) ≡ true → all_fit options None words ≡ true → Reads options word words

abbrev pub fits_behind : List Name → List (List ℕ) → Option (Option Name) → Bool
fits_behind options words next = option_map_or (λ waiting. all_fit options waiting words) next false

read_takes : (options : List Name) (word : List ℕ) (words : List (List ℕ)) (o : Name) (t : Takes) (value : Option (List ℕ)) → takes_of o ≡ t → named word ≡ Some (text_of o, value) → option_named options (text_of o) ≡ Some o → fits_behind options words (after_option o t value) ≡ true → Reads options word words
read_takes options word words o (takes.Number least most default) None is said found fit = begun o said found (ap is_flag is) fit
read_takes options word words o (takes.Number least most default) (Some value) is said found fit = go (may_have (takes.Number least most default) value) refl fit
  where
    go : (b : Bool) → may_have (takes.Number least most default) value ≡ b → fits_behind options words (after_option o (takes.Number least most default) (Some value)) ≡ true → Reads options word words
    go true t fit = joined o value said found (ap is_flag is) (rw t at fit)
    go false t fit = let no : false ≡ true = rw t at fit in cc
read_takes options word words o takes.Nothing None is said found fit = alone o said found (ap is_flag is) fit
read_takes options word words o takes.Nothing (Some value) is said found fit = cc

read_option : (options : List Name) (word : List ℕ) (words : List (List ℕ)) (name : List ℕ) (value : Option (List ℕ)) (o : Option Name) → option_named options name ≡ o → named word ≡ Some (name, value) → fits_behind options words (option_and_then (λ p. after_option p (takes_of p) value) o) ≡ true → Reads options word words
read_option options word words name value None found said fit = cc
read_option options word words name value (Some o) found said fit =
    let it = found_is options name o found in
    read_takes options word words o (takes_of o) value refl (said ∙ ap (λ (n : List ℕ). Some (n, value)) (sym it)) (ap (option_named options) it ∙ found) fit

read_named : (options : List Name) (word : List ℕ) (words : List (List ℕ)) (n : Option Named) → named word ≡ n → fits_behind options words (after_named options n) ≡ true → Reads options word words
read_named options word words None said fit = cc
read_named options word words (Some (name, value)) said fit = read_option options word words name value (option_named options name) refl said fit

pub reads : (options : List Name) (word : List ℕ) (words : List (List ℕ)) → all_fit options None (word ∷ words) ≡ true → Reads options word words
reads options word words fit = read_named options word words (named word) refl fit

-- the value that an option waits for
pub value_reads : (options : List Name) (o : Name) (word : List ℕ) (words : List (List ℕ)) → all_fit options (Some o) (word ∷ words) ≡ true → IsPlain word × (all_fit options None words ≡ true)
value_reads options o word words fit = go (may_have (takes_of o) word) refl fit
  where
    go : (b : Bool) → may_have (takes_of o) word ≡ b → all_fit options (Some o) (word ∷ words) ≡ true → IsPlain word × (all_fit options None words ≡ true)
    go true t fit = (value_is_plain (takes_of o) word t, rw t at fit)
    go false t fit = let no : false ≡ true = rw t at fit in cc

-- ---- no option twice

pub both : (a b : Bool) → (a && b) ≡ true → (a ≡ true) × (b ≡ true)
both true b e = (refl, e)
both false b e = cc

negated : (b : Bool) → not b ≡ true → b ≡ false
negated true e = cc
negated false e = refl

neither : (a b : Bool) → (a || b) ≡ false → (a ≡ false) × (b ≡ false)
neither true b e = cc
neither false b e = (refl, e)

-- the name of a word is in none of those behind it
once : (word name : List ℕ) (value : Option (List ℕ)) (words : List (List ℕ)) → named word ≡ Some (name, value) → each_once (word ∷ words) ≡ true → (is_given words name ≡ false) × (each_once words ≡ true)
once word name value words said e =
    let parts = both (not (is_given_again words (named word))) (each_once words) e in
    let apart = negated (is_given_again words (named word)) parts.0 in
    (rw said at apart, parts.1)

-- no word names an option that has a row
abbrev pub IsFresh : List Row → List (List ℕ) → Type 0
IsFresh rows words = (name : List ℕ) → has_row name rows ≡ true → is_given words name ≡ false

fresh_rest : (rows : List Row) (word : List ℕ) (words : List (List ℕ)) → IsFresh rows (word ∷ words) → IsFresh rows words
fresh_rest rows word words fresh = λ name has. (neither (names name word) (is_given words name) (fresh name has)).1

names_it : (word name : List ℕ) (value : Option (List ℕ)) → named word ≡ Some (name, value) → names name word ≡ true
unfolding names
names_it word name value said = rw said (itself name)

not_yet : (rows : List Row) (word name : List ℕ) (value : Option (List ℕ)) (words : List (List ℕ)) → named word ≡ Some (name, value) → IsFresh rows (word ∷ words) → has_row name rows ≡ false
not_yet rows word name value words said fresh = go (has_row name rows) refl
  where
    go : (b : Bool) → has_row name rows ≡ b → has_row name rows ≡ false
    go true t = let no = (neither (names name word) (is_given words name) (fresh name t)).0 in let yes = names_it word name value said in cc
    go false t = t

fresh_more : (rows : List Row) (word name : List ℕ) (value : Option (List ℕ)) (words : List (List ℕ)) (r : Row) → r.id ≡ name → is_given words name ≡ false → IsFresh rows (word ∷ words) → IsFresh (rows ++ r ∷ []) words
fresh_more rows word name value words r is again fresh = λ other has. go other (bytes_eq r.id other) refl (sym (list_any-append (λ (s : Row). bytes_eq s.id other) rows (r ∷ [])) ∙ has)
  where
    or_false : (b : Bool) → (b || false) ≡ true → b ≡ true
    or_false true e = refl
    or_false false e = cc

    go : (other : List ℕ) (b : Bool) → bytes_eq r.id other ≡ b → (has_row other rows || (bytes_eq r.id other || false)) ≡ true → is_given words other ≡ false
    go other true t has = subst (λ n. is_given words n ≡ false) (sym is ∙ same r.id other t) again
    go other false t has = let old : (has_row other rows || false) ≡ true = rw t at has in fresh_rest rows word words fresh other (or_false (has_row other rows) old)

-- ---- all words

-- the rows of what the words give, in their order
abbrev pub rows_by : Name → Option (List ℕ) → List Row → (Name → List Row) → List Row
rows_by o (Some value) rest next = row o value ∷ rest
rows_by o None rest next = if is_flag (takes_of o) then row o (codes "true") ∷ rest else next o

abbrev pub rows_named : List Name → Option Named → List Row → (Name → List Row) → List Row
rows_named options None rest next = rest
rows_named options (Some (name, value)) rest next = option_map_or (λ o. rows_by o value rest next) (option_named options name) rest

abbrev pub rows_of : List Name → Option Name → List (List ℕ) → List Row
rows_of options waiting [] = []
rows_of options None (word ∷ words) = rows_named options (named word) (rows_of options None words) (λ o. rows_of options (Some o) words)
rows_of options (Some o) (word ∷ words) = row o word ∷ rows_of options None words

abbrev pub waits : Option Name → Waiting
waits None = idle
waits (Some o) = option (text_of o)

-- what is held where an option waits or none, and these are the rows
abbrev pub Holds : List Name → Option Name → List Row → Held → Type 0
Holds options None rows h = Settles (map rule options) rows h
Holds options (Some o) rows h = (skip : ℕ) × (h ≡ held rows (Some (text_of o, [])) skip) × (option_named options (text_of o) ≡ Some o) × (is_flag (takes_of o) ≡ false) × (has_row (text_of o) rows ≡ false)

abbrev pub AreFresh : Option Name → List Row → List (List ℕ) → Type 0
AreFresh None rows words = IsFresh rows words
AreFresh (Some o) rows words = (value : List ℕ) → IsFresh (rows ++ row o value ∷ []) words

pub record Ends (rules : List Rule) (rows : List Row) (w : Walk) : Type 0 where
  pub stopped : w.stopped ≡ None
  pub settles : Settles rules rows w.held

abbrev pub Walks : List ℕ → List Name → Option Name → List (List ℕ) → Type 0
Walks of options waiting words = (rows : List Row) (h : Held) → Holds options waiting rows h → all_fit options waiting words ≡ true → each_once words ≡ true → AreFresh waiting rows words →
    (walk_passes (level of (map rule options)) [] (standing (waits waiting) h) words ≡ true) × Ends (map rule options) (rows ++ rows_of options waiting words) (fold (walked (map rule options) []) (standing (waits waiting) h) words)

-- a step, and then the rest
behind : (of : List ℕ) (rules : List Rule) (rows : List Row) (before after : Walk) (word : List ℕ) (words : List (List ℕ)) → Steps of rules before word after → (walk_passes (level of rules) [] after words ≡ true) × Ends rules rows (fold (walked rules []) after words) → (walk_passes (level of rules) [] before (word ∷ words) ≡ true) × Ends rules rows (fold (walked rules []) before (word ∷ words))
unfolding walk_passes
behind of rules rows before after word words step rest = (
  rw (step.passes, step.walked) rest.0,
  subst (λ (w : Walk). Ends rules rows (fold (walked rules []) w words)) (sym step.walked) rest.1,
)

grouped : (rules : List Rule) (rows more : List Row) (r : Row) (w : Walk) → Ends rules ((rows ++ r ∷ []) ++ more) w → Ends rules (rows ++ (r ∷ more)) w
grouped rules rows more r w ends = subst (λ (rs : List Row). Ends rules rs w) (append_assoc rows (r ∷ []) more) ends

rule_is : (options : List Name) (o : Name) (flag : Bool) → is_flag (takes_of o) ≡ flag → option_named options (text_of o) ≡ Some o → arg_by_long (map rule options) (text_of o) ≡ Some (rule_by (text_of o) flag)
rule_is options o flag kind found = by_long options (text_of o) ∙ ap (option_map rule) found ∙ ap (λ b. Some (rule_by (text_of o) b)) kind

rule_of_id : (options : List Name) (o : Name) (flag : Bool) → is_flag (takes_of o) ≡ flag → option_named options (text_of o) ≡ Some o → arg_by_id (map rule options) (text_of o) ≡ Some (rule_by (text_of o) flag)
rule_of_id options o flag kind found = by_id options (text_of o) ∙ ap (option_map rule) found ∙ ap (λ b. Some (rule_by (text_of o) b)) kind

row_is : (o : Name) (flag : Bool) (value : List ℕ) → is_flag (takes_of o) ≡ flag → row_by (text_of o) flag value ≡ row o value
row_is o flag value kind = ap (λ b. row_by (text_of o) b value) (sym kind)

pub rows_said : (options : List Name) (word : List ℕ) (words : List (List ℕ)) (o : Name) (value : Option (List ℕ)) → named word ≡ Some (text_of o, value) → option_named options (text_of o) ≡ Some o → rows_of options None (word ∷ words) ≡ rows_by o value (rows_of options None words) (λ p. rows_of options (Some p) words)
rows_said options word words o value said found = rw (said, found) refl

walk_named : (of : List ℕ) (options : List Name) (word : List ℕ) (words : List (List ℕ)) → ((waiting : Option Name) → Walks of options waiting words) → Reads options word words → (rows : List Row) (h : Held) → Settles (map rule options) rows h → each_once (word ∷ words) ≡ true → IsFresh rows (word ∷ words) →
    (walk_passes (level of (map rule options)) [] (standing idle h) (word ∷ words) ≡ true) × Ends (map rule options) (rows ++ rows_of options None (word ∷ words)) (fold (walked (map rule options) []) (standing idle h) (word ∷ words))
walk_named of options word words rest (joined o value said found kind fit) rows h holds each fresh =
    let rules = map rule options in
    let apart = once word (text_of o) (Some value) words said each in
    let none = not_yet rows word (text_of o) (Some value) words said fresh in
    let step = attached_steps of (text_of o) word value rules rows h (flag_word word (text_of o) (Some value) said (some_name o)) (rule_is options o false kind found) holds none in
    let settles : Settles rules (rows ++ row o value ∷ []) (reacted rules (rule_by (text_of o) false) (value ∷ []) h) = subst (λ (r : Row). Settles rules (rows ++ r ∷ []) (reacted rules (rule_by (text_of o) false) (value ∷ []) h)) (row_is o false value kind) step.1 in
    let onward = rest None (rows ++ row o value ∷ []) _ settles fit apart.1 (fresh_more rows word (text_of o) (Some value) words (row o value) refl apart.0 fresh) in
    let all = behind of rules _ _ _ word words step.0 onward in
    (all.0, rw (rows_said options word words o (Some value) said found) (grouped rules rows (rows_of options None words) (row o value) _ all.1))
walk_named of options word words rest (begun o said found kind fit) rows h holds each fresh =
    let rules = map rule options in
    let apart = once word (text_of o) None words said each in
    let none = not_yet rows word (text_of o) None words said fresh in
    let step = name_steps of (text_of o) word rules rows h (flag_word word (text_of o) None said (some_name o)) (rule_is options o false kind found) holds in
    let onward = rest (Some o) rows (held rows (Some (text_of o, [])) h.skip) (h.skip, refl, found, kind, none) fit apart.1 (λ value. fresh_more rows word (text_of o) None words (row o value) refl apart.0 fresh) in
    let all = behind of rules _ _ _ word words step onward in
    let rows_are : rows_of options None (word ∷ words) ≡ rows_of options (Some o) words = rows_said options word words o None said found ∙ rw kind refl in
    (all.0, rw rows_are all.1)
walk_named of options word words rest (alone o said found kind fit) rows h holds each fresh =
    let rules = map rule options in
    let apart = once word (text_of o) None words said each in
    let none = not_yet rows word (text_of o) None words said fresh in
    let step = flag_steps of (text_of o) word rules rows h (flag_word word (text_of o) None said (some_name o)) (rule_is options o true kind found) holds none in
    let settles : Settles rules (rows ++ row o (codes "true") ∷ []) (reacted rules (rule_by (text_of o) true) [] h) = subst (λ (r : Row). Settles rules (rows ++ r ∷ []) (reacted rules (rule_by (text_of o) true) [] h)) (row_is o true (codes "true") kind) step.1 in
    let onward = rest None (rows ++ row o (codes "true") ∷ []) _ settles fit apart.1 (fresh_more rows word (text_of o) None words (row o (codes "true")) refl apart.0 fresh) in
    let all = behind of rules _ _ _ word words step.0 onward in
    let rows_are : rows_of options None (word ∷ words) ≡ row o (codes "true") ∷ rows_of options None words = rows_said options word words o None said found ∙ rw kind refl in
    (all.0, rw rows_are (grouped rules rows (rows_of options None words) (row o (codes "true")) _ all.1))

walk_value : (of : List ℕ) (options : List Name) (o : Name) (word : List ℕ) (words : List (List ℕ)) → Walks of options None words → Walks of options (Some o) (word ∷ words)
walk_value of options o word words rest rows h (skip, is, found, kind, none) fit each fresh =
    let rules = map rule options in
    let read = value_reads options o word words fit in
    let step = value_steps of (text_of o) word rules rows skip read.0 (rule_of_id options o false kind found) none in
    let settles : Settles rules (rows ++ row o word ∷ []) (held rows (Some (text_of o, word ∷ [])) skip) = subst (λ (r : Row). Settles rules (rows ++ r ∷ []) (held rows (Some (text_of o, word ∷ [])) skip)) (row_is o false word kind) step.1 in
    let onward = rest (rows ++ row o word ∷ []) _ settles read.1 (both _ _ each).1 (fresh_rest (rows ++ row o word ∷ []) word words (fresh word)) in
    let all = behind of rules _ _ _ word words step.0 onward in
    rw is (all.0, grouped rules rows (rows_of options None words) (row o word) _ all.1)

pub walks : (of : List ℕ) (options : List Name) (words : List (List ℕ)) (waiting : Option Name) → Walks of options waiting words
unfolding walk_passes
walks of options [] None rows h holds fit each fresh = (refl, record { stopped = refl; settles = subst (λ (rs : List Row). Settles (map rule options) rs h) (sym (append-nil rows)) holds })
walks of options [] (Some o) rows h holds fit each fresh = cc
walks of options (word ∷ words) None rows h holds fit each fresh = walk_named of options word words (walks of options words) (reads options word words fit) rows h holds each fresh
walks of options (word ∷ words) (Some o) rows h holds fit each fresh = walk_value of options o word words (walks of options words None) rows h holds fit each fresh
