-- What clap finds of an option, after words that are options: the value that they give it, or a flag's own word.
use Rattle.std.proofs.Common.{◌≡◌, ℕ, Bool, true, false, cond, List, [], ◌∷◌, ◌++◌, Option, Some, None, refl, sym, ap, subst, ◌∙◌}
use Rattle.std.specs.Prelude.{◌&&◌, if◌then◌else◌, map, find, fold, option_map, codes}
use Rattle.std.specs.Option.{option_or}
use Rattle.std.specs.Str.{bytes_eq}
use Rattle.std.proofs.lemmas.List.Folds.{find-append}
use Rattle.clap.specs.Walk.{Row, has_row, more_values, reading_by, with_default}
use Rattle.clap.specs.declared.parser.matches.ValueSource.TheVariants.{DefaultValue}
use Rattle.command_words.specs.declared.options.Name.{Name}
use Rattle.command_words.specs.Options.{named, names, text_of, takes_of, option_named, all_fit, is_given, value_in}
use Rattle.command_words.proofs.Spelling.{IsPlain}
use Rattle.command_words.proofs.Clap.{Reads, joined, begun, alone, at_end, one_name, row, rows_of, rows_said, rule, rule_by, same, reads, value_reads}
use Rattle.command_words.specs.Matches.{is_flag}

-- ---- what words say of one name

is_named : (word name other : List ℕ) (value : Option (List ℕ)) → named word ≡ Some (name, value) → names other word ≡ bytes_eq name other
unfolding names
is_named word name other value said = rw said refl

names_nothing : (word other : List ℕ) → IsPlain word → names other word ≡ false
unfolding names
names_nothing word other plain = rw plain.named refl

-- the text of an option, where the words give it
abbrev pub text_in : Name → List (List ℕ) → Option (List ℕ)
text_in o words = if is_flag (takes_of o) then (if is_given words (text_of o) then Some (codes "true") else None) else value_in (text_of o) words

-- where an option waits, it is the first word
abbrev pub text_behind : Name → Option Name → List (List ℕ) → Option (List ℕ)
text_behind o None words = text_in o words
text_behind o (Some p) [] = None
text_behind o (Some p) (word ∷ words) = if bytes_eq (text_of p) (text_of o) then Some word else text_in o words

no_words : (o : Name) → text_in o [] ≡ None
no_words o = go (is_flag (takes_of o)) refl
  where
    go : (b : Bool) → is_flag (takes_of o) ≡ b → text_in o [] ≡ None
    go true e = rw e refl
    go false e = rw e refl

skips : (o : Name) (word : List ℕ) (words : List (List ℕ)) → names (text_of o) word ≡ false → text_in o (word ∷ words) ≡ text_in o words
skips o word words e = rw e refl

flag_text : (o : Name) (word : List ℕ) (words : List (List ℕ)) → is_flag (takes_of o) ≡ true → names (text_of o) word ≡ true → text_in o (word ∷ words) ≡ Some (codes "true")
flag_text o word words kind e = rw (kind, e) refl

attached_text : (o : Name) (word name value : List ℕ) (words : List (List ℕ)) → is_flag (takes_of o) ≡ false → named word ≡ Some (name, Some value) → names (text_of o) word ≡ true → text_in o (word ∷ words) ≡ Some value
attached_text o word name value words kind said e = rw (kind, e, said) refl

next_text : (o : Name) (word name next : List ℕ) (words : List (List ℕ)) → is_flag (takes_of o) ≡ false → named word ≡ Some (name, None) → names (text_of o) word ≡ true → text_in o (word ∷ next ∷ words) ≡ Some next
next_text o word name next words kind said e = rw (kind, e, said) refl

kind_of_same : (p o : Name) (b : Bool) → p ≡ o → is_flag (takes_of p) ≡ b → is_flag (takes_of o) ≡ b
kind_of_same p o b it e = subst (λ (q : Name). is_flag (takes_of q) ≡ b) it e

same_row : (p o : Name) (value : List ℕ) → p ≡ o → Some (row p value) ≡ Some (row o value)
same_row p o value it = ap (λ (q : Name). Some (row q value)) it

-- ---- the row of an option

abbrev pub row_in : Name → List Row → Option Row
row_in o rows = find (λ r. bytes_eq r.id (text_of o)) rows

abbrev pub Looks : List Name → Name → Option Name → List (List ℕ) → Type 0
Looks options o waiting words = all_fit options waiting words ≡ true → row_in o (rows_of options waiting words) ≡ option_map (row o) (text_behind o waiting words)

waits_text : (options : List Name) (p o : Name) (word : List ℕ) (words : List (List ℕ)) → named word ≡ Some (text_of p, None) → is_flag (takes_of p) ≡ false → all_fit options (Some p) words ≡ true → text_behind o (Some p) words ≡ text_in o (word ∷ words)
waits_text options p o word [] said kind fit = cc
waits_text options p o word (next ∷ words) said kind fit = go (bytes_eq (text_of p) (text_of o)) refl
  where
    go : (b : Bool) → bytes_eq (text_of p) (text_of o) ≡ b → cond (bytes_eq (text_of p) (text_of o)) (Some next) (text_in o words) ≡ text_in o (word ∷ next ∷ words)
    go true t = rw t (sym (next_text o word (text_of p) next words (kind_of_same p o false (one_name p o (same _ _ t)) kind) said (is_named word (text_of p) (text_of o) None said ∙ t)))
    go false t = rw t (sym (skips o word (next ∷ words) (is_named word (text_of p) (text_of o) None said ∙ t) ∙ skips o next words (names_nothing next (text_of o) (value_reads options p next words fit).0)))

look_named : (options : List Name) (o : Name) (word : List ℕ) (words : List (List ℕ)) → ((waiting : Option Name) → Looks options o waiting words) → Reads options word words → row_in o (rows_of options None (word ∷ words)) ≡ option_map (row o) (text_in o (word ∷ words))
look_named options o word words rest (joined p value said found kind fit) = ap (row_in o) (rows_said options word words p (Some value) said found) ∙ go (bytes_eq (text_of p) (text_of o)) refl (rest None fit)
  where
    go : (b : Bool) → bytes_eq (text_of p) (text_of o) ≡ b → row_in o (rows_of options None words) ≡ option_map (row o) (text_in o words) → cond (bytes_eq (text_of p) (text_of o)) (Some (row p value)) (row_in o (rows_of options None words)) ≡ option_map (row o) (text_in o (word ∷ words))
    go true t more =
        let it = one_name p o (same _ _ t) in
        rw t (same_row p o value it ∙ ap (option_map (row o)) (sym (attached_text o word (text_of p) value words (kind_of_same p o false it kind) said (is_named word (text_of p) (text_of o) (Some value) said ∙ t))))
    go false t more = rw t (more ∙ ap (option_map (row o)) (sym (skips o word words (is_named word (text_of p) (text_of o) (Some value) said ∙ t))))
look_named options o word words rest (begun p said found kind fit) =
    let rows_are : rows_of options None (word ∷ words) ≡ rows_of options (Some p) words = rows_said options word words p None said found ∙ rw kind refl in
    ap (row_in o) rows_are ∙ rest (Some p) fit ∙ ap (option_map (row o)) (waits_text options p o word words said kind fit)
look_named options o word words rest (alone p said found kind fit) =
    let rows_are : rows_of options None (word ∷ words) ≡ row p (codes "true") ∷ rows_of options None words = rows_said options word words p None said found ∙ rw kind refl in
    ap (row_in o) rows_are ∙ go (bytes_eq (text_of p) (text_of o)) refl (rest None fit)
  where
    go : (b : Bool) → bytes_eq (text_of p) (text_of o) ≡ b → row_in o (rows_of options None words) ≡ option_map (row o) (text_in o words) → cond (bytes_eq (text_of p) (text_of o)) (Some (row p (codes "true"))) (row_in o (rows_of options None words)) ≡ option_map (row o) (text_in o (word ∷ words))
    go true t more =
        let it = one_name p o (same _ _ t) in
        rw t (same_row p o (codes "true") it ∙ ap (option_map (row o)) (sym (flag_text o word words (kind_of_same p o true it kind) (is_named word (text_of p) (text_of o) None said ∙ t))))
    go false t more = rw t (more ∙ ap (option_map (row o)) (sym (skips o word words (is_named word (text_of p) (text_of o) None said ∙ t))))

pub look : (options : List Name) (o : Name) (words : List (List ℕ)) (waiting : Option Name) → Looks options o waiting words
look options o [] None fit = ap (option_map (row o)) (sym (no_words o))
look options o [] (Some p) fit = cc
look options o (word ∷ words) None fit = look_named options o word words (look options o words) (reads options word words fit)
look options o (word ∷ words) (Some p) fit = go (bytes_eq (text_of p) (text_of o)) refl (look options o words None (value_reads options p word words fit).1)
  where
    go : (b : Bool) → bytes_eq (text_of p) (text_of o) ≡ b → row_in o (rows_of options None words) ≡ option_map (row o) (text_in o words) → row_in o (rows_of options (Some p) (word ∷ words)) ≡ option_map (row o) (text_behind o (Some p) (word ∷ words))
    go true t more = rw t (same_row p o word (one_name p o (same _ _ t)))
    go false t more = rw t more

-- ---- defaults

abbrev pub default_row : List ℕ → Row
default_row name = record { id = name; values = codes "false" ∷ []; count = None; source = Some DefaultValue; reading = reading_by (rule_by name true) }

abbrev pub default_by : Name → Name → Option Row
default_by o p = if is_flag (takes_of p) && bytes_eq (text_of p) (text_of o) then Some (default_row (text_of p)) else None

abbrev pub default_in : Name → List Name → Option Row
default_in o [] = None
default_in o (p ∷ options) = option_or (default_by o p) (default_in o options)

or_none : (a : Option Row) → option_or a None ≡ a
or_none None = refl
or_none (Some r) = refl

or_or : (a b c : Option Row) → option_or (option_or a b) c ≡ option_or a (option_or b c)
or_or None b c = refl
or_or (Some r) b c = refl

number_default : (name : List ℕ) (rows : List Row) → with_default rows (rule_by name false) ≡ rows
number_default name rows = go (has_row name rows) refl
  where
    go : (b : Bool) → has_row name rows ≡ b → with_default rows (rule_by name false) ≡ rows
    go true e = rw e refl
    go false e = rw e refl

flag_default : (name : List ℕ) (rows : List Row) → has_row name rows ≡ false → with_default rows (rule_by name true) ≡ rows ++ default_row name ∷ []
flag_default name rows e = rw e (at_end name (more_values DefaultValue (codes "false" ∷ [])) (default_row name ∷ []) rows e)

flag_kept : (name : List ℕ) (rows : List Row) → has_row name rows ≡ true → with_default rows (rule_by name true) ≡ rows
flag_kept name rows e = rw e refl

has_found : (name : List ℕ) (rows : List Row) (other : Option Row) → has_row name rows ≡ true → option_or (find (λ r. bytes_eq r.id name) rows) other ≡ find (λ r. bytes_eq r.id name) rows
has_found name [] other e = cc
has_found name (r ∷ rows) other e = go (bytes_eq r.id name) refl e (has_found name rows other)
  where
    go : (b : Bool) → bytes_eq r.id name ≡ b → has_row name (r ∷ rows) ≡ true → (has_row name rows ≡ true → option_or (find (λ r. bytes_eq r.id name) rows) other ≡ find (λ r. bytes_eq r.id name) rows) → option_or (find (λ r. bytes_eq r.id name) (r ∷ rows)) other ≡ find (λ r. bytes_eq r.id name) (r ∷ rows)
    go true t e rest = rw t refl
    go false t e rest = let more : has_row name rows ≡ true = rw t at e in rw t (rest more)

default_step : (o p : Name) (rows : List Row) → row_in o (with_default rows (rule p)) ≡ option_or (row_in o rows) (default_by o p)
default_step o p rows = go (is_flag (takes_of p)) refl
  where
    -- a flag
    kept : (b : Bool) → bytes_eq (text_of p) (text_of o) ≡ b → has_row (text_of p) rows ≡ true → row_in o rows ≡ option_or (row_in o rows) (cond (bytes_eq (text_of p) (text_of o)) (Some (default_row (text_of p))) None)
    kept true t h = let has : has_row (text_of o) rows ≡ true = subst (λ n. has_row n rows ≡ true) (same _ _ t) h in sym (has_found (text_of o) rows _ has)
    kept false t h = rw t (sym (or_none (row_in o rows)))

    by_row : (b : Bool) → has_row (text_of p) rows ≡ b → row_in o (with_default rows (rule_by (text_of p) true)) ≡ option_or (row_in o rows) (cond (bytes_eq (text_of p) (text_of o)) (Some (default_row (text_of p))) None)
    by_row true h = ap (row_in o) (flag_kept (text_of p) rows h) ∙ kept (bytes_eq (text_of p) (text_of o)) refl h
    by_row false h = ap (row_in o) (flag_default (text_of p) rows h) ∙ find-append (λ r. bytes_eq r.id (text_of o)) rows (default_row (text_of p) ∷ [])

    go : (b : Bool) → is_flag (takes_of p) ≡ b → row_in o (with_default rows (rule_by (text_of p) (is_flag (takes_of p)))) ≡ option_or (row_in o rows) (cond (is_flag (takes_of p) && bytes_eq (text_of p) (text_of o)) (Some (default_row (text_of p))) None)
    go true e = rw e (by_row (has_row (text_of p) rows) refl)
    go false e = rw e (ap (row_in o) (number_default (text_of p) rows) ∙ sym (or_none (row_in o rows)))

pub defaults : (o : Name) (options : List Name) (rows : List Row) → row_in o (fold with_default rows (map rule options)) ≡ option_or (row_in o rows) (default_in o options)
defaults o [] rows = sym (or_none (row_in o rows))
defaults o (p ∷ options) rows = defaults o options (with_default rows (rule p)) ∙ ap (λ (a : Option Row). option_or a (default_in o options)) (default_step o p rows) ∙ or_or (row_in o rows) (default_by o p) (default_in o options)

pub number_has_none : (o : Name) (options : List Name) → is_flag (takes_of o) ≡ false → default_in o options ≡ None
number_has_none o [] kind = refl
number_has_none o (p ∷ options) kind = go (bytes_eq (text_of p) (text_of o)) refl (number_has_none o options kind)
  where
    and_false : (b : Bool) → (b && false) ≡ false
    and_false true = refl
    and_false false = refl

    go : (b : Bool) → bytes_eq (text_of p) (text_of o) ≡ b → default_in o options ≡ None → option_or (default_by o p) (default_in o options) ≡ None
    go true t rest = let k : is_flag (takes_of p) ≡ false = kind_of_same o p false (sym (one_name p o (same _ _ t))) kind in rw (k, rest) refl
    go false t rest = rw (t, and_false (is_flag (takes_of p)), rest) refl

pub flag_has_one : (o : Name) (options : List Name) → is_flag (takes_of o) ≡ true → option_named options (text_of o) ≡ Some o → default_in o options ≡ Some (default_row (text_of o))
flag_has_one o [] kind found = cc
flag_has_one o (p ∷ options) kind found = go (bytes_eq (text_of p) (text_of o)) refl found (flag_has_one o options kind)
  where
    and_false : (b : Bool) → (b && false) ≡ false
    and_false true = refl
    and_false false = refl

    go : (b : Bool) → bytes_eq (text_of p) (text_of o) ≡ b → option_named (p ∷ options) (text_of o) ≡ Some o → (option_named options (text_of o) ≡ Some o → default_in o options ≡ Some (default_row (text_of o))) → option_or (default_by o p) (default_in o options) ≡ Some (default_row (text_of o))
    go true t found rest =
        let it = one_name p o (same _ _ t) in
        let k : is_flag (takes_of p) ≡ true = kind_of_same o p true (sym it) kind in
        let head : default_by o p ≡ Some (default_row (text_of p)) = rw (k, t) refl in
        rw head (ap (λ (q : Name). Some (default_row (text_of q))) it)
    go false t found rest =
        let none : default_by o p ≡ None = rw (t, and_false (is_flag (takes_of p))) refl in
        rw none (rest (rw t at found))
