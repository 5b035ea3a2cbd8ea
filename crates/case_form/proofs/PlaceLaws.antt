-- One line more, in its place.
use Rattle.std.proofs.Common.{◌≡◌, ℕ, ◌-◌, Bool, true, false, cond, List, [], ◌∷◌, ◌++◌, length, Option, Some, None, refl, sym, ap, ◌∙◌, append_assoc, arith}
use Rattle.std.specs.Prelude.{filter, slice_get, option_map}
use Rattle.std.specs.Option.{option_to_list}
use Rattle.std.specs.List.{filter_map, cons_option}
use Rattle.std.proofs.lemmas.List.{length-append, append-nil}
use Rattle.std.proofs.lemmas.List.Elements.{filter_map-append, filter-append}
use Rattle.echo_base.specs.declared.reason.Reason.{Reason}
use Rattle.case_form.specs.declared.section.Section.{Section}
use Rattle.case_form.specs.declared.section.Section.TheVariants.{Subscribers, Trace, Schedule}
use Rattle.case_form.specs.Case.{Placed, placed_behind, placed, placed_number, headings, section_behind, is_counted, counted, placed_row, rows_of, placed_trace_line, trace_of, placed_event, schedule_of, placed_reason, refusals}
use Rattle.case_form.specs.Section.{heading_of}

abbrev Lines : Type 0
Lines = List (List ℕ)

abbrev pub place : Lines → List ℕ → Placed
place before line = record { before = before; line = line }

placed_behind-append : (before front back : Lines) → placed_behind before (front ++ back) ≡ placed_behind before front ++ placed_behind (before ++ front) back
placed_behind-append before [] back = ap (λ (l : Lines). placed_behind l back) (sym (append-nil before))
placed_behind-append before (line ∷ front) back =
    ap (λ (l : List Placed). place before line ∷ l) (placed_behind-append (before ++ line ∷ []) front back ∙ ap (λ (l : Lines). placed_behind (before ++ line ∷ []) front ++ placed_behind l back) (append_assoc before (line ∷ []) front))

pub placed-append : (front back : Lines) → placed (front ++ back) ≡ placed front ++ placed_behind front back
placed-append front back = placed_behind-append [] front back

pub placed-push : (before : Lines) (line : List ℕ) → placed (before ++ line ∷ []) ≡ placed before ++ place before line ∷ []
placed-push before line = placed-append before (line ∷ [])

-- one element more, where it passes a test
abbrev pub where_true : {A : Type 0} → Bool → List A → List A
where_true true xs = xs
where_true false xs = []

filter-one : {A : Type 0} (p : A → Bool) (x : A) → filter p (x ∷ []) ≡ where_true (p x) (x ∷ [])
filter-one p x = cases (p x) refl
  where
    cases : (b : Bool) → p x ≡ b → cond b (x ∷ []) [] ≡ where_true b (x ∷ [])
    cases true e = refl
    cases false e = refl

alone : {B : Type 0} (o : Option B) → cons_option o [] ≡ option_to_list o
alone None = refl
alone (Some y) = refl

filter_map-one : {A B : Type 0} (f : A → Option B) (x : A) → filter_map f (x ∷ []) ≡ option_to_list (f x)
filter_map-one f x = alone (f x)

filter_map-where : {A B : Type 0} (f : A → Option B) (b : Bool) (x : A) → filter_map f (where_true b (x ∷ [])) ≡ where_true b (option_to_list (f x))
filter_map-where f true x = filter_map-one f x
filter_map-where f false x = refl

pub counted-push : (section : Section) (before : Lines) (line : List ℕ) → counted section (before ++ line ∷ []) ≡ counted section before ++ where_true (is_counted section (place before line)) (place before line ∷ [])
counted-push section before line =
    ap (filter (is_counted section)) (placed-push before line) ∙ filter-append (is_counted section) (placed before) (place before line ∷ []) ∙ ap (λ (l : List Placed). counted section before ++ l) (filter-one (is_counted section) (place before line))

-- what the counted lines of a section say
said-push : {A : Type 0} (section : Section) (say : Placed → Option A) (before : Lines) (line : List ℕ) → filter_map say (counted section (before ++ line ∷ [])) ≡ filter_map say (counted section before) ++ where_true (is_counted section (place before line)) (option_to_list (say (place before line)))
said-push section say before line =
    ap (filter_map say) (counted-push section before line) ∙ filter_map-append say (counted section before) (where_true (is_counted section (place before line)) (place before line ∷ [])) ∙ ap (λ (l : List _). filter_map say (counted section before) ++ l) (filter_map-where say (is_counted section (place before line)) (place before line))

pub rows_of-push : (before : Lines) (line : List ℕ) → rows_of (before ++ line ∷ []) ≡ rows_of before ++ where_true (is_counted Subscribers (place before line)) (option_to_list (placed_row (place before line)))
unfolding rows_of
rows_of-push before line = said-push Subscribers placed_row before line

pub trace_of-push : (before : Lines) (line : List ℕ) → trace_of (before ++ line ∷ []) ≡ trace_of before ++ where_true (is_counted Trace (place before line)) (option_to_list (placed_trace_line (place before line)))
unfolding trace_of
trace_of-push before line = said-push Trace placed_trace_line before line

pub schedule_of-push : (before : Lines) (line : List ℕ) → schedule_of (before ++ line ∷ []) ≡ schedule_of before ++ where_true (is_counted Schedule (place before line)) (option_to_list (placed_event (place before line)))
unfolding schedule_of
schedule_of-push before line = said-push Schedule placed_event before line

-- the refusal of a line
abbrev pub placed_refusal : Placed → Option (ℕ × Reason)
placed_refusal p = option_map (λ reason. (placed_number p, reason)) (placed_reason p)

pub refusals-push : (before : Lines) (line : List ℕ) → refusals (before ++ line ∷ []) ≡ refusals before ++ option_to_list (placed_refusal (place before line))
refusals-push before line =
    ap (filter_map placed_refusal) (placed-push before line) ∙ filter_map-append placed_refusal (placed before) (place before line ∷ []) ∙ ap (λ (l : List (ℕ × Reason)). refusals before ++ l) (filter_map-one placed_refusal (place before line))

-- the first refusal, behind lines with none
pub first_refusal : (before back : Lines) (line : List ℕ) (reason : Reason) → refusals before ≡ [] → placed_reason (place before line) ≡ Some reason → slice_get (refusals (before ++ line ∷ back)) 0 ≡ Some (placed_number (place before line), reason)
first_refusal before back line reason good bad =
    let split : refusals (before ++ line ∷ back) ≡ refusals before ++ filter_map placed_refusal (placed_behind before (line ∷ back)) = ap (filter_map placed_refusal) (placed-append before (line ∷ back)) ∙ filter_map-append placed_refusal (placed before) (placed_behind before (line ∷ back)) in
    rw (split, good, bad) refl

-- ---- headings

pub headings-push : (before : Lines) (line : List ℕ) → headings (before ++ line ∷ []) ≡ headings before ++ option_to_list (heading_of line)
headings-push before line = filter_map-append heading_of before (line ∷ []) ∙ ap (λ (l : List Section). headings before ++ l) (filter_map-one heading_of line)

slice_get-seam : {A : Type 0} (xs : List A) (x : A) → slice_get (xs ++ x ∷ []) (length xs) ≡ Some x
slice_get-seam [] x = refl
slice_get-seam (y ∷ ys) x = slice_get-seam ys x

last_of-push : {A : Type 0} (xs : List A) (x : A) → slice_get (xs ++ x ∷ []) (length (xs ++ x ∷ []) - 1) ≡ Some x
last_of-push xs x = ap (slice_get (xs ++ x ∷ [])) (omega (arith, length-append xs (x ∷ []))) ∙ slice_get-seam xs x

pub section_behind-heading : (before : Lines) (line : List ℕ) (heading : Section) → heading_of line ≡ Some heading → section_behind (before ++ line ∷ []) ≡ Some heading
section_behind-heading before line heading is =
    let more : headings (before ++ line ∷ []) ≡ headings before ++ heading ∷ [] = headings-push before line ∙ ap (λ (o : Option Section). headings before ++ option_to_list o) is in
    rw more (last_of-push (headings before) heading)

pub headings-same : (before : Lines) (line : List ℕ) → heading_of line ≡ None → headings (before ++ line ∷ []) ≡ headings before
headings-same before line none = headings-push before line ∙ ap (λ (o : Option Section). headings before ++ option_to_list o) none ∙ append-nil (headings before)
