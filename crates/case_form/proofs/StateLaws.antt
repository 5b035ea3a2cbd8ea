-- What was seen of lines, line by line.
use Rattle.std.proofs.Common.{◌≡◌, ℕ, ◌+◌, ◌-◌, ◌^◌, min, Bool, true, false, leb, ltb, ◌||◌, List, [], ◌∷◌, ◌++◌, length, Option, Some, None, Result, Ok, Err, refl, sym, ap, ◌∙◌, inl, inr, arith}
use Rattle.std.specs.Prelude.{is_some, option_map, slice_get, if◌then◌else◌}
use Rattle.std.specs.Option.{option_to_list}
use Rattle.std.specs.Result.{result_ok}
use Rattle.std.specs.List.{list_any}
use Rattle.std.proofs.lemmas.Bool.{cases_Bool}
use Rattle.std.proofs.lemmas.Bool.Decides.{nat_tests}
use Rattle.std.proofs.lemmas.List.{length-append, append-nil}
use Rattle.std.proofs.lemmas.List.Folds.{list_any-append}
use Rattle.echo_base.specs.declared.reason.Reason.{Reason}
use Rattle.echo_base.specs.declared.refusal.Refusal.{Refusal}
use Rattle.echo_base.specs.declared.reason.Reason.TheVariants.{LineTooLong}
use Rattle.device_types.specs.declared.event.Event.{Event}
use Rattle.device_types.specs.declared.subscriber.Subscriber.{Subscriber}
use Rattle.subs_table.specs.Row.{row_of}
use Rattle.case_form.specs.declared.case.TraceLine.{TraceLine}
use Rattle.case_form.specs.declared.section.Section.{Section}
use Rattle.case_form.specs.declared.section.Section.TheVariants.{Subscribers, Trace, Schedule}
use Rattle.case_form.specs.Case.{most_octets, placed_number, headings, section_behind, is_section, is_counted, counted, placed_row, rows_of, placed_trace_line, trace_of, placed_event, schedule_of, heading_reason, row_reason, form_reason, section_reason, placed_reason, refusals}
use Rattle.case_form.specs.Event.{event_of}
use Rattle.case_form.specs.Said.{most_lines}
use Rattle.case_form.specs.Section.{place_of, is_passed_over, is_heading, heading_of}
use Rattle.case_form.specs.State.{Seen, unread, next, is_late, next_heading_reason, own_reason, reason_behind, rows_after, trace_after, schedule_after, own_after, after}
use Rattle.case_form.specs.declared.case.TraceKind.{TraceKind}
use Rattle.case_form.specs.Trace.{kind_of}
use Rattle.case_form.proofs.PlaceLaws.{place, where_true, counted-push, rows_of-push, trace_of-push, schedule_of-push, refusals-push, section_behind-heading, headings-push, headings-same}

-- what was seen is what the lines say, none of them is refused, and no line is counted that says nothing
pub record IsSeen (before : List (List ℕ)) (seen : Seen) : Type 0 where
  pub section : seen.section ≡ section_behind before
  pub order : (heading : Section) → list_any (λ earlier. leb (place_of heading) (place_of earlier)) (headings before) ≡ is_late heading seen.section
  pub number : seen.number ≡ min (length before) (2 ^ 32 - 1)
  pub rows : seen.rows ≡ rows_of before
  pub row_count : length seen.rows ≡ length (counted Subscribers before)
  pub trace : seen.trace ≡ trace_of before
  pub trace_count : length seen.trace ≡ length (counted Trace before)
  pub schedule : seen.schedule ≡ schedule_of before
  pub schedule_count : length seen.schedule ≡ length (counted Schedule before)
  pub good : refusals before ≡ []

pub nothing_seen : IsSeen [] unread
unfolding rows_of trace_of schedule_of
nothing_seen = record { section = refl; order = λ heading. refl; number = refl; rows = refl; row_count = refl; trace = refl; trace_count = refl; schedule = refl; schedule_count = refl; good = refl }

-- ---- the same reasons

same_chain : (a b c : Bool) (long : Option Reason) (heading heading' own own' : Option Reason) → heading ≡ heading' → own ≡ own' → (if a then long else if b then None else if c then heading else own) ≡ (if a then long else if b then None else if c then heading' else own')
same_chain a b c long heading heading' own own' e f = rw (e, f) refl

same_heading : (before : List (List ℕ)) (seen : Seen) → IsSeen before seen → (heading : Option Section) → next_heading_reason seen.section heading ≡ heading_reason (headings before) heading
same_heading before seen s None = refl
same_heading before seen s (Some heading) = rw (s.order heading) refl

same_own : (before : List (List ℕ)) (line : List ℕ) (seen : Seen) → IsSeen before seen → (section : Option Section) → own_reason section (next seen) line ≡ section_reason section (place before line)
same_own before line seen s None = refl
same_own before line seen s (Some Subscribers) = rw (s.row_count, s.rows) refl
same_own before line seen s (Some Trace) = rw s.trace_count refl
same_own before line seen s (Some Schedule) = rw (s.schedule_count, s.rows) refl

pub same_reason : (before : List (List ℕ)) (line : List ℕ) (seen : Seen) → IsSeen before seen → reason_behind (next seen) line ≡ placed_reason (place before line)
unfolding reason_behind placed_reason
same_reason before line seen s =
    same_chain (ltb most_octets (length line)) (is_passed_over line) (is_heading line) (Some LineTooLong) _ _ _ _
    (same_heading before seen s (heading_of line))
    (ap (λ o. own_reason o (next seen) line) s.section ∙ same_own before line seen s (section_behind before))

-- ---- one line more

pub same_number : (before : List (List ℕ)) (line : List ℕ) (seen : Seen) → IsSeen before seen → (next seen).number ≡ placed_number (place before line)
same_number before line seen s = omega (arith, s.number)

next_number : (before : List (List ℕ)) (line : List ℕ) (seen : Seen) → IsSeen before seen → (next seen).number ≡ min (length (before ++ line ∷ [])) (2 ^ 32 - 1)
next_number before line seen s = omega (arith, s.number, length-append before (line ∷ []))

-- what one line adds, and how many of it
grown_count : {A B : Type 0} (b : Bool) (o : Option A) (x : B) → (b ≡ true → is_some o ≡ true) → length (where_true b (option_to_list o)) ≡ length (where_true b (x ∷ []))
grown_count true (Some a) x h = refl
grown_count true None x h = let e : false ≡ true = h refl in absurd cc
grown_count false o x h = refl

-- what a section has behind the line: where it counts the line, what the line says is there, and comes at the end
record Gains {A : Type 0} (section : Section) (before : List (List ℕ)) (line : List ℕ) (o : Option A) (old new : List A) : Type 0 where
  more : new ≡ old ++ where_true (is_counted section (place before line)) (option_to_list o)
  there : is_counted section (place before line) ≡ true → is_some o ≡ true

-- behind a line that is not refused
record IsGrown (before : List (List ℕ)) (line : List ℕ) (seen new : Seen) : Type 0 where
  section : new.section ≡ section_behind (before ++ line ∷ [])
  order : (heading : Section) → list_any (λ earlier. leb (place_of heading) (place_of earlier)) (headings (before ++ line ∷ [])) ≡ is_late heading new.section
  number : new.number ≡ (next seen).number
  rows : Gains Subscribers before line (placed_row (place before line)) seen.rows new.rows
  trace : Gains Trace before line (placed_trace_line (place before line)) seen.trace new.trace
  schedule : Gains Schedule before line (placed_event (place before line)) seen.schedule new.schedule

grown_length : {A : Type 0} (section : Section) (before : List (List ℕ)) (line : List ℕ) (o : Option A) (old new : List A) → Gains section before line o old new → length old ≡ length (counted section before) → length new ≡ length (counted section (before ++ line ∷ []))
grown_length section before line o old new g count =
    let b : Bool = is_counted section (place before line) in
    ap length g.more ∙ length-append old (where_true b (option_to_list o)) ∙ rw (count, grown_count b o (place before line) g.there) (sym (length-append (counted section before) (where_true b (place before line ∷ [])))) ∙ sym (ap length (counted-push section before line))

grown : (before : List (List ℕ)) (line : List ℕ) (seen new : Seen) → IsSeen before seen → placed_reason (place before line) ≡ None → IsGrown before line seen new → IsSeen (before ++ line ∷ []) new
grown before line seen new s none g = record {
  section = g.section;
  order = g.order;
  number = g.number ∙ next_number before line seen s;
  rows = g.rows.more ∙ ap (λ (l : List Subscriber). l ++ where_true (is_counted Subscribers (place before line)) (option_to_list (placed_row (place before line)))) s.rows ∙ sym (rows_of-push before line);
  row_count = grown_length Subscribers before line (placed_row (place before line)) seen.rows new.rows g.rows s.row_count;
  trace = g.trace.more ∙ ap (λ (l : List TraceLine). l ++ where_true (is_counted Trace (place before line)) (option_to_list (placed_trace_line (place before line)))) s.trace ∙ sym (trace_of-push before line);
  trace_count = grown_length Trace before line (placed_trace_line (place before line)) seen.trace new.trace g.trace s.trace_count;
  schedule = g.schedule.more ∙ ap (λ (l : List Event). l ++ where_true (is_counted Schedule (place before line)) (option_to_list (placed_event (place before line)))) s.schedule ∙ sym (schedule_of-push before line);
  schedule_count = grown_length Schedule before line (placed_event (place before line)) seen.schedule new.schedule g.schedule s.schedule_count;
  good = rw (refusals-push before line, s.good, none) refl;
}

not_grown : {A : Type 0} (b : Bool) (xs ys : List A) → b ≡ false → xs ≡ xs ++ where_true b ys
not_grown b xs ys e = rw e (sym (append-nil xs))

is_grown : {A : Type 0} (b : Bool) (xs ys : List A) → b ≡ true → xs ++ ys ≡ xs ++ where_true b ys
is_grown b xs ys e = rw e refl

not_there : {A : Type 0} (b : Bool) (o : Option A) → b ≡ false → b ≡ true → is_some o ≡ true
not_there b o f t = absurd cc

no_gain : {A : Type 0} (section : Section) (before : List (List ℕ)) (line : List ℕ) (o : Option A) (xs : List A) → is_counted section (place before line) ≡ false → Gains section before line o xs xs
no_gain section before line o xs not = record { more = not_grown (is_counted section (place before line)) xs (option_to_list o) not; there = not_there (is_counted section (place before line)) o not }

-- ---- lines that are no headings

passed_is_plain : (line : List ℕ) → is_passed_over line ≡ true → is_heading line ≡ false
passed_is_plain [] e = refl
passed_is_plain (octet ∷ line) e = grind (arith, nat_tests)

plain_names_none : (line : List ℕ) → is_heading line ≡ false → heading_of line ≡ None
unfolding heading_of
plain_names_none [] e = refl
plain_names_none (octet ∷ line) e = rw e refl

section_same : (before : List (List ℕ)) (line : List ℕ) (seen : Seen) → IsSeen before seen → is_heading line ≡ false → seen.section ≡ section_behind (before ++ line ∷ [])
section_same before line seen s plain = s.section ∙ sym (ap (λ (l : List Section). slice_get l (length l - 1)) (headings-same before line (plain_names_none line plain)))

order_same : (before : List (List ℕ)) (line : List ℕ) (seen : Seen) → IsSeen before seen → is_heading line ≡ false → (heading : Section) → list_any (λ earlier. leb (place_of heading) (place_of earlier)) (headings (before ++ line ∷ [])) ≡ is_late heading seen.section
order_same before line seen s plain heading = ap (list_any (λ earlier. leb (place_of heading) (place_of earlier))) (headings-same before line (plain_names_none line plain)) ∙ s.order heading

-- no section counts it
uncounted : (before : List (List ℕ)) (line : List ℕ) (section : Section) → (is_passed_over line || is_heading line) ≡ true → is_counted section (place before line) ≡ false
uncounted before line section e = rw e refl

-- the section that it stands in counts it
counted_here : (before : List (List ℕ)) (line : List ℕ) (here section : Section) → (is_passed_over line || is_heading line) ≡ false → section_behind before ≡ Some here → is_counted section (place before line) ≡ is_section section here
counted_here before line here section e is = rw (e, is) refl

-- ---- the cases of a line that is not refused

-- one that no section counts
uncounted_grows : (before : List (List ℕ)) (line : List ℕ) (seen : Seen) (named : Option Section) → (is_passed_over line || is_heading line) ≡ true → named ≡ section_behind (before ++ line ∷ []) → ((heading : Section) → list_any (λ earlier. leb (place_of heading) (place_of earlier)) (headings (before ++ line ∷ [])) ≡ is_late heading named) → IsGrown before line seen (record (next seen) { section = named })
uncounted_grows before line seen named none section order = record {
  section = section;
  order = order;
  number = refl;
  rows = no_gain Subscribers before line (placed_row (place before line)) seen.rows (uncounted before line Subscribers none);
  trace = no_gain Trace before line (placed_trace_line (place before line)) seen.trace (uncounted before line Trace none);
  schedule = no_gain Schedule before line (placed_event (place before line)) seen.schedule (uncounted before line Schedule none);
}

-- an empty line or a comment
passed_grows : (before : List (List ℕ)) (line : List ℕ) (seen : Seen) → IsSeen before seen → is_passed_over line ≡ true → IsGrown before line seen (next seen)
passed_grows before line seen s passed =
    let plain : is_heading line ≡ false = passed_is_plain line passed in
    uncounted_grows before line seen seen.section (rw passed refl) (section_same before line seen s plain) (order_same before line seen s plain)

-- a heading that comes later than those before it
late_or : (heading other : Section) (section : Option Section) → is_late other section ≡ false → (is_late heading section || leb (place_of heading) (place_of other)) ≡ is_late heading (Some other)
late_or heading other None e = refl
late_or heading other (Some section) e = grind (arith, nat_tests)

order_more : (before : List (List ℕ)) (line : List ℕ) (seen : Seen) (other : Section) → IsSeen before seen → heading_of line ≡ Some other → is_late other seen.section ≡ false → (heading : Section) → list_any (λ earlier. leb (place_of heading) (place_of earlier)) (headings (before ++ line ∷ [])) ≡ is_late heading (Some other)
order_more before line seen other s is early heading =
    let test : Section → Bool = λ earlier. leb (place_of heading) (place_of earlier) in
    let more : headings (before ++ line ∷ []) ≡ headings before ++ other ∷ [] = headings-push before line ∙ ap (λ (o : Option Section). headings before ++ option_to_list o) is in
    ap (list_any test) more ∙ list_any-append test (headings before) (other ∷ []) ∙ rw (s.order heading, or_false) (late_or heading other seen.section early)
  where
    or_false : (b : Bool) → (b || false) ≡ b
    or_false true = refl
    or_false false = refl

heading_grows : (before : List (List ℕ)) (line : List ℕ) (seen : Seen) (other : Section) → IsSeen before seen → is_heading line ≡ true → heading_of line ≡ Some other → is_late other seen.section ≡ false → IsGrown before line seen (record (next seen) { section = Some other })
heading_grows before line seen other s heading is early = uncounted_grows before line seen (Some other) (or_true (is_passed_over line) heading) (sym (section_behind-heading before line other is)) (order_more before line seen other s is early)
  where
    or_true : (a : Bool) → is_heading line ≡ true → (a || is_heading line) ≡ true
    or_true true e = refl
    or_true false e = e

-- a line of its section
row_there_from : (rows : List Subscriber) (row : Result Subscriber Refusal) → row_reason rows row ≡ None → is_some (result_ok row) ≡ true
row_there_from rows (Ok row) e = refl
row_there_from rows (Err x) e = absurd cc

pub some_of : {A : Type 0} {x : A} → Some x ≡ None → ⊥
some_of e = cc

good_form : (count : ℕ) (good : Bool) → form_reason count good ≡ None → good ≡ true
good_form count true e = refl
good_form count false e = elim (cases_Bool (leb most_lines count)) [ inl t ↦ absurd (some_of (rw t at e)) | inr f ↦ absurd (some_of (rw f at e)) ]

is_some-map : {A B : Type 0} (f : A → B) (o : Option A) → is_some (option_map f o) ≡ is_some o
is_some-map f None = refl
is_some-map f (Some x) = refl

row_grows : (before : List (List ℕ)) (line : List ℕ) (seen : Seen) → IsSeen before seen → (is_passed_over line || is_heading line) ≡ false → is_heading line ≡ false → seen.section ≡ Some Subscribers → row_reason seen.rows (row_of (length seen.rows + 1) line) ≡ None → IsGrown before line seen (record (next seen) { rows = rows_after seen.rows line })
unfolding rows_after
row_grows before line seen s item plain section none =
    let here = λ (other : Section). counted_here before line Subscribers other item (sym s.section ∙ section) in
    record {
      section = section_same before line seen s plain;
      order = order_same before line seen s plain;
      number = refl;
      rows = record {
        more = ap (λ n. seen.rows ++ option_to_list (result_ok (row_of (n + 1) line))) s.row_count ∙ is_grown _ seen.rows _ (here Subscribers);
        there = λ t. rw (← s.row_count) (row_there_from seen.rows (row_of (length seen.rows + 1) line) none);
      };
      trace = no_gain Trace before line (placed_trace_line (place before line)) seen.trace (here Trace);
      schedule = no_gain Schedule before line (placed_event (place before line)) seen.schedule (here Schedule);
    }

trace_grows : (before : List (List ℕ)) (line : List ℕ) (seen : Seen) → IsSeen before seen → (is_passed_over line || is_heading line) ≡ false → is_heading line ≡ false → seen.section ≡ Some Trace → form_reason (length seen.trace) (is_some (kind_of line)) ≡ None → IsGrown before line seen (record (next seen) { trace = trace_after (next seen).number seen.trace line })
unfolding trace_after
trace_grows before line seen s item plain section none =
    let here = λ (other : Section). counted_here before line Trace other item (sym s.section ∙ section) in
    record {
      section = section_same before line seen s plain;
      order = order_same before line seen s plain;
      number = refl;
      rows = no_gain Subscribers before line (placed_row (place before line)) seen.rows (here Subscribers);
      trace = record {
        more = ap (λ (n : ℕ). seen.trace ++ option_to_list (option_map (λ (kind : TraceKind). record { line = n; kind = kind }) (kind_of line))) (same_number before line seen s) ∙ is_grown _ seen.trace _ (here Trace);
        there = λ t. is_some-map _ (kind_of line) ∙ good_form (length seen.trace) (is_some (kind_of line)) none;
      };
      schedule = no_gain Schedule before line (placed_event (place before line)) seen.schedule (here Schedule);
    }

event_grows : (before : List (List ℕ)) (line : List ℕ) (seen : Seen) → IsSeen before seen → (is_passed_over line || is_heading line) ≡ false → is_heading line ≡ false → seen.section ≡ Some Schedule → form_reason (length seen.schedule) (is_some (event_of (length seen.rows) line)) ≡ None → IsGrown before line seen (record (next seen) { schedule = schedule_after (length seen.rows) seen.schedule line })
unfolding schedule_after
event_grows before line seen s item plain section none =
    let here = λ (other : Section). counted_here before line Schedule other item (sym s.section ∙ section) in
    record {
      section = section_same before line seen s plain;
      order = order_same before line seen s plain;
      number = refl;
      rows = no_gain Subscribers before line (placed_row (place before line)) seen.rows (here Subscribers);
      trace = no_gain Trace before line (placed_trace_line (place before line)) seen.trace (here Trace);
      schedule = record {
        more = ap (λ (l : List Subscriber). seen.schedule ++ option_to_list (event_of (length l) line)) s.rows ∙ is_grown _ seen.schedule _ (here Schedule);
        there = λ t. rw (← s.rows) (good_form (length seen.schedule) (is_some (event_of (length seen.rows) line)) none);
      };
    }

-- ---- all lines

heading_more : (before : List (List ℕ)) (line : List ℕ) (seen : Seen) → IsSeen before seen → is_heading line ≡ true → (named : Option Section) → heading_of line ≡ named → next_heading_reason seen.section named ≡ None → IsGrown before line seen (record (next seen) { section = named })
heading_more before line seen s heading None is none = absurd cc
heading_more before line seen s heading (Some other) is none = elim (cases_Bool (is_late other seen.section)) [
  | inl t ↦ absurd (some_of (rw t at none))
  | inr f ↦ heading_grows before line seen other s heading is f
]

own_more : (before : List (List ℕ)) (line : List ℕ) (seen : Seen) → IsSeen before seen → is_passed_over line ≡ false → is_heading line ≡ false → (section : Option Section) → seen.section ≡ section → own_reason section (next seen) line ≡ None → IsGrown before line seen (own_after section (next seen) line)
own_more before line seen s item plain None is none = absurd cc
own_more before line seen s item plain (Some Subscribers) is none = row_grows before line seen s (rw item plain) plain is none
own_more before line seen s item plain (Some Trace) is none = trace_grows before line seen s (rw item plain) plain is none
own_more before line seen s item plain (Some Schedule) is none = event_grows before line seen s (rw item plain) plain is none

-- no long line, and which of the three lines it is
pub chain_none : (long passed heading : Bool) (reason : Reason) (first own : Option Reason) → (if long then Some reason else if passed then None else if heading then first else own) ≡ None → (passed ≡ false → heading ≡ true → first ≡ None) × (passed ≡ false → heading ≡ false → own ≡ None)
chain_none true passed heading reason first own e = absurd (some_of e)
chain_none false true heading reason first own e = (λ f t. absurd cc, λ f g. absurd cc)
chain_none false false true reason first own e = (λ f t. e, λ f g. absurd cc)
chain_none false false false reason first own e = (λ f t. absurd cc, λ f g. e)

pub by_line : (P : Seen → Type 0) (passed heading : Bool) (x y z : Seen) → (passed ≡ true → P x) → (passed ≡ false → heading ≡ true → P y) → (passed ≡ false → heading ≡ false → P z) → P (if passed then x else if heading then y else z)
by_line P true heading x y z f g h = f refl
by_line P false true x y z f g h = g refl refl
by_line P false false x y z f g h = h refl refl

pub seen_more : (before : List (List ℕ)) (line : List ℕ) (seen : Seen) → IsSeen before seen → reason_behind (next seen) line ≡ None → IsSeen (before ++ line ∷ []) (after (next seen) line)
unfolding reason_behind after
seen_more before line seen s none =
    let good : placed_reason (place before line) ≡ None = sym (same_reason before line seen s) ∙ none in
    let parts = chain_none (ltb most_octets (length line)) (is_passed_over line) (is_heading line) LineTooLong (next_heading_reason seen.section (heading_of line)) (own_reason seen.section (next seen) line) none in
    by_line (λ new. IsSeen (before ++ line ∷ []) new) (is_passed_over line) (is_heading line) (next seen) (record (next seen) { section = heading_of line }) (own_after seen.section (next seen) line)
    (λ passed. grown before line seen _ s good (passed_grows before line seen s passed))
    (λ item heading. grown before line seen _ s good (heading_more before line seen s heading (heading_of line) refl (parts.0 item heading)))
    (λ item plain. grown before line seen _ s good (own_more before line seen s item plain seen.section refl (parts.1 item plain)))
