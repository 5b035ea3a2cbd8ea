-- What was seen is in form: base stations, the numbers of events, and how much there is.
use Rattle.std.proofs.Common.{◌≡◌, ℕ, ◌+◌, ◌<◌, ◌≤◌, Bool, true, false, ltb, leb, List, [], ◌∷◌, ◌++◌, length, Option, Some, None, Result, Ok, Err, refl, subst, inl, inr, arith}
use Rattle.std.specs.Prelude.{is_some, option_map, if◌then◌else◌, All}
use Rattle.std.specs.Option.{option_to_list}
use Rattle.std.specs.Result.{result_ok}
use Rattle.std.proofs.lemmas.Bool.{cases_Bool, ltb-true, leb-false}
use Rattle.std.proofs.lemmas.Option.{same_Some}
use Rattle.std.proofs.lemmas.List.{length-append}
use Rattle.std.proofs.lemmas.List.Elements.{All-nil, All-push, All-append, All-weaker}
use Rattle.echo_base.specs.declared.reason.Reason.{Reason}
use Rattle.echo_base.specs.declared.refusal.Refusal.{Refusal}
use Rattle.echo_base.specs.declared.reason.Reason.TheVariants.{LineTooLong, RepeatedImsi, RepeatedTmsi, TableFull}
use Rattle.device_types.specs.declared.event.Event.{Event}
use Rattle.device_types.specs.declared.event.Event.TheVariants as event
use Rattle.device_types.specs.declared.subscriber.Subscriber.{Subscriber}
use Rattle.subs_table.specs.Row.{row_of}
use Rattle.subs_table.specs.Table.{add_refusal, has_key, imsi_of, tmsi_of, most_rows}
use Rattle.case_form.specs.declared.case.TraceLine.{TraceLine}
use Rattle.case_form.specs.declared.case.TraceKind.{TraceKind}
use Rattle.case_form.specs.declared.section.Section.{Section}
use Rattle.case_form.specs.declared.section.Section.TheVariants.{Subscribers, Trace, Schedule}
use Rattle.case_form.specs.Case.{most_octets, row_reason, form_reason}
use Rattle.device_types.specs.Event.{IsInForm}
use Rattle.device_types.specs.Numbers.{IsWithin}
use Rattle.case_form.specs.Event.{event_of}
use Rattle.case_form.specs.Said.{most_lines, HasStation}
use Rattle.case_form.specs.Section.{is_passed_over, is_heading, heading_of}
use Rattle.case_form.specs.State.{Seen, unread, next, next_heading_reason, own_reason, reason_behind, rows_after, trace_after, schedule_after, own_after, after}
use Rattle.case_form.specs.Trace.{sent_of, notice_of, kind_from, kind_of}
use Rattle.case_form.proofs.EventLaws.{event_found}
use Rattle.case_form.proofs.StateLaws.{by_line, chain_none, some_of}
use Rattle.case_form.proofs.TraceLaws.{sent_found}

abbrev pub IsStation : TraceLine → Type 0
IsStation line = HasStation line.kind

pub record IsProper (seen : Seen) : Type 0 where
  pub rows_most : length seen.rows ≤ most_rows
  pub trace_most : length seen.trace ≤ most_lines
  pub schedule_most : length seen.schedule ≤ most_lines
  pub stations : All IsStation seen.trace
  pub events : All (IsInForm (length seen.rows)) seen.schedule

pub nothing_is_proper : IsProper unread
nothing_is_proper = record { rows_most = omega arith; trace_most = omega arith; schedule_most = omega arith; stations = All-nil IsStation; events = All-nil (IsInForm 0) }

-- ---- rows

last_test : (a b c : Bool) (x y z : Reason) → (if a then Some x else if b then Some y else if c then None else Some z) ≡ None → c ≡ true
last_test true b c x y z e = absurd (some_of e)
last_test false true c x y z e = absurd (some_of e)
last_test false false true x y z e = refl
last_test false false false x y z e = absurd (some_of e)

room_for : (rows : List Subscriber) (row : Subscriber) → add_refusal rows row ≡ None → length rows < most_rows
unfolding add_refusal
room_for rows row e =
    ltb-true (length rows) most_rows (last_test (has_key imsi_of rows row.imsi) (has_key tmsi_of rows row.tmsi) (ltb (length rows) most_rows) RepeatedImsi RepeatedTmsi TableFull e)

within_more : (rows more n : ℕ) → rows ≤ more → IsWithin rows n → IsWithin more n
within_more rows more n le w = (w.0, omega arith)

in_form_more : (rows more : ℕ) → rows ≤ more → (e : Event) → IsInForm rows e → IsInForm more e
in_form_more rows more le (event.Send d n) f = (within_more rows more d.0 le f.0, f.1)
in_form_more rows more le (event.Take r d n) f = (f.0, within_more rows more d.0 le f.1, f.2)
in_form_more rows more le (event.Answer r d l k) f = (f.0, within_more rows more d.0 le f.1, f.2, f.3)
in_form_more rows more le (event.Read r) f = f
in_form_more rows more le (event.Write r) f = f
in_form_more rows more le (event.Stop r) f = f
in_form_more rows more le (event.Reply d n) f = (within_more rows more d.0 le f.0, f.1)
in_form_more rows more le (event.Push d l k) f = (within_more rows more d.0 le f.0, f.1)
in_form_more rows more le (event.Effect d l k) f = (within_more rows more d.0 le f.0, f.1)
in_form_more rows more le (event.Settle d l k) f = (within_more rows more d.0 le f.0, f.1)

-- one row more, where it is not refused
rows_fit : (rows : List Subscriber) (row : Result Subscriber Refusal) → row_reason rows row ≡ None → length (rows ++ option_to_list (result_ok row)) ≤ most_rows
rows_fit rows (Ok row) e = omega (arith, length-append rows (row ∷ []), room_for rows row e)
rows_fit rows (Err x) e = absurd (some_of e)

row_stays : (seen : Seen) (line : List ℕ) → IsProper seen → row_reason seen.rows (row_of (length seen.rows + 1) line) ≡ None → IsProper (record seen { rows = rows_after seen.rows line })
unfolding rows_after
row_stays seen line p none =
    let more = option_to_list (result_ok (row_of (length seen.rows + 1) line)) in
    record {
      rows_most = rows_fit seen.rows (row_of (length seen.rows + 1) line) none;
      trace_most = p.trace_most;
      schedule_most = p.schedule_most;
      stations = p.stations;
      events = All-weaker (IsInForm (length seen.rows)) (IsInForm (length (seen.rows ++ more))) (in_form_more (length seen.rows) (length (seen.rows ++ more)) (omega (arith, length-append seen.rows more))) seen.schedule p.events;
    }

-- ---- lines of the trace and of the schedule

not_full : (count : ℕ) (good : Bool) → form_reason count good ≡ None → count < most_lines
not_full count good e = elim (cases_Bool (leb most_lines count)) [ inl t ↦ absurd (some_of (rw t at e)) | inr f ↦ leb-false most_lines count f ]

-- one item more, if there is one
length-more : {A : Type 0} (xs : List A) (o : Option A) (n : ℕ) → length xs < n → length (xs ++ option_to_list o) ≤ n
length-more xs None n h = omega (arith, length-append xs [])
length-more xs (Some x) n h = omega (arith, length-append xs (x ∷ []))

All-more_option : {A : Type 0} (P : A → Type 0) (xs : List A) (o : Option A) → All P xs → ((x : A) → o ≡ Some x → P x) → All P (xs ++ option_to_list o)
All-more_option P xs None all here = All-append P xs [] all (All-nil P)
All-more_option P xs (Some x) all here = All-push P xs x all (here x refl)

has_station : (line : List ℕ) (sent : Option (ℕ × List ℕ)) (notice : Option ℕ) → sent_of line ≡ sent → (kind : TraceKind) → kind_from sent notice ≡ Some kind → HasStation kind
has_station line (Some sent) notice is kind e = subst HasStation (same_Some _ kind e) (sent_found line sent is).0
has_station line None None is kind e = absurd cc
has_station line None (Some imsi) is kind e = subst HasStation (same_Some _ kind e) tt

stationed : (number : ℕ) (line : List ℕ) (kind : Option TraceKind) → kind_of line ≡ kind → (t : TraceLine) → option_map (λ (kind : TraceKind). record { line = number; kind = kind }) kind ≡ Some t → IsStation t
unfolding kind_of
stationed number line None is t e = absurd cc
stationed number line (Some kind) is t e = subst IsStation (same_Some _ t e) (has_station line (sent_of line) (notice_of line) refl kind is)

trace_stays : (seen : Seen) (line : List ℕ) → IsProper seen → form_reason (length seen.trace) (is_some (kind_of line)) ≡ None → IsProper (record seen { trace = trace_after seen.number seen.trace line })
unfolding trace_after
trace_stays seen line p none = record {
  rows_most = p.rows_most;
  trace_most = length-more seen.trace _ most_lines (not_full (length seen.trace) (is_some (kind_of line)) none);
  schedule_most = p.schedule_most;
  stations = All-more_option IsStation seen.trace _ p.stations (stationed seen.number line (kind_of line) refl);
  events = p.events;
}

event_stays : (seen : Seen) (line : List ℕ) → IsProper seen → form_reason (length seen.schedule) (is_some (event_of (length seen.rows) line)) ≡ None → IsProper (record seen { schedule = schedule_after (length seen.rows) seen.schedule line })
unfolding schedule_after
event_stays seen line p none = record {
  rows_most = p.rows_most;
  trace_most = p.trace_most;
  schedule_most = length-more seen.schedule (event_of (length seen.rows) line) most_lines (not_full (length seen.schedule) (is_some (event_of (length seen.rows) line)) none);
  stations = p.stations;
  events = All-more_option (IsInForm (length seen.rows)) seen.schedule (event_of (length seen.rows) line) p.events (λ e is. (event_found (length seen.rows) line e (omega (arith, p.rows_most)) is).0);
}

own_stays : (seen : Seen) (line : List ℕ) → IsProper seen → (section : Option Section) → own_reason section seen line ≡ None → IsProper (own_after section seen line)
own_stays seen line p None none = p
own_stays seen line p (Some Subscribers) none = row_stays seen line p none
own_stays seen line p (Some Trace) none = trace_stays seen line p none
own_stays seen line p (Some Schedule) none = event_stays seen line p none

with_next : (seen : Seen) → IsProper seen → IsProper (next seen)
with_next seen p = record { rows_most = p.rows_most; trace_most = p.trace_most; schedule_most = p.schedule_most; stations = p.stations; events = p.events }

with_section : (seen : Seen) (section : Option Section) → IsProper seen → IsProper (record seen { section = section })
with_section seen section p = record { rows_most = p.rows_most; trace_most = p.trace_most; schedule_most = p.schedule_most; stations = p.stations; events = p.events }

pub proper_more : (seen : Seen) (line : List ℕ) → IsProper seen → reason_behind (next seen) line ≡ None → IsProper (after (next seen) line)
unfolding reason_behind after
proper_more seen line p none =
    let parts = chain_none (ltb most_octets (length line)) (is_passed_over line) (is_heading line) LineTooLong (next_heading_reason seen.section (heading_of line)) (own_reason seen.section (next seen) line) none in
    by_line IsProper (is_passed_over line) (is_heading line) (next seen) (record (next seen) { section = heading_of line }) (own_after seen.section (next seen) line)
    (λ passed. with_next seen p)
    (λ item heading. with_section (next seen) (heading_of line) (with_next seen p))
    (λ item plain. own_stays (next seen) line (with_next seen p) seen.section (parts.1 item plain))
