-- What a floor told of a schedule once it has settled, and what an exact floor told.
use Rattle.std.proofs.Common.{◌≡◌, ℕ, Bool, true, List, [], ◌∷◌, ◌++◌, length, refl, sym, ap, subst, ◌∙◌}
use Rattle.std.specs.Prelude.{map, reverse, Option, Some, String}
use Rattle.std.specs.declared.alloc.Global.{Global}
use mathlib.Core.List.{reverse_aux}
use Rattle.std.proofs.lemmas.Bool.{false_from_ne_true}
use Rattle.std.proofs.lemmas.List.{map-append}
use Rattle.device_types.specs.declared.event.Event.{Event}
use Rattle.device_types.specs.declared.event.EventAnswer.{EventAnswer}
use Rattle.device_types.specs.declared.finals.DeviceEnd.{DeviceEnd}
use Rattle.device_types.specs.declared.message.Message.{Message}
use Rattle.device_types.specs.declared.subscriber.Subscriber.{Subscriber}
use Rattle.device_machine.specs.Ends.{finals_of}
use Rattle.entry_edge.specs.Trace.{Turn as Admission, book_of, refused_of}
use Rattle.schedule_laws.specs.Answer.{history}
use Rattle.schedule_laws.specs.Counts.{Turn}
use Rattle.link_schedule.specs.Floor.{events_of, AreAnswered, EndsOn, AreEndsOn}
use Rattle.schedule_laws.specs.Lists.{Begins}
use Rattle.link_schedule.specs.Own.{setting_by, given_by, ends_by, IsWhole, IsWholeByEnds}
use Rattle.schedule_laws.specs.Promise.{setting}
use Rattle.schedule_laws.specs.Setting.{Setting}
use Rattle.link_schedule.specs.World.{WorldState}
use Rattle.case_form.specs.Case.{rows_of, trace_of}
use Rattle.case_form.specs.Lines.{lines_of}
use Rattle.entry_edge.specs.Trace as admission
use Rattle.report_text.specs.Final.{final_text}
use Rattle.report_text.specs.Summary.{summary_line}
use Rattle.echo_run.specs.Answer.{replay_of, Ran, IsWithoutFloor}
use Rattle.command_words.specs.Command.{command_of}
use Rattle.echo_run.specs.Replay.{setting_of, lines_from, transcript_of, IsRun}
use Rattle.echo_run.specs.Summary.{made_replicas, scheduled_of, summary_by}
use Rattle.top_calls.specs.Summary.{summary_of}
use Rattle.echo_run.specs.Top.{Tells}
use Rattle.command_words.specs.declared.command.Command.{Command}
use Rattle.command_words.specs.declared.command.Command.TheVariants.{Plain, Replay, Show, S11, S6a, Make, Epochs, Crash}

-- ---- what was given first is still there first

events_first : (first later : List Turn) (schedule : List Event) → events_of first ≡ schedule → Begins first later → Begins schedule (events_of later)
events_first first later schedule e b =
    (events_of b.0, ap (λ es. es ++ events_of b.0) (sym e) ∙ sym (map-append (λ t. t.0) first b.0) ∙ ap events_of b.1)

-- ---- the ends

ends_at : (s : Setting) (on : Option Setting) (exact : Bool) (ends : List DeviceEnd) → on ≡ Some s → AreEndsOn on exact ends → EndsOn s exact ends
ends_at s on exact ends e are = subst (λ (x : Option Setting). AreEndsOn x exact ends) e are

-- ---- the run

pub is_run : (rows : List Subscriber) (H : List Admission) (schedule : List Event) (replicas : ℕ) (book : List (List Message)) (exact : Bool) (on : Option Setting) (first later : List Turn) (ends : List DeviceEnd) → book ≡ book_of (length rows) H → on ≡ Some (setting rows book replicas) → events_of first ≡ schedule → Begins first later → AreEndsOn on exact ends → IsRun rows H schedule replicas exact on later ends
is_run rows H schedule replicas book exact on first later ends is e given b are = record {
  of_case = e ∙ ap (λ (x : List (List Message)). Some (setting rows x replicas)) is;
  schedule_first = events_first first later schedule given b;
  exact_ends = λ so. (ends_at (setting rows book replicas) on exact ends e are).definition so ∙ ap (finals_of rows) is;
}

-- ---- an exact floor

turned : (S T : List Turn) → map (λ t. t.1) (reverse_aux S T) ≡ reverse_aux (map (λ t. t.1) S) (map (λ t. t.1) T)
turned [] T = refl
turned (t ∷ S) T = turned S (t ∷ T)

pub exactly_told : (rows : List Subscriber) (H : List Admission) (schedule : List Event) (replicas : ℕ) (first : List Turn) (ends : List DeviceEnd) (text : List ℕ) → events_of first ≡ schedule → AreAnswered (setting_of rows H replicas) first → ends ≡ finals_of rows (book_of (length rows) H) → text ≡ lines_from 1 (map (λ t. t.1) first) ++ final_text rows (refused_of H) ends → text ≡ replay_of rows H schedule replicas
unfolding transcript_of
exactly_told rows H schedule replicas first ends text given are same is =
    let s = setting_of rows H replicas in
    let same_turns = are ∙ ap (λ (es : List Event). reverse (history s es)) given in
    is
    ∙ ap (λ (fs : List DeviceEnd). lines_from 1 (map (λ t. t.1) first) ++ final_text rows (refused_of H) fs) same
    ∙ ap (λ (T : List Turn). lines_from 1 (map (λ t. t.1) T) ++ final_text rows (refused_of H) (finals_of rows (book_of (length rows) H))) same_turns
    ∙ ap (λ (told : List EventAnswer). lines_from 1 told ++ final_text rows (refused_of H) (finals_of rows (book_of (length rows) H))) (turned (history s schedule) [])

pub exactly_summed : (rows : List Subscriber) (H : List Admission) (schedule : List Event) (first : List Turn) (ends : List DeviceEnd) (text : List ℕ) → events_of first ≡ schedule → AreAnswered (setting_of rows H made_replicas) first → ends ≡ finals_of rows (book_of (length rows) H) → text ≡ summary_line (summary_of (book_of (length rows) H) (refused_of H) (Some (scheduled_of (map (λ t. t.1) first))) ends) → text ≡ summary_by rows H schedule
exactly_summed rows H schedule first ends text given are same is =
    let s = setting_of rows H made_replicas in
    let book = book_of (length rows) H in
    let same_turns = are ∙ ap (λ (es : List Event). reverse (history s es)) given in
    is
    ∙ ap (λ (fs : List DeviceEnd). summary_line (summary_of book (refused_of H) (Some (scheduled_of (map (λ t. t.1) first))) fs)) same
    ∙ ap (λ (T : List Turn). summary_line (summary_of book (refused_of H) (Some (scheduled_of (map (λ t. t.1) T))) (finals_of rows book))) same_turns
    ∙ ap (λ (told : List EventAnswer). summary_line (summary_of book (refused_of H) (Some (scheduled_of told)) (finals_of rows book))) (turned (history s schedule) [])

-- ---- a world of its own

-- the world on which a schedule was run, and of which the ends were told, is whole
pub whole_world : (words : List (String Global)) (command : Command) (before after : Option (List ℕ)) (o : Option WorldState) (text : List ℕ) → command_of words ≡ Some command → (IsWithoutFloor command → ⊥) → Tells words before after true (setting_by o) (given_by o) (ends_by o) text → IsWholeByEnds o → IsWhole o
unfolding Ran
whole_world words Plain before after o text is runs told whole = absurd (runs tt)
whole_world words (Replay replicas) before after o text is runs told whole =
    let same : told.command ≡ Replay replicas = cc in
    let ran = subst (λ (c : Command). Ran c told.octets true (setting_by o) (given_by o) (ends_by o)) same told.ran refl in
    let rows = rows_of (lines_of told.octets) in
    whole (setting_of rows (admission.history rows (trace_of (lines_of told.octets))) replicas) ran.of_case (ran.exact_ends refl)
whole_world words (Show protocol) before after o text is runs told whole = absurd (runs tt)
whole_world words S11 before after o text is runs told whole = absurd (runs tt)
whole_world words S6a before after o text is runs told whole = absurd (runs tt)
whole_world words (Make number devices rounds wanted) before after o text is runs told whole =
    let same : told.command ≡ Make number devices rounds wanted = cc in
    let ran = subst (λ (c : Command). Ran c told.octets true (setting_by o) (given_by o) (ends_by o)) same told.ran (false_from_ne_true wanted runs) in
    let rows = rows_of (lines_of told.octets) in
    whole (setting_of rows (admission.history rows (trace_of (lines_of told.octets))) made_replicas) ran.of_case (ran.exact_ends refl)
whole_world words (Epochs device number events) before after o text is runs told whole = absurd (runs tt)
whole_world words (Crash after_calls) before after o text is runs told whole = absurd (runs tt)
