-- What is told of a schedule grows by a line an event; and the events of a case are events of a floor that is open on it.
use Rattle.std.proofs.Common.{◌≡◌, ℕ, ◌+◌, ◌<◌, List, [], ◌∷◌, ◌++◌, length, take, get_or, sym, ap, subst, ◌∙◌, append_assoc, arith}
use Rattle.std.specs.Prelude.{All, Option, Some, map}
use Rattle.std.proofs.lemmas.List.{append-nil, map-append, length-map, length-take, take_more}
use Rattle.std.proofs.lemmas.List.Elements.{All-weaker}
use Rattle.device_types.specs.declared.event.Event.{Event}
use Rattle.device_types.specs.declared.event.Event.TheVariants.{Send, Take, Answer, Read, Write, Stop, Reply, Push, Effect, Settle}
use Rattle.device_types.specs.declared.event.EventAnswer.{EventAnswer}
use Rattle.device_types.specs.declared.message.Message.{Message}
use Rattle.device_types.specs.declared.subscriber.Subscriber.{Subscriber}
use Rattle.device_types.specs.Event.{IsInForm}
use Rattle.schedule_laws.specs.Answer.{IsEvent}
use Rattle.schedule_laws.specs.Counts.{Turn}
use Rattle.link_schedule.specs.Floor.{events_of, IsEventOn}
use Rattle.schedule_laws.specs.Promise.{setting}
use Rattle.schedule_laws.specs.Setting.{Setting}
use Rattle.report_text.specs.Transcript.{transcript_line}
use Rattle.echo_run.specs.Replay.{lines_from}

-- ---- one event more

lines_more : (n m : ℕ) (given : List EventAnswer) (a : EventAnswer) → m ≡ n + length given → lines_from n (given ++ a ∷ []) ≡ lines_from n given ++ transcript_line m a
lines_more n m [] a e = append-nil (transcript_line n a) ∙ ap (λ k. transcript_line k a) (omega (arith, e))
lines_more n m (b ∷ given) a e =
    ap (λ l. transcript_line n b ++ l) (lines_more (n + 1) m given a (omega (arith, e)))
    ∙ sym (append_assoc (transcript_line n b) (lines_from (n + 1) given) (transcript_line m a))

-- the event behind i others was given, and its line is there
pub one_told : (schedule : List Event) (given later : List Turn) (i : ℕ) (d : Event) (a : EventAnswer) (text more : List ℕ) → i < length schedule → events_of given ≡ take i schedule → text ≡ lines_from 1 (map (λ t. t.1) given) → later ≡ given ++ (get_or schedule i d, a) ∷ [] → more ≡ text ++ transcript_line (i + 1) a → (events_of later ≡ take (i + 1) schedule) × (more ≡ lines_from 1 (map (λ t. t.1) later))
one_told schedule given later i d a text more within before so_far taken then =
    let e = get_or schedule i d in
    let told = map (λ (t : Turn). t.1) given in
    let count = length-map given (λ t. t.1) in
    let events = length-map given (λ t. t.0) in
    let long : i + 1 ≡ 1 + length told = omega (arith, count, events, ap length before, length-take i schedule, within) in (
      ap events_of taken ∙ map-append (λ t. t.0) given ((e, a) ∷ []) ∙ ap (λ (xs : List Event). xs ++ e ∷ []) before ∙ sym (take_more schedule i d within),
      then
          ∙ ap (λ l. l ++ transcript_line (i + 1) a) so_far
          ∙ sym (lines_more 1 (i + 1) told a long)
          ∙ ap (lines_from 1) (sym (map-append (λ t. t.1) given ((e, a) ∷ [])))
          ∙ ap (λ (T : List Turn). lines_from 1 (map (λ t. t.1) T)) (sym taken),
    )

-- ---- the events of a case

is_event : (s : Setting) (e : Event) → IsInForm (length s.rows) e → IsEvent s e
is_event s (Send d n) i = (i.0, i.1.0)
is_event s (Take r d n) i = (i.0, i.1, i.2.0)
is_event s (Answer r d lane k) i = (i.0, i.1, i.2, i.3.0)
is_event s (Read r) i = i
is_event s (Write r) i = i
is_event s (Stop r) i = i
is_event s (Reply d n) i = (i.0, i.1.0)
is_event s (Push d lane k) i = (i.0, i.1.0)
is_event s (Effect d lane k) i = (i.0, i.1.0)
is_event s (Settle d lane k) i = (i.0, i.1.0)

pub case_events : (on : Option Setting) (rows : List Subscriber) (book : List (List Message)) (replicas : ℕ) (es : List Event) → on ≡ Some (setting rows book replicas) → All (IsInForm (length rows)) es → All (IsEventOn on) es
case_events on rows book replicas es e i =
    let s = setting rows book replicas in
    subst (λ (x : Option Setting). All (IsEventOn x) es) (sym e) (All-weaker (IsInForm (length rows)) (IsEvent s) (is_event s) es i)
