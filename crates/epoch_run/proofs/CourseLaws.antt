-- Events that are drawn are events of the streams; and a course goes on by one event.
use Rattle.std.proofs.Common.{◌≡◌, ◌==◌, ℕ, zero, suc, ◌+◌, ◌/◌, ◌^◌, ◌≤◌, Bool, true, false, cond, List, [], ◌∷◌, ◌++◌, length, refl, sym, ap, subst, ◌∙◌, arith}
use Rattle.std.specs.Prelude.{All}
use Rattle.std.proofs.lemmas.List.{length-append}
use Rattle.std.proofs.lemmas.List.Elements.{All-nil, All-push, All-get_or}
use Rattle.std.proofs.lemmas.Nat.{mod_below}
use Rattle.device_types.specs.Numbers.{IsWithin}
use Rattle.epoch_agents.specs.declared.event.EpochAnswer.{EpochAnswer}
use Rattle.epoch_agents.specs.declared.event.EpochAnswer.TheVariants as told
use Rattle.epoch_agents.specs.declared.event.EpochEvent.{EpochEvent}
use Rattle.epoch_agents.specs.declared.event.EpochEvent.TheVariants.{Send, Arrive, Learn}
use Rattle.epoch_agents.specs.declared.stream.Merged.{Merged}
use Rattle.epoch_agents.specs.declared.stream.Stream.{Stream}
use Rattle.epoch_agents.specs.Answer.{answer, turn, history, IsEvent, Lawful}
use Rattle.epoch_agents.specs.Counts.{Turn, is_committed, agent, merge}
use Rattle.epoch_agents.specs.World.{WorldState, turns_in}
use Rattle.epoch_agents.proofs.HistoryLaws.{history_more}
use Rattle.trace_gen.specs.Draws.{next_state, value}
use Rattle.epoch_run.specs.Drawn.{Drawn, Course, arrival_of, and_some, arrivals, send_drawn, first_arrival, arrival_drawn, learn_drawn, event_by, event_drawn, next_drawn, course_of}
use Rattle.epoch_run.specs.State.{AreDrawable, IsCourse, Takes, IsTold, next_of}
use Rattle.epoch_run.specs.Text.{answers_text}
use Rattle.report_text.specs.Epochs.{epoch_line}

-- ---- an event that is drawn

send_lawful : (streams : List Stream) (x : ℕ) → AreDrawable streams → IsEvent streams (send_drawn streams x).event
send_lawful streams x drawable =
    let below = mod_below (next_state x / 2 ^ 33) (length streams) drawable.some in
    ((omega arith, omega (arith, below)), omega arith)

arrival_lawful : (streams : List Stream) (arrivals : List EpochEvent) (x : ℕ) → AreDrawable streams → All (IsEvent streams) arrivals → IsEvent streams (arrival_drawn arrivals x).event
arrival_lawful streams [] x drawable all = ((omega arith, drawable.some), omega arith)
arrival_lawful streams (event ∷ events) x drawable all =
    All-get_or (IsEvent streams) (event ∷ events) (value (length (event ∷ events)) (next_state x)) first_arrival (mod_below (next_state x / 2 ^ 33) (length (event ∷ events)) (omega arith)) all

lawful_by : (kind : ℕ) (streams : List Stream) (arrivals : List EpochEvent) (i x : ℕ) → AreDrawable streams → All (IsEvent streams) arrivals → IsEvent streams (event_by kind streams arrivals i x).event
lawful_by kind streams arrivals i x drawable all = by (kind == 0) (kind == 1)
  where
    by : (a b : Bool) → IsEvent streams (cond a (send_drawn streams x) (cond b (arrival_drawn arrivals x) (learn_drawn i x))).event
    by true b = send_lawful streams x drawable
    by false true = arrival_lawful streams arrivals x drawable all
    by false false = tt

event_lawful : (streams : List Stream) (arrivals : List EpochEvent) (i x : ℕ) → AreDrawable streams → All (IsEvent streams) arrivals → IsEvent streams (event_drawn streams arrivals i x).event
unfolding event_drawn
event_lawful streams arrivals i x drawable all = lawful_by (value 3 (next_state x)) streams arrivals i (next_state x) drawable all

-- of streams and arrivals that were lent
pub drawn_lawful : (streams lent : List Stream) (arrivals may_arrive : List EpochEvent) (i x : ℕ) (e : EpochEvent) → lent ≡ streams → may_arrive ≡ arrivals → e ≡ (event_drawn lent may_arrive i x).event → AreDrawable streams → All (IsEvent streams) arrivals → IsEvent streams e
drawn_lawful streams lent arrivals may_arrive i x e s a is drawable all =
    let same : e ≡ (event_drawn streams arrivals i x).event = is ∙ ap (λ (ss : List Stream). (event_drawn ss may_arrive i x).event) s ∙ ap (λ (es : List EpochEvent). (event_drawn streams es i x).event) a in
    subst (IsEvent streams) (sym same) (event_lawful streams arrivals i x drawable all)

-- ---- what may arrive

arrival_right : (streams : List Stream) (turns : List Turn) (arrivals : List EpochEvent) (e : EpochEvent) (x : EpochAnswer) → IsEvent streams e → All (IsEvent streams) arrivals → All (IsEvent streams) (and_some arrivals (arrival_of turns (e, x)))
arrival_right streams turns arrivals (Send a n) told.Sent is all = All-push (IsEvent streams) arrivals (Arrive a (agent a turns).stamp n) all is
arrival_right streams turns arrivals (Send a n) _ is all = all
arrival_right streams turns arrivals (Arrive a stamp n) x is all = all
arrival_right streams turns arrivals (Learn i) x is all = all

-- a send changes no stamp, so it is the same behind the turn
arrival_behind : (turns : List Turn) (e : EpochEvent) (x : EpochAnswer) → arrival_of ((e, x) ∷ turns) (e, x) ≡ arrival_of turns (e, x)
arrival_behind turns (Send a n) told.Sent = refl
arrival_behind turns (Send a n) _ = refl
arrival_behind turns (Arrive a stamp n) x = refl
arrival_behind turns (Learn i) x = refl

-- ---- so many events

record IsRight (streams : List Stream) (turns : List Turn) : Type 0 where
  pub lawful : Lawful streams turns
  pub may_arrive : All (IsEvent streams) (arrivals turns)

turns_right : (streams : List Stream) (number n : ℕ) → AreDrawable streams → IsRight streams (course_of streams number n).turns
turns_right streams number zero drawable = record { lawful = tt; may_arrive = All-nil (IsEvent streams) }
turns_right streams number (suc n) drawable =
    let course = course_of streams number n in
    let before = turns_right streams number n drawable in
    let e = (next_drawn streams course).event in
    let is = event_lawful streams (arrivals course.turns) (length course.turns + 1) course.state drawable before.may_arrive in
    record {
      lawful = (is, refl, before.lawful);
      may_arrive = arrival_right streams course.turns (arrivals course.turns) e (answer streams course.turns e) is before.may_arrive;
    }

length_course : (streams : List Stream) (number n : ℕ) → length (course_of streams number n).turns ≡ n
length_course streams number zero = refl
length_course streams number (suc n) = let before = length_course streams number n in omega (arith, before)

-- ---- one event more

same_next : (streams old_streams : List Stream) (course : Course) (before : List EpochEvent) (n x : ℕ) → old_streams ≡ streams → before ≡ arrivals course.turns → n ≡ length course.turns → x ≡ course.state → event_drawn old_streams before (n + 1) x ≡ next_drawn streams course
same_next streams old_streams course before n x s b c y = rw (s, b, c, y) refl

-- the world's turns and what may arrive, behind an event that it took
record IsNext (streams : List Stream) (course : Course) (e : EpochEvent) (new : WorldState) (after : List EpochEvent) (given : EpochAnswer) : Type 0 where
  pub turns : turns_in new ≡ turn streams course.turns e
  pub may_arrive : after ≡ arrivals (turn streams course.turns e)
  pub given_is : given ≡ answer streams course.turns e

next_is : (streams : List Stream) (number n : ℕ) (old new : WorldState) (x : ℕ) (before after : List EpochEvent) (e d : EpochEvent) (given : EpochAnswer) → IsCourse streams number n old x before → Takes old new before after e given → e ≡ d → IsNext streams (course_of streams number n) d new after given
next_is streams number n old new x before after e d given is takes same =
    let course = course_of streams number n in
    let turns_old : turns_in old ≡ course.turns = is.turns in
    let given_is : given ≡ answer streams course.turns d = takes.answers.answered ∙ ap (λ (s : List Stream). answer s (turns_in old) e) is.of_streams ∙ ap (λ (ts : List Turn). answer streams ts e) turns_old ∙ ap (answer streams course.turns) same in
    let turns : turns_in new ≡ turn streams course.turns d =
    ap (λ (s : List Stream). history s new.events) (takes.answers.same ∙ is.of_streams)
    ∙ ap (history streams) takes.answers.more
    ∙ history_more streams old.events e
    ∙ ap (λ (ts : List Turn). turn streams ts e) (ap (λ (s : List Stream). history s old.events) (sym is.of_streams) ∙ turns_old)
    ∙ ap (turn streams course.turns) same in
    record {
      turns = turns;
      given_is = given_is;
      may_arrive = takes.arrives
          ∙ ap (λ (ts : List Turn). and_some before (arrival_of ts (e, given))) turns
          ∙ ap (λ (ev : EpochEvent). and_some before (arrival_of (turn streams course.turns d) (ev, given))) same
          ∙ ap (λ (g : EpochAnswer). and_some before (arrival_of (turn streams course.turns d) (d, g))) given_is
          ∙ ap (and_some before) (arrival_behind course.turns d (answer streams course.turns d))
          ∙ ap (λ (b : List EpochEvent). and_some b (arrival_of course.turns (d, answer streams course.turns d))) is.arrivals_are;
    }

-- a line more behind so many events
pub stepped : (streams : List Stream) (number n : ℕ) (old new : WorldState) (x y : ℕ) (before after : List EpochEvent) (text more : List ℕ) → AreDrawable streams → IsCourse streams number n old x before → text ≡ answers_text (course_of streams number n).turns → IsTold old new x y before after text more → IsCourse streams number (n + 1) new y after × (more ≡ answers_text (course_of streams number (n + 1)).turns)
stepped streams number n old new x y before after text more drawable is so_far told =
    let course = course_of streams number n in
    let long = length_course streams number n in
    let drawn : next_of old before x ≡ next_drawn streams course = same_next streams old.streams course before (length old.events) x is.of_streams is.arrivals_are (is.count ∙ sym long) is.state_is in
    let next = next_is streams number n old new x before after (next_of old before x).event (next_drawn streams course).event told.given is told.steps.takes (ap (λ (d : Drawn). d.event) drawn) in
    let on : n + 1 ≡ suc n = omega arith in
    let right = turns_right streams number (suc n) drawable in
    let one = length-append old.events ((next_of old before x).event ∷ []) in
    let later : IsCourse streams number (suc n) new y after = record {
      of_streams = told.steps.takes.answers.same ∙ is.of_streams;
      turns = next.turns;
      count = omega (arith, ap length told.steps.takes.answers.more, one, is.count);
      state_is = told.steps.state_is ∙ ap (λ (d : Drawn). d.state) drawn;
      arrivals_are = next.may_arrive;
      lawful = subst (All (IsEvent streams)) (sym next.may_arrive) right.may_arrive;
    } in
    let line : more ≡ answers_text (course_of streams number (suc n)).turns =
    told.line
    ∙ ap (λ (t : List ℕ). t ++ epoch_line (length old.events + 1) told.given) so_far
    ∙ ap (λ (k : ℕ). answers_text course.turns ++ epoch_line (k + 1) told.given) (is.count ∙ sym long)
    ∙ ap (λ (g : EpochAnswer). answers_text course.turns ++ epoch_line (length course.turns + 1) g) next.given_is in (
      subst (λ (k : ℕ). IsCourse streams number k new y after) (sym on) later,
      line ∙ ap (λ (k : ℕ). answers_text (course_of streams number k).turns) (sym on),
    )

-- ---- the merge

merge_within : (streams : List Stream) (turns : List Turn) → Lawful streams turns → All (λ entry. IsWithin (length streams) entry.a) (merge turns)
merge_within streams [] L = All-nil (λ entry. IsWithin (length streams) entry.a)
merge_within streams ((Arrive a stamp n, x) ∷ turns) L = by (is_committed x) (merge_within streams turns L.2)
  where
    by : (b : Bool) → All (λ entry. IsWithin (length streams) entry.a) (merge turns) → All (λ entry. IsWithin (length streams) entry.a) (cond b (merge turns ++ record { a = a; stamp = stamp; n = n } ∷ []) (merge turns))
    by true all = All-push (λ entry. IsWithin (length streams) entry.a) (merge turns) (record { a = a; stamp = stamp; n = n }) all L.0.0
    by false all = all
merge_within streams ((Send a n, x) ∷ turns) L = merge_within streams turns L.2
merge_within streams ((Learn i, x) ∷ turns) L = merge_within streams turns L.2

merge_few : (turns : List Turn) → length (merge turns) ≤ length turns
merge_few [] = omega arith
merge_few ((Arrive a stamp n, x) ∷ turns) = by (is_committed x) (merge_few turns)
  where
    by : (b : Bool) → length (merge turns) ≤ length turns → length (cond b (merge turns ++ record { a = a; stamp = stamp; n = n } ∷ []) (merge turns)) ≤ suc (length turns)
    by true few = let one = length-append (merge turns) (record { a = a; stamp = stamp; n = n } ∷ []) in omega (arith, few, one)
    by false few = omega (arith, few)
merge_few ((Send a n, x) ∷ turns) = let few = merge_few turns in omega (arith, few)
merge_few ((Learn i, x) ∷ turns) = let few = merge_few turns in omega (arith, few)

-- in a world behind so many events: the entries are of the streams, and there are no more of them than events
pub within_world : (streams lent : List Stream) (number n x : ℕ) (world : WorldState) (may_arrive : List EpochEvent) (merged : List Merged) → AreDrawable streams → IsCourse streams number n world x may_arrive → lent ≡ world.streams → merged ≡ merge (turns_in world) → All (λ entry. IsWithin (length lent) entry.a) merged
within_world streams lent number n x world may_arrive merged drawable is s m =
    let turns = (course_of streams number n).turns in
    let here = merge_within streams turns (turns_right streams number n drawable).lawful in
    subst (λ (k : ℕ). All (λ entry. IsWithin k entry.a) merged) (sym (ap length (s ∙ is.of_streams)))
    (subst (λ (es : List Merged). All (λ entry. IsWithin (length streams) entry.a) es) (sym (m ∙ ap merge is.turns)) here)

pub few_in_world : (streams : List Stream) (number n x : ℕ) (world : WorldState) (may_arrive : List EpochEvent) (merged : List Merged) → IsCourse streams number n world x may_arrive → merged ≡ merge (turns_in world) → length merged ≤ n
few_in_world streams number n x world may_arrive merged is m =
    let few = merge_few (course_of streams number n).turns in
    let long = length_course streams number n in
    omega (arith, few, long, ap length (m ∙ ap merge is.turns))
