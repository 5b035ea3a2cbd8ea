-- One more entry of a course.
use Rattle.std.proofs.Common.{◌≡◌, ℕ, suc, ◌+◌, ◌-◌, ◌≤◌, ◌<◌, ◌*◌, cond, List, [], ◌∷◌, ◌++◌, length, map, Option, Some, None, refl, sym, ap, ◌∙◌, subst, arith}
use Rattle.std.specs.Prelude.{option_map, slice_get}
use Rattle.std.specs.List.{count_by}
use Rattle.std.proofs.lemmas.List.{map-append, length-map}
use Rattle.std.proofs.lemmas.List.Sums.{count_by-le-length, length-filter}
use Rattle.device_types.specs.declared.effect.Effect.{Effect}
use Rattle.device_types.specs.declared.event.Lane.{Lane}
use Rattle.device_types.specs.declared.event.Lane.TheVariants as lanes
use Rattle.device_types.specs.declared.input.Answer.{Answer}
use Rattle.device_types.specs.declared.input.Input.{Input}
use Rattle.device_types.specs.declared.input.Input.TheVariants as inputs
use Rattle.device_types.specs.declared.message.Message.{Message}
use Rattle.device_types.specs.declared.session.Session.{Session}
use Rattle.device_types.specs.declared.session.Stage.{Stage}
use Rattle.device_types.specs.declared.session.Stage.TheVariants as stages
use Rattle.device_types.specs.declared.step.Entry.{Entry}
use Rattle.device_types.specs.declared.step.Step.{Step}
use Rattle.device_types.specs.declared.subscriber.Subscriber.{Subscriber}
use Rattle.device_types.specs.Acts.{made}
use Rattle.device_types.specs.Alone.{next_input, entry_of, with_next, alone_to, alone_of, is_created, created_count}
use Rattle.device_types.specs.Awaited.{awaited_in, awaited_by, lane_of}
use Rattle.device_types.specs.Journal.{session_of, is_on, is_message, taken_count, pushed_count}
use Rattle.device_types.specs.PeerAnswer.{answer_to}
use Rattle.device_types.specs.StepTable.{step_of}
use Rattle.device_types.proofs.Alone.{input_by, input_by_stage, fine_alone, created_more, made_all}
use Rattle.device_types.proofs.Courses.{few_pushed}
use Rattle.device_types.proofs.Few.{effects_few}
use Rattle.device_types.proofs.Journals.{session_more, taken_more, pushed_more}
use Rattle.device_types.proofs.Prefixes.{short}
use Rattle.device_machine.specs.declared.course.Course.{Course}
use Rattle.device_machine.specs.Course.{course_of, last_on, answer_for, input_from, input_for, noted, GoesOn}

-- ---- what the course knows

input_in : (row : Subscriber) (ms : List Message) (J : List Entry) (stage : Stage) (s : Session) → input_from ms (course_of J) (answer_for row (created_count J) (awaited_in stage s)) ≡ input_by row ms J (awaited_in stage s)
input_in row ms J stages.AwaitVectors s = refl
input_in row ms J _ s = refl

-- the course knows what comes next
input_known : (row : Subscriber) (ms : List Message) (v : ℕ) → input_for row ms (course_of (alone_to row ms v)) ≡ next_input row ms (alone_to row ms v)
input_known row ms v =
    let J = alone_to row ms v in
    let s = session_of J in
    input_in row ms J s.stage s ∙ sym (input_by_stage row ms J (fine_alone row ms v))

-- ---- one more entry

counted : (lane : Lane) (J : List Entry) (e : Entry) → pushed_count lane J + count_by (is_on lane) e.step.effects ≡ pushed_count lane (J ++ e ∷ [])
counted lane J e = let more = pushed_more lane J e in let same = length-filter (is_on lane) e.step.effects in omega arith

noted_is : (J : List Entry) (e : Entry) → noted (record (course_of J) { session = e.step.session }) e.input e.step.effects ≡ course_of (J ++ e ∷ [])
noted_is J e =
    rw (session_more J e, taken_more J e, created_more J e, ← counted lanes.Gateway J e, ← counted lanes.Subscriber J e) refl

-- the session took the step of the input that comes next
pub goes_on : (row : Subscriber) (ms : List Message) (v : ℕ) (c : Course) (input : Input) (s : Session) (es : List Effect) → c ≡ course_of (alone_to row ms v) → Some input ≡ input_for row ms c → made s es ≡ step_of row c.session input → GoesOn row ms v (noted (record c { session = s }) input es) (Some es)
goes_on row ms v c input s es is i t =
    let J = alone_to row ms v in
    let e = entry_of row J input in
    let n : next_input row ms J ≡ Some input = sym (input_known row ms v) ∙ ap (input_for row ms) (sym is) ∙ sym i in
    let step : e.step ≡ made s es = ap (λ d. step_of row d.session input) (sym is) ∙ sym t in
    let more : v + 1 ≡ suc v = omega arith in
    let next : alone_to row ms (v + 1) ≡ J ++ e ∷ [] = ap (alone_to row ms) more ∙ ap (λ o. with_next J (option_map (entry_of row J) o)) n in (
      ap (λ d. noted (record d { session = s }) input es) is
          ∙ ap (λ (made_of : Step). noted (record (course_of J) { session = made_of.session }) input made_of.effects) (sym step)
          ∙ noted_is J e
          ∙ ap course_of (sym next),
      (e, next, step),
    )

pub stops : (row : Subscriber) (ms : List Message) (v : ℕ) (c : Course) → c ≡ course_of (alone_to row ms v) → None ≡ input_for row ms c → GoesOn row ms v c None
stops row ms v c is i = (is, sym (input_known row ms v) ∙ ap (input_for row ms) (sym is) ∙ sym i)

-- ---- counts

pub created_low : (row : Subscriber) (ms : List Message) (v : ℕ) (c : Course) → c ≡ course_of (alone_to row ms v) → c.created ≤ v
created_low row ms v c is =
    let J = alone_to row ms v in
    let few = count_by-le-length (λ (x : Entry). is_created x.input) J in
    let less = short row ms v in
    let same : c.created ≡ created_count J = ap (λ d. d.created) is in
    omega arith

pub taken_low : (row : Subscriber) (ms : List Message) (v : ℕ) (c : Course) → c ≡ course_of (alone_to row ms v) → c.taken ≤ v
taken_low row ms v c is =
    let J = alone_to row ms v in
    let few = count_by-le-length (λ (x : Entry). is_message x.input) J in
    let less = short row ms v in
    let same : c.taken ≡ taken_count J = ap (λ d. d.taken) is in
    omega arith

pub gateway_low : (row : Subscriber) (ms : List Message) (v : ℕ) (c : Course) → c ≡ course_of (alone_to row ms v) → c.gateway ≤ 4 * v
gateway_low row ms v c is =
    let few = few_pushed row ms lanes.Gateway v in
    let same : c.gateway ≡ pushed_count lanes.Gateway (alone_to row ms v) = ap (λ d. d.gateway) is in
    omega arith

pub subscriber_low : (row : Subscriber) (ms : List Message) (v : ℕ) (c : Course) → c ≡ course_of (alone_to row ms v) → c.subscriber ≤ 4 * v
subscriber_low row ms v c is =
    let few = few_pushed row ms lanes.Subscriber v in
    let same : c.subscriber ≡ pushed_count lanes.Subscriber (alone_to row ms v) = ap (λ d. d.subscriber) is in
    omega arith

-- a step makes four effects at most
pub few_in : (row : Subscriber) (before after : Session) (input : Input) (es : List Effect) → made after es ≡ step_of row before input → length es ≤ 4
few_in row before after input es is = subst (λ (t : Step). length t.effects ≤ 4) (sym is) (effects_few row before input)

-- ---- the end

-- where no entry comes, there are no more
pub all_made : (row : Subscriber) (ms : List Message) (v : ℕ) → v < 3 * length ms → next_input row ms (alone_to row ms v) ≡ None → alone_to row ms v ≡ alone_of row ms
all_made row ms v low n = made_all row ms v (omega arith) n

pub all_late : (row : Subscriber) (ms : List Message) (v : ℕ) → v ≡ 3 * length ms → alone_to row ms v ≡ alone_of row ms
unfolding alone_of
all_late row ms v end = ap (alone_to row ms) end

-- one step more
pub steps_more : (row : Subscriber) (ms : List Message) (v : ℕ) (c : Course) (steps more : List Step) (s : Session) (es : List Effect) → steps ≡ map (λ (e : Entry). e.step) (alone_to row ms v) → GoesOn row ms v c (Some es) → s ≡ c.session → more ≡ steps ++ made s es ∷ [] → more ≡ map (λ (e : Entry). e.step) (alone_to row ms (v + 1))
steps_more row ms v c steps more s es so_far (is, (e, next, step)) same then =
    then
    ∙ ap (λ (xs : List Step). xs ++ made s es ∷ []) so_far
    ∙ ap (λ (t : Step). map (λ (x : Entry). x.step) (alone_to row ms v) ++ t ∷ []) (ap (λ (x : Session). made x es) same ∙ sym step)
    ∙ sym (map-append (λ (x : Entry). x.step) (alone_to row ms v) (e ∷ []))
    ∙ ap (map (λ (x : Entry). x.step)) (sym next)
