-- The entries of a device, one by one.
use Rattle.std.proofs.Common.{◌≡◌, ℕ, suc, ◌+◌, ◌-◌, ◌≤◌, ◌<◌, ◌*◌, cond, List, [], ◌∷◌, ◌++◌, length, map, take, Option, Some, None, refl, sym, ap, ◌∙◌, subst, arith}
use Rattle.std.specs.Prelude.{option_map, option_and_then, position, slice_get}
use Rattle.std.specs.Option.{option_map_or}
use Rattle.std.proofs.lemmas.List.{length-append, length-map, length-take, take-map}
use Rattle.std.proofs.lemmas.List.Sums.{count_by-le-length, length-filter}
use Rattle.device_types.specs.declared.effect.Effect.{Effect}
use Rattle.device_types.specs.declared.effect.Effect.TheVariants as effects
use Rattle.device_types.specs.declared.event.Lane.{Lane}
use Rattle.device_types.specs.declared.event.Lane.TheVariants as lanes
use Rattle.device_types.specs.declared.input.Answer.{Answer}
use Rattle.device_types.specs.declared.input.Input.{Input}
use Rattle.device_types.specs.declared.input.Input.TheVariants as inputs
use Rattle.device_types.specs.declared.message.Message.{Message}
use Rattle.device_types.specs.declared.session.Session.{Session}
use Rattle.device_types.specs.declared.session.Stage.{Stage}
use Rattle.device_types.specs.declared.session.Stage.TheVariants as stages
use Rattle.device_types.specs.declared.step.Entry.{Entry}
use Rattle.device_types.specs.declared.step.Step.{Step}
use Rattle.device_types.specs.declared.subscriber.Subscriber.{Subscriber}
use Rattle.device_types.specs.Alone.{input_at, next_input, entry_of, with_next, alone_to, alone_of}
use Rattle.device_types.specs.Awaited.{awaited_in}
use Rattle.device_types.specs.Journal.{effects_on, effects_of, is_awaited, is_message, is_on, last_of, session_of, taken_count, pushed_count, awaited_on, awaited_behind, awaited_call, first_call}
use Rattle.device_types.specs.Numbers.{IsWithin}
use Rattle.device_types.specs.PeerAnswer.{answer_of}
use Rattle.device_types.specs.Session.{opening}
use Rattle.device_types.specs.StepTable.{step_of}
use Rattle.device_types.proofs.Alone.{awaits, fine_alone, made_all}
use Rattle.device_types.proofs.Courses.{few_pushed}
use Rattle.device_types.proofs.Few.{effects_few}
use Rattle.device_types.proofs.Journals.{effects_more, taken_more}
use Rattle.device_types.proofs.Prefixes.{short}
use Rattle.peer_calls.specs.Calls.{calls_of}
use Rattle.crash_run.specs.declared.course.Course.{Course}
use Rattle.crash_run.specs.declared.course.Peer.{Peer}
use Rattle.crash_run.specs.declared.course.Peer.TheVariants.{Gateway, Server}
use Rattle.crash_run.specs.Course.{peer_at, IsCourse}

abbrev pub lane_of_peer : Peer → Lane
lane_of_peer Gateway = lanes.Gateway
lane_of_peer Server = lanes.Subscriber

abbrev last_on : List Entry → Peer → Lane × ℕ
last_on J peer = (lane_of_peer peer, pushed_count (lane_of_peer peer) J)

-- ---- what comes next

awaits_at : (J : List Entry) (stage : Stage) (s : Session) → awaits J (awaited_in stage s) ≡ option_map (last_on J) (peer_at stage)
awaits_at J stages.AwaitVectors s = refl
awaits_at J stages.AwaitLocation s = refl
awaits_at J stages.AwaitCreate s = refl
awaits_at J stages.AwaitModify s = refl
awaits_at J stages.AwaitRelease s = refl
awaits_at J stages.AwaitDelete s = refl
awaits_at J stages.AwaitSecond s = refl
awaits_at J stages.AwaitSecondModify s = refl
awaits_at J _ s = refl

-- the call whose answer is awaited is the last one of the peer of the stage
awaited_is : (row : Subscriber) (ms : List Message) (v : ℕ) (o : Option Peer) → o ≡ peer_at (session_of (alone_to row ms v)).stage → awaited_call (alone_to row ms v) ≡ option_map (last_on (alone_to row ms v)) o
awaited_is row ms v o is =
    let J = alone_to row ms v in
    let s = session_of J in
    (fine_alone row ms v).awaiting ∙ awaits_at J s.stage s ∙ ap (option_map (last_on J)) (sym is)

-- its answer, by the calls that the peer accepted
pub answer_next : {C : Type 0} (f : C → Effect) (peer : Peer) (row : Subscriber) (ms : List Message) (v k : ℕ) (calls : List C) (answer : Answer) → Some peer ≡ peer_at (session_of (alone_to row ms v)).stage → map f calls ≡ effects_of (lane_of_peer peer) (alone_to row ms v) → k ≡ length calls → answer ≡ answer_of row (map f (take k calls)) → Some (inputs.Answer (lane_of_peer peer) k answer) ≡ next_input row ms (alone_to row ms v)
answer_next f peer row ms v k calls answer at same count is =
    let J = alone_to row ms v in
    let l = lane_of_peer peer in
    let number : k ≡ pushed_count l J = count ∙ sym (length-map calls f) ∙ ap length same in
    let given : answer ≡ answer_of row (take k (effects_of l J)) = is ∙ ap (answer_of row) (sym (take-map f k calls) ∙ ap (take k) same) in
    ap (λ a. Some (inputs.Answer l k a)) given
    ∙ ap (λ n. Some (inputs.Answer l n (answer_of row (take n (effects_of l J))))) number
    ∙ ap (input_at row ms J) (sym (awaited_is row ms v (Some peer) at))

pub message_next : (row : Subscriber) (ms : List Message) (v taken : ℕ) → None ≡ peer_at (session_of (alone_to row ms v)).stage → taken ≡ taken_count (alone_to row ms v) → option_map inputs.Message (slice_get ms taken) ≡ next_input row ms (alone_to row ms v)
message_next row ms v taken at is =
    ap (λ n. option_map inputs.Message (slice_get ms n)) is ∙ ap (input_at row ms (alone_to row ms v)) (sym (awaited_is row ms v None at))

-- ---- a call that is awaited has a number

on_numbered : (lane : Lane) (before : ℕ) (o : Option ℕ) (call : Lane × ℕ) → option_map (λ (i : ℕ). (lane, before + i + 1)) o ≡ Some call → 1 ≤ call.1
on_numbered lane before None call e = absurd (cc)
on_numbered lane before (Some i) call e = let same : before + i + 1 ≡ call.1 = cc in omega (arith, same)

first_numbered : (one other : Option (Lane × ℕ)) (call : Lane × ℕ) → (one ≡ Some call → 1 ≤ call.1) → (other ≡ Some call → 1 ≤ call.1) → first_call one other ≡ Some call → 1 ≤ call.1
first_numbered None other call first second e = second e
first_numbered (Some c) other call first second e = first e

last_numbered : (J : List Entry) (o : Option Entry) (call : Lane × ℕ) → option_and_then (λ (entry : Entry). awaited_behind (take (length J - 1) J) entry.step.effects) o ≡ Some call → 1 ≤ call.1
last_numbered J None call e = absurd (cc)
last_numbered J (Some entry) call e =
    let before = take (length J - 1) J in
    first_numbered (awaited_on lanes.Gateway (pushed_count lanes.Gateway before) entry.step.effects) (awaited_on lanes.Subscriber (pushed_count lanes.Subscriber before) entry.step.effects) call
    (on_numbered lanes.Gateway (pushed_count lanes.Gateway before) (position is_awaited (effects_on lanes.Gateway entry.step.effects)) call)
    (on_numbered lanes.Subscriber (pushed_count lanes.Subscriber before) (position is_awaited (effects_on lanes.Subscriber entry.step.effects)) call) e

-- so the peer has accepted one, and not many
pub some_accepted : {C : Type 0} (f : C → Effect) (peer : Peer) (row : Subscriber) (ms : List Message) (v k : ℕ) (calls : List C) → Some peer ≡ peer_at (session_of (alone_to row ms v)).stage → map f calls ≡ effects_of (lane_of_peer peer) (alone_to row ms v) → k ≡ length calls → v < 300000 → (1 ≤ k) × (k ≤ length calls) × (k < 268435456)
some_accepted f peer row ms v k calls at same count few =
    let J = alone_to row ms v in
    let l = lane_of_peer peer in
    let number : k ≡ pushed_count l J = count ∙ sym (length-map calls f) ∙ ap length same in
    let least = last_numbered J (last_of J) (l, pushed_count l J) (awaited_is row ms v (Some peer) at) in
    (omega (arith, number, least), omega (arith, count), omega (arith, number, few, few_pushed row ms l v))

pub few_accepted : {C : Type 0} (f : C → Effect) (l : Lane) (row : Subscriber) (ms : List Message) (v : ℕ) (calls : List C) (session : Session) (input : Input) (step : Step) → map f calls ≡ effects_of l (alone_to row ms v) → step ≡ step_of row session input → v < 300000 → length calls + length step.effects < 268435456
few_accepted f l row ms v calls session input step same made few =
    let number : length calls ≡ pushed_count l (alone_to row ms v) = sym (length-map calls f) ∙ ap length same in
    omega (arith, number, few, few_pushed row ms l v, ap (λ (t : Step). length t.effects) made, effects_few row session input)

pub few_taken : (row : Subscriber) (ms : List Message) (v taken : ℕ) → taken ≡ taken_count (alone_to row ms v) → taken ≤ v
few_taken row ms v taken is = omega (arith, is, count_by-le-length (λ (e : Entry). is_message e.input) (alone_to row ms v), short row ms v)

-- ---- one entry more

pub session_is : (row : Subscriber) (ms : List Message) (v : ℕ) (c : Course) (session : Session) → IsCourse row ms v c → session ≡ option_map_or (λ (e : Entry). e.step.session) (last_of c.entries) c.opening → session ≡ session_of (alone_to row ms v)
session_is row ms v c session is e =
    e ∙ ap (λ (es : List Entry). option_map_or (λ (x : Entry). x.step.session) (last_of es) c.opening) is.entries_are
    ∙ ap (λ (s : Session). option_map_or (λ (x : Entry). x.step.session) (last_of (alone_to row ms v)) s) is.opening_is

pub stage_known : (row : Subscriber) (ms : List Message) (v : ℕ) (c : Course) (session : Session) (o : Option Peer) → IsCourse row ms v c → session ≡ option_map_or (λ (e : Entry). e.step.session) (last_of c.entries) c.opening → o ≡ peer_at session.stage → o ≡ peer_at (session_of (alone_to row ms v)).stage
stage_known row ms v c session o is e at = at ∙ ap (λ (s : Session). peer_at s.stage) (session_is row ms v c session is e)

pub goes_on : (row : Subscriber) (ms : List Message) (v : ℕ) (before after : Course) (input : Input) (step : Step) → IsCourse row ms v before → Some input ≡ next_input row ms (alone_to row ms v) → step ≡ step_of row (session_of (alone_to row ms v)) input →
    after.opening ≡ before.opening → after.entries ≡ before.entries ++ record { input = input; step = step } ∷ [] → after.taken ≡ before.taken + cond (is_message input) 1 0 →
    map effects.Gateway (calls_of after.peers.gateway row.number) ≡ map effects.Gateway (calls_of before.peers.gateway row.number) ++ effects_on lanes.Gateway step.effects →
    map effects.Subscriber (calls_of after.peers.server row.number) ≡ map effects.Subscriber (calls_of before.peers.server row.number) ++ effects_on lanes.Subscriber step.effects →
    (length after.peers.gateway ≡ length before.peers.gateway) × (length after.peers.server ≡ length before.peers.server) → IsCourse row ms (suc v) after
goes_on row ms v before after input step is next made opening entries taken gateway server sizes =
    let J = alone_to row ms v in
    let e = entry_of row J input in
    let same : record { input = input; step = step } ≡ e = ap (λ (t : Step). as_entry input t) made in
    let grown : alone_to row ms (suc v) ≡ J ++ e ∷ [] = ap (λ (o : Option Input). with_next J (option_map (entry_of row J) o)) (sym next) in
    record {
      opening_is = opening ∙ is.opening_is;
      entries_are = entries ∙ ap (λ (es : List Entry). es ++ record { input = input; step = step } ∷ []) is.entries_are ∙ ap (λ (x : Entry). J ++ x ∷ []) same ∙ sym grown;
      taken_is = taken ∙ ap (λ n. n + cond (is_message input) 1 0) is.taken_is ∙ sym (taken_more J e) ∙ sym (ap taken_count grown);
      peers_have = record {
        gateway_within = subst (λ (n : ℕ). IsWithin n row.number) (sym sizes.0) is.peers_have.gateway_within;
        server_within = subst (λ (n : ℕ). IsWithin n row.number) (sym sizes.1) is.peers_have.server_within;
        gateway_is = gateway ∙ ap (λ (es : List Effect). es ++ effects_on lanes.Gateway step.effects) is.peers_have.gateway_is ∙ more lanes.Gateway J e step made ∙ sym (ap (effects_of lanes.Gateway) grown);
        server_is = server ∙ ap (λ (es : List Effect). es ++ effects_on lanes.Subscriber step.effects) is.peers_have.server_is ∙ more lanes.Subscriber J e step made ∙ sym (ap (effects_of lanes.Subscriber) grown);
      };
    }
  where
    as_entry : Input → Step → Entry
    as_entry input step = record { input = input; step = step }

    more : (l : Lane) (J : List Entry) (e : Entry) (step : Step) → step ≡ e.step → effects_of l J ++ effects_on l step.effects ≡ effects_of l (J ++ e ∷ [])
    more l J e step made = ap (λ (t : Step). effects_of l J ++ effects_on l t.effects) made ∙ sym (effects_more l J e)

-- ---- the end

pub ends_early : (row : Subscriber) (ms : List Message) (v : ℕ) (c : Course) → IsCourse row ms v c → v < 3 * length ms → next_input row ms (alone_to row ms v) ≡ None → c.entries ≡ alone_of row ms
ends_early row ms v c is low none = is.entries_are ∙ made_all row ms v (omega (arith, low)) none

pub ends_late : (row : Subscriber) (ms : List Message) (v : ℕ) (c : Course) → IsCourse row ms v c → v ≡ 3 * length ms → c.entries ≡ alone_of row ms
unfolding alone_of
ends_late row ms v c is end = is.entries_are ∙ ap (alone_to row ms) end

-- ---- the calls of one step

-- a call more may be offered while effects are left
pub room_left : {C : Type 0} (f : C → Effect) (l : Lane) (before now : List C) (made : List Effect) (i : ℕ) → map f now ≡ map f before ++ effects_on l (take i made) → i < length made → length before + length made < 268435456 → length now + 1 < 268435456
room_left f l before now made i same low few =
    let calls = ap length same in
    let parts = length-append (map f before) (effects_on l (take i made)) in
    let some = length-filter (is_on l) (take i made) in
    let most = count_by-le-length (is_on l) (take i made) in
    omega (arith, length-map now f, length-map before f, calls, parts, some, most, length-take i made, low, few)
