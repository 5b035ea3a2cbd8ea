-- What holds of each entry of Alone: its input is ready, its session and its effects are in their ranges; and of its messages.
use Rattle.std.proofs.Common.{◌≡◌, ℕ, zero, suc, ◌≤◌, ◌<◌, ◌+◌, ◌*◌, ⊎_elim, true, false, List, [], ◌∷◌, ◌++◌, length, take, get_or, replicate, Option, Some, None, All, lit≤, lit<, refl, sym, ap, ◌∙◌, subst, arith, append-nil, add-one}
use Rattle.std.specs.Prelude.{map, option_map, slice_get}
use Rattle.std.specs.List.{range_with_len}
use Rattle.std.proofs.Math.Seq.{take-suc}
use Rattle.std.proofs.lemmas.Bool.{eq-eqb, lt-leb, le-ltb}
use Rattle.std.proofs.lemmas.Grind.{flat_map-append}
use Rattle.std.proofs.lemmas.List.{take_all}
use Rattle.std.proofs.lemmas.List.Elements.{All-nil, All-replicate}
use Rattle.std.proofs.lemmas.List.FromFn.{get_or-range_with_len, length-range_with_len}
use Rattle.std.proofs.lemmas.List.Sums.{count_by-le-length, length-filter}
use Rattle.std.proofs.lemmas.Option.{slice_get_within, slice_get_cases, slice_get-map, slice_get-get_or, get_or_from_slice_get}
use Rattle.device_types.specs.declared.effect.Effect.{Effect}
use Rattle.device_types.specs.declared.event.Lane.{Lane}
use Rattle.device_types.specs.declared.event.Lane.TheVariants as lanes
use Rattle.device_types.specs.declared.input.Input.{Input}
use Rattle.device_types.specs.declared.input.Input.TheVariants as inputs
use Rattle.device_types.specs.declared.look.Look.TheVariants.{Ready}
use Rattle.device_types.specs.declared.message.Message.{Message}
use Rattle.device_types.specs.declared.session.Session.{Session}
use Rattle.device_types.specs.declared.step.Entry.{Entry}
use Rattle.device_types.specs.declared.subscriber.Subscriber.{Subscriber}
use Rattle.device_types.specs.Alone.{input_at, next_input, entry_of, with_next, alone_to, alone_of, is_created, created_count, messages_in, messages_of}
use Rattle.device_types.specs.Awaited.{awaited_by, lane_of}
use Rattle.device_types.specs.Cause.{IsCauseCode, cause_roots}
use Rattle.device_types.specs.Effect.{IsWritable, IsSent, IsConnected}
use Rattle.device_types.specs.Input.{IsInput}
use Rattle.device_types.specs.Journal.{session_of, taken_count, effects_of, pushed_count, is_on, awaited_call}
use Rattle.device_types.specs.Keys.{IsKey}
use Rattle.device_types.specs.Line.{number_of, IsNumbered}
use Rattle.device_types.specs.Look.{look_behind, same_lane, answer_look_behind}
use Rattle.device_types.specs.Message.{IsMessage}
use Rattle.device_types.specs.PeerAnswer.{answer_to, answer_of}
use Rattle.device_types.specs.Ready.{IsReady}
use Rattle.device_types.specs.Second.{MayBeOf}
use Rattle.device_types.specs.Session.{opening, IsSession}
use Rattle.device_types.specs.StepTable.{step_of}
use Rattle.device_types.specs.Subscriber.{IsSubscriber}
use Rattle.device_types.proofs.Alone.{input_by, input_by_stage, fine_alone, turn, Turn, Takes, Answers, took_message, took_answer, rank_of, rank_low, rises, alone_ends, Fine}
use Rattle.device_types.proofs.Connecting.{keeps_connection, sends_to_stations}
use Rattle.device_types.proofs.Entitled.{keeps_both}
use Rattle.device_types.proofs.Few.{effects_few}
use Rattle.device_types.proofs.Journals.{session_more, pushed_more}
use Rattle.device_types.proofs.Keeping.{keeps_ranges, keeps_cause, writes_effects}
use Rattle.device_types.proofs.Peers.{answer_ranged}
use Rattle.device_types.proofs.Prefixes.{short, prefix, entry_at}

-- ---- the input of an entry

-- the input that an entry was made of
pub record Made (row : Subscriber) (ms : List Message) (v : ℕ) (entry : Entry) : Type 0 where
  pub input : Input
  pub next : next_input row ms (alone_to row ms v) ≡ Some input
  pub entry_is : entry ≡ entry_of row (alone_to row ms v) input

made_from : (row : Subscriber) (ms : List Message) (v : ℕ) (entry : Entry) (o : Option Input) → next_input row ms (alone_to row ms v) ≡ o → option_map (entry_of row (alone_to row ms v)) o ≡ Some entry → Made row ms v entry
made_from row ms v entry None n h = absurd (cc)
made_from row ms v entry (Some input) n h = record { input = input; next = n; entry_is = cc }

pub made_at : (row : Subscriber) (ms : List Message) (v : ℕ) (entry : Entry) → slice_get (alone_of row ms) v ≡ Some entry → Made row ms v entry
made_at row ms v entry h =
    let J = alone_to row ms v in
    made_from row ms v entry (next_input row ms J) refl (entry_at row ms v (slice_get_within (alone_of row ms) v entry h) ∙ h)

added : (row : Subscriber) (ms : List Message) (v : ℕ) (input : Input) → next_input row ms (alone_to row ms v) ≡ Some input → alone_to row ms (suc v) ≡ alone_to row ms v ++ entry_of row (alone_to row ms v) input ∷ []
added row ms v input n = ap (λ o. with_next (alone_to row ms v) (option_map (entry_of row (alone_to row ms v)) o)) n

-- ---- messages

same_message : (o : Option Message) (m : Message) → option_map inputs.Message o ≡ Some (inputs.Message m) → o ≡ Some m
same_message None m h = absurd (cc)
same_message (Some x) m h = cc

took : (row : Subscriber) (ms : List Message) (J : List Entry) (input : Input) → Turn ms J (entry_of row J input) → messages_of J ≡ take (taken_count J) ms → messages_of (J ++ entry_of row J input ∷ []) ≡ take (taken_count (J ++ entry_of row J input ∷ [])) ms
took row ms J (inputs.Message m) t h =
    let e = entry_of row J (inputs.Message m) in
    ⊎_elim
    (λ (a : Takes ms J e).
    let n = taken_count J in
    let one : taken_count (J ++ e ∷ []) ≡ suc n = took_message J e a.message ∙ add-one n in
    let got = get_or_from_slice_get ms n m m (same_message (slice_get ms n) m a.found) in
    flat_map-append (λ (x : Entry). messages_in x.input) J (e ∷ [])
    ∙ ap (λ xs. xs ++ m ∷ []) h
    ∙ ap (λ x. take n ms ++ x ∷ []) (sym got)
    ∙ sym (take-suc ms n m a.more)
    ∙ ap (λ k. take k ms) (sym one))
    (λ (a : Answers J e). let no : true ≡ false = a.answer in absurd (cc))
    t
took row ms J (inputs.Answer lane k answer) t h =
    let e = entry_of row J (inputs.Answer lane k answer) in
    let same : taken_count J ≡ taken_count (J ++ e ∷ []) = let n = took_answer J e refl in omega arith in
    flat_map-append (λ (x : Entry). messages_in x.input) J (e ∷ []) ∙ append-nil (messages_of J) ∙ h ∙ ap (λ k. take k ms) same

took_with : (row : Subscriber) (ms : List Message) (J : List Entry) (o : Option Input) → next_input row ms J ≡ o → Fine row J → messages_of J ≡ take (taken_count J) ms → messages_of (with_next J (option_map (entry_of row J) o)) ≡ take (taken_count (with_next J (option_map (entry_of row J) o))) ms
took_with row ms J None n f h = h
took_with row ms J (Some input) n f h = took row ms J input (turn row ms J input n f).1 h

took_to : (row : Subscriber) (ms : List Message) (v : ℕ) → messages_of (alone_to row ms v) ≡ take (taken_count (alone_to row ms v)) ms
took_to row ms zero = refl
took_to row ms (suc v) = took_with row ms (alone_to row ms v) (next_input row ms (alone_to row ms v)) refl (fine_alone row ms v) (took_to row ms v)

-- where no input comes next, no answer is awaited, and no message is left
no_input : (row : Subscriber) (ms : List Message) (J : List Entry) (w : Option (Lane × ℕ)) → input_at row ms J w ≡ None → (w ≡ None) × (slice_get ms (taken_count J) ≡ None)
no_input row ms J None h = (refl, no_message (slice_get ms (taken_count J)) h)
  where
    no_message : (o : Option Message) → option_map inputs.Message o ≡ None → o ≡ None
    no_message None e = refl
    no_message (Some m) e = absurd (cc)
no_input row ms J (Some call) h = absurd (cc)

past_end : (ms : List Message) (i : ℕ) → slice_get ms i ≡ None → length ms ≤ i
past_end ms i h =
    ⊎_elim
    (λ (c : (m : Message) × (i < length ms) × (slice_get ms i ≡ Some m) × (get_or ms i m ≡ m)). let found = c.2 in absurd (cc))
    (λ (c : (length ms ≤ i) × (slice_get ms i ≡ None)). c.0)
    (slice_get_cases ms i).1

pub nothing_awaited : (row : Subscriber) (ms : List Message) → awaited_call (alone_of row ms) ≡ None
nothing_awaited row ms = (no_input row ms (alone_of row ms) (awaited_call (alone_of row ms)) (alone_ends row ms)).0

pub all_taken : (row : Subscriber) (ms : List Message) → messages_of (alone_of row ms) ≡ ms
unfolding alone_of
all_taken row ms =
    let all = alone_to row ms (3 * length ms) in
    let past = past_end ms (taken_count all) (no_input row ms all (awaited_call all) (alone_ends row ms)).1 in
    took_to row ms (3 * length ms) ∙ take_all (taken_count all) ms past

-- of three entries, one is of a message
rise : (row : Subscriber) (ms : List Message) (v : ℕ) → v < length (alone_of row ms) → 3 * taken_count (alone_to row ms v) + rank_of (alone_to row ms (suc v)) + 1 ≤ 3 * taken_count (alone_to row ms (suc v)) + rank_of (alone_to row ms v)
rise row ms v low =
    let J = alone_to row ms v in
    let at = slice_get-get_or (alone_of row ms) v (entry_of row J (inputs.Answer lanes.Down 0 (answer_of row []))) low in
    let m = made_at row ms v _ at in
    subst (λ (K : List Entry). 3 * taken_count J + rank_of K + 1 ≤ 3 * taken_count K + rank_of J) (sym (added row ms v m.input m.next))
    (rises ms J (entry_of row J m.input) (turn row ms J m.input m.next (fine_alone row ms v)).1)

pub three_entries : (row : Subscriber) (ms : List Message) (v : ℕ) → v + 3 ≤ length (alone_of row ms) → taken_count (take v (alone_of row ms)) < taken_count (take (v + 3) (alone_of row ms))
three_entries row ms v low =
    let one = rise row ms v (omega arith) in
    let two = rise row ms (suc v) (omega arith) in
    let three = rise row ms (suc (suc v)) (omega arith) in
    let top = rank_low (session_of (alone_to row ms v)).stage in
    let last : v + 3 ≡ suc (suc (suc v)) = omega arith in
    rw (prefix row ms v (omega arith), prefix row ms (v + 3) low, last) (omega arith)

-- ---- how many effects

few_with : (row : Subscriber) (ms : List Message) (lane : Lane) (v : ℕ) (J : List Entry) (o : Option Input) → pushed_count lane J ≤ 4 * v → pushed_count lane (with_next J (option_map (entry_of row J) o)) ≤ 4 * suc v
few_with row ms lane v J None h = omega arith
few_with row ms lane v J (Some input) h =
    let e = entry_of row J input in
    let more = pushed_more lane J e in
    let some = length-filter (is_on lane) e.step.effects in
    let less = count_by-le-length (is_on lane) e.step.effects in
    let few = effects_few row (session_of J) input in
    omega arith

pub few_pushed : (row : Subscriber) (ms : List Message) (lane : Lane) (v : ℕ) → pushed_count lane (alone_to row ms v) ≤ 4 * v
few_pushed row ms lanes.Down zero = lit≤ tt
few_pushed row ms lanes.Gateway zero = lit≤ tt
few_pushed row ms lanes.Subscriber zero = lit≤ tt
few_pushed row ms lane (suc v) = few_with row ms lane v (alone_to row ms v) (next_input row ms (alone_to row ms v)) (few_pushed row ms lane v)

-- ---- ready

numbered : (ms : List Message) (i : ℕ) (m : Message) → IsNumbered ms → slice_get ms i ≡ Some m → m.number ≡ 1 + i
numbered ms i m h g =
    let low = slice_get_within ms i m g in
    let within : i < length (range_with_len 1 (length ms)) = omega (arith, length-range_with_len 1 (length ms)) in
    let a : slice_get (map number_of ms) i ≡ Some m.number = slice_get-map number_of ms i ∙ ap (option_map number_of) g in
    let b = slice_get-get_or (range_with_len 1 (length ms)) i 0 within in
    let c = get_or-range_with_len 1 (length ms) i 0 low in
    let d : slice_get (map number_of ms) i ≡ slice_get (range_with_len 1 (length ms)) i = ap (λ xs. slice_get xs i) h in
    cc

calm : (window taken n : ℕ) → n ≡ 1 + taken → look_behind window taken None n ≡ Ready
calm window taken n h = rw (lt-leb (n + window) taken (omega arith), lt-leb n taken (omega arith), le-ltb (taken + 1) n (omega arith)) refl

one_lane : (lane : Lane) → same_lane lane lane ≡ true
one_lane lanes.Down = refl
one_lane lanes.Gateway = refl
one_lane lanes.Subscriber = refl

ready_message : (row : Subscriber) (ms : List Message) (window : ℕ) (J : List Entry) (o : Option Message) (input : Input) → IsNumbered ms → awaited_call J ≡ None → slice_get ms (taken_count J) ≡ o → option_map inputs.Message o ≡ Some input → IsReady window J input
ready_message row ms window J None input h w g e = absurd (cc)
ready_message row ms window J (Some m) input h w g e =
    let is : inputs.Message m ≡ input = cc in
    subst (λ (i : Input). IsReady window J i) is
    (ap (λ call. look_behind window (taken_count J) call m.number) w ∙ calm window (taken_count J) m.number (numbered ms (taken_count J) m h g))

ready_by : (row : Subscriber) (ms : List Message) (window : ℕ) (J : List Entry) (w : Option (Lane × ℕ)) (input : Input) → IsNumbered ms → awaited_call J ≡ w → input_at row ms J w ≡ Some input → IsReady window J input
ready_by row ms window J None input h w e = ready_message row ms window J (slice_get ms (taken_count J)) input h w refl e
ready_by row ms window J (Some call) input h w e =
    let answer = answer_of row (take call.1 (effects_of call.0 J)) in
    let is : inputs.Answer call.0 call.1 answer ≡ input = cc in
    let awaited : answer_look_behind (pushed_count call.0 J) (Some call) call.0 call.1 ≡ Ready = rw (one_lane call.0, eq-eqb call.1 call.1 refl) refl in
    subst (λ (i : Input). IsReady window J i) is (ap (λ c. answer_look_behind (pushed_count call.0 J) c call.0 call.1) w ∙ awaited)

pub entry_ready : (row : Subscriber) (ms : List Message) → IsNumbered ms → (window v : ℕ) (entry : Entry) → slice_get (alone_of row ms) v ≡ Some entry → IsReady window (take v (alone_of row ms)) entry.input
entry_ready row ms h window v entry g =
    let J = alone_to row ms v in
    let m = made_at row ms v entry g in
    let low = slice_get_within (alone_of row ms) v entry g in
    let ready = ready_by row ms window J (awaited_call J) m.input h refl m.next in
    let before = prefix row ms v (omega arith) in
    subst (λ (x : Entry). IsReady window (take v (alone_of row ms)) x.input) (sym m.entry_is)
    (subst (λ (K : List Entry). IsReady window K m.input) (sym before) ready)

-- ---- a second connection

both_with : (row : Subscriber) (ms : List Message) (J : List Entry) (o : Option Input) → MayBeOf row (session_of J) → MayBeOf row (session_of (with_next J (option_map (entry_of row J) o)))
both_with row ms J None h = h
both_with row ms J (Some input) h = subst (λ (s : Session). MayBeOf row s) (sym (session_more J (entry_of row J input))) (keeps_both row (session_of J) input h)

both_to : (row : Subscriber) (ms : List Message) (v : ℕ) → MayBeOf row (session_of (alone_to row ms v))
both_to row ms zero = (tt, tt)
both_to row ms (suc v) = both_with row ms (alone_to row ms v) (next_input row ms (alone_to row ms v)) (both_to row ms v)

pub both_entry : (row : Subscriber) (ms : List Message) (v : ℕ) (entry : Entry) → slice_get (alone_of row ms) v ≡ Some entry → MayBeOf row entry.step.session
both_entry row ms v entry g =
    let m = made_at row ms v entry g in
    subst (λ (e : Entry). MayBeOf row e.step.session) (sym m.entry_is) (keeps_both row (session_of (alone_to row ms v)) m.input (both_to row ms v))

-- ---- ranges

pub record Sound (s : Session) : Type 0 where
  pub ranges : IsSession s
  pub cause : IsCauseCode s.cause
  pub connected : IsConnected s

sound_opening : Sound opening
unfolding cause_roots
sound_opening = record {
  ranges = record {
    link = tt;
    area = (lit< tt, lit< tt);
    eea = lit< tt;
    eia = lit< tt;
    pti = lit< tt;
    res = lit≤ tt;
    res_octets = All-nil (λ octet. octet < 256);
    key = zero_key;
    dl = lit≤ tt;
    ul = lit≤ tt;
    sgw = lit< tt;
    teid = lit< tt;
    ip = lit< tt;
    side_addr = lit< tt;
    side_teid = lit< tt;
    cause = (lit< tt, lit< tt);
    radio = lit< tt;
    pti2 = lit< tt;
    sgw2 = lit< tt;
    teid2 = lit< tt;
    ip2 = lit< tt;
    side2_addr = lit< tt;
    side2_teid = lit< tt;
  };
  cause = (lit< tt, lit< tt);
  connected = tt;
}
  where
    zero_key : IsKey (replicate 32 0)
    zero_key = record { count = refl; octets = All-replicate (λ octet. octet < 256) 32 0 (lit< tt) }

-- ---- the inputs of the machine

found_message : (ms : List Message) (i : ℕ) (m : Message) → All IsMessage ms → slice_get ms i ≡ Some m → IsMessage m
found_message ms i m a g = subst (λ (x : Message). IsMessage x) (get_or_from_slice_get ms i m m g) (a i m (slice_get_within ms i m g))

ranged_message : (ms : List Message) (i : ℕ) (o : Option Message) (input : Input) → All IsMessage ms → slice_get ms i ≡ o → option_map inputs.Message o ≡ Some input → IsInput input
ranged_message ms i None input a g e = absurd (cc)
ranged_message ms i (Some m) input a g e = let is : inputs.Message m ≡ input = cc in subst (λ (x : Input). IsInput x) is (found_message ms i m a g)

ranged_by : (row : Subscriber) (ms : List Message) (J : List Entry) (cs : List Effect) (input : Input) → IsSubscriber row → All IsMessage ms → created_count J < 268435456 → input_by row ms J cs ≡ Some input → IsInput input
ranged_by row ms J [] input r a low e = ranged_message ms (taken_count J) (slice_get ms (taken_count J)) input a refl e
ranged_by row ms J (c ∷ cs) input r a low e =
    let answer = answer_to row (created_count J) c in
    let is : inputs.Answer (lane_of c) (pushed_count (lane_of c) J) answer ≡ input = cc in
    subst (λ (x : Input). IsInput x) is (answer_ranged row (created_count J) c r low)

ranged_input : (row : Subscriber) (ms : List Message) (v : ℕ) (input : Input) → IsSubscriber row → All IsMessage ms → v < 268435456 → next_input row ms (alone_to row ms v) ≡ Some input → IsInput input
ranged_input row ms v input r a low n =
    let J = alone_to row ms v in
    let few = count_by-le-length (λ (x : Entry). is_created x.input) J in
    let less = short row ms v in
    ranged_by row ms J (awaited_by (session_of J)) input r a (omega arith) (sym (input_by_stage row ms J (fine_alone row ms v)) ∙ n)

sound_step : (row : Subscriber) (s : Session) (input : Input) → Sound s → IsInput input → Sound (step_of row s input).session
sound_step row s input h i = record {
  ranges = keeps_ranges row s input h.ranges i;
  cause = keeps_cause row s input h.ranges h.cause i;
  connected = keeps_connection row s input h.ranges h.connected i;
}

sound_with : (row : Subscriber) (ms : List Message) (v : ℕ) (o : Option Input) → IsSubscriber row → All IsMessage ms → v < 268435456 → next_input row ms (alone_to row ms v) ≡ o → Sound (session_of (alone_to row ms v)) → Sound (session_of (with_next (alone_to row ms v) (option_map (entry_of row (alone_to row ms v)) o)))
sound_with row ms v None r a low n h = h
sound_with row ms v (Some input) r a low n h =
    let J = alone_to row ms v in
    subst (λ (s : Session). Sound s) (sym (session_more J (entry_of row J input))) (sound_step row (session_of J) input h (ranged_input row ms v input r a low n))

sound_to : (row : Subscriber) (ms : List Message) (v : ℕ) → IsSubscriber row → All IsMessage ms → v ≤ 268435456 → Sound (session_of (alone_to row ms v))
sound_to row ms zero r a low = sound_opening
sound_to row ms (suc v) r a low = sound_with row ms v (next_input row ms (alone_to row ms v)) r a (omega arith) refl (sound_to row ms v r a (omega arith))

-- an entry of Alone
pub record SoundEntry (row : Subscriber) (entry : Entry) : Type 0 where
  pub session : Sound entry.step.session
  pub input : IsInput entry.input
  pub writable : All (IsWritable row) entry.step.effects
  pub sent : All IsSent entry.step.effects

pub few_entries : (row : Subscriber) (ms : List Message) → length (alone_of row ms) ≤ 3 * length ms
unfolding alone_of
few_entries row ms = short row ms (3 * length ms)

pub sound_entry : (row : Subscriber) (ms : List Message) → IsSubscriber row → All IsMessage ms → length ms ≤ 100000 → (v : ℕ) (entry : Entry) → slice_get (alone_of row ms) v ≡ Some entry → SoundEntry row entry
sound_entry row ms r a count v entry g =
    let J = alone_to row ms v in
    let s = session_of J in
    let m = made_at row ms v entry g in
    let within = slice_get_within (alone_of row ms) v entry g in
    let few = few_entries row ms in
    let low : v < 268435456 = omega arith in
    let before = sound_to row ms v r a (omega arith) in
    let i = ranged_input row ms v m.input r a low m.next in
    subst (λ (e : Entry). SoundEntry row e) (sym m.entry_is) (record {
      session = sound_step row s m.input before i;
      input = i;
      writable = writes_effects row s m.input before.ranges before.cause (both_to row ms v) i;
      sent = sends_to_stations row s m.input before.ranges before.connected i;
    })

pub sound_session : (row : Subscriber) (ms : List Message) → IsSubscriber row → All IsMessage ms → length ms ≤ 100000 → (v : ℕ) (entry : Entry) → slice_get (alone_of row ms) v ≡ Some entry → IsSession entry.step.session
sound_session row ms r a count v entry g = (sound_entry row ms r a count v entry g).session.ranges

pub sound_cause : (row : Subscriber) (ms : List Message) → IsSubscriber row → All IsMessage ms → length ms ≤ 100000 → (v : ℕ) (entry : Entry) → slice_get (alone_of row ms) v ≡ Some entry → IsCauseCode entry.step.session.cause
sound_cause row ms r a count v entry g = (sound_entry row ms r a count v entry g).session.cause

pub sound_connection : (row : Subscriber) (ms : List Message) → IsSubscriber row → All IsMessage ms → length ms ≤ 100000 → (v : ℕ) (entry : Entry) → slice_get (alone_of row ms) v ≡ Some entry → IsConnected entry.step.session
sound_connection row ms r a count v entry g = (sound_entry row ms r a count v entry g).session.connected

pub sound_input : (row : Subscriber) (ms : List Message) → IsSubscriber row → All IsMessage ms → length ms ≤ 100000 → (v : ℕ) (entry : Entry) → slice_get (alone_of row ms) v ≡ Some entry → IsInput entry.input
sound_input row ms r a count v entry g = (sound_entry row ms r a count v entry g).input

pub sound_writable : (row : Subscriber) (ms : List Message) → IsSubscriber row → All IsMessage ms → length ms ≤ 100000 → (v : ℕ) (entry : Entry) → slice_get (alone_of row ms) v ≡ Some entry → All (IsWritable row) entry.step.effects
sound_writable row ms r a count v entry g = (sound_entry row ms r a count v entry g).writable

pub sound_sent : (row : Subscriber) (ms : List Message) → IsSubscriber row → All IsMessage ms → length ms ≤ 100000 → (v : ℕ) (entry : Entry) → slice_get (alone_of row ms) v ≡ Some entry → All IsSent entry.step.effects
sound_sent row ms r a count v entry g = (sound_entry row ms r a count v entry g).sent

pub ruleset sound = (sound_session, sound_cause, sound_connection, sound_input, sound_writable, sound_sent)
