-- What a replica that has read may write.
use Rattle.std.proofs.Common.{◌≡◌, ◌==◌, ℕ, ◌+◌, ◌-◌, ◌≤◌, ◌&&◌, Bool, true, false, cond, List, [], ◌∷◌, length, take, drop, Option, Some, None, refl, sym, ap, ◌∙◌, subst, arith, length-append}
use Rattle.std.specs.Prelude.{nat_le, nat_lt, option_map, slice_get, IsSomeAnd}
use Rattle.std.proofs.lemmas.Grind.{common_steps, flat_map-append}
use Rattle.std.proofs.lemmas.List.{take-append-le, take-append-drop, take_all, length-take}
use Rattle.std.proofs.lemmas.Option.{some_pair_parts}
use Rattle.device_types.specs.declared.effect.Effect.{Effect}
use Rattle.device_types.specs.declared.event.Lane.{Lane}
use Rattle.device_types.specs.declared.event.Lane.TheVariants as lanes
use Rattle.device_types.specs.declared.input.Answer.{Answer}
use Rattle.device_types.specs.declared.input.Input.{Input}
use Rattle.device_types.specs.declared.input.Input.TheVariants as inputs
use Rattle.device_types.specs.declared.look.Look.{Look}
use Rattle.device_types.specs.declared.look.Look.TheVariants.{Ready, Repeat, Settled, Ahead, Waiting, Old, NotAwaited}
use Rattle.device_types.specs.declared.message.Message.{Message}
use Rattle.device_types.specs.declared.step.Entry.{Entry}
use Rattle.device_types.specs.declared.subscriber.DeviceId.{DeviceId}
use Rattle.device_types.specs.declared.subscriber.Subscriber.{Subscriber}
use Rattle.device_types.specs.Alone.{input_at, next_input, entry_of, alone_to, alone_of}
use Rattle.device_types.specs.Awaited.{awaited_by, lane_of}
use Rattle.device_types.specs.Journal.{version_of, session_of, effects_on, effects_of, pushed_count, taken_count, awaited_call}
use Rattle.device_types.specs.Look.{unless_awaited, same_lane, is_call}
use Rattle.device_types.specs.PeerAnswer.{answer_of}
use Rattle.device_types.proofs.Alone.{awaits, fine_alone}
use Rattle.device_types.proofs.Prefixes.{is_alone, prefix}
use Rattle.replica_worker.specs.declared.hand.Hand.{Hand}
use Rattle.replica_worker.specs.declared.hand.Hand.TheVariants as hands
use Rattle.replica_worker.specs.Hands.{CanBeRead, step_at, hand_of, hand_after}
use Rattle.replica_worker.specs.Writes.{IsOwnInput, IsOwn, OwnsHeld, MayWrite}
use Rattle.session_store.specs.declared.asked.Asked.{Asked}
use Rattle.session_store.specs.AloneLaw.{lawful_is_alone}
use Rattle.session_store.specs.Charter.{CharterState, alone_with, follows_alone}
use Rattle.session_store.specs.Law.{window, IsLawful}
use Rattle.session_store.specs.Rows.{IsDevice, Begins}
use Rattle.session_store.specs.Seen.{IsAsked, asked_of, look_to}

-- ---- where more is known

take_still : (xs ys : List Entry) (n : ℕ) → Begins xs ys → n ≤ length xs → (n ≤ length ys) × (take n ys ≡ take n xs)
take_still xs ys n b low =
    let more = length-append xs b.0 in
    (rw b.1 (omega arith), rw b.1 (take-append-le n xs b.0 low))

pub may_still : (charter : CharterState) (devices : ℕ) (known more : ℕ → List Entry) (hand : Hand) → ((i : ℕ) → Begins (known i) (more i)) → MayWrite charter devices known hand → MayWrite charter devices more hand
may_still charter devices known more hands.Empty b m = tt
may_still charter devices known more (hands.Taken d input) b m = tt
may_still charter devices known more (hands.Ready d version entry) b m =
    let t = take_still (known d.0) (more d.0) version (b d.0) m.within in record {
      device = m.device;
      within = t.0;
      law = subst (λ (J : List Entry). follows_alone charter d.0 J entry) (sym t.1) m.law;
    }

-- ---- an input for which the row is ready

ready_from : (b1 b2 b3 : Bool) (n taken : ℕ) (call : Option (Lane × ℕ)) → cond b1 (Settled n) (cond b2 (Repeat n) (cond b3 (Ahead taken) (unless_awaited call))) ≡ Ready → (b2 ≡ false) × (b3 ≡ false) × (call ≡ None)
ready_from true b2 b3 n taken call h = absurd (cc)
ready_from false true b3 n taken call h = absurd (cc)
ready_from false false true n taken call h = absurd (cc)
ready_from false false false n taken None h = (refl, refl, refl)
ready_from false false false n taken (Some call) h = absurd (cc)

next_number : (n taken : ℕ) → nat_le n taken ≡ false → nat_lt (taken + 1) n ≡ false → n ≡ taken + 1
next_number n taken a b = grind (arith, common_steps)

-- it is the next message, and no answer is awaited
pub ready_message : (journal : List Entry) (message : Message) → look_to journal (asked_of (inputs.Message message)) ≡ Ready → (message.number ≡ taken_count journal + 1) × (awaited_call journal ≡ None)
ready_message journal message h =
    let taken = taken_count journal in
    let n = message.number in
    let r = ready_from (nat_le (n + window) taken) (nat_le n taken) (nat_lt (taken + 1) n) n taken (awaited_call journal) h in
    (next_number n taken r.0 r.1, r.2)

answer_from : (b1 b2 : Bool) (lane : Lane) (k pushed : ℕ) → cond b1 Ready (cond b2 (NotAwaited pushed) (Old lane k)) ≡ Ready → b1 ≡ true
answer_from true b2 lane k pushed h = refl
answer_from false true lane k pushed h = absurd (cc)
answer_from false false lane k pushed h = absurd (cc)

both : (b c : Bool) → (b && c) ≡ true → (b ≡ true) × (c ≡ true)
both true c h = (refl, h)
both false c h = absurd (cc)

same : (a b : Lane) → same_lane a b ≡ true → a ≡ b
same lanes.Down lanes.Down h = refl
same lanes.Down lanes.Gateway h = absurd (cc)
same lanes.Down lanes.Subscriber h = absurd (cc)
same lanes.Gateway lanes.Down h = absurd (cc)
same lanes.Gateway lanes.Gateway h = refl
same lanes.Gateway lanes.Subscriber h = absurd (cc)
same lanes.Subscriber lanes.Down h = absurd (cc)
same lanes.Subscriber lanes.Gateway h = absurd (cc)
same lanes.Subscriber lanes.Subscriber h = refl

number : (m k : ℕ) → (m == k) ≡ true → m ≡ k
number m k h = grind (arith, common_steps)

call_is : (call : Option (Lane × ℕ)) (lane : Lane) (k : ℕ) → is_call call lane k ≡ true → call ≡ Some (lane, k)
call_is None lane k h = absurd (cc)
call_is (Some call) lane k h =
    let b = both (same_lane call.0 lane) (call.1 == k) h in
    let l = same call.0 lane b.0 in
    let n = number call.1 k b.1 in
    ap (λ x. Some (x, call.1)) l ∙ ap (λ x. Some (lane, x)) n

-- it is the answer to the awaited call
pub ready_answer : (journal : List Entry) (lane : Lane) (k : ℕ) (answer : Answer) → look_to journal (asked_of (inputs.Answer lane k answer)) ≡ Ready → awaited_call journal ≡ Some (lane, k)
ready_answer journal lane k answer h =
    call_is (awaited_call journal) lane k
    (answer_from (is_call (awaited_call journal) lane k) (nat_lt (pushed_count lane journal) k) lane k (pushed_count lane journal) h)

-- ---- the calls so far are the first of Alone

awaits_last : (journal : List Entry) (calls : List Effect) (lane : Lane) (k : ℕ) → awaits journal calls ≡ Some (lane, k) → k ≡ pushed_count lane journal
awaits_last journal [] lane k h = absurd (cc)
awaits_last journal (call ∷ calls) lane k h =
    let p = some_pair_parts (lane_of call) lane (pushed_count (lane_of call) journal) k h in
    sym p.1 ∙ ap (λ l. pushed_count l journal) p.0

same_calls : (all : List Entry) (v : ℕ) (lane : Lane) (k : ℕ) → k ≤ pushed_count lane (take v all) → take k (effects_of lane (take v all)) ≡ take k (effects_of lane all)
same_calls all v lane k low =
    let before = effects_of lane (take v all) in
    let after = effects_of lane (drop v all) in
    sym (ap (λ J. take k (effects_of lane J)) (sym (take-append-drop v all))
    ∙ ap (take k) (flat_map-append (λ (e : Entry). effects_on lane e.step.effects) (take v all) (drop v all))
    ∙ take-append-le k before after low)

calls_of_alone : (row : Subscriber) (ms : List Message) (v : ℕ) (lane : Lane) (k : ℕ) → v ≤ length (alone_of row ms) → awaited_call (take v (alone_of row ms)) ≡ Some (lane, k) → take k (effects_of lane (take v (alone_of row ms))) ≡ take k (effects_of lane (alone_of row ms))
calls_of_alone row ms v lane k low h =
    let J = alone_to row ms v in
    let is : take v (alone_of row ms) ≡ J = prefix row ms v low in
    let last : k ≡ pushed_count lane J = awaits_last J (awaited_by (session_of J)) lane k (sym (fine_alone row ms v).awaiting ∙ ap awaited_call (sym is) ∙ h) in
    let count = ap (pushed_count lane) is in
    same_calls (alone_of row ms) v lane k (omega (arith, last, count))

-- ---- the entry of an own input is the next one of Alone

own_input : (row : Subscriber) (ms : List Message) (v : ℕ) (input : Input) → v ≤ length (alone_of row ms) → IsOwnInput row input ms → look_to (take v (alone_of row ms)) (asked_of input) ≡ Ready → next_input row ms (take v (alone_of row ms)) ≡ Some input
own_input row ms v (inputs.Message message) low own h =
    let J = take v (alone_of row ms) in
    let r = ready_message J message h in
    let place : taken_count J ≡ message.number - 1 = omega (arith, r.0) in
    ap (input_at row ms J) r.1 ∙ ap (λ i. option_map inputs.Message (slice_get ms i)) place ∙ ap (option_map inputs.Message) own
own_input row ms v (inputs.Answer lane k answer) low own h =
    let J = take v (alone_of row ms) in
    let r = ready_answer J lane k answer h in
    ap (input_at row ms J) r
    ∙ ap (λ calls. Some (inputs.Answer lane k (answer_of row calls))) (calls_of_alone row ms v lane k low r)
    ∙ ap (λ a. Some (inputs.Answer lane k a)) (sym own)

own_entry : (row : Subscriber) (ms : List Message) (journal : List Entry) (input : Input) → take (length journal) (alone_of row ms) ≡ journal → IsOwnInput row input ms → look_to journal (asked_of input) ≡ Ready → slice_get (alone_of row ms) (length journal) ≡ Some (entry_of row journal input)
own_entry row ms journal input front own ready =
    let all = alone_of row ms in
    let v = length journal in
    let count : length (take v all) ≡ v = ap length front in
    let low : v ≤ length all = omega (arith, count, length-take v all) in
    let there = subst (λ (J : List Entry). look_to J (asked_of input) ≡ Ready) (sym front) ready in
    let next = own_input row ms v input low own there in
    sym (is_alone row ms v low) ∙ ap (option_map (entry_of row (take v all))) next ∙ ap (λ J. Some (entry_of row J input)) front

-- the row and the line of a device under a charter
follows_own : (rows : Option Subscriber) (lines : Option (List Message)) (row : Subscriber) (journal : List Entry) (input : Input) → rows ≡ Some row → IsSomeAnd lines (IsOwnInput row input) → take (length journal) (alone_with rows lines) ≡ journal → look_to journal (asked_of input) ≡ Ready → slice_get (alone_with rows lines) (length journal) ≡ Some (entry_of row journal input)
follows_own rows None row journal input r own front ready = absurd own
follows_own rows (Some ms) row journal input r own front ready =
    subst (λ (o : Option Subscriber). take (length journal) (alone_with o (Some ms)) ≡ journal → slice_get (alone_with o (Some ms)) (length journal) ≡ Some (entry_of row journal input)) (sym r)
    (λ f. own_entry row ms journal input f own ready) front

may_by : (charter : CharterState) (devices : ℕ) (known : ℕ → List Entry) (row : Subscriber) (d : DeviceId) (input : Input) (look : Look) → look_to (known d.0) (asked_of input) ≡ look → IsDevice devices d.0 → IsLawful (follows_alone charter d.0) (known d.0) → IsOwn charter row (d, input) → MayWrite charter devices known (hand_of d input (version_of (known d.0)) (step_at row (session_of (known d.0)) input look))
may_by charter devices known row d input Ready e is l own =
    let J = known d.0 in record {
      device = is;
      within = omega arith;
      law =
          subst (λ (K : List Entry). follows_alone charter d.0 K (entry_of row J input)) (sym (take_all (length J) J (omega arith)))
          (follows_own (slice_get charter.rows (d.0 - 1)) (slice_get charter.lines (d.0 - 1)) row J input own.0 own.1 (lawful_is_alone charter d.0 J l) e);
    }
may_by charter devices known row d input (Repeat n) e is l own = tt
may_by charter devices known row d input (Settled n) e is l own = tt
may_by charter devices known row d input (Ahead n) e is l own = tt
may_by charter devices known row d input (Waiting lane k) e is l own = tt
may_by charter devices known row d input (Old lane k) e is l own = tt
may_by charter devices known row d input (NotAwaited k) e is l own = tt

-- after a read of a lawful journal, about an input of the device itself
pub may_after : (charter : CharterState) (devices : ℕ) (known : ℕ → List Entry) (row : Subscriber) (d : DeviceId) (input : Input) → IsDevice devices d.0 → IsLawful (follows_alone charter d.0) (known d.0) → IsOwn charter row (d, input) → MayWrite charter devices known (hand_after row d input (known d.0))
may_after charter devices known row d input is l own = may_by charter devices known row d input (look_to (known d.0) (asked_of input)) refl is l own

-- ---- the hand of a replica that has read

held_is : (held : DeviceId × Input) (d : DeviceId) (input : Input) → Some held ≡ Some (d, input) → held ≡ (d, input)
held_is held d input e = cc

-- it asked about its input
pub asked_in : (devices : ℕ) (o : Option (DeviceId × Input)) (d : DeviceId) (input : Input) (asked : Asked) → o ≡ Some (d, input) → asked ≡ asked_of input → CanBeRead devices o → IsAsked asked
asked_in devices None d input asked e a can = absurd can
asked_in devices (Some held) d input asked e a can =
    subst IsAsked (sym a) (subst (λ (h : DeviceId × Input). IsAsked (asked_of h.1)) (held_is held d input e) can.1)

-- it may be written, where the input is the device's own
pub may_read : (charter : CharterState) (devices : ℕ) (known : ℕ → List Entry) (row : Subscriber) (o : Option (DeviceId × Input)) (d : DeviceId) (input : Input) (hand : Hand) → o ≡ Some (d, input) → CanBeRead devices o → IsLawful (follows_alone charter d.0) (known d.0) → IsSomeAnd o (λ held. hand ≡ hand_after row held.0 held.1 (known held.0.0)) → OwnsHeld charter row o → MayWrite charter devices known hand
may_read charter devices known row None d input hand e can l h owns = absurd can
may_read charter devices known row (Some held) d input hand e can l h owns =
    let same = held_is held d input e in
    let is = subst (λ (x : DeviceId × Input). IsDevice devices x.0.0) same can.0 in
    let own = subst (λ (x : DeviceId × Input). IsOwn charter row x) same owns in
    let after = subst (λ (x : DeviceId × Input). hand ≡ hand_after row x.0 x.1 (known x.0.0)) same h in
    subst (MayWrite charter devices known) (sym after) (may_after charter devices known row d input is l own)
