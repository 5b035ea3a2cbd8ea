-- The calls of devices that are alone with their messages can be written: they are few, and a second session has its name.
use Rattle.std.proofs.Common.{◌≡◌, ℕ, zero, suc, List, [], ◌∷◌, length, Some, refl, sym, ap, ◌∙◌, subst, arith}
use Rattle.std.specs.Prelude.{All, filter, slice_get, Result, IfOk}
use Rattle.std.specs.List.{AllZip, filter_map}
use Rattle.std.proofs.lemmas.Result.{IfOk-weaker}
use Rattle.std.proofs.lemmas.List.Elements.{All-nil, All-cons, All-head, All-tail, All-append, All-filter, filter_map-append}
use Rattle.device_types.specs.declared.effect.Effect.{Effect}
use Rattle.device_types.specs.declared.effect.Effect.TheVariants as effects
use Rattle.device_types.specs.declared.effect.GwCall.TheVariants as gateway
use Rattle.device_types.specs.declared.effect.SubCall.{SubCall}
use Rattle.device_types.specs.declared.effect.SubCall.TheVariants as subscriber
use Rattle.device_types.specs.declared.event.Lane.TheVariants as lanes
use Rattle.device_types.specs.declared.finals.DeviceEnd.{DeviceEnd}
use Rattle.device_types.specs.declared.input.Input.{Input}
use Rattle.device_types.specs.declared.message.Message.{Message}
use Rattle.device_types.specs.declared.session.Session.{Session}
use Rattle.device_types.specs.declared.session.Stage.{Stage}
use Rattle.device_types.specs.declared.session.Stage.TheVariants as stages
use Rattle.device_types.specs.declared.step.Entry.{Entry}
use Rattle.device_types.specs.declared.step.Step.{Step}
use Rattle.device_types.specs.declared.subscriber.Subscriber.{Subscriber}
use Rattle.device_types.specs.Alone.{alone_to, alone_of}
use Rattle.device_types.specs.Awaited.{awaited_in}
use Rattle.device_types.specs.Journal.{is_awaited, is_on, effects_on, effects_of, session_of}
use Rattle.device_types.specs.Second.{MayAwait, MayBeOf}
use Rattle.device_types.specs.StepTable.{fit_count, step_of}
use Rattle.device_types.proofs.Calls.{awaits_as_stage}
use Rattle.device_types.proofs.Courses.{made_at, both_entry}
use Rattle.device_types.proofs.Members.{step_of_none}
use Rattle.device_machine.specs.Ends.{gateway_in, gateway_of, end_of, finals_of}
use Rattle.entry_edge.specs.declared.admission.Admitted.{Admitted}
use Rattle.entry_edge.specs.Trace.{Turn}
use Rattle.link_schedule.specs.Floor.{IsEnd}
use Rattle.report_text.specs.Calls.{Wire, gateway_wire, server_wire, IsCallerOf, AreCallers}
use Rattle.top_calls.specs.Ends.{IsAdmitted}
use Rattle.top_calls.proofs.Ends.{ends_in_form, ends_count}

-- ---- a step asks for a second session of a row with a name for it

abbrev Named : Subscriber → Effect → Type 0
Named row (effects.Down down) = Unit {0}
Named row (effects.Gateway call) = gateway_wire.MayMake row call
Named row (effects.Subscriber call) = Unit {0}

one : {X : Type 0} (P : X → Type 0) (x : X) → P x → All P (x ∷ [])
one P x h = All-cons P x [] h (All-nil P)

awaited_named : (row : Subscriber) (stage : Stage) (s : Session) → MayAwait row stage → All (Named row) (awaited_in stage s)
awaited_named row stages.AwaitVectors s may = one (Named row) (effects.Subscriber subscriber.Vectors) tt
awaited_named row stages.AwaitLocation s may = one (Named row) (effects.Subscriber subscriber.Location) tt
awaited_named row stages.AwaitCreate s may = one (Named row) (effects.Gateway gateway.Create) tt
awaited_named row stages.AwaitModify s may = one (Named row) (effects.Gateway (gateway.Modify s.side_addr s.side_teid)) tt
awaited_named row stages.AwaitRelease s may = one (Named row) (effects.Gateway gateway.Release) tt
awaited_named row stages.AwaitDelete s may = one (Named row) (effects.Gateway gateway.Delete) tt
awaited_named row stages.AwaitSecond s may = one (Named row) (effects.Gateway gateway.SecondCreate) may.0
awaited_named row stages.AwaitSecondModify s may = one (Named row) (effects.Gateway (gateway.SecondModify s.side2_addr s.side2_teid)) tt
awaited_named row _ s may = All-nil (Named row)

-- each call of the gateway is awaited
all_named : (row : Subscriber) (es : List Effect) → All (Named row) (filter is_awaited es) → All (Named row) es
all_named row [] all = All-nil (Named row)
all_named row (effects.Down down ∷ es) all = All-cons (Named row) (effects.Down down) es tt (all_named row es all)
all_named row (effects.Gateway call ∷ es) all =
    let rest = filter is_awaited es in
    All-cons (Named row) (effects.Gateway call) es (All-head (Named row) (effects.Gateway call) rest all) (all_named row es (All-tail (Named row) (effects.Gateway call) rest all))
all_named row (effects.Subscriber subscriber.Vectors ∷ es) all =
    All-cons (Named row) (effects.Subscriber subscriber.Vectors) es tt (all_named row es (All-tail (Named row) (effects.Subscriber subscriber.Vectors) (filter is_awaited es) all))
all_named row (effects.Subscriber subscriber.Location ∷ es) all =
    All-cons (Named row) (effects.Subscriber subscriber.Location) es tt (all_named row es (All-tail (Named row) (effects.Subscriber subscriber.Location) (filter is_awaited es) all))
all_named row (effects.Subscriber subscriber.Purge ∷ es) all = All-cons (Named row) (effects.Subscriber subscriber.Purge) es tt (all_named row es all)

step_named : (row : Subscriber) (s : Session) (input : Input) → MayBeOf row (step_of row s input).session → All (Named row) (step_of row s input).effects
step_named row s input may = by_count (fit_count row s input) refl
  where
    by_count : (n : ℕ) → fit_count row s input ≡ n → All (Named row) (step_of row s input).effects
    by_count zero none = subst (λ (t : Step). All (Named row) t.effects) (sym (step_of_none row s input none)) (All-nil (Named row))
    by_count (suc n) some =
        let next = (step_of row s input).session in
        all_named row (step_of row s input).effects (subst (All (Named row)) (sym (awaits_as_stage row s input (omega (arith, some)))) (awaited_named row next.stage next may.0))

entry_named : (row : Subscriber) (ms : List Message) (v : ℕ) (entry : Entry) → slice_get (alone_of row ms) v ≡ Some entry → All (Named row) entry.step.effects
entry_named row ms v entry found =
    let m = made_at row ms v entry found in
    let may = subst (λ (e : Entry). MayBeOf row e.step.session) m.entry_is (both_entry row ms v entry found) in
    subst (λ (e : Entry). All (Named row) e.step.effects) (sym m.entry_is) (step_named row (session_of (alone_to row ms v)) m.input may)

-- ---- and so do those of its lane

calls_in_named : (row : Subscriber) (es : List Effect) → All (Named row) es → All (gateway_wire.MayMake row) (filter_map gateway_in es)
calls_in_named row [] all = All-nil (gateway_wire.MayMake row)
calls_in_named row (effects.Down down ∷ es) all = calls_in_named row es (All-tail (Named row) (effects.Down down) es all)
calls_in_named row (effects.Gateway call ∷ es) all = All-cons (gateway_wire.MayMake row) call (filter_map gateway_in es) (All-head (Named row) (effects.Gateway call) es all) (calls_in_named row es (All-tail (Named row) (effects.Gateway call) es all))
calls_in_named row (effects.Subscriber call ∷ es) all = calls_in_named row es (All-tail (Named row) (effects.Subscriber call) es all)

calls_named : (row : Subscriber) (J : List Entry) → ((v : ℕ) (entry : Entry) → slice_get J v ≡ Some entry → All (Named row) entry.step.effects) → All (gateway_wire.MayMake row) (gateway_of J)
calls_named row [] each = All-nil (gateway_wire.MayMake row)
calls_named row (e ∷ J) each =
    let here = effects_on lanes.Gateway e.step.effects in
    let rest = effects_of lanes.Gateway J in
    subst (All (gateway_wire.MayMake row)) (sym (filter_map-append gateway_in here rest))
    (All-append (gateway_wire.MayMake row) (filter_map gateway_in here) (filter_map gateway_in rest)
    (calls_in_named row here (All-filter (is_on lanes.Gateway) (Named row) e.step.effects (each 0 e refl)))
    (calls_named row J (λ v. each (suc v))))

-- ---- of one device

abbrev CanCall : {C : Type 0} → Wire C → Type 0
CanCall wire = (row : Subscriber) (ms : List Message) → IsEnd (end_of row ms) → IsCallerOf wire row (end_of row ms)

pub gateway_caller : CanCall gateway_wire
gateway_caller row ms form = record {
  few = omega (arith, form.few_gateway);
  may = calls_named row (alone_of row ms) (entry_named row ms);
}

any_call : (row : Subscriber) (calls : List SubCall) → All (server_wire.MayMake row) calls
any_call row [] = All-nil (server_wire.MayMake row)
any_call row (call ∷ calls) = All-cons (server_wire.MayMake row) call calls tt (any_call row calls)

pub server_caller : CanCall server_wire
server_caller row ms form = record {
  few = omega (arith, form.few_subscriber);
  may = any_call row (end_of row ms).subscriber;
}

-- ---- of all devices

each_calls : {C : Type 0} (wire : Wire C) → CanCall wire → (rows : List Subscriber) (book : List (List Message)) → length book ≡ length rows → All IsEnd (finals_of rows book) → AllZip (IsCallerOf wire) rows (finals_of rows book)
each_calls wire can [] [] same form = tt
each_calls wire can [] (ms ∷ book) same form = absurd (omega (arith, same))
each_calls wire can (row ∷ rows) [] same form = absurd (omega (arith, same))
each_calls wire can (row ∷ rows) (ms ∷ book) same form = (
  can row ms (All-head IsEnd (end_of row ms) (finals_of rows book) form),
  each_calls wire can rows book (omega (arith, same)) (All-tail IsEnd (end_of row ms) (finals_of rows book) form),
)

are_callers : {C : Type 0} (wire : Wire C) → CanCall wire → (rows : List Subscriber) (H : List Turn) (admitted : Admitted) (finals : List DeviceEnd) → IsAdmitted rows H admitted → finals ≡ finals_of rows admitted.book → AreCallers wire rows finals
are_callers wire can rows H admitted finals is are = record {
  count = ap length are ∙ ends_count rows admitted.book is.each;
  calls = subst (AllZip (IsCallerOf wire) rows) (sym are) (each_calls wire can rows admitted.book is.each (ends_in_form rows admitted.book is.table.ranges is.lines is.short));
}

-- the ends that were made of lent rows
pub all_call : {C E : Type 0} (wire : Wire C) → CanCall wire → (rows lent : List Subscriber) (H : List Turn) (admitted : Admitted) (ends : Result (List DeviceEnd) E) → IsAdmitted rows H admitted → lent ≡ rows → IfOk ends (λ finals. finals ≡ finals_of lent admitted.book) → IfOk ends (AreCallers wire rows)
all_call wire can rows lent H admitted ends is same made =
    IfOk-weaker ends (λ finals. finals ≡ finals_of lent admitted.book) (AreCallers wire rows)
    (λ finals are. are_callers wire can rows H admitted finals is (are ∙ ap (λ (rs : List Subscriber). finals_of rs admitted.book) same))
    made
