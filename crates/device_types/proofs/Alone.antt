-- Alone, entry by entry: what comes next is decided by the stage; it ends; each message is taken.
use Rattle.std.proofs.Common.{◌≡◌, ℕ, zero, suc, ◌≤◌, ◌<◌, ◌+◌, ◌*◌, ◌-◌, ◌⊎◌, inl, inr, ⊎_elim, Bool, true, false, cond, List, [], ◌∷◌, ◌++◌, length, Option, Some, None, lit≤, lit<, refl, sym, ap, ◌∙◌, subst, arith, rules, add-zero, add-suc}
use Rattle.std.specs.Prelude.{filter, option_map, position, slice_get}
use Rattle.std.proofs.Math.Seq.{take-length}
use Rattle.std.proofs.lemmas.Grind.{common_steps}
use Rattle.std.proofs.lemmas.Option.{slice_get_past, slice_get_within}
use Rattle.device_types.specs.declared.effect.Effect.{Effect}
use Rattle.device_types.specs.declared.effect.Effect.TheVariants as effects
use Rattle.device_types.specs.declared.effect.GwCall.TheVariants as gateway
use Rattle.device_types.specs.declared.effect.SubCall.TheVariants as subscriber
use Rattle.device_types.specs.declared.event.Lane.{Lane}
use Rattle.device_types.specs.declared.event.Lane.TheVariants as lanes
use Rattle.device_types.specs.declared.input.Input.{Input}
use Rattle.device_types.specs.declared.input.Input.TheVariants as inputs
use Rattle.device_types.specs.declared.message.Message.{Message}
use Rattle.device_types.specs.declared.session.Second.{Second}
use Rattle.device_types.specs.declared.session.Second.TheVariants as seconds
use Rattle.device_types.specs.declared.session.Session.{Session}
use Rattle.device_types.specs.declared.session.Stage.{Stage}
use Rattle.device_types.specs.declared.session.Stage.TheVariants as stages
use Rattle.device_types.specs.declared.step.Entry.{Entry}
use Rattle.device_types.specs.declared.subscriber.Subscriber.{Subscriber}
use Rattle.device_types.specs.Alone.{input_at, next_input, entry_of, next_entry, with_next, alone_to, alone_of, is_created, created_count}
use Rattle.device_types.specs.Awaited.{awaited_in, awaited_by, lane_of}
use Rattle.device_types.specs.Journal.{session_of, effects_on, effects_of, pushed_count, is_message, taken_count, is_awaited, awaited_behind, awaited_call}
use Rattle.device_types.specs.PeerAnswer.{create_count, answer_to, answer_of}
use Rattle.device_types.specs.Rule.{is_settled}
use Rattle.device_types.specs.StepTable.{step_table, step_of}
use Rattle.device_types.proofs.Calls.{is_peer, AreCalls, CallsAsStage, settled_calls}
use Rattle.device_types.proofs.Journals.{session_more, effects_more, pushed_more, taken_more, awaited_more}
use Rattle.device_types.proofs.Peers.{creates_append, answer_more}

-- ---- the calls of a step, by lane

gateway_calls : (es : List Effect) → effects_on lanes.Gateway es ≡ effects_on lanes.Gateway (filter is_peer es)
gateway_calls [] = refl
gateway_calls (effects.Down down ∷ es) = gateway_calls es
gateway_calls (effects.Gateway call ∷ es) = ap (λ xs. effects.Gateway call ∷ xs) (gateway_calls es)
gateway_calls (effects.Subscriber call ∷ es) = gateway_calls es

subscriber_calls : (es : List Effect) → effects_on lanes.Subscriber es ≡ effects_on lanes.Subscriber (filter is_peer es)
subscriber_calls [] = refl
subscriber_calls (effects.Down down ∷ es) = subscriber_calls es
subscriber_calls (effects.Gateway call ∷ es) = subscriber_calls es
subscriber_calls (effects.Subscriber call ∷ es) = ap (λ xs. effects.Subscriber call ∷ xs) (subscriber_calls es)

-- ---- what is awaited

-- the first of these calls, as the last of its lane
abbrev pub awaits : List Entry → List Effect → Option (Lane × ℕ)
awaits journal [] = None
awaits journal (call ∷ calls) = Some (lane_of call, pushed_count (lane_of call) journal)

abbrev call_at : Lane → ℕ → Option (Lane × ℕ)
call_at lane k = Some (lane, k)

on_gateway : (J : List Entry) (e : Entry) (c : Effect) → effects_on lanes.Gateway e.step.effects ≡ c ∷ [] → position is_awaited (c ∷ []) ≡ Some 0 → awaited_behind J e.step.effects ≡ Some (lanes.Gateway, pushed_count lanes.Gateway (J ++ e ∷ []))
on_gateway J e c g p =
    let last : pushed_count lanes.Gateway J + 0 + 1 ≡ pushed_count lanes.Gateway (J ++ e ∷ []) = omega (arith, pushed_more lanes.Gateway J e, ap length g) in
    rw (g, p) (ap (call_at lanes.Gateway) last)

on_subscriber : (J : List Entry) (e : Entry) (c : Effect) → effects_on lanes.Gateway e.step.effects ≡ [] → effects_on lanes.Subscriber e.step.effects ≡ c ∷ [] → position is_awaited (c ∷ []) ≡ Some 0 → awaited_behind J e.step.effects ≡ Some (lanes.Subscriber, pushed_count lanes.Subscriber (J ++ e ∷ []))
on_subscriber J e c n g p =
    let last : pushed_count lanes.Subscriber J + 0 + 1 ≡ pushed_count lanes.Subscriber (J ++ e ∷ []) = omega (arith, pushed_more lanes.Subscriber J e, ap length g) in
    rw (n, g, p) (ap (call_at lanes.Subscriber) last)

on_none : (J : List Entry) (es : List Effect) → effects_on lanes.Gateway es ≡ [] → position is_awaited (effects_on lanes.Subscriber es) ≡ None → awaited_behind J es ≡ None
on_none J es n p = rw (n, p) refl

gateway_of : (es calls : List Effect) → filter is_peer es ≡ calls → effects_on lanes.Gateway es ≡ effects_on lanes.Gateway calls
gateway_of es calls h = gateway_calls es ∙ ap (effects_on lanes.Gateway) h

subscriber_of : (es calls : List Effect) → filter is_peer es ≡ calls → effects_on lanes.Subscriber es ≡ effects_on lanes.Subscriber calls
subscriber_of es calls h = subscriber_calls es ∙ ap (effects_on lanes.Subscriber) h

awaits_at : (J : List Entry) (e : Entry) (stage : Stage) (s : Session) → filter is_peer e.step.effects ≡ awaited_in stage s → awaited_behind J e.step.effects ≡ awaits (J ++ e ∷ []) (awaited_in stage s)
awaits_at J e stages.AwaitVectors s h = on_subscriber J e (effects.Subscriber subscriber.Vectors) (gateway_of e.step.effects (effects.Subscriber subscriber.Vectors ∷ []) h) (subscriber_of e.step.effects (effects.Subscriber subscriber.Vectors ∷ []) h) refl
awaits_at J e stages.AwaitLocation s h = on_subscriber J e (effects.Subscriber subscriber.Location) (gateway_of e.step.effects (effects.Subscriber subscriber.Location ∷ []) h) (subscriber_of e.step.effects (effects.Subscriber subscriber.Location ∷ []) h) refl
awaits_at J e stages.AwaitCreate s h = on_gateway J e (effects.Gateway gateway.Create) (gateway_of e.step.effects (effects.Gateway gateway.Create ∷ []) h) refl
awaits_at J e stages.AwaitModify s h = on_gateway J e (effects.Gateway (gateway.Modify s.side_addr s.side_teid)) (gateway_of e.step.effects (effects.Gateway (gateway.Modify s.side_addr s.side_teid) ∷ []) h) refl
awaits_at J e stages.AwaitRelease s h = on_gateway J e (effects.Gateway gateway.Release) (gateway_of e.step.effects (effects.Gateway gateway.Release ∷ []) h) refl
awaits_at J e stages.AwaitDelete s h = on_gateway J e (effects.Gateway gateway.Delete) (gateway_of e.step.effects (effects.Gateway gateway.Delete ∷ []) h) refl
awaits_at J e stages.AwaitSecond s h = on_gateway J e (effects.Gateway gateway.SecondCreate) (gateway_of e.step.effects (effects.Gateway gateway.SecondCreate ∷ []) h) refl
awaits_at J e stages.AwaitSecondModify s h = on_gateway J e (effects.Gateway (gateway.SecondModify s.side2_addr s.side2_teid)) (gateway_of e.step.effects (effects.Gateway (gateway.SecondModify s.side2_addr s.side2_teid) ∷ []) h) refl
awaits_at J e _ s h = on_none J e.step.effects (gateway_of e.step.effects [] h) (ap (position is_awaited) (subscriber_of e.step.effects [] h))

awaits_of : (J : List Entry) (e : Entry) → CallsAsStage e.step → awaited_behind J e.step.effects ≡ awaits (J ++ e ∷ []) (awaited_by e.step.session)
awaits_of J e c =
    let s = e.step.session in
    let purge = effects.Subscriber subscriber.Purge ∷ [] in
    ⊎_elim
    (λ (h : filter is_peer e.step.effects ≡ awaited_by s). awaits_at J e s.stage s h)
    (λ (h : (filter is_peer e.step.effects ≡ effects.Subscriber subscriber.Purge ∷ []) × (awaited_by s ≡ [])).
    on_none J e.step.effects (gateway_of e.step.effects purge h.0) (ap (position is_awaited) (subscriber_of e.step.effects purge h.0)) ∙ sym (ap (awaits (J ++ e ∷ [])) h.1))
    c

-- ---- sessions that were created

pub created_more : (J : List Entry) (e : Entry) → created_count (J ++ e ∷ []) ≡ created_count J + cond (is_created e.input) 1 0
created_more J e = search (rules, common_steps)

creates_at : (stage : Stage) (s : Session) → create_count (effects_on lanes.Gateway (awaited_in stage s)) ≡ create_count (awaited_in stage s)
creates_at stages.AwaitVectors s = refl
creates_at _ s = refl

creates_of : (s : Session) (es : List Effect) → AreCalls (awaited_by s) (filter is_peer es) → create_count (effects_on lanes.Gateway es) ≡ create_count (awaited_by s)
creates_of s es c =
    ⊎_elim
    (λ (h : filter is_peer es ≡ awaited_by s). ap create_count (gateway_of es (awaited_by s) h) ∙ creates_at s.stage s)
    (λ (h : (filter is_peer es ≡ effects.Subscriber subscriber.Purge ∷ []) × (awaited_by s ≡ [])). ap create_count (gateway_of es (effects.Subscriber subscriber.Purge ∷ []) h.0) ∙ sym (ap create_count h.1))
    c

-- ---- what holds of each journal of the machine

abbrev pub Answerable : Subscriber → List Entry → List Effect → Type 0
Answerable row J [] = Unit {0}
Answerable row J (c ∷ cs) = answer_of row (effects_of (lane_of c) J) ≡ answer_to row (created_count J) c

pub record Fine (row : Subscriber) (J : List Entry) : Type 0 where
  pub awaiting : awaited_call J ≡ awaits J (awaited_by (session_of J))
  pub answering : Answerable row J (awaited_by (session_of J))
  pub creating : create_count (effects_of lanes.Gateway J) ≡ created_count J + create_count (awaited_by (session_of J))

-- the answer to the one call of a new entry
answer_at : (row : Subscriber) (J : List Entry) (e : Entry) (lane : Lane) (c : Effect) → effects_on lane e.step.effects ≡ c ∷ [] → answer_of row (effects_of lane (J ++ e ∷ [])) ≡ answer_to row (create_count (effects_of lane J)) c
answer_at row J e lane c h = ap (answer_of row) (effects_more lane J e ∙ ap (λ xs. effects_of lane J ++ xs) h) ∙ answer_more row (effects_of lane J) c

answerable_at : (row : Subscriber) (J : List Entry) (e : Entry) (stage : Stage) (s : Session) → create_count (effects_of lanes.Gateway J) ≡ created_count (J ++ e ∷ []) → filter is_peer e.step.effects ≡ awaited_in stage s → Answerable row (J ++ e ∷ []) (awaited_in stage s)
answerable_at row J e stages.AwaitVectors s n h = answer_at row J e lanes.Subscriber (effects.Subscriber subscriber.Vectors) (subscriber_of e.step.effects (effects.Subscriber subscriber.Vectors ∷ []) h)
answerable_at row J e stages.AwaitLocation s n h = answer_at row J e lanes.Subscriber (effects.Subscriber subscriber.Location) (subscriber_of e.step.effects (effects.Subscriber subscriber.Location ∷ []) h)
answerable_at row J e stages.AwaitCreate s n h = answer_at row J e lanes.Gateway (effects.Gateway gateway.Create) (gateway_of e.step.effects (effects.Gateway gateway.Create ∷ []) h) ∙ ap (λ m. answer_to row m (effects.Gateway gateway.Create)) n
answerable_at row J e stages.AwaitModify s n h = answer_at row J e lanes.Gateway (effects.Gateway (gateway.Modify s.side_addr s.side_teid)) (gateway_of e.step.effects (effects.Gateway (gateway.Modify s.side_addr s.side_teid) ∷ []) h)
answerable_at row J e stages.AwaitRelease s n h = answer_at row J e lanes.Gateway (effects.Gateway gateway.Release) (gateway_of e.step.effects (effects.Gateway gateway.Release ∷ []) h)
answerable_at row J e stages.AwaitDelete s n h = answer_at row J e lanes.Gateway (effects.Gateway gateway.Delete) (gateway_of e.step.effects (effects.Gateway gateway.Delete ∷ []) h)
answerable_at row J e stages.AwaitSecond s n h = answer_at row J e lanes.Gateway (effects.Gateway gateway.SecondCreate) (gateway_of e.step.effects (effects.Gateway gateway.SecondCreate ∷ []) h) ∙ ap (λ m. answer_to row m (effects.Gateway gateway.SecondCreate)) n
answerable_at row J e stages.AwaitSecondModify s n h = answer_at row J e lanes.Gateway (effects.Gateway (gateway.SecondModify s.side2_addr s.side2_teid)) (gateway_of e.step.effects (effects.Gateway (gateway.SecondModify s.side2_addr s.side2_teid) ∷ []) h)
answerable_at row J e _ s n h = tt

fine_more : (row : Subscriber) (J : List Entry) (e : Entry) → Fine row J → CallsAsStage e.step → cond (is_created e.input) 1 0 ≡ create_count (awaited_by (session_of J)) → Fine row (J ++ e ∷ [])
fine_more row J e f c n =
    let s = e.step.session in
    let count : create_count (effects_of lanes.Gateway J) ≡ created_count (J ++ e ∷ []) = f.creating ∙ ap (λ m. created_count J + m) (sym n) ∙ sym (created_more J e) in
    let stage : awaited_by (session_of (J ++ e ∷ [])) ≡ awaited_by s = ap awaited_by (session_more J e) in
    let made : create_count (effects_of lanes.Gateway (J ++ e ∷ [])) ≡ create_count (effects_of lanes.Gateway J) + create_count (effects_on lanes.Gateway e.step.effects) = ap create_count (effects_more lanes.Gateway J e) ∙ creates_append (effects_of lanes.Gateway J) (effects_on lanes.Gateway e.step.effects) in
    record {
      awaiting = awaited_more J e ∙ awaits_of J e c ∙ sym (ap (awaits (J ++ e ∷ [])) stage);
      answering = subst (λ (xs : List Effect). Answerable row (J ++ e ∷ []) xs) (sym stage)
          (⊎_elim
          (λ (h : filter is_peer e.step.effects ≡ awaited_by s). answerable_at row J e s.stage s count h)
          (λ (h : (filter is_peer e.step.effects ≡ effects.Subscriber subscriber.Purge ∷ []) × (awaited_by s ≡ [])). subst (λ (xs : List Effect). Answerable row (J ++ e ∷ []) xs) (sym h.1) tt)
          c);
      creating = made ∙ ap (λ m. m + create_count (effects_on lanes.Gateway e.step.effects)) count
          ∙ ap (λ m. created_count (J ++ e ∷ []) + m) (creates_of s e.step.effects c ∙ sym (ap create_count stage));
    }

-- ---- an answer to the call of the stage

-- how many answers may follow one another from a stage on
abbrev pub rank : Stage → ℕ
rank stages.AwaitVectors = 1
rank stages.AwaitLocation = 2
rank stages.AwaitCreate = 1
rank stages.AwaitModify = 2
rank stages.AwaitRelease = 1
rank stages.AwaitDelete = 1
rank stages.AwaitSecond = 1
rank stages.AwaitSecondModify = 1
rank _ = 0

abbrev Answered : Subscriber → Session → Lane → ℕ → ℕ → List Effect → Type 0
Answered row s l k n [] = Unit {0}
Answered row s l k n (c ∷ cs) =
    CallsAsStage (step_of row s (inputs.Answer l k (answer_to row n c))) × (rank (step_of row s (inputs.Answer l k (answer_to row n c))).session.stage < rank s.stage)

-- whatever the session has of a second connection, and whether the device waits for an answer to its detach
answered_at : (row : Subscriber) (s : Session) (l : Lane) (k n : ℕ) (stage : Stage) (second : Second) (off : Bool) → Answered row (record s { stage = stage; second = second; off = off }) l k n (awaited_by (record s { stage = stage; second = second; off = off }))
unfolding step_table step_of
answered_at row s l k n stages.AwaitVectors seconds.None off = (inl refl, lit< tt)
answered_at row s l k n stages.AwaitVectors _ off = (inl refl, lit< tt)
answered_at row s l k n stages.AwaitLocation seconds.None off = (inl refl, lit< tt)
answered_at row s l k n stages.AwaitLocation _ off = (inl refl, lit< tt)
answered_at row s l k n stages.AwaitCreate seconds.None off = (inl refl, lit< tt)
answered_at row s l k n stages.AwaitCreate _ off = (inl refl, lit< tt)
answered_at row s l k n stages.AwaitModify seconds.None off = (inl refl, lit< tt)
answered_at row s l k n stages.AwaitModify _ off = (inl refl, lit< tt)
answered_at row s l k n stages.AwaitRelease seconds.None off = (inl refl, lit< tt)
answered_at row s l k n stages.AwaitRelease _ off = (inl refl, lit< tt)
answered_at row s l k n stages.AwaitDelete seconds.None true = (inr (refl, refl), lit< tt)
answered_at row s l k n stages.AwaitDelete seconds.None false = (inr (refl, refl), lit< tt)
answered_at row s l k n stages.AwaitDelete _ true = (inr (refl, refl), lit< tt)
answered_at row s l k n stages.AwaitDelete _ false = (inr (refl, refl), lit< tt)
answered_at row s l k n stages.AwaitSecond second off = (inl refl, lit< tt)
answered_at row s l k n stages.AwaitSecondModify second off = (inl refl, lit< tt)
answered_at row s l k n _ second off = tt

created_at : (row : Subscriber) (l : Lane) (k n : ℕ) (stage : Stage) (s : Session) (c : Effect) (cs : List Effect) → awaited_in stage s ≡ c ∷ cs → cond (is_created (inputs.Answer l k (answer_to row n c))) 1 0 ≡ create_count (awaited_in stage s)
created_at row l k n stages.AwaitVectors s c cs h = let e : c ≡ effects.Subscriber subscriber.Vectors = cc in rw e refl
created_at row l k n stages.AwaitLocation s c cs h = let e : c ≡ effects.Subscriber subscriber.Location = cc in rw e refl
created_at row l k n stages.AwaitCreate s c cs h = let e : c ≡ effects.Gateway gateway.Create = cc in rw e refl
created_at row l k n stages.AwaitModify s c cs h = let e : c ≡ effects.Gateway (gateway.Modify s.side_addr s.side_teid) = cc in rw e refl
created_at row l k n stages.AwaitRelease s c cs h = let e : c ≡ effects.Gateway gateway.Release = cc in rw e refl
created_at row l k n stages.AwaitDelete s c cs h = let e : c ≡ effects.Gateway gateway.Delete = cc in rw e refl
created_at row l k n stages.AwaitSecond s c cs h = let e : c ≡ effects.Gateway gateway.SecondCreate = cc in rw e refl
created_at row l k n stages.AwaitSecondModify s c cs h = let e : c ≡ effects.Gateway (gateway.SecondModify s.side2_addr s.side2_teid) = cc in rw e refl
created_at row l k n _ s c cs h = absurd (cc)

settled_at : (stage : Stage) (s : Session) → awaited_in stage s ≡ [] → is_settled stage ≡ true
settled_at stages.AwaitVectors s h = absurd (cc)
settled_at stages.AwaitLocation s h = absurd (cc)
settled_at stages.AwaitCreate s h = absurd (cc)
settled_at stages.AwaitModify s h = absurd (cc)
settled_at stages.AwaitRelease s h = absurd (cc)
settled_at stages.AwaitDelete s h = absurd (cc)
settled_at stages.AwaitSecond s h = absurd (cc)
settled_at stages.AwaitSecondModify s h = absurd (cc)
settled_at _ s h = refl

pub rank_low : (stage : Stage) → rank stage ≤ 2
rank_low stages.AwaitVectors = lit≤ tt
rank_low _ = lit≤ tt

settled_rank : (stage : Stage) → is_settled stage ≡ true → rank stage ≡ 0
settled_rank stages.AwaitVectors h = absurd (cc)
settled_rank stages.AwaitLocation h = absurd (cc)
settled_rank stages.AwaitCreate h = absurd (cc)
settled_rank stages.AwaitModify h = absurd (cc)
settled_rank stages.AwaitRelease h = absurd (cc)
settled_rank stages.AwaitDelete h = absurd (cc)
settled_rank stages.AwaitSecond h = absurd (cc)
settled_rank stages.AwaitSecondModify h = absurd (cc)
settled_rank _ h = refl

calls_of_rank : (stage : Stage) (s : Session) → rank stage ≡ 0 → awaited_in stage s ≡ []
calls_of_rank stages.AwaitVectors s h = absurd (omega arith)
calls_of_rank stages.AwaitLocation s h = absurd (omega arith)
calls_of_rank stages.AwaitCreate s h = absurd (omega arith)
calls_of_rank stages.AwaitModify s h = absurd (omega arith)
calls_of_rank stages.AwaitRelease s h = absurd (omega arith)
calls_of_rank stages.AwaitDelete s h = absurd (omega arith)
calls_of_rank stages.AwaitSecond s h = absurd (omega arith)
calls_of_rank stages.AwaitSecondModify s h = absurd (omega arith)
calls_of_rank _ s h = refl

-- ---- what comes next, by the call of the stage

abbrev pub input_by : Subscriber → List Message → List Entry → List Effect → Option Input
input_by row ms J [] = option_map inputs.Message (slice_get ms (taken_count J))
input_by row ms J (c ∷ cs) = Some (inputs.Answer (lane_of c) (pushed_count (lane_of c) J) (answer_to row (created_count J) c))

input_is_by : (row : Subscriber) (ms : List Message) (J : List Entry) (cs : List Effect) → awaited_call J ≡ awaits J cs → Answerable row J cs → next_input row ms J ≡ input_by row ms J cs
input_is_by row ms J [] w a = ap (input_at row ms J) w
input_is_by row ms J (c ∷ cs) w a =
    let l = lane_of c in
    ap (input_at row ms J) w
    ∙ ap (λ xs. Some (inputs.Answer l (pushed_count l J) (answer_of row xs))) (take-length (effects_of l J))
    ∙ ap (λ x. Some (inputs.Answer l (pushed_count l J) x)) a

pub input_by_stage : (row : Subscriber) (ms : List Message) (J : List Entry) → Fine row J → next_input row ms J ≡ input_by row ms J (awaited_by (session_of J))
input_by_stage row ms J f = input_is_by row ms J (awaited_by (session_of J)) f.awaiting f.answering

-- ---- the next entry

abbrev pub rank_of : List Entry → ℕ
rank_of J = rank (session_of J).stage

-- a message is taken while no answer is awaited
pub record Takes (ms : List Message) (J : List Entry) (e : Entry) : Type 0 where
  pub message : is_message e.input ≡ true
  pub calm : awaited_call J ≡ None
  pub low : rank_of J ≡ 0
  pub more : taken_count J < length ms
  pub found : option_map inputs.Message (slice_get ms (taken_count J)) ≡ Some e.input

-- an answer makes the rank fall
pub record Answers (J : List Entry) (e : Entry) : Type 0 where
  pub answer : is_message e.input ≡ false
  pub lower : rank_of (J ++ e ∷ []) < rank_of J

abbrev pub Turn : List Message → List Entry → Entry → Type 0
Turn ms J e = Takes ms J e ⊎ Answers J e

abbrev pub Next : Subscriber → List Message → List Entry → Input → Type 0
Next row ms J input = Fine row (J ++ entry_of row J input ∷ []) × Turn ms J (entry_of row J input)

taking : (row : Subscriber) (ms : List Message) (J : List Entry) (o : Option Message) (input : Input) → slice_get ms (taken_count J) ≡ o → option_map inputs.Message o ≡ Some input → awaited_by (session_of J) ≡ [] → Fine row J → Next row ms J input
taking row ms J None input g e h f = absurd (cc)
taking row ms J (Some m) input g e h f =
    let s = session_of J in
    let settles = settled_at s.stage s h in
    let is : inputs.Message m ≡ input = cc in
    let none : cond (is_created (inputs.Message m)) 1 0 ≡ create_count (awaited_by s) = sym (ap create_count h) in
    subst (λ (i : Input). Next row ms J i) is (
      fine_more row J (entry_of row J (inputs.Message m)) f (settled_calls row s (inputs.Message m) settles) none,
      inl (record {
        message = refl;
        calm = f.awaiting ∙ ap (awaits J) h;
        low = settled_rank s.stage settles;
        more = slice_get_within ms (taken_count J) m g;
        found = ap (option_map inputs.Message) g;
      }),
    )

turn_by : (row : Subscriber) (ms : List Message) (J : List Entry) (cs : List Effect) (input : Input) → awaited_by (session_of J) ≡ cs → input_by row ms J cs ≡ Some input → Fine row J → Next row ms J input
turn_by row ms J [] input h g f = taking row ms J (slice_get ms (taken_count J)) input refl g h f
turn_by row ms J (c ∷ cs) input h g f =
    let s = session_of J in
    let l = lane_of c in
    let k = pushed_count l J in
    let i = inputs.Answer l k (answer_to row (created_count J) c) in
    let e = entry_of row J i in
    let is : i ≡ input = cc in
    let a = subst (λ (xs : List Effect). Answered row s l k (created_count J) xs) h (answered_at row s l k (created_count J) s.stage s.second s.off) in
    let lower = a.1 in
    subst (λ (x : Input). Next row ms J x) is (
      fine_more row J e f a.0 (created_at row l k (created_count J) s.stage s c cs h),
      inr (record {
        answer = refl;
        lower = subst (λ (t : Session). rank t.stage < rank s.stage) (sym (session_more J e)) lower;
      }),
    )

pub turn : (row : Subscriber) (ms : List Message) (J : List Entry) (input : Input) → next_input row ms J ≡ Some input → Fine row J → Next row ms J input
turn row ms J input n f = turn_by row ms J (awaited_by (session_of J)) input refl (sym (input_by_stage row ms J f) ∙ n) f

fine_with : (row : Subscriber) (ms : List Message) (J : List Entry) (o : Option Input) → next_input row ms J ≡ o → Fine row J → Fine row (with_next J (option_map (entry_of row J) o))
fine_with row ms J None n f = f
fine_with row ms J (Some input) n f = (turn row ms J input n f).0

pub fine_alone : (row : Subscriber) (ms : List Message) (v : ℕ) → Fine row (alone_to row ms v)
fine_alone row ms zero = record { awaiting = refl; answering = tt; creating = refl }
fine_alone row ms (suc v) = fine_with row ms (alone_to row ms v) (next_input row ms (alone_to row ms v)) refl (fine_alone row ms v)

-- ---- no entry is left at the end

abbrev left_of : List Message → List Entry → ℕ
left_of ms J = 3 * (length ms - taken_count J) + rank_of J

pub took_message : (J : List Entry) (e : Entry) → is_message e.input ≡ true → taken_count (J ++ e ∷ []) ≡ taken_count J + 1
took_message J e h = taken_more J e ∙ ap (λ b. taken_count J + cond b 1 0) h

pub took_answer : (J : List Entry) (e : Entry) → is_message e.input ≡ false → taken_count (J ++ e ∷ []) ≡ taken_count J + 0
took_answer J e h = taken_more J e ∙ ap (λ b. taken_count J + cond b 1 0) h

falls : (ms : List Message) (J : List Entry) (e : Entry) → Turn ms J e → left_of ms (J ++ e ∷ []) < left_of ms J
falls ms J e t =
    ⊎_elim
    (λ (a : Takes ms J e).
    let took = took_message J e a.message in
    let top = rank_low (session_of (J ++ e ∷ [])).stage in
    let room = a.more in
    let calm = a.low in
    omega arith)
    (λ (a : Answers J e).
    let took = took_answer J e a.answer in
    let lower = a.lower in
    omega arith)
    t

-- a message weighs three answers
pub rises : (ms : List Message) (J : List Entry) (e : Entry) → Turn ms J e → 3 * taken_count J + rank_of (J ++ e ∷ []) + 1 ≤ 3 * taken_count (J ++ e ∷ []) + rank_of J
rises ms J e t =
    ⊎_elim
    (λ (a : Takes ms J e).
    let took = took_message J e a.message in
    let top = rank_low (session_of (J ++ e ∷ [])).stage in
    omega arith)
    (λ (a : Answers J e).
    let took = took_answer J e a.answer in
    let lower = a.lower in
    omega arith)
    t

abbrev Bounded : Subscriber → List Message → ℕ → List Entry → Type 0
Bounded row ms v J = (next_input row ms J ≡ None) ⊎ (left_of ms J + v ≤ 3 * length ms)

bounded_with : (row : Subscriber) (ms : List Message) (v : ℕ) (J : List Entry) (o : Option Input) → next_input row ms J ≡ o → Fine row J → left_of ms J + v ≤ 3 * length ms → Bounded row ms (suc v) (with_next J (option_map (entry_of row J) o))
bounded_with row ms v J None n f r = inl n
bounded_with row ms v J (Some input) n f r = let lower = falls ms J (entry_of row J input) (turn row ms J input n f).1 in inr (omega arith)

stays : (row : Subscriber) (ms : List Message) (J : List Entry) → next_input row ms J ≡ None → with_next J (next_entry row ms J) ≡ J
stays row ms J n = ap (λ o. with_next J (option_map (entry_of row J) o)) n

bounded : (row : Subscriber) (ms : List Message) (v : ℕ) → Bounded row ms v (alone_to row ms v)
bounded row ms zero = inr (omega arith)
bounded row ms (suc v) =
    let J = alone_to row ms v in
    ⊎_elim
    (λ (n : next_input row ms J ≡ None). inl (subst (λ (K : List Entry). next_input row ms K ≡ None) (sym (stays row ms J n)) n))
    (λ (b : left_of ms J + v ≤ 3 * length ms). bounded_with row ms v J (next_input row ms J) refl (fine_alone row ms v) b)
    (bounded row ms v)

ended : (row : Subscriber) (ms : List Message) (J : List Entry) → Fine row J → left_of ms J ≡ 0 → next_input row ms J ≡ None
ended row ms J f z =
    let s = session_of J in
    let past : length ms ≤ taken_count J = omega arith in
    let low : rank s.stage ≡ 0 = omega arith in
    input_by_stage row ms J f
    ∙ ap (input_by row ms J) (calls_of_rank s.stage s low)
    ∙ ap (option_map inputs.Message) (slice_get_past ms (taken_count J) past)

-- no input is left
pub alone_ends : (row : Subscriber) (ms : List Message) → next_input row ms (alone_of row ms) ≡ None
unfolding alone_of
alone_ends row ms =
    let n = 3 * length ms in
    ⊎_elim
    (λ (e : next_input row ms (alone_to row ms n) ≡ None). e)
    (λ (b : left_of ms (alone_to row ms n) + n ≤ n). ended row ms (alone_to row ms n) (fine_alone row ms n) (omega arith))
    (bounded row ms n)

pub stays_so : (row : Subscriber) (ms : List Message) (v k : ℕ) → next_input row ms (alone_to row ms v) ≡ None → alone_to row ms (v + k) ≡ alone_to row ms v
stays_so row ms v zero n = rw add-zero refl
stays_so row ms v (suc k) n =
    let e = stays_so row ms v k n in
    rw add-suc (ap (λ J. with_next J (next_entry row ms J)) e ∙ stays row ms (alone_to row ms v) n)

-- where no input is left, all entries were made
pub made_all : (row : Subscriber) (ms : List Message) (v : ℕ) → v ≤ 3 * length ms → next_input row ms (alone_to row ms v) ≡ None → alone_to row ms v ≡ alone_of row ms
unfolding alone_of
made_all row ms v low n =
    let k = 3 * length ms - v in
    let e : 3 * length ms ≡ v + k = omega arith in
    sym (ap (alone_to row ms) e ∙ stays_so row ms v k n)
