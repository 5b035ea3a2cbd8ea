-- Events of effects keep the parts of a world.
use Rattle.std.proofs.Common.{◌≡◌, ◌==◌, ℕ, ◌+◌, ◌-◌, max, Bool, true, false, cond, ◌&&◌, List, [], ◌∷◌, ◌++◌, length, set, get_or, Some, refl, sym, ap, ◌∙◌, arith}
use Rattle.std.specs.Prelude.{map, slice_get}
use Rattle.std.proofs.lemmas.List.{map-append, take_more, length-take-le}
use Rattle.std.proofs.lemmas.Option.{get_or_from_slice_get, slice_get_within}
use Rattle.agent_resend.specs.Window.{WindowState}
use Rattle.device_types.specs.declared.down.Down.{Down as DownMessage}
use Rattle.device_types.specs.declared.effect.Effect.{Effect as EffectValue}
use Rattle.device_types.specs.declared.effect.Effect.TheVariants as effects
use Rattle.device_types.specs.declared.effect.GwCall.{GwCall}
use Rattle.device_types.specs.declared.effect.SubCall.{SubCall}
use Rattle.device_types.specs.declared.event.Event.TheVariants.{Push, Effect, Settle}
use Rattle.device_types.specs.declared.event.EventAnswer.TheVariants as told
use Rattle.device_types.specs.declared.event.Lane.{Lane}
use Rattle.device_types.specs.declared.event.Lane.TheVariants.{Down, Gateway, Subscriber}
use Rattle.device_types.specs.declared.subscriber.DeviceId.{DeviceId}
use Rattle.device_types.specs.Journal.{effects_of}
use Rattle.device_types.specs.Look.{same_lane}
use Rattle.device_types.specs.Numbers.{IsWithin}
use Rattle.effect_outbox.specs.Outbox.{number_on, with_number}
use Rattle.session_row.specs.Row.{RowState}
use Rattle.schedule_laws.specs.Answer.{Lawful}
use Rattle.schedule_laws.specs.Counts.{Turn, accepted, settled, journal, commits}
use Rattle.schedule_laws.specs.Lists.{Each}
use Rattle.schedule_laws.specs.Setting.{Setting, row_of, messages_of, entries_of}
use Rattle.link_schedule.specs.World.{LaneMarks, MarksOn, Parts, settled_numbers, row_after, accepted_effects, IsWindowOf, AreGatewayCalls, AreSubscriberCalls, ArePushed, ArePartsOf}
use Rattle.link_schedule.proofs.Events.{window_same, window_read}
use Rattle.schedule_laws.proofs.Items.{Each-set, Each-keep}
use Rattle.schedule_laws.proofs.Laws.{accepted_bound}
use Rattle.schedule_laws.proofs.Runs.{Begins-length, effects_begin, to_alone}
use Rattle.schedule_laws.proofs.Comparisons.{here, not_here, lane_here}

-- ---- an effect is put on its link

pub settled_is : (d : ℕ) (l : Lane) (H : List Turn) → number_on (settled_numbers d H) l ≡ settled d l H
settled_is d Down H = refl
settled_is d Gateway H = refl
settled_is d Subscriber H = refl

pub pushes : (s : Setting) (H : List Turn) (p : Parts) (e : DeviceId) (l : Lane) (k : ℕ) (was now : LaneMarks) → was ≡ get_or p.pushed (e.0 - 1) was → MarksOn was now l k → IsWithin (length s.rows) e.0 → ArePartsOf s H p → ArePartsOf s ((Push e l k, told.Pushed) ∷ H) (record p { pushed = set p.pushed (e.0 - 1) now })
pushes s H p e l k was now at marks within m =
    let K = (Push e l k, told.Pushed) ∷ H in
    let old : ArePushed H e.0 was = rw (← at) at (m.pushed.at e.0 was within) in
    record {
      rows = m.rows;
      hands = m.hands;
      windows = m.windows;
      gateway = m.gateway;
      subscriber = m.subscriber;
      sent = m.sent;
      pushed = Each-set p.pushed (length s.rows) (ArePushed H) (ArePushed K) e.0 now m.pushed within
          (λ n j low. rw (marks n j low, old n j low, here e.0) refl)
          (λ i x ne g n j low. rw (g n j low, not_here e.0 i ne) refl);
    }

-- ---- an effect arrives

-- what was accepted is as long as it is to be
pub accepted_length : (s : Setting) (H : List Turn) (d : ℕ) (l : Lane) → Lawful s H → length (accepted_effects s l H d) ≡ accepted d l H
accepted_length s H d l L =
    let b = accepted_bound s d l H L in
    let g = Begins-length (effects_of l (journal s d H)) (effects_of l (entries_of s d)) (effects_begin l (journal s d H) (entries_of s d) (to_alone (row_of s d) (messages_of s d) (commits d H))) in
    length-take-le (accepted d l H) (effects_of l (entries_of s d)) (omega arith)

-- the next effect of a lane is the next one of the machine that never fails
pub accepted_then : (s : Setting) (H : List Turn) (e : DeviceId) (l : Lane) (k v : ℕ) (content : EffectValue) → k ≡ accepted e.0 l H + 1 → slice_get (effects_of l (entries_of s e.0)) (k - 1) ≡ Some content → accepted_effects s l H e.0 ++ content ∷ [] ≡ accepted_effects s l ((Effect e l k, told.Accepted v) ∷ H) e.0
accepted_then s H e l k v content is got =
    let A = effects_of l (entries_of s e.0) in
    let less : k - 1 ≡ accepted e.0 l H = omega arith in
    let within = slice_get_within A (k - 1) content got in
    let item : get_or A (accepted e.0 l H) content ≡ content = ap (λ i. get_or A i content) (sym less) ∙ get_or_from_slice_get A (k - 1) content content got in
    let most : max k (accepted e.0 l H) ≡ accepted e.0 l H + 1 = omega arith in
    ap (λ c. accepted_effects s l H e.0 ++ c ∷ []) (sym item)
    ∙ sym (take_more A (accepted e.0 l H) content (omega arith))
    ∙ sym (rw (here e.0, lane_here l, most) refl)

-- those of other lanes and devices stay
no_lane : (b : Bool) (x y : ℕ) → cond (b && false) x y ≡ y
no_lane true x y = refl
no_lane false x y = refl

other_lane : (d : ℕ) (m : Lane) (e : DeviceId) (l : Lane) (k v : ℕ) (H : List Turn) → same_lane m l ≡ false → accepted d m ((Effect e l k, told.Accepted v) ∷ H) ≡ accepted d m H
other_lane d m e l k v H not = rw not (no_lane (d == e.0) (max k (accepted d m H)) (accepted d m H))

other_device : (d : ℕ) (m : Lane) (e : DeviceId) (l : Lane) (k v : ℕ) (H : List Turn) → (d ≡ e.0 → ⊥) → accepted d m ((Effect e l k, told.Accepted v) ∷ H) ≡ accepted d m H
other_device d m e l k v H ne = rw (not_here e.0 d ne) refl

effects_if : (s : Setting) (H K : List Turn) (d : ℕ) (l : Lane) (xs : List EffectValue) → accepted d l K ≡ accepted d l H → xs ≡ accepted_effects s l H d → xs ≡ accepted_effects s l K d
effects_if s H K d l xs same e = rw same e

-- so do the parts of the other lanes
windows_stay : (s : Setting) (H : List Turn) (p : Parts) (e : DeviceId) (l : Lane) (k v : ℕ) → same_lane Down l ≡ false → ArePartsOf s H p → Each p.windows (length s.rows) (IsWindowOf s ((Effect e l k, told.Accepted v) ∷ H))
windows_stay s H p e l k v not m =
    let K = (Effect e l k, told.Accepted v) ∷ H in
    Each-keep p.windows (length s.rows) (IsWindowOf s H) (IsWindowOf s K) m.windows (λ j w g. window_same s H K j w refl refl (other_lane j Down e l k v H not) g)

gateway_stays : (s : Setting) (H : List Turn) (p : Parts) (e : DeviceId) (l : Lane) (k v : ℕ) → same_lane Gateway l ≡ false → ArePartsOf s H p → Each p.gateway (length s.rows) (AreGatewayCalls s ((Effect e l k, told.Accepted v) ∷ H))
gateway_stays s H p e l k v not m =
    let K = (Effect e l k, told.Accepted v) ∷ H in
    Each-keep p.gateway (length s.rows) (AreGatewayCalls s H) (AreGatewayCalls s K) m.gateway (λ j calls g. effects_if s H K j Gateway (map effects.Gateway calls) (other_lane j Gateway e l k v H not) g)

subscriber_stays : (s : Setting) (H : List Turn) (p : Parts) (e : DeviceId) (l : Lane) (k v : ℕ) → same_lane Subscriber l ≡ false → ArePartsOf s H p → Each p.subscriber (length s.rows) (AreSubscriberCalls s ((Effect e l k, told.Accepted v) ∷ H))
subscriber_stays s H p e l k v not m =
    let K = (Effect e l k, told.Accepted v) ∷ H in
    Each-keep p.subscriber (length s.rows) (AreSubscriberCalls s H) (AreSubscriberCalls s K) m.subscriber (λ j calls g. effects_if s H K j Subscriber (map effects.Subscriber calls) (other_lane j Subscriber e l k v H not) g)

pub accepts_down : (s : Setting) (H : List Turn) (p : Parts) (e : DeviceId) (k v : ℕ) (message : DownMessage) (was now : WindowState) → was ≡ get_or p.windows (e.0 - 1) was → now ≡ record was { downs = was.downs ++ message ∷ [] } → k ≡ accepted e.0 Down H + 1 → slice_get (effects_of Down (entries_of s e.0)) (k - 1) ≡ Some (effects.Down message) → IsWithin (length s.rows) e.0 → ArePartsOf s H p → ArePartsOf s ((Effect e Down k, told.Accepted v) ∷ H) (record p { windows = set p.windows (e.0 - 1) now })
accepts_down s H p e k v message was now at then is got within m =
    let K = (Effect e Down k, told.Accepted v) ∷ H in
    let i = window_read s H p e.0 was at within m in
    let more : map effects.Down (was.downs ++ message ∷ []) ≡ accepted_effects s Down K e.0 = map-append effects.Down was.downs (message ∷ []) ∙ ap (λ xs. xs ++ effects.Down message ∷ []) i.downs ∙ accepted_then s H e Down k v (effects.Down message) is got in
    record {
      rows = m.rows;
      hands = m.hands;
      sent = m.sent;
      pushed = m.pushed;
      windows = Each-set p.windows (length s.rows) (IsWindowOf s H) (IsWindowOf s K) e.0 now m.windows within
          (record { line = rw then i.line; greatest = rw then i.greatest; downs = ap (λ (w : WindowState). map effects.Down w.downs) then ∙ more })
          (λ j w ne g. window_same s H K j w refl refl (other_device j Down e Down k v H ne) g);
      gateway = gateway_stays s H p e Down k v refl m;
      subscriber = subscriber_stays s H p e Down k v refl m;
    }

pub accepts_gateway : (s : Setting) (H : List Turn) (p : Parts) (e : DeviceId) (k v : ℕ) (call : GwCall) (was now : List GwCall) → was ≡ get_or p.gateway (e.0 - 1) was → now ≡ was ++ call ∷ [] → k ≡ accepted e.0 Gateway H + 1 → slice_get (effects_of Gateway (entries_of s e.0)) (k - 1) ≡ Some (effects.Gateway call) → IsWithin (length s.rows) e.0 → ArePartsOf s H p → ArePartsOf s ((Effect e Gateway k, told.Accepted v) ∷ H) (record p { gateway = set p.gateway (e.0 - 1) now })
accepts_gateway s H p e k v call was now at then is got within m =
    let K = (Effect e Gateway k, told.Accepted v) ∷ H in
    let i : AreGatewayCalls s H e.0 was = rw (← at) at (m.gateway.at e.0 was within) in
    record {
      rows = m.rows;
      hands = m.hands;
      sent = m.sent;
      pushed = m.pushed;
      windows = windows_stay s H p e Gateway k v refl m;
      gateway = Each-set p.gateway (length s.rows) (AreGatewayCalls s H) (AreGatewayCalls s K) e.0 now m.gateway within
          (ap (map effects.Gateway) then ∙ map-append effects.Gateway was (call ∷ []) ∙ ap (λ xs. xs ++ effects.Gateway call ∷ []) i ∙ accepted_then s H e Gateway k v (effects.Gateway call) is got)
          (λ j calls ne g. effects_if s H K j Gateway (map effects.Gateway calls) (other_device j Gateway e Gateway k v H ne) g);
      subscriber = subscriber_stays s H p e Gateway k v refl m;
    }

pub accepts_subscriber : (s : Setting) (H : List Turn) (p : Parts) (e : DeviceId) (k v : ℕ) (call : SubCall) (was now : List SubCall) → was ≡ get_or p.subscriber (e.0 - 1) was → now ≡ was ++ call ∷ [] → k ≡ accepted e.0 Subscriber H + 1 → slice_get (effects_of Subscriber (entries_of s e.0)) (k - 1) ≡ Some (effects.Subscriber call) → IsWithin (length s.rows) e.0 → ArePartsOf s H p → ArePartsOf s ((Effect e Subscriber k, told.Accepted v) ∷ H) (record p { subscriber = set p.subscriber (e.0 - 1) now })
accepts_subscriber s H p e k v call was now at then is got within m =
    let K = (Effect e Subscriber k, told.Accepted v) ∷ H in
    let i : AreSubscriberCalls s H e.0 was = rw (← at) at (m.subscriber.at e.0 was within) in
    record {
      rows = m.rows;
      hands = m.hands;
      sent = m.sent;
      pushed = m.pushed;
      windows = windows_stay s H p e Subscriber k v refl m;
      gateway = gateway_stays s H p e Subscriber k v refl m;
      subscriber = Each-set p.subscriber (length s.rows) (AreSubscriberCalls s H) (AreSubscriberCalls s K) e.0 now m.subscriber within
          (ap (map effects.Subscriber) then ∙ map-append effects.Subscriber was (call ∷ []) ∙ ap (λ xs. xs ++ effects.Subscriber call ∷ []) i ∙ accepted_then s H e Subscriber k v (effects.Subscriber call) is got)
          (λ j calls ne g. effects_if s H K j Subscriber (map effects.Subscriber calls) (other_device j Subscriber e Subscriber k v H ne) g);
    }

-- ---- an acknowledgement arrives

settled_row : (s : Setting) (H : List Turn) (e : DeviceId) (l : Lane) (k : ℕ) → ◌≡◌ {A = RowState} (record { journal = journal s e.0 H; settled = with_number (settled_numbers e.0 H) l k }) (row_after s ((Settle e l k, told.Settled k) ∷ H) e.0)
settled_row s H e Down k = rw (here e.0) refl
settled_row s H e Gateway k = rw (here e.0) refl
settled_row s H e Subscriber k = rw (here e.0) refl

pub settles : (s : Setting) (H : List Turn) (p : Parts) (e : DeviceId) (l : Lane) (k : ℕ) (was now : RowState) → was ≡ get_or p.rows (e.0 - 1) was → now ≡ record was { settled = with_number was.settled l k } → IsWithin (length s.rows) e.0 → ArePartsOf s H p → ArePartsOf s ((Settle e l k, told.Settled k) ∷ H) (record p { rows = set p.rows (e.0 - 1) now })
settles s H p e l k was now at then within m =
    let K = (Settle e l k, told.Settled k) ∷ H in
    let row : was ≡ row_after s H e.0 = at ∙ m.rows.at e.0 was within in
    record {
      hands = m.hands;
      windows = m.windows;
      gateway = m.gateway;
      subscriber = m.subscriber;
      sent = m.sent;
      pushed = m.pushed;
      rows = Each-set p.rows (length s.rows) (λ d row. row ≡ row_after s H d) (λ i row. row ≡ row_after s K i) e.0 now m.rows within
          (then ∙ ap (λ (x : RowState). let y : RowState = record { journal = x.journal; settled = with_number x.settled l k } in y) row ∙ settled_row s H e l k)
          (λ i x ne g. rw (g, not_here e.0 i ne) refl);
    }
