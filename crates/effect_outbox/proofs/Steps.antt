-- What the calls make of the unsettled rest of a lane.
use Rattle.std.proofs.Common.{◌≡◌, ℕ, ◌+◌, ◌-◌, ◌≤◌, max, List, ◌++◌, length, drop, sym, ap, ◌∙◌, arith, length-append, length-drop}
use Rattle.std.proofs.lemmas.List.{drop-append-le, drop-drop}
use Rattle.device_types.specs.declared.event.Lane.{Lane}
use Rattle.device_types.specs.declared.event.Lane.TheVariants.{Down, Gateway, Subscriber}
use Rattle.device_types.specs.declared.effect.Effect.{Effect}
use Rattle.device_types.specs.Journal.{effects_on}
use Rattle.effect_outbox.specs.Outbox.{Unsettled, OutboxState, LaneNumbers, number_on, with_number, IsRest, Holds, with_effects, part_on, pushed_on}
use Rattle.effect_outbox.specs.Queue.{rest_from, longer, HasRoom}
use Rattle.effect_outbox.specs.Queues.{state_with, state_from}
use Rattle.effect_outbox.specs.declared.queue.LaneQueue.{LaneQueue}

-- ---- one lane

pub rest_longer : (part : Unsettled) (effects more : List Effect) (count : ℕ) → IsRest part effects count → IsRest (longer part more) (effects ++ more) count
rest_longer part effects more count h = record {
  settled = h.settled;
  within = (let n = length-append effects more in let low = h.within in omega arith);
  rest = ap (λ r. r ++ more) h.rest ∙ sym (drop-append-le count effects more h.within);
}

pub rest_settled : (part : Unsettled) (effects : List Effect) (count k : ℕ) → k ≤ part.settled + length part.rest → IsRest part effects count → IsRest (rest_from part k) effects (max k count)
rest_settled part effects count k high h =
    let n = ap length h.rest in
    let m = length-drop count effects in
    let low = h.within in
    let same = h.settled in
    let e : count + (k - count) ≡ max k count = omega arith in
    let f : k - part.settled ≡ k - count = omega arith in
    record {
      settled = omega arith;
      within = omega arith;
      rest = ap (λ i. drop i part.rest) f ∙ ap (drop (k - count)) h.rest ∙ drop-drop (k - count) count effects ∙ ap (λ i. drop i effects) e;
    }

-- ---- three lanes

pub state_longer : (outbox : OutboxState) (lanes : Lane → List Effect) (settled : LaneNumbers) (effects : List Effect) → Holds outbox lanes settled → Holds (state_with outbox effects) (with_effects lanes effects) settled
state_longer outbox lanes settled effects h = record { on = longer_on }
  where
    longer_on : (l : Lane) → IsRest (part_on (state_with outbox effects) l) (lanes l ++ effects_on l effects) (number_on settled l)
    longer_on Down = rest_longer _ _ _ _ (h.on Down)
    longer_on Gateway = rest_longer _ _ _ _ (h.on Gateway)
    longer_on Subscriber = rest_longer _ _ _ _ (h.on Subscriber)

-- ---- room

pub less_room : (queue : LaneQueue) (more less : ℕ) → HasRoom queue more → less ≤ more → HasRoom queue less
less_room queue more less h fewer = let room = h.room in let counted = h.counted in record { room = omega arith; counted = omega arith }

-- and so where there is room for one, and one is put
pub room_left : (queue after : LaneQueue) (more : ℕ) → ((left : ℕ) → HasRoom queue (left + 1) → HasRoom after left) → 1 ≤ more → HasRoom queue more → HasRoom after (more - 1)
room_left queue after more put low h = put (more - 1) (less_room queue more (more - 1 + 1) h (omega arith))

-- ---- what is settled on a lane

settled_down : (was : OutboxState) (lanes : Lane → List Effect) (settled : LaneNumbers) (k : ℕ) → k ≤ pushed_on was Down → Holds was lanes settled → Holds (state_from was Down k) lanes (with_number settled Down k)
settled_down was lanes settled k high h = record { on = on_lane }
  where
    on_lane : (l : Lane) → IsRest (part_on (state_from was Down k) l) (lanes l) (number_on (with_number settled Down k) l)
    on_lane Down = rest_settled was.down (lanes Down) settled.down k high (h.on Down)
    on_lane Gateway = h.on Gateway
    on_lane Subscriber = h.on Subscriber

settled_gateway : (was : OutboxState) (lanes : Lane → List Effect) (settled : LaneNumbers) (k : ℕ) → k ≤ pushed_on was Gateway → Holds was lanes settled → Holds (state_from was Gateway k) lanes (with_number settled Gateway k)
settled_gateway was lanes settled k high h = record { on = on_lane }
  where
    on_lane : (l : Lane) → IsRest (part_on (state_from was Gateway k) l) (lanes l) (number_on (with_number settled Gateway k) l)
    on_lane Down = h.on Down
    on_lane Gateway = rest_settled was.gateway (lanes Gateway) settled.gateway k high (h.on Gateway)
    on_lane Subscriber = h.on Subscriber

settled_subscriber : (was : OutboxState) (lanes : Lane → List Effect) (settled : LaneNumbers) (k : ℕ) → k ≤ pushed_on was Subscriber → Holds was lanes settled → Holds (state_from was Subscriber k) lanes (with_number settled Subscriber k)
settled_subscriber was lanes settled k high h = record { on = on_lane }
  where
    on_lane : (l : Lane) → IsRest (part_on (state_from was Subscriber k) l) (lanes l) (number_on (with_number settled Subscriber k) l)
    on_lane Down = h.on Down
    on_lane Gateway = h.on Gateway
    on_lane Subscriber = rest_settled was.subscriber (lanes Subscriber) settled.subscriber k high (h.on Subscriber)

pub state_settled : (was now : OutboxState) (lanes : Lane → List Effect) (settled : LaneNumbers) (l : Lane) (k : ℕ) → now ≡ state_from was l k → k ≤ pushed_on was l → Holds was lanes settled → Holds now lanes (with_number settled l k)
state_settled was now lanes settled Down k e high h = rw e (settled_down was lanes settled k high h)
state_settled was now lanes settled Gateway k e high h = rw e (settled_gateway was lanes settled k high h)
state_settled was now lanes settled Subscriber k e high h = rw e (settled_subscriber was lanes settled k high h)
