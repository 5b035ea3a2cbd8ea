-- What an outbox says of the lanes whose unsettled rest it holds.
use Rattle.std.proofs.Common.{◌≡◌, ℕ, List, length, sym, subst, ap, ◌∙◌, arith, length-drop}
use Rattle.device_types.specs.declared.event.Lane.{Lane}
use Rattle.device_types.specs.declared.event.Lane.TheVariants.{Down, Gateway, Subscriber}
use Rattle.device_types.specs.declared.effect.Effect.{Effect}
use Rattle.effect_outbox.specs.Outbox.{OutboxState, LaneNumbers, part_on, number_on, IsRest, Holds, settled_of, pushed_on}

-- how many effects of a lane were made
pub held_pushed : (outbox : OutboxState) (lanes : Lane → List Effect) (settled : LaneNumbers) (l : Lane) → Holds outbox lanes settled → pushed_on outbox l ≡ length (lanes l)
held_pushed outbox lanes settled l h =
    let part = h.on l in
    let within = part.within in
    let count = part.settled in
    let n = ap length part.rest in
    let m = length-drop (number_on settled l) (lanes l) in
    omega arith

-- how many effects of each lane are settled
pub held_settled : (outbox : OutboxState) (lanes : Lane → List Effect) (settled : LaneNumbers) → Holds outbox lanes settled → settled_of outbox ≡ settled
held_settled outbox lanes settled h =
    ap (λ n. record { down = n; gateway = outbox.gateway.settled; subscriber = outbox.subscriber.settled }) (h.on Down).settled
    ∙ ap (λ n. record { down = settled.down; gateway = n; subscriber = outbox.subscriber.settled }) (h.on Gateway).settled
    ∙ ap (λ n. record { down = settled.down; gateway = settled.gateway; subscriber = n }) (h.on Subscriber).settled

-- it holds the same lanes, whatever room there is
held_room : (outbox : OutboxState) (room : ℕ) (lanes : Lane → List Effect) (settled : LaneNumbers) → Holds outbox lanes settled → Holds (record outbox { room = room }) lanes settled
held_room outbox room lanes settled h = record { on = on_lane }
  where
    on_lane : (l : Lane) → IsRest (part_on (record outbox { room = room }) l) (lanes l) (number_on settled l)
    on_lane Down = h.on Down
    on_lane Gateway = h.on Gateway
    on_lane Subscriber = h.on Subscriber

pub held_with_room : (was now : OutboxState) (lanes : Lane → List Effect) (settled : LaneNumbers) → now ≡ record was { room = now.room } → Holds was lanes settled → Holds now lanes settled
held_with_room was now lanes settled same h = subst (λ outbox. Holds outbox lanes settled) (sym same) (held_room was now.room lanes settled h)
