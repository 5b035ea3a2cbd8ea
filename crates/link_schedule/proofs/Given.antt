-- Answers that a peer has given.
use Rattle.std.proofs.Common.{◌≡◌, ℕ, ◌≤◌, ◌<◌, Bool, true, false, [], List, length, take, map, Option, Some, None, refl, ap, ◌∙◌, arith}
use Rattle.std.specs.Prelude.{nat_le}
use Rattle.std.proofs.lemmas.List.{take-map, length-map}
use Rattle.device_types.specs.declared.effect.Effect.{Effect}
use Rattle.device_types.specs.declared.event.Lane.{Lane}
use Rattle.device_types.specs.declared.event.Lane.TheVariants.{Down, Gateway, Subscriber}
use Rattle.device_types.specs.declared.input.Answer.{Answer}
use Rattle.device_types.specs.declared.subscriber.Subscriber.{Subscriber as SubscriberRow}
use Rattle.device_types.specs.Event.{IsCallLane}
use Rattle.device_types.specs.Numbers.{IsWithin}
use Rattle.device_types.specs.PeerAnswer.{answer_of}
use Rattle.peer_calls.specs.Calls.{calls_of}
use Rattle.schedule_laws.specs.Answer.{Lawful}
use Rattle.schedule_laws.specs.Counts.{Turn, accepted}
use Rattle.schedule_laws.specs.Setting.{Setting, row_of}
use Rattle.link_schedule.specs.World.{Parts, IsSetting, accepted_effects, accepted_calls, answer_given, ArePartsOf}
use Rattle.schedule_laws.specs.Packets.{if_so}
use Rattle.schedule_laws.proofs.Comparisons.{le_true, le_false}
use Rattle.link_schedule.proofs.Calls.{gateway_count, effects_few}
use Rattle.link_schedule.proofs.Lanes.{accepted_length}
use Rattle.schedule_laws.proofs.Laws.{accepted_bound}

-- the call was accepted, and this is the answer to the calls up to it
pub was_given : {C : Type 0} (f : C → Effect) (row : SubscriberRow) (calls : List C) (k : ℕ) (answer : Answer) → k ≤ length calls → answer ≡ answer_of row (map f (take k calls)) → Some answer ≡ answer_given row (map f calls) k
was_given f row calls k answer low is =
    rw (le_true k (length (map f calls)) (let e = length-map calls f in omega arith), take-map f k calls, is) refl

-- it was not
pub not_given : {C : Type 0} (f : C → Effect) (row : SubscriberRow) (calls : List C) (k : ℕ) → length calls < k → None ≡ answer_given row (map f calls) k
not_given f row calls k high = rw (le_false k (length (map f calls)) (let e = length-map calls f in omega arith)) refl

-- the calls of a device that the peer of a lane has accepted are the effects of that lane that were accepted
pub calls_are : (s : Setting) (H : List Turn) (p : Parts) (d : ℕ) (l : Lane) → IsCallLane l → ArePartsOf s H p → IsWithin (length s.rows) d → accepted_calls p.gateway p.subscriber l d ≡ accepted_effects s l H d
calls_are s H p d Down i m within = absurd (i)
calls_are s H p d Gateway i m within = m.gateway.at d [] within
calls_are s H p d Subscriber i m within = m.subscriber.at d [] within

-- an answer was given exactly where the call was accepted, and it is that to the calls up to it
pub given_is : (s : Setting) (H : List Turn) (p : Parts) (d : ℕ) (l : Lane) (k : ℕ) (row : SubscriberRow) (given : Option Answer) → Lawful s H → ArePartsOf s H p → IsWithin (length s.rows) d → IsCallLane l → row ≡ row_of s d → given ≡ answer_given row (accepted_calls p.gateway p.subscriber l d) k → given ≡ if_so (nat_le k (accepted d l H)) (Some (answer_of (row_of s d) (take k (accepted_effects s l H d))))
given_is s H p d l k row given L m within lane same is =
    is ∙ ap (λ r. answer_given r (accepted_calls p.gateway p.subscriber l d) k) same ∙ ap (λ xs. answer_given (row_of s d) xs k) (calls_are s H p d l lane m within)
    ∙ ap (λ n. if_so (nat_le k n) (Some (answer_of (row_of s d) (take k (accepted_effects s l H d))))) (accepted_length s H d l L)

pub some_given : (n k : ℕ) (x y : Answer) → Some x ≡ if_so (nat_le k n) (Some y) → (nat_le k n ≡ true) × (x ≡ y)
some_given n k x y e = by (nat_le k n) e
  where
    by : (b : Bool) → Some x ≡ if_so b (Some y) → (b ≡ true) × (x ≡ y)
    by true e = (refl, (let same : x ≡ y = cc in same))
    by false e = absurd (cc)

pub none_given : (n k : ℕ) (y : Answer) → None ≡ if_so (nat_le k n) (Some y) → nat_le k n ≡ false
none_given n k y e = by (nat_le k n) e
  where
    by : (b : Bool) → None ≡ if_so b (Some y) → b ≡ false
    by true e = absurd (cc)
    by false e = refl

-- the gateway has accepted few calls of a device
pub calls_few : (s : Setting) (H : List Turn) (p : Parts) (d : ℕ) → IsSetting s → Lawful s H → ArePartsOf s H p → IsWithin (length s.rows) d → length (calls_of p.gateway d) ≤ 1200000
calls_few s H p d is L m within =
    let a = gateway_count s H d (calls_of p.gateway d) L (m.gateway.at d [] within) in
    let b = accepted_bound s d Gateway H L in
    let c = effects_few s H d Gateway is L within in
    omega arith
