-- The calls that a peer has accepted, one more, and its answer to it.
use Rattle.std.proofs.Common.{◌≡◌, ℕ, zero, suc, ◌-◌, ◌<◌, ◌≤◌, List, [], ◌∷◌, ◌++◌, length, map, get_or, replicate, Some, refl, sym, ap, ◌∙◌, subst, arith}
use Rattle.std.specs.Prelude.{All, option_map, slice_get}
use Rattle.std.specs.Option.{option_map_or}
use Rattle.std.specs.List.Sorted.{IsStrictlyIncreasing}
use Rattle.std.proofs.lemmas.List.{map-append}
use Rattle.std.proofs.lemmas.List.Kept.{AllPairs-from_increasing}
use Rattle.std.proofs.lemmas.Option.{slice_get_within, slice_get-map, get_or_from_slice_get}
use Rattle.device_types.specs.declared.effect.Effect.{Effect}
use Rattle.device_types.specs.declared.effect.Effect.TheVariants as effects
use Rattle.device_types.specs.declared.effect.GwCall.{GwCall}
use Rattle.device_types.specs.declared.effect.GwCall.TheVariants as gateway
use Rattle.device_types.specs.declared.effect.SubCall.{SubCall}
use Rattle.device_types.specs.declared.effect.SubCall.TheVariants as subscriber
use Rattle.device_types.specs.declared.subscriber.DeviceId.{DeviceId}
use Rattle.device_types.specs.declared.subscriber.Subscriber.{Subscriber}
use Rattle.device_types.specs.PeerAnswer.{create_count, gateway_answer, subscriber_answer, answer_to, answer_of}
use Rattle.device_types.specs.Subscriber.{IsSubscriber}
use Rattle.device_types.proofs.Peers.{answer_more}
use Rattle.gtp2_wire.specs.Calls.{IsGatewayAnswer}
use Rattle.dia_wire.specs.Calls.{IsServerAnswer}
use Rattle.peer_calls.specs.Calls.{calls_of}
use Rattle.peer_gateway.specs.Gateway.{gateway_answer_of}
use Rattle.peer_subscriber.specs.Server.{subscriber_answer_of}
use Rattle.subs_table.specs.Order.{imsi_at}
use Rattle.subs_table.specs.Table.{imsi_of}

-- ---- its answer

last_answer : {C : Type 0} (effect : C → Effect) (row : Subscriber) (calls : List C) (call : C) → answer_of row (map effect (calls ++ call ∷ [])) ≡ answer_to row (create_count (map effect calls)) (effect call)
last_answer effect row calls call = ap (answer_of row) (map-append effect calls (call ∷ [])) ∙ answer_more row (map effect calls) (effect call)

is_gateway : (row : Subscriber) (creates : ℕ) (call : GwCall) → IsGatewayAnswer (gateway_answer row creates call)
is_gateway row creates gateway.Create = tt
is_gateway row creates (gateway.Modify addr teid) = tt
is_gateway row creates gateway.Release = tt
is_gateway row creates gateway.Delete = tt
is_gateway row creates gateway.SecondCreate = tt
is_gateway row creates (gateway.SecondModify addr teid) = tt

pub answer_of_gateway : (row : Subscriber) (calls : List GwCall) (call : GwCall) → IsGatewayAnswer (gateway_answer_of row (calls ++ call ∷ []))
answer_of_gateway row calls call = subst IsGatewayAnswer (sym (last_answer effects.Gateway row calls call)) (is_gateway row (create_count (map effects.Gateway calls)) call)

is_server : (row : Subscriber) (call : SubCall) → IsSubscriber row → IsServerAnswer (subscriber_answer row call)
is_server row subscriber.Vectors ranges = (ranges.rand, ranges.res_least, ranges.res_most, ranges.autn, ranges.key)
is_server row subscriber.Location ranges = tt
is_server row subscriber.Purge ranges = tt

pub answer_of_server : (row : Subscriber) (calls : List SubCall) (call : SubCall) → IsSubscriber row → IsServerAnswer (subscriber_answer_of row (calls ++ call ∷ []))
answer_of_server row calls call ranges = subst IsServerAnswer (sym (last_answer effects.Subscriber row calls call)) (is_server row call ranges)

-- ---- the calls of each device

pub none_yet : {C : Type 0} (devices d : ℕ) → calls_of (replicate {A = List C} devices []) d ≡ []
none_yet {C} devices d = none_at devices (d - 1)
  where
    none_at : (count i : ℕ) → get_or (replicate {A = List C} count []) i [] ≡ []
    none_at zero i = refl
    none_at (suc count) zero = refl
    none_at (suc count) (suc i) = none_at count i

-- no device comes twice in the order of the IMSIs
pub comes_once : (rows : List Subscriber) (devices : List DeviceId) (i j : ℕ) (a b : DeviceId) → IsStrictlyIncreasing (map (imsi_at rows) devices) → slice_get devices i ≡ Some a → slice_get devices j ≡ Some b → i < j → b.0 ≡ a.0 → ⊥
comes_once rows devices i j a b order first second later same =
    let imsis = map (imsi_at rows) devices in
    let here : slice_get imsis i ≡ Some (imsi_at rows a) = slice_get-map (imsi_at rows) devices i ∙ ap (option_map (imsi_at rows)) first in
    let there : slice_get imsis j ≡ Some (imsi_at rows b) = slice_get-map (imsi_at rows) devices j ∙ ap (option_map (imsi_at rows)) second in
    let less = AllPairs-from_increasing imsis order i j 0 later (slice_get_within imsis j (imsi_at rows b) there) in
    let one : imsi_at rows b ≡ imsi_at rows a = ap (λ n. option_map_or imsi_of (slice_get rows (n - 1)) 0) same in
    omega (arith, less, get_or_from_slice_get imsis i (imsi_at rows a) 0 here, get_or_from_slice_get imsis j (imsi_at rows b) 0 there, one)

abbrev pub IsNumbered : List Subscriber → DeviceId → Type 0
IsNumbered rows d = (1 ≤ d.0) × (d.0 ≤ length rows)

pub is_numbered : (rows : List Subscriber) (devices : List DeviceId) (i : ℕ) (d : DeviceId) → All (IsNumbered rows) devices → slice_get devices i ≡ Some d → 1 ≤ d.0
is_numbered rows devices i d within found = subst (λ (e : DeviceId). 1 ≤ e.0) (get_or_from_slice_get devices i d d found) (within i d (slice_get_within devices i d found)).0
