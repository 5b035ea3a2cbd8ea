-- The answers of the peers are in their ranges, and the answer to one more call.
use Rattle.std.proofs.Common.{◌≡◌, ℕ, ◌+◌, ◌-◌, ◌≤◌, ◌<◌, ◌^◌, lit<, List, [], ◌∷◌, ◌++◌, length, take, Option, Some, None, ap, ◌∙◌, arith, rules, length-append}
use Rattle.std.specs.Prelude.{slice_get, unwrap_or, IfSome}
use Rattle.std.specs.Option.{option_map_or}
use Rattle.std.proofs.Math.Seq.{take-append_seam}
use Rattle.std.proofs.lemmas.List.{length-take}
use Rattle.std.proofs.lemmas.Grind.{common_steps}
use Rattle.std.proofs.lemmas.List.Sums.{count_by-le-length}
use Rattle.device_types.specs.declared.effect.Effect.{Effect}
use Rattle.device_types.specs.declared.effect.Effect.TheVariants as effects
use Rattle.device_types.specs.declared.effect.GwCall.TheVariants as gateway
use Rattle.device_types.specs.declared.effect.SubCall.TheVariants as subscriber
use Rattle.device_types.specs.declared.input.Answer.TheVariants as answers
use Rattle.device_types.specs.declared.subscriber.Subscriber.{Subscriber}
use Rattle.device_types.specs.Answer.{IsAnswer}
use Rattle.device_types.specs.PeerAnswer.{is_create, create_count, answer_to, answer_of}
use Rattle.device_types.specs.Subscriber.{IsSubscriber}
use Rattle.device_types.proofs.Journals.{last_more}

pub creates_append : (xs ys : List Effect) → create_count (xs ++ ys) ≡ create_count xs + create_count ys
creates_append xs ys = search (rules, common_steps)

creates_low : (calls : List Effect) → create_count calls ≤ length calls
creates_low calls = count_by-le-length is_create calls

-- the answer to one more call
pub answer_more : (row : Subscriber) (calls : List Effect) (call : Effect) → answer_of row (calls ++ call ∷ []) ≡ answer_to row (create_count calls) call
answer_more row calls call =
    let all = calls ++ call ∷ [] in
    let n : length all - 1 ≡ length calls = omega (arith, length-append calls (call ∷ [])) in
    ap (λ i. option_map_or (answer_to row (create_count (take i all))) (slice_get all i) answers.Purged) n
    ∙ ap (λ o. option_map_or (answer_to row (create_count (take (length calls) all))) o answers.Purged) (last_more calls call)
    ∙ ap (λ before. answer_to row (create_count before) call) (take-append_seam calls (call ∷ []))

second_address : (ip : Option ℕ) → IfSome ip (λ x. x < 2 ^ 32) → unwrap_or ip 0 < 2 ^ 32
second_address None h = lit< tt
second_address (Some x) h = h

pub answer_ranged : (row : Subscriber) (n : ℕ) (call : Effect) → IsSubscriber row → n < 268435456 → IsAnswer (answer_to row n call)
answer_ranged row n (effects.Gateway gateway.Create) r low = let most = r.teid_most in (r.sgw, omega arith, r.ip)
answer_ranged row n (effects.Gateway (gateway.Modify addr teid)) r low = tt
answer_ranged row n (effects.Gateway gateway.Release) r low = tt
answer_ranged row n (effects.Gateway gateway.Delete) r low = tt
answer_ranged row n (effects.Gateway gateway.SecondCreate) r low = let most = r.teid_most in (r.sgw, omega arith, second_address row.ip2 r.ip2)
answer_ranged row n (effects.Gateway (gateway.SecondModify addr teid)) r low = tt
answer_ranged row n (effects.Subscriber subscriber.Vectors) r low = record {
  rand = r.rand;
  autn = r.autn;
  res_least = r.res_least;
  res_most = r.res_most;
  rand_octets = r.rand_octets;
  autn_octets = r.autn_octets;
  res_octets = r.res_octets;
  key = record { count = r.key; octets = r.key_octets };
}
answer_ranged row n (effects.Subscriber subscriber.Location) r low = (r.ambr_dl, r.ambr_ul)
answer_ranged row n (effects.Subscriber subscriber.Purge) r low = tt
answer_ranged row n (effects.Down down) r low = tt

by_last : (row : Subscriber) (n : ℕ) (call : Option Effect) → IsSubscriber row → n < 268435456 → IsAnswer (option_map_or (answer_to row n) call answers.Purged)
by_last row n None r low = tt
by_last row n (Some call) r low = answer_ranged row n call r low

pub peer_ranged : (row : Subscriber) (calls : List Effect) → IsSubscriber row → length calls < 268435456 → IsAnswer (answer_of row calls)
peer_ranged row calls r low =
    let before = take (length calls - 1) calls in
    let few = creates_low before in
    let less = length-take (length calls - 1) calls in
    by_last row (create_count before) (slice_get calls (length calls - 1)) r (omega arith)
