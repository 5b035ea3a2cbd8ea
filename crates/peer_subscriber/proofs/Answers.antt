-- What the subscriber server answers to the next call, and to one that comes again.
use Rattle.std.proofs.Common.{◌≡◌, ℕ, ◌-◌, ◌≤◌, List, [], ◌∷◌, ◌++◌, map, take, Some, ap, ◌∙◌}
use Rattle.std.specs.Prelude.{slice_get}
use Rattle.std.proofs.lemmas.List.{map-append}
use Rattle.device_types.specs.declared.effect.Effect.TheVariants as effects
use Rattle.device_types.specs.declared.effect.SubCall.{SubCall}
use Rattle.device_types.specs.declared.subscriber.Subscriber.{Subscriber}
use Rattle.device_types.specs.PeerAnswer.{subscriber_answer, answer_of}
use Rattle.device_types.proofs.Peers.{answer_more}
use Rattle.peer_calls.proofs.Offers.{call_last}
use Rattle.peer_subscriber.specs.Server.{subscriber_answer_of}

pub answer_next : (row : Subscriber) (calls : List SubCall) (call : SubCall) → subscriber_answer_of row (calls ++ call ∷ []) ≡ subscriber_answer row call
answer_next row calls call = ap (answer_of row) (map-append effects.Subscriber calls (call ∷ [])) ∙ answer_more row (map effects.Subscriber calls) (effects.Subscriber call)

pub answer_again : (row : Subscriber) (calls : List SubCall) (k : ℕ) (call : SubCall) → 1 ≤ k → slice_get calls (k - 1) ≡ Some call → subscriber_answer_of row (take k calls) ≡ subscriber_answer row call
answer_again row calls k call low found = ap (subscriber_answer_of row) (call_last calls k call low found) ∙ answer_next row (take (k - 1) calls) call
