-- The messages of a merge are no more than its entries; and what holds of each item of a list holds of the one at a place.
use Rattle.std.proofs.Common.{◌≡◌, ℕ, ◌+◌, ◌≤◌, List, [], ◌∷◌, length, Option, Some, None, subst, arith}
use Rattle.std.specs.Prelude.{All, fold, slice_get}
use Rattle.std.proofs.lemmas.List.{length-append}
use Rattle.std.proofs.lemmas.List.Elements.{All-get_or}
use Rattle.std.proofs.lemmas.Option.{slice_get_within, get_or_from_slice_get}
use Rattle.agent_order.specs.Order.{message_at}
use Rattle.device_types.specs.declared.message.Message.{Message}
use Rattle.epoch_agents.specs.declared.stream.Merged.{Merged}
use Rattle.epoch_agents.specs.declared.stream.Stream.{Stream}
use Rattle.epoch_agents.specs.Streams.{messages_of}
use Rattle.epoch_run.specs.Text.{and_found, and_entry, messages_merged}

found_few : (messages : List Message) (found : Option Message) → length (and_found messages found) ≤ length messages + 1
found_few messages None = omega arith
found_few messages (Some message) = let one = length-append messages (record message { number = length messages + 1 } ∷ []) in omega (arith, one)

few_behind : (streams : List Stream) (messages : List Message) (merged : List Merged) → length (fold (and_entry streams) messages merged) ≤ length messages + length merged
few_behind streams messages [] = omega arith
few_behind streams messages (entry ∷ merged) =
    let one = found_few messages (message_at (messages_of streams entry.a) entry.n) in
    let rest = few_behind streams (and_entry streams messages entry) merged in
    omega (arith, one, rest)

pub few_taken : (streams : List Stream) (merged : List Merged) → length (messages_merged streams merged) ≤ length merged
few_taken streams merged = let few = few_behind streams [] merged in omega (arith, few)

-- ---- an item of a list

pub item_of : {X : Type 0} (P : X → Type 0) (xs : List X) (i : ℕ) (x : X) → slice_get xs i ≡ Some x → All P xs → P x
item_of P xs i x is all = subst P (get_or_from_slice_get xs i x x is) (All-get_or P xs i x (slice_get_within xs i x is) all)
