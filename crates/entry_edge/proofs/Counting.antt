-- How many messages a trace gives: one line for each row, and no device has more messages than the trace has lines.
use Rattle.std.proofs.Common.{◌≡◌, ◌≤◌, ℕ, ◌+◌, Bool, true, false, cond, List, [], ◌∷◌, length, arith, length-append, get_or}
use Rattle.std.specs.Prelude.{All, fold, ◌==◌}
use Rattle.std.specs.List.{range_with_len}
use Rattle.std.proofs.lemmas.List.FromFn.{length-map-range_with_len}
use Rattle.std.proofs.lemmas.List.Elements.{All-map}
use Rattle.device_types.specs.declared.subscriber.Subscriber.{Subscriber}
use Rattle.device_types.specs.declared.message.Message.{Message}
use Rattle.case_form.specs.declared.case.TraceLine.{TraceLine}
use Rattle.entry_edge.specs.Trace.{Turn, Admitted, Refused, turn, history, and_message, messages_of, book_of}

turns : (rows : List Subscriber) (H : List Turn) (trace : List TraceLine) → length (fold (turn rows) H trace) ≡ length H + length trace
turns rows H [] = omega arith
turns rows H (line ∷ trace) = let more = turns rows (turn rows H line) trace in omega arith

one_of : (mine : Bool) (messages others : List Message) (n : ℕ) → length messages ≤ n + 1 → length others ≤ n → length (cond mine messages others) ≤ n + 1
one_of true messages others n m o = m
one_of false messages others n m o = omega arith

few_messages : (d : ℕ) (H : List Turn) → length (messages_of d H) ≤ length H
few_messages d [] = omega arith
few_messages d (Refused r ∷ H) = let few = few_messages d H in omega arith
few_messages d (Admitted t ∷ H) =
    let few = few_messages d H in
    let more : length (and_message (messages_of d H) t) ≡ length (messages_of d H) + 1 = length-append (messages_of d H) _ in
    let most = one_of (t.device.0 == d) (and_message (messages_of d H) t) (messages_of d H) (length H) (omega arith) few in
    omega arith

pub few_in_book : (n : ℕ) (rows : List Subscriber) (trace : List TraceLine) → All (λ messages. length messages ≤ length trace) (book_of n (history rows trace))
few_in_book n rows trace =
    All-map (λ (messages : List Message). length messages ≤ length trace) (λ d. messages_of d (history rows trace)) (range_with_len 1 n)
    (λ k d within.
    let few = few_messages (get_or (range_with_len 1 n) k d) (history rows trace) in
    let lines = turns rows [] trace in
    omega arith)

pub length_book : (n : ℕ) (H : List Turn) → length (book_of n H) ≡ n
length_book n H = length-map-range_with_len (λ d. messages_of d H) 1 n
