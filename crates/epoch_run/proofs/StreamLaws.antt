-- Streams that are cut from messages: their messages are numbered, and each stream is new.
use Rattle.std.proofs.Common.{◌≡◌, ℕ, suc, ◌+◌, ◌-◌, ◌≤◌, ◌<◌, Bool, true, false, cond, List, [], ◌∷◌, ◌++◌, length, map, take, drop, get_or, refl, sym, ap, subst, ◌∙◌, arith}
use Rattle.std.specs.Prelude.{All, fold}
use Rattle.std.specs.List.{range_with_len}
use Rattle.std.proofs.Math.Seq.{drop-cons}
use Rattle.std.proofs.lemmas.List.{length-append, length-drop, map-append, take_all}
use Rattle.std.proofs.lemmas.List.Elements.{All-nil, All-push}
use Rattle.device_types.specs.declared.message.Message.{Message}
use Rattle.device_types.specs.Line.{number_of, IsNumbered}
use Rattle.epoch_agents.specs.declared.stream.Stream.{Stream}
use Rattle.epoch_agents.proofs.MergeLaws.{range-more}
use Rattle.epoch_run.specs.State.{AreDrawable}
use Rattle.epoch_run.specs.Streams.{begins, and_message, numbered, behind, next_index, stream_from, and_stream, streams_behind, streams_of, IsNew}

-- ---- messages

number_more : (messages : List Message) (message : Message) → IsNumbered messages → IsNumbered (and_message messages message)
number_more messages message numbers =
    let n = length messages in
    let last : n + 1 ≡ 1 + n = omega arith in
    let more : suc n ≡ n + 1 = omega arith in
    let all : map number_of messages ++ (n + 1) ∷ [] ≡ range_with_len 1 (n + 1) = ap (λ (l : List ℕ). l ++ (n + 1) ∷ []) numbers ∙ ap (λ (k : ℕ). range_with_len 1 n ++ k ∷ []) last ∙ sym (range-more n 1) ∙ ap (range_with_len 1) more in
    simp (map-append, length-append) all

numbers_behind : (messages more : List Message) → IsNumbered messages → IsNumbered (fold and_message messages more)
numbers_behind messages [] numbers = numbers
numbers_behind messages (message ∷ more) numbers = numbers_behind (and_message messages message) more (number_more messages message numbers)

-- messages that are numbered anew
pub are_numbered : (messages : List Message) → IsNumbered (numbered messages)
are_numbered messages = numbers_behind [] messages refl

length_behind : (messages more : List Message) → length (fold and_message messages more) ≡ length messages + length more
length_behind messages [] = omega arith
length_behind messages (message ∷ more) =
    let rest = length_behind (and_message messages message) more in
    let one = length-append messages (record message { number = length messages + 1 } ∷ []) in
    omega (arith, rest, one)

-- ---- streams

choose : {X : Type 0} (P : X → Type 0) (b : Bool) (x y : X) → P x → P y → P (cond b x y)
choose P true x y p q = p
choose P false x y p q = q

new_stream : (index : ℕ) (message : Message) (messages : List Message) → IsNew (stream_from index message messages)
new_stream index message messages = record {
  some = let long = length_behind [] (message ∷ behind message messages) in omega (arith, long);
  none_acked = refl;
}

all_new : (streams : List Stream) (messages : List Message) → All IsNew streams → All IsNew (streams_behind streams messages)
all_new streams [] all = all
all_new streams (message ∷ messages) all =
    let index = next_index streams message.station in
    let stream = stream_from index message messages in
    all_new (and_stream streams message messages) messages
    (choose (All IsNew) (begins message) (streams ++ stream ∷ []) streams (All-push IsNew streams stream all (new_stream index message messages)) all)

few_streams : (streams : List Stream) (messages : List Message) → length (streams_behind streams messages) ≤ length streams + length messages
few_streams streams [] = omega arith
few_streams streams (message ∷ messages) =
    let stream = stream_from (next_index streams message.station) message messages in
    let one = length-append streams (stream ∷ []) in
    let most : length (and_stream streams message messages) ≤ length streams + 1 = choose (λ ss. length ss ≤ length streams + 1) (begins message) (streams ++ stream ∷ []) streams (omega (arith, one)) (omega arith) in
    let rest = few_streams (and_stream streams message messages) messages in
    omega (arith, most, rest)

-- the streams of few messages, where there is one
pub drawable : (messages : List Message) (streams : List Stream) → length messages ≤ 100000 → streams ≡ streams_of messages → 1 ≤ length streams → AreDrawable streams
unfolding streams_of
drawable messages streams few is some = record {
  some = some;
  few = let most = few_streams [] messages in omega (arith, most, few, ap length is);
  each = subst (All IsNew) (sym is) (all_new [] messages (All-nil IsNew));
}

-- one message more; what is behind it is lent as a part of the whole
pub cut_more : (messages : List Message) (i : ℕ) (d message : Message) (streams later all : List Stream) → later ≡ and_stream streams message (take (length messages - (i + 1)) (drop (i + 1) messages)) → i < length messages → message ≡ get_or messages i d → streams_behind streams (drop i messages) ≡ all → streams_behind later (drop (i + 1) messages) ≡ all
cut_more messages i d message streams later all next within is before =
    let others = drop (i + 1) messages in
    let long = length-drop (i + 1) messages in
    let rest : take (length messages - (i + 1)) others ≡ others = take_all (length messages - (i + 1)) others (omega (arith, long)) in
    let on : suc i ≡ i + 1 = omega arith in
    let left : drop i messages ≡ message ∷ others = drop-cons messages i d within ∙ ap (λ m. m ∷ drop (suc i) messages) (sym is) ∙ ap (λ k. message ∷ drop k messages) on in
    ap (λ ss. streams_behind ss others) (next ∙ ap (and_stream streams message) rest) ∙ ap (streams_behind streams) (sym left) ∙ before
