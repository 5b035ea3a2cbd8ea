-- The message at a place has that number.
use Rattle.std.proofs.Common.{◌≡◌, ℕ, ◌+◌, ◌<◌, List, length, get_or, map, Option, Some, None, Bor, ap, arith}
use Rattle.std.specs.Prelude.{IfSome}
use Rattle.std.specs.Slice.{IsItemAt}
use Rattle.std.proofs.lemmas.List.{get_or-map}
use Rattle.std.proofs.lemmas.List.FromFn.{get_or-range_with_len}
use Rattle.device_types.specs.declared.message.Message.{Message}
use Rattle.device_types.specs.Line.{IsNumbered, number_of}

pub number_at : (messages : List Message) (i n : ℕ) (message : Message) → IsNumbered messages → i < length messages → i + 1 ≡ n → message ≡ get_or messages i message → message.number ≡ n
number_at messages i n message numbers within place item =
    let here : get_or (map number_of messages) i 0 ≡ number_of (get_or messages i message) = get_or-map number_of messages i message 0 within in
    let there = get_or-range_with_len 1 (length messages) i 0 within in
    let same = ap (λ xs. get_or xs i 0) numbers in
    let own = ap number_of item in
    omega arith

-- the same of an item that is lent
pub numbered_item : (messages : List Message) (i n : ℕ) (item : Option (Bor Message)) → IsNumbered messages → i + 1 ≡ n → IsItemAt messages i item → IfSome item (λ message. message.now.number ≡ n)
numbered_item messages i n None numbers place lookup = tt
numbered_item messages i n (Some message) numbers place lookup = number_at messages i n message.now numbers (lookup.3.0) place lookup.1
