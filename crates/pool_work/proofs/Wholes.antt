-- Where the row is ready for a message behind the last one, all of the machine alone was seen.
use Rattle.std.proofs.Common.{◌≡◌, ℕ, ◌+◌, ◌-◌, ◌≤◌, ◌<◌, List, length, take, Option, Some, None, sym, ap, ◌∙◌, subst, arith, ⊎_elim}
use Rattle.std.specs.Prelude.{slice_get, option_map}
use Rattle.std.proofs.lemmas.Bool.{cases_lt}
use Rattle.std.proofs.lemmas.Option.{slice_get_past}
use Rattle.device_types.specs.declared.input.Input.TheVariants as inputs
use Rattle.device_types.specs.declared.look.Look.TheVariants.{Ready}
use Rattle.device_types.specs.declared.message.Body.TheVariants.{Service}
use Rattle.device_types.specs.declared.message.Message.{Message}
use Rattle.device_types.specs.declared.step.Entry.{Entry}
use Rattle.device_types.specs.declared.subscriber.Subscriber.{Subscriber}
use Rattle.device_types.specs.Alone.{alone_of, entry_of, input_at, next_entry}
use Rattle.device_types.specs.Journal.{awaited_call, taken_count}
use Rattle.device_types.specs.Look.{look_of}
use Rattle.device_types.proofs.Prefixes.{is_alone}
use Rattle.replica_worker.proofs.May.{ready_message}
use Rattle.session_store.specs.Charter.{CharterState, alone_with}
use Rattle.session_store.specs.Law.{window}
use Rattle.pool_ends.specs.Ends.{IsWhole}
use Rattle.pool_work.specs.Stores.{seen_of_alone}
use Rattle.pool_work.proofs.Packets.{some_at}

nothing_next : (row : Subscriber) (ms : List Message) (journal : List Entry) → awaited_call journal ≡ None → length ms ≤ taken_count journal → next_entry row ms journal ≡ None
nothing_next row ms journal calm all =
    ap (λ a. option_map (entry_of row journal) (input_at row ms journal a)) calm
    ∙ ap (λ o. option_map (entry_of row journal) (option_map inputs.Message o)) (slice_get_past ms (taken_count journal) all)

whole_of : (row : Subscriber) (ms : List Message) (n : ℕ) → look_of window (take n (alone_of row ms)) (length ms + 1) ≡ Ready → length (alone_of row ms) ≤ n
whole_of row ms n ready =
    let all = alone_of row ms in
    let journal = take n all in
    let message : Message = record { number = length ms + 1; station = 0; enb = 0; body = Service } in
    let is = ready_message journal message ready in
    ⊎_elim
    (λ (within : n < length all).
    let more = some_at all n within in
    let taken = is.0 in
    let none = sym (nothing_next row ms journal is.1 (omega arith)) ∙ is_alone row ms n (omega arith) in
    let e : None ≡ Some more.0 = none ∙ more.1 in
    absurd (cc))
    (λ (past : length all ≤ n). past)
    (cases_lt n (length all))

whole_with : (row : Option Subscriber) (line : Option (List Message)) (ms : List Message) (n : ℕ) → line ≡ Some ms → look_of window (take n (alone_with row line)) (length ms + 1) ≡ Ready → length (alone_with row line) ≤ n
whole_with None line ms n is ready = omega arith
whole_with (Some row) None ms n is ready = absurd (cc)
whole_with (Some row) (Some messages) ms n is ready =
    let same : ms ≡ messages = cc in
    whole_of row messages n (subst (λ (l : List Message). look_of window (take n (alone_of row messages)) (length l + 1) ≡ Ready) same ready)

pub whole_when : (charter : CharterState) (d : ℕ) (known : List Entry) (ms : List Message) → slice_get charter.lines (d - 1) ≡ Some ms → look_of window (seen_of_alone charter d known) (length ms + 1) ≡ Ready → IsWhole charter d known
whole_when charter d known ms line ready = whole_with (slice_get charter.rows (d - 1)) (slice_get charter.lines (d - 1)) ms (length known) line ready

-- and so it stays
pub whole_more : (charter : CharterState) (d : ℕ) (known more : List Entry) → length known ≤ length more → IsWhole charter d known → IsWhole charter d more
whole_more charter d known more low whole = omega (arith, low, whole)
