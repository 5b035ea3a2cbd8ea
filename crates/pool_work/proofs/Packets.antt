-- What a packet is made of.
use Rattle.std.proofs.Common.{◌≡◌, ℕ, zero, suc, ◌+◌, ◌-◌, ◌<◌, List, [], ◌∷◌, length, get_or, map, Option, Some, sym, ap, subst, refl, arith}
use Rattle.std.specs.Prelude.{slice_get, IsSomeAnd}
use Rattle.std.proofs.lemmas.List.{get_or-map}
use Rattle.std.proofs.lemmas.List.FromFn.{get_or-range_with_len}
use Rattle.std.proofs.lemmas.Option.{slice_get_within, get_or_from_slice_get}
use Rattle.device_types.specs.declared.input.Input.{Input}
use Rattle.device_types.specs.declared.input.Input.TheVariants as inputs
use Rattle.device_types.specs.declared.message.Message.{Message}
use Rattle.device_types.specs.declared.subscriber.DeviceId.{DeviceId}
use Rattle.device_types.specs.declared.subscriber.Subscriber.{Subscriber}
use Rattle.device_types.specs.Line.{IsLine, IsNumbered, number_of}
use Rattle.pool_rows.specs.Seats.{IsOwnOf}
use Rattle.replica_worker.specs.Writes.{IsOwnInput}
use Rattle.session_store.specs.AloneLaw.{holds_of}
use Rattle.session_store.specs.Charter.{CharterState, IsCharter}
use Rattle.session_store.specs.Rows.{IsDevice}
use Rattle.pool_work.specs.Packets.{IsPacket}

-- ---- lines

pub line_is : (charter : CharterState) (k : ℕ) (ms : List Message) → IsCharter charter → slice_get charter.lines k ≡ Some ms → IsLine ms
line_is charter k ms c at = holds_of IsLine charter.lines k ms c.lines at

-- ---- own inputs

pub some_at : {X : Type 0} (xs : List X) (i : ℕ) → i < length xs → (x : X) × (slice_get xs i ≡ Some x)
some_at [] i low = absurd (omega arith)
some_at (x ∷ xs) zero low = (x, refl)
some_at (x ∷ xs) (suc i) low = some_at xs i (omega arith)

own_with : (charter : CharterState) (d : ℕ) (input : Input) (ms : List Message) (row : Subscriber) → slice_get charter.rows (d - 1) ≡ Some row → slice_get charter.lines (d - 1) ≡ Some ms → IsOwnInput row input ms → IsOwnOf charter d input
own_with charter d input ms row at line own =
    subst (λ (o : Option Subscriber). IsSomeAnd o (λ r. IsSomeAnd (slice_get charter.lines (d - 1)) (IsOwnInput r input))) (sym at)
    (subst (λ (o : Option (List Message)). IsSomeAnd o (IsOwnInput row input)) (sym line) own)

-- of the device whose row this is
pub owned : (charter : CharterState) (d : ℕ) (input : Input) (row : Subscriber) → IsOwnOf charter d input → slice_get charter.rows (d - 1) ≡ Some row → IsSomeAnd (slice_get charter.lines (d - 1)) (IsOwnInput row input)
owned charter d input row own at = subst (λ (o : Option Subscriber). IsSomeAnd o (λ r. IsSomeAnd (slice_get charter.lines (d - 1)) (IsOwnInput r input))) at own

-- ---- messages

number_at : (ms : List Message) (i : ℕ) (m : Message) → IsNumbered ms → slice_get ms i ≡ Some m → m.number ≡ i + 1
number_at ms i m numbers at =
    let within = slice_get_within ms i m at in
    let here : get_or (map number_of ms) i 0 ≡ number_of (get_or ms i m) = get_or-map number_of ms i m 0 within in
    let there = get_or-range_with_len 1 (length ms) i 0 within in
    let same = ap (λ xs. get_or xs i 0) numbers in
    let own = ap number_of (get_or_from_slice_get ms i m m at) in
    omega arith

pub message_packet : (charter : CharterState) (d : DeviceId) (ms : List Message) (i : ℕ) (m : Message) → IsDevice (length charter.rows) d.0 → slice_get charter.lines (d.0 - 1) ≡ Some ms → IsLine ms → slice_get ms i ≡ Some m → IsPacket charter (record { d = d; input = inputs.Message m })
message_packet charter d ms i m device line is at =
    let number = number_at ms i m is.numbers at in
    let place : m.number - 1 ≡ i = omega arith in
    let row = some_at charter.rows (d.0 - 1) (omega (arith, device.0, device.1)) in
    record {
      device = device;
      asked = omega arith;
      own = own_with charter d.0 (inputs.Message m) ms row.0 row.1 line (subst (λ (j : ℕ). slice_get ms j ≡ Some m) (sym place) at);
    }
