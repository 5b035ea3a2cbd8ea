-- The subscriber table: its rows in the order of their numbers.
use Rattle.std.specs.Prelude.{◌≡◌, ℕ, ◌-◌, ◌≤◌, ◌==◌, nat_lt, nat_eq, Bool, List, length, map, find, All, Option, Some, None, Result, Ok, Err, IsSomeAnd, option_map, slice_get, if◌then◌else◌}
use Rattle.std.specs.Option.{option_map_or}
use Rattle.std.specs.List.{list_any, range_with_len, IsDistinct}
use Rattle.device_types.specs.declared.subscriber.Subscriber.{Subscriber}
use Rattle.device_types.specs.declared.subscriber.DeviceId.{DeviceId}
use Rattle.echo_base.specs.declared.reason.Reason.{Reason}
use Rattle.echo_base.specs.declared.refusal.Refusal.{Refusal}
use Rattle.echo_base.specs.Answer.{refused}
use Rattle.echo_base.specs.declared.reason.Reason.TheVariants.{RepeatedImsi, RepeatedTmsi, TableFull}
use Rattle.device_types.specs.Subscriber.{IsSubscriber}

-- as many rows as a table may have
abbrev pub most_rows : ℕ
most_rows = 4096

abbrev pub number_of : Subscriber → ℕ
number_of row = row.number

abbrev pub imsi_of : Subscriber → ℕ
imsi_of row = row.imsi

abbrev pub tmsi_of : Subscriber → ℕ
tmsi_of row = row.tmsi

-- the rows are numbered from 1, there are not too many, no two have the same IMSI or the same M-TMSI, and each is in its ranges
pub record IsTable (rows : List Subscriber) : Type 0 where
  pub numbers : map number_of rows ≡ range_with_len 1 (length rows)
  pub most : length rows ≤ most_rows
  pub imsis : IsDistinct nat_eq (map imsi_of rows)
  pub tmsis : IsDistinct nat_eq (map tmsi_of rows)
  pub ranges : All IsSubscriber rows

-- the device of a row
abbrev pub device_of : Subscriber → DeviceId
device_of row = record { 0 = row.number }

-- there is a row d, and P holds of it
abbrev pub RowHas : List Subscriber → DeviceId → (Subscriber → Type 0) → Type 0
RowHas rows d P = (1 ≤ d.0) × IsSomeAnd (slice_get rows (d.0 - 1)) P

-- the device whose row has that key
unfoldable pub device_by : (Subscriber → ℕ) → List Subscriber → ℕ → Option DeviceId
device_by key rows k = option_map device_of (find (λ row. key row == k) rows)

-- a row has the key
abbrev pub has_key : (Subscriber → ℕ) → List Subscriber → ℕ → Bool
has_key key rows k = list_any (λ row. key row == k) rows

-- why a row is not added: an earlier row has its IMSI or its M-TMSI, or the table is full; in this order
unfoldable pub add_refusal : List Subscriber → Subscriber → Option Reason
add_refusal rows row =
    if has_key imsi_of rows row.imsi then Some RepeatedImsi
    else if has_key tmsi_of rows row.tmsi then Some RepeatedTmsi
    else if nat_lt (length rows) most_rows then None
    else Some TableFull

-- what adding a row answers
unfoldable pub add_answer : List Subscriber → Subscriber → Result DeviceId Refusal
add_answer rows row = option_map_or (λ reason. Err (refused reason)) (add_refusal rows row) (Ok (device_of row))
