-- The maps beside the rows of a table.
use Rattle.std.specs.Prelude.{◌≡◌, ℕ, List}
use Rattle.std.specs.Ordering.{nat_cmp}
use Rattle.std.specs.BTreeMap.{BTreeMap, get}
use Rattle.device_types.specs.declared.subscriber.Subscriber.{Subscriber}
use Rattle.device_types.specs.declared.subscriber.DeviceId.{DeviceId}
use Rattle.subs_table.specs.Table.{IsTable, imsi_of, tmsi_of, device_by}

-- the map has the device of each row at the row's key, and nothing else
abbrev pub IsIndex : (Subscriber → ℕ) → List Subscriber → BTreeMap ℕ DeviceId → Type 0
IsIndex key rows index = (k : ℕ) → get nat_cmp index k ≡ device_by key rows k

-- a table, and its maps from the IMSIs and from the M-TMSIs
pub record IsIndexed (rows : List Subscriber) (imsis tmsis : BTreeMap ℕ DeviceId) : Type 0 where
  pub table : IsTable rows
  pub by_imsi : IsIndex imsi_of rows imsis
  pub by_tmsi : IsIndex tmsi_of rows tmsis
