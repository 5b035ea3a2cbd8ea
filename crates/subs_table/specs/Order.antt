-- The devices in the order of their IMSIs.
use Rattle.std.specs.Prelude.{ℕ, ◌-◌, nat_lt, List, [], ◌∷◌, map, slice_get, if◌then◌else◌}
use Rattle.std.specs.Option.{option_map_or}
use Rattle.device_types.specs.declared.subscriber.Subscriber.{Subscriber}
use Rattle.device_types.specs.declared.subscriber.DeviceId.{DeviceId}
use Rattle.subs_table.specs.Table.{imsi_of, device_of}

-- a row put into its place among rows that stand in the order of their IMSIs
abbrev pub put : Subscriber → List Subscriber → List Subscriber
put row [] = row ∷ []
put row (other ∷ rows) = if nat_lt row.imsi other.imsi then row ∷ other ∷ rows else other ∷ put row rows

-- the rows in the order of their IMSIs
unfoldable pub rows_by_imsi : List Subscriber → List Subscriber
rows_by_imsi [] = []
rows_by_imsi (row ∷ rows) = put row (rows_by_imsi rows)

-- their devices
abbrev pub devices_by_imsi : List Subscriber → List DeviceId
devices_by_imsi rows = map device_of (rows_by_imsi rows)

-- the IMSI of a device, by its row
abbrev pub imsi_at : List Subscriber → DeviceId → ℕ
imsi_at rows d = option_map_or imsi_of (slice_get rows (d.0 - 1)) 0
