use Rattle.std.proofs.Common.{◌≤◌, rules, List, map, length}
use Rattle.std.specs.Prelude.{All}
use Rattle.std.specs.List.Sorted.{IsStrictlyIncreasing, IsPermutation}
use Rattle.device_types.specs.declared.subscriber.DeviceId.{DeviceId}
use Rattle.subs_table.specs.Order.{imsi_at, devices_by_imsi}
use Rattle.subs_table.specs.Table.{device_of}
use Rattle.subs_table.proofs.OrderLaws.{values_ordered, imsis_increase, each_once, devices_within, when_is}
use Rattle.subs_table.proofs.table.SubsTable.in_imsi_order.Goals as goal

pub returns-clause-devices : goal.returns-clause-devices
returns-clause-devices c =
    rw (← c.self.view_is, ← values_ordered c.self.inside.rows.items c.self.inside.imsis c.values.ensures.ordered c.self.invariant.table.imsis c.self.invariant.by_imsi) (search rules)

pub returns-clause-increasing : goal.returns-clause-increasing
returns-clause-increasing c =
    let rows = c.args.self.now in
    let table = rw c.self.view_is at c.self.invariant.table in
    when_is c.collect.result (λ v. v.items) (λ (ds : List DeviceId). IsStrictlyIncreasing (map (imsi_at rows) ds)) (devices_by_imsi rows) (returns-clause-devices c) (imsis_increase rows table.numbers table.imsis)

pub returns-clause-each_once : goal.returns-clause-each_once
returns-clause-each_once c =
    let rows = c.args.self.now in
    when_is c.collect.result (λ v. v.items) (IsPermutation (map device_of rows)) (devices_by_imsi rows) (returns-clause-devices c) (each_once rows)

pub returns-clause-within : goal.returns-clause-within
returns-clause-within c =
    let rows = c.args.self.now in
    let table = rw c.self.view_is at c.self.invariant.table in
    when_is c.collect.result (λ v. v.items) (All (λ (d : DeviceId). (1 ≤ d.0) × (d.0 ≤ length rows))) (devices_by_imsi rows) (returns-clause-devices c) (devices_within rows table.numbers)
