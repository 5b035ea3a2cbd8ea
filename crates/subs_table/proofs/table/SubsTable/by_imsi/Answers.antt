use Rattle.std.proofs.Common.{◌∙◌}
use Rattle.subs_table.specs.Table.{imsi_of}
use Rattle.subs_table.proofs.DeviceLaws.{device_is, no_device_is, device_within}
use Rattle.subs_table.proofs.table.SubsTable.by_imsi.Goals as goal

pub returns-clause-found : goal.returns-clause-found
returns-clause-found c =
    let table = c.self.invariant.table in
    rw (← c.self.view_is) (device_is imsi_of c.self.inside.rows.items c.args.imsi table.numbers table.imsis c.copied.result (c.copied.ensures ∙ c.get.ensures.value ∙ c.self.invariant.by_imsi c.args.imsi))

pub returns-clause-none : goal.returns-clause-none
returns-clause-none c = rw (← c.self.view_is) (no_device_is imsi_of c.self.inside.rows.items c.args.imsi c.copied.result (c.copied.ensures ∙ c.get.ensures.value ∙ c.self.invariant.by_imsi c.args.imsi))

pub returns-clause-within : goal.returns-clause-within
returns-clause-within c = rw (← c.self.view_is) (device_within imsi_of c.self.inside.rows.items c.args.imsi c.self.invariant.table.numbers c.copied.result (c.copied.ensures ∙ c.get.ensures.value ∙ c.self.invariant.by_imsi c.args.imsi))
