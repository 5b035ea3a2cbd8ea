use Rattle.std.proofs.Common.{◌≡◌, ap, ◌∙◌, subst}
use Rattle.session_row.specs.Row.{RowState}
use Rattle.session_store.specs.Rows.{opening_row}
use Rattle.link_schedule.specs.Settled.{turns_in, journal_in}
use Rattle.link_schedule.specs.View.{view_of}
use Rattle.link_schedule.specs.World.{WorldState, row_after}
use Rattle.link_schedule.proofs.Noted.{device_in}
use Rattle.link_schedule.proofs.world.World.row.Goals as goal

pub returns : goal.returns
returns c =
    let w = view_of c.self.inside in
    let within = device_in c.args.self.now w c.args.d.0 c.self.view_is c.requires in
    let own : c.row.result.now ≡ row_after w.setting (turns_in w) c.args.d.0 = c.row.ensures ∙ c.self.invariant.world.parts.rows.at c.args.d.0 opening_row within in
    subst (λ (x : WorldState). c.row.result.now.journal ≡ journal_in x c.args.d.0) c.self.view_is (ap (λ (r : RowState). r.journal) own)
