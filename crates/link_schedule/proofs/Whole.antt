-- A world of which the ends are those of the definition is whole.
use Rattle.std.proofs.Common.{◌≡◌, Some, sym, ap, ◌∙◌}
use Rattle.link_schedule.specs.Own.{IsWholeByEnds}
use Rattle.schedule_laws.specs.Setting.{Setting}
use Rattle.link_schedule.specs.World.{WorldState, IsWorld}
use Rattle.link_schedule.proofs.Ends.{settled_by_finals}
use Rattle.device_machine.specs.Ends.{finals_of}

pub whole_by_ends : (w : WorldState) → IsWorld w → IsWholeByEnds (Some w)
whole_by_ends w is s open_with ends =
    let same : w.setting ≡ s = cc in
    (is, settled_by_finals w is (ends ∙ ap (λ (x : Setting). finals_of x.rows x.book) (sym same)))
