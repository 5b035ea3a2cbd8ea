use Rattle.std.specs.Prelude.{map}
use Rattle.std.specs.List.{range_with_len}
use Rattle.std.proofs.Common.{◌+◌, List, [], ◌∷◌, ◌++◌, sym, ap, ◌∙◌, arith}
use Rattle.std.proofs.lemmas.List.FromFn.{map-range_with_len_more}
use Rattle.device_types.specs.declared.finals.DeviceEnd.{DeviceEnd}
use Rattle.link_schedule.specs.Finals.{end_in}
use Rattle.link_schedule.proofs.world.World.finals.Goals as goal

pub loop-index-preserved : goal.loop-index-preserved
loop-index-preserved c =
    let w = c.args.self.now in
    let i = c.loop-index.index in
    c.in_ok-push.ensures.ok
    ∙ ap (λ (ends : List DeviceEnd). ends ++ c.in_ok-end_at.field-0 ∷ []) c.loop-index.invariant
    ∙ ap (λ (end : DeviceEnd). map (end_in w) (range_with_len 1 i) ++ end ∷ []) c.in_ok-end_at.ensures
    ∙ sym (map-range_with_len_more (end_in w) 1 i (i + 1) (omega arith))
