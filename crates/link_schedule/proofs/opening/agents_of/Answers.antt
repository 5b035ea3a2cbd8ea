use Rattle.std.proofs.Common.{◌≡◌, [], map, get_or, ap, sym, ◌∙◌, subst}
use Rattle.std.specs.Arc.{arc_value}
use Rattle.std.proofs.lemmas.List.{get_or-map, length-map}
use Rattle.std.proofs.lemmas.List.Elements.{All-get_or}
use Rattle.device_types.specs.Line.{IsLine}
use Rattle.link_schedule.proofs.opening.agents_of.Goals as goal

pub new-line-requires : goal.new-line-requires
new-line-requires c =
    let lines = c.args.lines.now in
    let line = c.line-item.result in
    let i = c.loop-line.line-index in
    let within = c.loop-line-test.true in
    let at : get_or (map arc_value lines) i [] ≡ arc_value line = get_or-map arc_value lines i line [] within ∙ ap arc_value (sym c.line-item.is) in
    let is : IsLine (arc_value line) = subst IsLine at (All-get_or IsLine (map arc_value lines) i [] (rw (length-map lines arc_value) within) c.requires) in
    rw c.in_ok-try_clone.ensures is.numbers
