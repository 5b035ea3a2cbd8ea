-- What a floor was given comes first.
use Rattle.std.proofs.Common.{List, [], ◌∷◌, reverse, sym, ◌∙◌}
use Rattle.std.specs.List.{fold}
use Rattle.std.proofs.lemmas.Grind.{reverse_onto}
use Rattle.device_types.specs.declared.event.Event.{Event}
use Rattle.schedule_laws.specs.Answer.{answer, turn}
use Rattle.schedule_laws.specs.Counts.{Turn}
use Rattle.schedule_laws.specs.Lists.{Begins}
use Rattle.schedule_laws.specs.Setting.{Setting}
use Rattle.link_schedule.specs.Settled.{turns_in, GoesOn}
use Rattle.link_schedule.specs.World.{WorldState}
use Rattle.link_schedule.proofs.Goes.{turns_later}
use Rattle.schedule_laws.proofs.Runs.{Begins-refl, Begins-trans}
use Rattle.schedule_laws.proofs.Steps.{history_behind}

turns_begin : (s : Setting) (es : List Event) (H : List Turn) → Begins (reverse H) (reverse (fold (turn s) H es))
turns_begin s [] H = Begins-refl (reverse H)
turns_begin s (e ∷ es) H =
    let K = turn s H e in
    let t : Turn = (e, answer s H e) in
    let one : Begins (reverse H) (reverse K) = (t ∷ [], sym (reverse_onto H t [])) in
    Begins-trans (reverse H) (reverse K) (reverse (fold (turn s) K es)) one (turns_begin s es K)

pub given_grows : (old new : WorldState) → GoesOn old new → Begins (reverse (turns_in old)) (reverse (turns_in new))
given_grows old new g = rw (turns_later old new g ∙ history_behind old.setting old.events g.events.0) (turns_begin old.setting g.events.0 (turns_in old))
