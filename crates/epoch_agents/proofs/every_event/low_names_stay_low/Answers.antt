use Rattle.std.proofs.Common.{refl, sym}
use Rattle.epoch_agents.specs.Answer.{history}
use Rattle.epoch_agents.specs.Answer.{answer}
use Rattle.epoch_agents.proofs.HistoryLaws.{lawful}
use Rattle.epoch_agents.proofs.TurnLaws.{passed_more, passed_by}
use Rattle.epoch_agents.proofs.every_event.low_names_stay_low.Goals as goal

pub returns-clause-told : goal.returns-clause-told
returns-clause-told c =
    let streams = c.args._streams.now in
    λ a stamp n low e. passed_by streams (history streams c.args._events.now) a stamp n low (sym e)

pub returns-clause-stays : goal.returns-clause-stays
returns-clause-stays c =
    let streams = c.args._streams.now in
    let turns = history streams c.args._events.now in
    λ e a stamp i p. passed_more streams (e, answer streams turns e) turns a stamp (i, refl, lawful streams c.args._events.now c.requires) p
