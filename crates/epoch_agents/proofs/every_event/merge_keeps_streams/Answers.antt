use Rattle.epoch_agents.specs.Answer.{history}
use Rattle.epoch_agents.proofs.HistoryLaws.{lawful}
use Rattle.epoch_agents.proofs.MergeLaws.{merge_is}
use Rattle.epoch_agents.proofs.every_event.merge_keeps_streams.Goals as goal

pub returns : goal.returns
returns c =
    let streams = c.args._streams.now in
    merge_is streams (history streams c.args._events.now) (lawful streams c.args._events.now c.requires)
