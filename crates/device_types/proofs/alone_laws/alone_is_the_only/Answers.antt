use Rattle.device_types.proofs.Prefixes.{only_alone}
use Rattle.device_types.proofs.alone_laws.alone_is_the_only.Goals as goal

pub returns-clause-only : goal.returns-clause-only
returns-clause-only c = only_alone c.args._row.now c.args._messages.now c.args._journal.now
