use Rattle.device_types.proofs.Courses.{entry_ready}
use Rattle.device_types.proofs.alone_laws.alone_is_ready.Goals as goal

pub returns : goal.returns
returns c = entry_ready c.args._row.now c.args._messages.now c.requires
