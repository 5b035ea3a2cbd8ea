use Rattle.std.proofs.Common.{rules}
use Rattle.device_types.proofs.session.Session.opening.Goals as goal

pub returns : goal.returns
returns c = search rules
