use Rattle.std.proofs.Common.{rules}
use Rattle.device_types.proofs.session.Session.with_vector.Goals as goal

pub returns : goal.returns
returns c = search rules
