use Rattle.device_types.proofs.Tests.{forbidden_listed}
use Rattle.device_types.proofs.step_laws.listed_areas_are_forbidden.Goals as goal

pub returns : goal.returns
returns c = forbidden_listed c.args._row.now
