use Rattle.device_types.proofs.Elsewhere.{fits_none}
use Rattle.device_types.proofs.step_laws.elsewhere_fits_no_row.Goals as goal

pub returns : goal.returns
returns c = fits_none c.args._row.now c.args._session.now c.args._message.now c.requires.elsewhere c.requires.later
