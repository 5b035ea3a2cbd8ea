use Rattle.session_disk.proofs.Reopens.{fits_made, same_journals}
use Rattle.session_disk.proofs.laws.opens_again.Goals as goal

pub returns-clause-fits : goal.returns-clause-fits
returns-clause-fits g c = λ charter rows records lawful log. fits_made (g.L.RowLaw.follows charter) (g.M.Maker.made charter) (g.met.M.Maker.only charter) rows records lawful log

pub returns-clause-journals : goal.returns-clause-journals
returns-clause-journals g c = λ charter rows opened records lawful log are. same_journals (g.L.RowLaw.follows charter) (g.M.Maker.made charter) (g.met.M.Maker.only charter) rows records lawful log opened are
