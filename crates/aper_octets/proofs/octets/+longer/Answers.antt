-- No number goes on behind an octet of zeros, or behind five octets.
use Rattle.aper_octets.proofs.Only.{not_longer}
use Rattle.aper_octets.proofs.octets.+longer.Goals as goal

pub returns-in_err-n-clause-none : goal.returns-in_err-n-clause-none
returns-in_err-n-clause-none l c = rw c.from_residual-in_err-n.ensures (λ n rest fits count. not_longer c.args.high _ c.args.more n _ _ rest c.in_ok-low.ensures.octets c.in_err-n.ensures.none c.requires count)
