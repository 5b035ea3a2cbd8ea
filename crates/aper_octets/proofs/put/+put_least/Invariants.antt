-- Each turn writes a smaller number.
use Rattle.aper_octets.proofs.put.+put_least.Given as goal

abbrev pub decreases-put_least : goal.decreases-put_least
decreases-put_least l = l.n
