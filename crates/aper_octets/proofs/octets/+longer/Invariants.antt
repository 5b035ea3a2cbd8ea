-- Each turn reads an octet less.
use Rattle.aper_octets.proofs.octets.+longer.Given as goal

abbrev pub decreases-longer : goal.decreases-longer
decreases-longer l = l.more
