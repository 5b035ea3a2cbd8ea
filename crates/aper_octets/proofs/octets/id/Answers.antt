-- A number of five octets is none below 2^32.
use Rattle.aper_octets.proofs.Only.{not_an_id}
use Rattle.aper_octets.proofs.octets.id.Goals as goal

pub returns-then-n-ge4294967296-clause-none : goal.returns-then-n-ge4294967296-clause-none
returns-then-n-ge4294967296-clause-none c = λ n rest few. not_an_id c.args.before c.args.unit c.in_ok-n.n n c.in_ok-n.rest.now rest _ c.requires c.in_ok-n.ensures.octets c.if-n-ge4294967296.true few
