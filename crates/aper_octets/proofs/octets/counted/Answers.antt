-- Octets behind their length are the front of what stands behind the length, and there are as many as it tells.
use Rattle.std.proofs.Common.{length, ◌++◌}
use Rattle.aper_octets.proofs.Only.{counted_split, not_counted}
use Rattle.aper_octets.proofs.Lengths.{counted_front}
use Rattle.aper_octets.proofs.octets.counted.Goals as goal

pub returns-clause-octets : goal.returns-clause-octets
returns-clause-octets c = counted_front _ _ _ _ _ c.in_ok-n.ensures.octets c.split_at.ensures.front c.split_at.ensures.back c.split_at.ensures.front_len

pub returns-in_err-n-clause-none : goal.returns-in_err-n-clause-none
returns-in_err-n-clause-none c = rw c.from_residual.ensures (λ content rest few e. c.in_err-n.ensures.none (length content) (content ++ rest) few (counted_split content rest _ e))

pub returns-then-rest-n-clause-none : goal.returns-then-rest-n-clause-none
returns-then-rest-n-clause-none c = λ content rest few. not_counted c.in_ok-n.n content c.in_ok-n.rest.now rest _ c.in_ok-n.ensures.octets c.if-rest-n.true
