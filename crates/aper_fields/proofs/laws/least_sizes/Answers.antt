-- So many bits or octets hold a number exactly where they are no fewer than it takes; of several octets the first is not 0.
use Rattle.aper_fields.proofs.Counts.{octet_count_le, octet_count_back, octet_count_first}
use Rattle.aper_fields.proofs.Widths.{width_below, width_back}
use Rattle.aper_fields.proofs.laws.least_sizes.Goals as goal

pub returns-clause-bits : goal.returns-clause-bits
returns-clause-bits c = λ n k fits. (width_below n k fits, width_back n k fits)

pub returns-clause-octets : goal.returns-clause-octets
returns-clause-octets c = λ n k fits some. (octet_count_le n k fits some, octet_count_back n k fits)

pub returns-clause-first : goal.returns-clause-first
returns-clause-first c = octet_count_first
