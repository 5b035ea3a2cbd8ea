-- Each piece that is written is read back, as its run spells it and each spelling is read; so is an open type, and one that is written round no bits.
use Rattle.std.proofs.Common.{refl}
use Rattle.aper_fields.specs.Run.{number_run, length_run, fixed_octets_run, octet_string_run, fixed_bits_run, enumerated_run}
use Rattle.aper_fields.proofs.ExactNumbers.{number_exact}
use Rattle.aper_fields.proofs.ExactPieces.{length_exact, fixed_octets_exact, octet_string_exact, fixed_bits_exact, enumerated_exact}
use Rattle.aper_fields.proofs.ReadBack.{open_back, nothing_back}
use Rattle.aper_fields.proofs.laws.written_is_read.Goals as goal

pub returns-clause-numbers : goal.returns-clause-numbers
returns-clause-numbers c = λ low top v fits least most at rest. (number_exact low top fits).only at v (number_run low top v at) rest ((least, most), refl)

pub returns-clause-lengths : goal.returns-clause-lengths
returns-clause-lengths c = λ n small at rest. length_exact.only at n (length_run n at) rest (small, refl)

pub returns-clause-fixed_octets : goal.returns-clause-fixed_octets
returns-clause-fixed_octets c = λ octets each at rest. (fixed_octets_exact _).only at octets (fixed_octets_run octets at) rest ((refl, each), refl)

pub returns-clause-octet_strings : goal.returns-clause-octet_strings
returns-clause-octet_strings c = λ most octets each few small at rest. (octet_string_exact most).only at octets (octet_string_run octets at) rest ((few, small, each), refl)

pub returns-clause-fixed_bits : goal.returns-clause-fixed_bits
returns-clause-fixed_bits c = λ n v small at rest. (fixed_bits_exact n).only at v (fixed_bits_run n v at) rest (small, refl)

pub returns-clause-enumerations : goal.returns-clause-enumerations
returns-clause-enumerations c = λ roots extensible v some fits in_range at rest. (enumerated_exact roots extensible some fits).only at v (enumerated_run roots extensible v at) rest (in_range, refl)

pub returns-clause-open_types : goal.returns-clause-open_types
returns-clause-open_types c = λ body small. open_back body small

pub returns-clause-no_bits : goal.returns-clause-no_bits
returns-clause-no_bits c = nothing_back
