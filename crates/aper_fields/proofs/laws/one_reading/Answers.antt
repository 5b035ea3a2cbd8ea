-- Reading from left to right is exact for each piece, so two readings of a piece at one place agree in value, refusal and the place behind it.
use Rattle.aper_fields.specs.Reading.{number_at, length_at, fixed_octets_at, octet_string_at, fixed_bits_at, enumerated_at, open_at}
use Rattle.aper_fields.specs.Format.{number_in, length_in, fixed_octets_in, octet_string_in, fixed_bits_in, enumerated_in, open_in}
use Rattle.aper_fields.proofs.Formats.{one_reading_lem}
use Rattle.aper_fields.proofs.ExactNumbers.{number_exactly}
use Rattle.aper_fields.proofs.ExactPieces.{length_exactly, fixed_octets_exactly, octet_string_exactly, fixed_bits_exactly, enumerated_exactly}
use Rattle.aper_fields.proofs.Containers.{open_exactly}
use Rattle.aper_fields.proofs.laws.one_reading.Goals as goal

pub returns-clause-numbers : goal.returns-clause-numbers
returns-clause-numbers c = λ low top fits. one_reading_lem (number_in low top) (number_at low top) (number_exactly low top fits)

pub returns-clause-lengths : goal.returns-clause-lengths
returns-clause-lengths c = one_reading_lem length_in length_at length_exactly

pub returns-clause-fixed_octets : goal.returns-clause-fixed_octets
returns-clause-fixed_octets c = λ n. one_reading_lem (fixed_octets_in n) (fixed_octets_at n) (fixed_octets_exactly n)

pub returns-clause-octet_strings : goal.returns-clause-octet_strings
returns-clause-octet_strings c = λ most. one_reading_lem (octet_string_in most) (octet_string_at most) (octet_string_exactly most)

pub returns-clause-fixed_bits : goal.returns-clause-fixed_bits
returns-clause-fixed_bits c = λ n. one_reading_lem (fixed_bits_in n) (fixed_bits_at n) (fixed_bits_exactly n)

pub returns-clause-enumerations : goal.returns-clause-enumerations
returns-clause-enumerations c =
    λ roots extensible some fits. one_reading_lem (enumerated_in roots extensible) (enumerated_at roots extensible) (enumerated_exactly roots extensible some fits)

pub returns-clause-open_types : goal.returns-clause-open_types
returns-clause-open_types c = one_reading_lem open_in open_at open_exactly
