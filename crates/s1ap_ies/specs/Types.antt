-- What is asked of a type of ASN.1, beside what aper_fields says of it.
use Rattle.std.specs.Prelude.{Bool, true, false}
use Rattle.aper_fields.specs.Asn1.{AsnType, octet_string, fixed_octets, sequence_of, variant, named}

-- whether its values take memory where they are read: strings and lists
abbrev pub takes_memory : {A : Type 0} → AsnType A → Bool
takes_memory (octet_string most few) = true
takes_memory (fixed_octets n fixed) = true
takes_memory (sequence_of low high sizes p) = true
takes_memory (variant kind p) = takes_memory p
takes_memory (named same p) = takes_memory p
takes_memory p = false
