-- A value is read exactly, as the reading of each ASN.1 type from left to right is exact for the format of the type.
use Rattle.aper_fields.specs.Asn1.{format, reading}
use Rattle.aper_fields.proofs.Formats.{gives_exactly}
use Rattle.aper_fields.proofs.Types.{exactly}
use Rattle.aper_types.proofs.value.AnyPlainValue.read.Goals as goal

pub returns-clause-exact : goal.returns-clause-exact
returns-clause-exact g c =
    let asn1 = g.T.Named.asn1 in
    gives_exactly (format asn1) (reading asn1) c.read.result c.args.r.now c.read.new.r (exactly asn1) c.read.ensures.read
