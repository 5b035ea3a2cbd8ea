-- A value of any ASN.1 type is read exactly, unless memory runs out, and then the reader has not moved.
use Rattle.aper_fields.specs.Asn1.{format, reading}
use Rattle.aper_fields.proofs.SequenceExact.{reads_in}
use Rattle.aper_fields.proofs.Types.{exactly}
use Rattle.aper_types.proofs.value.OwnedValue.read.Goals as goal

pub returns-clause-exact : goal.returns-clause-exact
returns-clause-exact g c = reads_in (format g.Self.OwnedValue.asn1) (reading g.Self.OwnedValue.asn1) c.read_pieces.result c.args.r.now c.read_pieces.new.r (exactly g.Self.OwnedValue.asn1) c.read_pieces.ensures
