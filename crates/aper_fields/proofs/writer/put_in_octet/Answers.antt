-- With a number put into its free last bits an octet has its own bits in front, then those of the number, then zeros.
use Rattle.aper_fields.proofs.Fill.{bits-put}
use Rattle.aper_fields.proofs.writer.put_in_octet.Goals as goal

pub returns : goal.returns
returns c = bits-put c.args.octet c.args.free c.args.value c.args.count c.requires.low c.requires.fits c.requires.most c.requires.within
