-- A value is written as its type is, which is that of its parts but for the names.
use Rattle.std.proofs.Common.{length}
use Rattle.std.proofs.lemmas.Result.{on_ok_weaker}
use Rattle.aper_fields.specs.Asn1.{named, run}
use Rattle.aper_fields.proofs.Written.{same_written}
use Rattle.aper_types.proofs.named.MadeCoding.write.Goals as goal

pub write_made-requires-clause-fits : goal.write_made-requires-clause-fits
write_made-requires-clause-fits g c = g.met.T.Named.made.parts c.args.value c.requires.fits

pub returns-clause-ok : goal.returns-clause-ok
returns-clause-ok g c = on_ok_weaker c.write_made.result (same_written c.args.w.now c.write_made.new.w (run (named g.T.Named.same g.T.Type.Coding.asn1) c.args.value) (run g.T.Named.asn1 c.args.value) (g.met.T.Named.made.written c.args.value (length c.args.w.now))) c.write_made.ensures.ok
