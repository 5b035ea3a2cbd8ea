-- A value is read as its type is, which is that of its parts but for the names.
use Rattle.std.proofs.lemmas.Result.{IfOk-weaker}
use Rattle.std.proofs.Common.{◌≡◌, subst, sym}
use Rattle.aper_fields.specs.Asn1.{CanBeWritten}
use Rattle.aper_types.proofs.named.MadeCoding.read.Goals as goal

pub returns-clause-read : goal.returns-clause-read
returns-clause-read g c = rw (g.met.T.Named.made.read c.args.r.now) (c.read_made.ensures.read)

pub returns-clause-fits : goal.returns-clause-fits
returns-clause-fits g c =
    let inner = g.T.Type.Coding.asn1 in
    let outer = g.T.Named.asn1 in
    IfOk-weaker c.read_made.result (λ v. (parts : _) × (v ≡ g.T.Named.same.make parts) × CanBeWritten inner parts) (λ v. CanBeWritten outer v) (λ v is. subst (λ a. CanBeWritten outer a) (sym is.1) (g.met.T.Named.made.fits is.0 is.2)) c.read_made.ensures.fits
