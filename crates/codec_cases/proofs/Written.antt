-- A value that was read can be written again.
use Rattle.std.specs.Prelude.{List, Result, Ok, Err, IfOk}
use Rattle.echo_base.specs.declared.refusal.Bad.{Bad}
use Rattle.echo_base.specs.declared.refusal.Bad.TheVariants.{Refused, OutOfMemory}
use Rattle.aper_fields.specs.Reading.{Input}
use Rattle.aper_fields.specs.Spelling.{IsOctets}
use Rattle.aper_fields.specs.Memory.{ReadsIn}
use Rattle.aper_fields.specs.Asn1.{AsnType, format, IsSound, CanBeWritten}
use Rattle.aper_fields.proofs.Types.{fits_by}
use Rattle.aper_fields.proofs.Least.{least}

pub can_be_written : {A : Type 0} (s : AsnType A) → IsSound s → (result : Result A Bad) (old new : Input) → ReadsIn (format s) result old new → IfOk result (λ v. CanBeWritten s v)
can_be_written s sound (Ok v) old new reads = fits_by IsOctets (λ octets. Unit {0}) (λ octets is. tt) s v (least s sound v old.offset reads.0.0 reads.0.1).0
can_be_written s sound (Err (Refused e)) old new reads = tt
can_be_written s sound (Err OutOfMemory) old new reads = tt
