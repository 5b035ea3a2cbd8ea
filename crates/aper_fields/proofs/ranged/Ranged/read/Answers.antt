-- A whole number from LOW to HIGH is read exactly, as HIGH - LOW is below 2^64.
use Rattle.std.proofs.Common.{◌-◌, arith}
use Rattle.aper_fields.specs.Reading.{number_at}
use Rattle.aper_fields.specs.Format.{number_in}
use Rattle.aper_fields.proofs.Formats.{gives_exactly}
use Rattle.aper_fields.proofs.ExactNumbers.{number_exactly}
use Rattle.aper_fields.proofs.ranged.Ranged.read.Goals as goal

pub returns-clause-exact : goal.returns-clause-exact
returns-clause-exact g c =
    let low = g.row.LOW in
    let top = g.row.HIGH - g.row.LOW in
    gives_exactly (number_in low top) (number_at low top) c.read_number.result c.args.r.now c.read_number.new.r (number_exactly low top (omega arith)) c.read_number.ensures.read
