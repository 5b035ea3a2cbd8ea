use Rattle.std.proofs.Common.{Err, ap}
use Rattle.session_disk.proofs.disk_store.DiskStore.open.Goals as goal

pub returns-in-Err-clause-foreign : goal.returns-in-Err-clause-foreign
returns-in-Err-clause-foreign g c = λ octets is_told at same. c.in-Err.ensures.foreign octets at is_told (ap Err same)
