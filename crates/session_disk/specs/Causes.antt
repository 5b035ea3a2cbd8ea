-- Why a store was not opened.
use Rattle.disk_log.specs.declared.log.LogFault.{LogFault}
use Rattle.disk_log.specs.declared.log.LogFault.TheVariants as reading
use Rattle.session_disk.specs.declared.fault.OpenCause.{OpenCause}
use Rattle.session_disk.specs.declared.fault.OpenCause.TheVariants as opening

-- what its log was not opened for
abbrev pub cause_of : LogFault → OpenCause
cause_of reading.DiskFault = opening.DiskFault
cause_of reading.OutOfMemory = opening.OutOfMemory
