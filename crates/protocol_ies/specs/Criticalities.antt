-- Criticalities by number (TS 36.413, 9.3.5).
use Rattle.std.specs.Prelude.{ℕ}
use Rattle.protocol_ies.specs.declared.criticality.Criticality.{Criticality}
use Rattle.protocol_ies.specs.declared.criticality.Criticality.TheVariants.{Reject, Ignore, Notify}

abbrev pub reject : ℕ
reject = 0

abbrev pub ignore : ℕ
ignore = 1

abbrev pub notify : ℕ
notify = 2

abbrev pub criticality_number : Criticality → ℕ
criticality_number Reject = reject
criticality_number Ignore = ignore
criticality_number Notify = notify
