-- Causes (TS 36.413, 9.2.1.3).
use Rattle.std.specs.Prelude.{ℕ, ◌<◌, ◌==◌, if◌then◌else◌, MatchBool}
use Rattle.device_types.specs.declared.cause.CauseCode.{CauseCode}

-- how many roots the causes of a group have: radio network, transport, NAS, protocol, miscellaneous
unfoldable pub cause_roots : ℕ → ℕ
cause_roots group = if group == 0 then 36 else (if group == 1 then 2 else (if group == 2 then 4 else (if group == 3 then 7 else 6)))

-- one of five groups, and a cause of it: a root, or one of 64 behind the extension mark
abbrev pub IsCauseCode : CauseCode → Type 0
IsCauseCode cause = (cause.group < 5) × MatchBool cause.extended (cause.index < 64) (cause.index < cause_roots cause.group)

-- as a session is stored: the group and the index alone have limits
abbrev pub IsStoredCause : CauseCode → Type 0
IsStoredCause cause = (cause.group < 5) × (cause.index < 64)
