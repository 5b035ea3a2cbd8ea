-- What a read takes from a source, and what a write puts into a sink.
use Rattle.std.specs.Prelude.{◌≡◌, ℕ, ◌<◌, ◌-◌, ◌^◌, ◌⊎◌, List, [], ◌++◌, length, Option, IfSome}
use Rattle.std.specs.Option.{option_map}
use Rattle.echo_base.specs.declared.source.ReadStep.{ReadStep}
use Rattle.echo_base.specs.declared.source.ReadStep.TheVariants.{Got, End, Failed}
use Rattle.echo_base.specs.declared.sink.WriteStep.{WriteStep}
use Rattle.echo_base.specs.declared.sink.WriteStep.TheVariants as write

-- octets were taken from the front of what was left, where that is told
abbrev pub IsTaken : Option (List ℕ) → List ℕ → Option (List ℕ) → Type 0
IsTaken before octets after = before ≡ option_map (λ rest. octets ++ rest) after

-- some octets were taken, and P holds of how many
abbrev pub IsTakenBy : (ℕ → Type 0) → Option (List ℕ) → Option (List ℕ) → Type 0
IsTakenBy P before after = (octets : List ℕ) × P (length octets) × IsTaken before octets after

-- octets were put behind what was held, where that is told
abbrev pub IsPut : Option (List ℕ) → List ℕ → Option (List ℕ) → Type 0
IsPut before octets after = after ≡ option_map (λ held. held ++ octets) before

-- nothing is left, where that is told
abbrev pub IsAtEnd : Option (List ℕ) → Type 0
IsAtEnd left = IfSome left (λ octets. octets ≡ [])

-- a count of faults rose, or stands at the last value of a u64
abbrev pub Rose : ℕ → ℕ → Type 0
Rose before after = (before < after) ⊎ (after ≡ 2 ^ 64 - 1)

-- P of how many octets a read got
abbrev pub IfGot : ReadStep → (ℕ → Type 0) → Type 0
IfGot (Got n) P = P n
IfGot End P = Unit {0}
IfGot Failed P = Unit {0}

-- P, where a read came to the end
abbrev pub OnEnd : ReadStep → Type 0 → Type 0
OnEnd (Got n) P = Unit {0}
OnEnd End P = P
OnEnd Failed P = Unit {0}

-- P, where a read failed
abbrev pub OnReadFailed : ReadStep → Type 0 → Type 0
OnReadFailed (Got n) P = Unit {0}
OnReadFailed End P = Unit {0}
OnReadFailed Failed P = P

-- P, where a read did not fail
abbrev pub OnRead : ReadStep → Type 0 → Type 0
OnRead (Got n) P = P
OnRead End P = P
OnRead Failed P = Unit {0}

-- P of how many octets a write took
abbrev pub IfTook : WriteStep → (ℕ → Type 0) → Type 0
IfTook (write.Took n) P = P n
IfTook write.Failed P = Unit {0}

-- P, where a write failed
abbrev pub OnWriteFailed : WriteStep → Type 0 → Type 0
OnWriteFailed (write.Took n) P = Unit {0}
OnWriteFailed write.Failed P = P

-- P, where a write did not fail
abbrev pub OnWritten : WriteStep → Type 0 → Type 0
OnWritten (write.Took n) P = P
OnWritten write.Failed P = Unit {0}
