-- What the code keeps: the counts of each device.
use Rattle.std.specs.Prelude.{◌≡◌, ℕ, ◌+◌, ◌<◌, List, length, fold, get_or}
use Rattle.trace_gen.specs.declared.counts.Counts.{Counts}
use Rattle.trace_gen.specs.declared.script.Sent.{Sent}
use Rattle.trace_gen.specs.Scripts.{calls_after}
use Rattle.trace_gen.specs.Schedule.{counts_of, with_call}

abbrev pub none : Counts
none = record { messages = 0; gateway = 0; subscriber = 0 }

-- with one message more, and the calls after it
abbrev pub with_sent : Counts → Sent → Counts
with_sent counts sent = record (fold with_call counts (calls_after sent.sending)) { messages = counts.messages + 1 }

-- the counts of each of so many devices, behind what was sent before
pub record AreCounts (devices : ℕ) (before : List Sent) (counts : List Counts) : Type 0 where
  pub count : length counts ≡ devices
  pub each : (i : ℕ) → i < devices → get_or counts i none ≡ counts_of (i + 1) before
