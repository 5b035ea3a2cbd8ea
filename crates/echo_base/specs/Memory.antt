-- A source and a sink in memory, which fail as planned.
use Rattle.std.specs.Prelude.{ℕ, ◌+◌, ◌-◌, ◌^◌, ◌==◌, if◌then◌else◌, min, max, List, [], ◌∷◌, ◌++◌, length, take, drop, Option, Some, None}
use Rattle.echo_base.specs.declared.plan.Give.{Give}
use Rattle.echo_base.specs.declared.plan.Give.TheVariants.{Piece, Fail}
use Rattle.echo_base.specs.declared.source.ReadStep.{ReadStep}
use Rattle.echo_base.specs.declared.source.ReadStep.TheVariants.{Got, End, Failed}
use Rattle.echo_base.specs.declared.sink.WriteStep.{WriteStep}
use Rattle.echo_base.specs.declared.sink.WriteStep.TheVariants as write

-- a source: the octets still to come, how many faults there were, and the plan of the reads to come
pub record Feed : Type 0 where
  pub left : List ℕ
  pub faults : ℕ
  pub plan : List Give

-- a sink: the octets taken, the room for more, how many faults there were, and the plan of the writes to come
pub record Store : Type 0 where
  pub held : List ℕ
  pub room : ℕ
  pub faults : ℕ
  pub plan : List Give

-- how many octets the next call may move, of so many; a piece of 0 counts as 1, and a used-up plan lets all pass
abbrev pub most_of : List Give → ℕ → Option ℕ
most_of [] wanted = Some wanted
most_of (Piece n ∷ plan) wanted = Some (min (max n 1) wanted)
most_of (Fail ∷ plan) wanted = None

-- a read that may give so many octets, of those that are left
abbrev pub step_of_read : Option ℕ → List ℕ → ReadStep
step_of_read None left = Failed
step_of_read (Some most) [] = End
step_of_read (Some most) (octet ∷ left) = Got (min most (length (octet ∷ left)))

-- the read of a source into so much room
abbrev pub next_read : Feed → ℕ → ReadStep
next_read feed wanted = step_of_read (most_of feed.plan wanted) feed.left

-- the source after a read
abbrev pub after_read : Feed → ReadStep → Feed
after_read feed (Got n) = record { left = drop n feed.left; faults = feed.faults; plan = drop 1 feed.plan }
after_read feed End = record { left = feed.left; faults = feed.faults; plan = drop 1 feed.plan }
after_read feed Failed = record { left = feed.left; faults = feed.faults + 1; plan = drop 1 feed.plan }

-- a write that may take so many octets, where there is so much room
abbrev pub step_of_write : Option ℕ → ℕ → WriteStep
step_of_write None room = write.Failed
step_of_write (Some most) room = if room == 0 then write.Failed else write.Took (min most room)

-- the write of a piece of that length
abbrev pub next_write : Store → ℕ → WriteStep
next_write store wanted = step_of_write (most_of store.plan wanted) store.room

-- the sink after a write of the piece; the count stands still at the last value of a u64
abbrev pub after_write : Store → List ℕ → WriteStep → Store
after_write store piece (write.Took n) = record { held = store.held ++ take n piece; room = store.room - n; faults = store.faults; plan = drop 1 store.plan }
after_write store piece write.Failed = record { held = store.held; room = store.room; faults = min (store.faults + 1) (2 ^ 64 - 1); plan = drop 1 store.plan }

-- the read of a source that never fails
abbrev pub sure_read : List ℕ → ℕ → ReadStep
sure_read left wanted = step_of_read (Some wanted) left
