-- How far a world has come with each device, and when it is settled.
use Rattle.std.specs.Prelude.{◌≡◌, ℕ, zero, suc, ◌+◌, ◌*◌, ◌≤◌, Bool, true, false, List, length}
use Rattle.device_types.specs.declared.event.Lane.{Lane}
use Rattle.device_types.specs.declared.event.Lane.TheVariants.{Down, Gateway, Subscriber}
use Rattle.device_types.specs.declared.step.Entry.{Entry}
use Rattle.device_types.specs.Journal.{pushed_count}
use Rattle.device_types.specs.Numbers.{IsWithin}
use Rattle.schedule_laws.specs.Answer.{history}
use Rattle.schedule_laws.specs.Counts.{Turn, commits, acked, accepted, settled, journal}
use Rattle.schedule_laws.specs.Lists.{Begins}
use Rattle.schedule_laws.specs.Setting.{Setting, message_count, entries_of}
use Rattle.link_schedule.specs.World.{WorldState}

-- ---- how far it has come with device d

abbrev pub turns_in : WorldState → List Turn
turns_in w = history w.setting w.events

abbrev pub journal_in : WorldState → ℕ → List Entry
journal_in w d = journal w.setting d (turns_in w)

-- steps that were committed, messages that its agent learnt to be taken, effects of a lane that were accepted, and settled
abbrev pub commits_in : WorldState → ℕ → ℕ
commits_in w d = commits d (turns_in w)

abbrev pub acked_in : WorldState → ℕ → ℕ
acked_in w d = acked d (turns_in w)

abbrev pub accepts_in : WorldState → ℕ → Lane → ℕ
accepts_in w d l = accepted d l (turns_in w)

abbrev pub settles_in : WorldState → ℕ → Lane → ℕ
settles_in w d l = settled d l (turns_in w)

-- ---- more events

-- the world runs on the same, and its events go on where the old ones ended
pub record GoesOn (old new : WorldState) : Type 0 where
  pub setting : new.setting ≡ old.setting
  pub events : Begins old.events new.events

-- device d has one entry more, or there is none
abbrev pub Advances : WorldState → WorldState → ℕ → Bool → Type 0
Advances old new d true = (commits_in new d ≡ commits_in old d + 1) × (commits_in new d ≤ 3 * message_count new.setting d)
Advances old new d false = journal_in new d ≡ entries_of new.setting d

-- ---- settled

-- every effect of that lane of the machine that never fails was accepted
abbrev pub IsWholeLane : WorldState → ℕ → Lane → Type 0
IsWholeLane w d l = accepts_in w d l ≡ pushed_count l (entries_of w.setting d)

-- device d has done all that the machine that never fails does
pub record IsDone (w : WorldState) (d : ℕ) : Type 0 where
  pub journal : journal_in w d ≡ entries_of w.setting d
  pub lanes : (l : Lane) → IsWholeLane w d l

-- each has
abbrev pub IsSettled : WorldState → Type 0
IsSettled w = (d : ℕ) → IsWithin (length w.setting.rows) d → IsDone w d

-- every effect of that lane of the machine that never fails is settled: none is left in the row
abbrev pub IsClearLane : WorldState → ℕ → Lane → Type 0
IsClearLane w d l = settles_in w d l ≡ pushed_count l (entries_of w.setting d)

-- so it is with each device
abbrev pub IsClear : WorldState → Type 0
IsClear w = (d : ℕ) (l : Lane) → IsWithin (length w.setting.rows) d → IsClearLane w d l

-- ---- what settling takes

-- five events for an entry of device d, and two for an effect
abbrev pub spent_in : WorldState → ℕ → ℕ
spent_in w d = 5 * commits_in w d + 2 * accepts_in w d Down + 2 * accepts_in w d Gateway + 2 * accepts_in w d Subscriber

-- each event between the two was for an entry or an effect of device d
abbrev pub Pays : WorldState → WorldState → ℕ → Type 0
Pays old new d = length new.events + spent_in old d ≤ length old.events + spent_in new d

-- or was one of so many more
abbrev pub PaysFor : WorldState → WorldState → ℕ → ℕ → Type 0
PaysFor old new d n = length new.events + spent_in old d ≤ length old.events + spent_in new d + n

-- the most events for device d: five for an entry, two for an effect, and three
abbrev pub cost : Setting → ℕ → ℕ
cost s d =
    5 * length (entries_of s d)
    + 2 * pushed_count Down (entries_of s d) + 2 * pushed_count Gateway (entries_of s d) + 2 * pushed_count Subscriber (entries_of s d)
    + 3

-- for the first so many devices
abbrev pub cost_to : Setting → ℕ → ℕ
cost_to s zero = 0
cost_to s (suc d) = cost_to s d + cost s (suc d)
