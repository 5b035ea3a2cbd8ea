-- What the row says to a message, by the merge alone.
use Rattle.std.specs.Prelude.{ℕ, ◌+◌, ◌-◌, ◌==◌, ◌&&◌, nat_le, nat_lt, not, Bool, false, List, length, map, filter, count_by, Option, Some, None, slice_get, if◌then◌else◌}
use Rattle.epoch_agents.specs.declared.event.EpochAnswer.{EpochAnswer}
use Rattle.epoch_agents.specs.declared.event.EpochAnswer.TheVariants as told
use Rattle.epoch_agents.specs.declared.stream.Merged.{Merged}
use Rattle.epoch_agents.specs.declared.stream.Stream.{Stream}
use Rattle.epoch_agents.specs.Streams.{name_of, is_below}

-- the entry is of stream a
abbrev pub is_of : ℕ → Merged → Bool
is_of a entry = a == entry.a

-- and of its name of that stamp
abbrev pub is_named : ℕ → ℕ → Merged → Bool
is_named a stamp entry = (a == entry.a) && (stamp == entry.stamp)

-- how many messages of a name are committed, and of a stream
abbrev pub count_named : ℕ → ℕ → List Merged → ℕ
count_named a stamp merged = count_by (is_named a stamp) merged

abbrev pub count_of : ℕ → List Merged → ℕ
count_of a merged = count_by (is_of a) merged

-- the numbers of the messages of a stream that are committed, in order
abbrev pub numbers_of : ℕ → List Merged → List ℕ
numbers_of a merged = map (λ entry. entry.n) (filter (is_of a) merged)

-- the last entry: its name is the current one
abbrev pub current : List Merged → Option Merged
current merged = slice_get merged (length merged - 1)

abbrev pub is_current : Option Merged → ℕ → ℕ → Bool
is_current None a stamp = false
is_current (Some last) a stamp = is_named a stamp last

abbrev pub is_below_current : List Stream → Option Merged → ℕ → ℕ → Bool
is_below_current streams None a stamp = false
is_below_current streams (Some last) a stamp = is_below (name_of streams a stamp) (name_of streams last.a last.stamp)

-- the stamp of the current name, or 0 before there is one
abbrev pub current_stamp : Option Merged → ℕ
current_stamp None = 0
current_stamp (Some last) = last.stamp

-- to message n of the name, of which t are committed, where this is the last entry of so many
abbrev pub row_says : List Stream → Option Merged → ℕ → ℕ → ℕ → ℕ → ℕ → EpochAnswer
row_says streams last long t a stamp n =
    if nat_le n t then told.Repeat n
    else if nat_lt 0 t && not (is_current last a stamp) then told.OverAt t
    else if (t == 0) && is_below_current streams last a stamp then told.Low (current_stamp last)
    else if n == t + 1 then told.Committed (long + 1)
    else told.Ahead t

abbrev pub row_answer : List Stream → List Merged → ℕ → ℕ → ℕ → EpochAnswer
row_answer streams merged a stamp n = row_says streams (current merged) (length merged) (count_named a stamp merged) a stamp n
