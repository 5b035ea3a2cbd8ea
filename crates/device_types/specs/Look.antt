-- What a row says to an input, by its journal. A window is how many of the last replies are kept.
use Rattle.std.specs.Prelude.{ℕ, ◌+◌, ◌==◌, ◌&&◌, nat_le, nat_lt, Bool, true, false, List, Option, Some, None, if◌then◌else◌}
use Rattle.device_types.specs.declared.event.Lane.{Lane}
use Rattle.device_types.specs.declared.event.Lane.TheVariants as lane
use Rattle.device_types.specs.declared.look.Look.{Look}
use Rattle.device_types.specs.declared.look.Look.TheVariants.{Ready, Repeat, Settled, Ahead, Waiting, Old, NotAwaited}
use Rattle.device_types.specs.declared.step.Entry.{Entry}
use Rattle.device_types.specs.Journal.{taken_count, pushed_count, awaited_call}

abbrev pub unless_awaited : Option (Lane × ℕ) → Look
unless_awaited None = Ready
unless_awaited (Some call) = Waiting call.0 call.1

-- behind so many messages, with that call awaited
abbrev pub look_behind : ℕ → ℕ → Option (Lane × ℕ) → ℕ → Look
look_behind window taken awaited n =
    if nat_le (n + window) taken then Settled n
    else if nat_le n taken then Repeat n
    else if nat_lt (taken + 1) n then Ahead taken
    else unless_awaited awaited

-- to message n, from 1
abbrev pub look_of : ℕ → List Entry → ℕ → Look
look_of window journal n = look_behind window (taken_count journal) (awaited_call journal) n

abbrev pub same_lane : Lane → Lane → Bool
same_lane lane.Down lane.Down = true
same_lane lane.Gateway lane.Gateway = true
same_lane lane.Subscriber lane.Subscriber = true
same_lane _ _ = false

abbrev pub is_call : Option (Lane × ℕ) → Lane → ℕ → Bool
is_call None lane k = false
is_call (Some call) lane k = same_lane call.0 lane && call.1 == k

-- behind so many calls of the lane, with that call awaited
abbrev pub answer_look_behind : ℕ → Option (Lane × ℕ) → Lane → ℕ → Look
answer_look_behind pushed awaited lane k =
    if is_call awaited lane k then Ready
    else if nat_lt pushed k then NotAwaited pushed
    else Old lane k

-- to the answer to call k of a lane, from 1
abbrev pub answer_look_of : List Entry → Lane → ℕ → Look
answer_look_of journal lane k = answer_look_behind (pushed_count lane journal) (awaited_call journal) lane k
