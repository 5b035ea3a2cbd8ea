-- The last replies of a row.
use Rattle.std.specs.Prelude.{◌≡◌, ℕ, ◌+◌, ◌-◌, ◌&&◌, nat_lt, List, length, slice_get, Option, None, if◌then◌else◌}
use Rattle.circular_buffer.specs.Buffer.{buffer, keep_last}
use Rattle.device_types.specs.declared.step.Reply.{Reply}
use Rattle.session_row.specs.declared.replies.Replies.{Replies}

-- of these replies, one to each message that was taken, the last ones are kept
pub record KeepsLast (window : ℕ) (all : List Reply) (replies : Replies) : Type 0 where
  pub taken : replies.taken ≡ length all
  pub last : replies.last ≡ buffer (keep_last window all) window

-- reply n of them, from 1, while it is among the last
abbrev pub kept_in : ℕ → List Reply → ℕ → Option Reply
kept_in window all n = if nat_lt 0 n && nat_lt (length all) (n + window) then slice_get all (n - 1) else None
