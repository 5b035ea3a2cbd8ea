-- What the agent of a device may send, and what it makes of what arrives.
use Rattle.std.specs.Prelude.{ℕ, ◌+◌, ◌==◌, ◌&&◌, max, nat_lt, nat_le, Bool, List, [], ◌∷◌, ◌++◌, length, if◌then◌else◌}
use Rattle.device_types.specs.declared.down.Down.{Down}
use Rattle.agent_order.specs.Order.{LineState}
use Rattle.agent_resend.specs.declared.taken.Taken.{Taken}
use Rattle.agent_resend.specs.declared.taken.Taken.TheVariants.{Stranger, Old, Acked}
use Rattle.agent_resend.specs.declared.taken.DownTaken.{DownTaken}
use Rattle.agent_resend.specs.declared.taken.DownTaken.TheVariants as down

-- the line of the device, the greatest number that was sent, and the messages to the device that were accepted, in order
pub record WindowState : Type 0 where
  pub line : LineState
  pub sent : ℕ
  pub downs : List Down

-- message n may be sent: it is not acknowledged, at most so many behind the last one that is, and the line has it
abbrev pub may_send : ℕ → LineState → ℕ → Bool
may_send window line n = nat_lt line.acked n && nat_le n (line.acked + window) && nat_le n (length line.messages)

abbrev pub with_sent : WindowState → ℕ → WindowState
with_sent state n = record state { sent = max state.sent n }

-- what the reply to message n comes to
abbrev pub reply_taken : WindowState → ℕ → Taken
reply_taken state n =
    if nat_lt state.sent n then Stranger state.sent
    else if nat_le n state.line.acked then Old state.line.acked
    else Acked n

abbrev pub after_reply : WindowState → Taken → WindowState
after_reply state (Acked n) = record state { line = record state.line { acked = n } }
after_reply state (Old n) = state
after_reply state (Stranger n) = state

-- what message k to the device comes to, behind those that were accepted
abbrev pub down_taken : List Down → ℕ → DownTaken
down_taken downs k =
    if k == length downs + 1 then down.Accepted k
    else if nat_le k (length downs) then down.Repeat k
    else down.Ahead (length downs)

abbrev pub after_down : WindowState → Down → DownTaken → WindowState
after_down state message (down.Accepted k) = record state { downs = state.downs ++ message ∷ [] }
after_down state message (down.Repeat k) = state
after_down state message (down.Ahead last) = state
