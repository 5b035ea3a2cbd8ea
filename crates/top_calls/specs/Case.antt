-- Where the case text of a command comes from.
use Rattle.std.specs.Prelude.{◌≡◌, ℕ, ◌+◌, ◌*◌, ◌≤◌, nat_le, List, length, Option, Some, None, option_and_then, if◌then◌else◌}
use Rattle.std.specs.Option.{option_or}
use Rattle.echo_base.specs.Outside.{IsTaken, IsAtEnd}
use Rattle.trace_gen.specs.Made.{made_case}
use Rattle.top_calls.specs.declared.source.MadeCase.{MadeCase}

-- the most octets of a case text
abbrev pub most_octets : ℕ
most_octets = 67108864

-- the case of these numbers
abbrev pub case_made : MadeCase → List ℕ
case_made made = made_case made.number made.devices made.rounds

-- a made case has a device, and at most 800 visits
pub record IsSmall (made : MadeCase) : Type 0 where
  pub some : 1 ≤ made.devices
  pub few : made.devices * (made.rounds + 1) ≤ 800

-- a case text, which was all that the source had
pub record ReadWhole (before : Option (List ℕ)) (octets : List ℕ) (after : Option (List ℕ)) : Type 0 where
  pub taken : IsTaken before octets after
  pub whole : IsAtEnd after
  pub fits : length octets ≤ most_octets

-- the case that was made, and nothing was taken of the source; or, where none is made, what was read
abbrev pub IsCase : Option (List ℕ) → Option (List ℕ) → List ℕ → Option (List ℕ) → Type 0
IsCase (Some made) before octets after = (octets ≡ made) × (after ≡ before)
IsCase None before octets after = ReadWhole before octets after

abbrev pub if_short : List ℕ → Option (List ℕ)
if_short octets = if nat_le (length octets) most_octets then Some octets else None

-- the case text that a command is to have, by the case that it makes, or by what a source has left, where that is told and not too long
abbrev pub case_by : Option (List ℕ) → Option (List ℕ) → Option (List ℕ)
case_by made left = option_or made (option_and_then if_short left)
