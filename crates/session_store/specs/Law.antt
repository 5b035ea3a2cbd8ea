-- Lawful journals.
use Rattle.std.specs.Prelude.{◌≡◌, ℕ, List, take, Some, slice_get}
use Rattle.device_types.specs.declared.look.Look.TheVariants.{Ready}
use Rattle.device_types.specs.declared.step.Entry.{Entry}
use Rattle.device_types.specs.Session.{IsSession}
use Rattle.session_row.specs.Row.{look_at, AwaitsAtMostOne}

-- so many of the last replies of a device are kept
abbrev pub window : ℕ
window = 4

-- each entry may follow those before it
abbrev pub IsLawful : (List Entry → Entry → Type 0) → List Entry → Type 0
IsLawful follows journal = (v : ℕ) (entry : Entry) → slice_get journal v ≡ Some entry → follows (take v journal) entry

-- a row takes the entry behind the journal
pub record CanFollow (journal : List Entry) (entry : Entry) : Type 0 where
  pub ready : look_at window journal entry.input ≡ Ready
  pub session : IsSession entry.step.session
  pub calls : AwaitsAtMostOne entry.step.effects
