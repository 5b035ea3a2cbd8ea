-- Lanes that are brought whole.
use Rattle.std.specs.Prelude.{◌≤◌, ℕ, List, length}
use Rattle.device_types.specs.declared.effect.Effect.{Effect}
use Rattle.device_types.specs.declared.event.Lane.{Lane}
use Rattle.device_types.specs.declared.input.Offer.{Offer}
use Rattle.device_types.specs.declared.input.Offer.TheVariants.{Accepted, Repeat, Ahead}
use Rattle.device_types.specs.Journal.{pushed_count}
use Rattle.session_store.specs.Charter.{CharterState, alone_in}

-- as many calls of device d were accepted on a lane as the machine alone makes
abbrev pub HasWhole : CharterState → ℕ → Lane → List Effect → Type 0
HasWhole charter d lane accepted = pushed_count lane (alone_in charter d) ≤ length accepted

-- how many calls were accepted at least, where that was said to call k
abbrev pub told_count : ℕ → Offer → ℕ
told_count k (Accepted answer) = k
told_count k (Repeat answer) = k
told_count k (Ahead last) = last
