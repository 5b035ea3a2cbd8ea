-- A row of the step table: a test of the session, and what follows where the test holds. The tests.
use Rattle.std.specs.Prelude.{ℕ, ◌==◌, Bool, true, false, not, if◌then◌else◌, ◌&&◌, List, [], ◌∷◌, Option, Some, None}
use Rattle.std.specs.List.{list_any}
use Rattle.device_types.specs.declared.message.Message.{Message}
use Rattle.device_types.specs.declared.session.Link.{Link}
use Rattle.device_types.specs.declared.session.Link.TheVariants.{Off, On}
use Rattle.device_types.specs.declared.session.Session.{Session}
use Rattle.device_types.specs.declared.session.Stage.{Stage}
use Rattle.device_types.specs.declared.session.Stage.TheVariants as stages
use Rattle.device_types.specs.declared.step.Step.{Step}
use Rattle.device_types.specs.declared.subscriber.Subscriber.{Subscriber}
use Rattle.device_types.specs.Acts.{Act, run}

pub record Rule : Type 0 where
  pub fits : Bool
  pub acts : List Act

abbrev pub rule : Bool → List Act → Rule
rule fits acts = record { fits = fits; acts = acts }

-- the step of the first row that fits
abbrev pub fitting : List Rule → Session → Option Step
fitting [] s = None
fitting (r ∷ rs) s = if r.fits then Some (run r.acts s) else fitting rs s

-- ---- stages

abbrev pub number : Stage → ℕ
number stages.Detached = 0
number stages.AwaitVectors = 1
number stages.Authenticating = 2
number stages.Securing = 3
number stages.AwaitLocation = 4
number stages.AwaitCreate = 5
number stages.Accepting = 6
number stages.AcceptingContext = 7
number stages.AcceptingDone = 8
number stages.AwaitModify = 9
number stages.Connecting = 10
number stages.Connected = 11
number stages.AwaitRelease = 12
number stages.Releasing = 13
number stages.Idle = 14
number stages.AwaitDelete = 15
number stages.AwaitSecond = 16
number stages.AwaitSecondModify = 17

abbrev pub at : Stage → Session → Bool
at stage s = number s.stage == number stage

-- the stages in which no answer is awaited
abbrev pub is_settled : Stage → Bool
is_settled stages.AwaitVectors = false
is_settled stages.AwaitLocation = false
is_settled stages.AwaitCreate = false
is_settled stages.AwaitModify = false
is_settled stages.AwaitRelease = false
is_settled stages.AwaitDelete = false
is_settled stages.AwaitSecond = false
is_settled stages.AwaitSecondModify = false
is_settled _ = true

abbrev pub settled : Session → Bool
settled s = is_settled s.stage

-- the stages of a device that is registered, by whether it stays so
abbrev pub is_held : Stage → Bool → Bool
is_held stages.Idle registered = true
is_held stages.Connecting registered = true
is_held stages.Connected registered = true
is_held stages.Releasing registered = registered
is_held _ registered = false

abbrev pub held : Session → Bool
held s = is_held s.stage s.registered

-- detached, or on the way to it
abbrev pub is_gone : Stage → Bool → Bool
is_gone stages.Detached registered = true
is_gone stages.Releasing registered = not registered
is_gone _ registered = false

abbrev pub gone : Session → Bool
gone s = is_gone s.stage s.registered

-- the stages in which the device attaches and is waited for
abbrev pub is_attaching : Stage → Bool
is_attaching stages.Authenticating = true
is_attaching stages.Securing = true
is_attaching stages.Accepting = true
is_attaching stages.AcceptingContext = true
is_attaching stages.AcceptingDone = true
is_attaching _ = false

abbrev pub attaching : Session → Bool
attaching s = is_attaching s.stage

-- those, and the two of a device that has its connection or gets it
abbrev pub is_served : Stage → Bool
is_served stages.Connecting = true
is_served stages.Connected = true
is_served stage = is_attaching stage

abbrev pub served : Session → Bool
served s = is_served s.stage

-- ---- connections and areas

abbrev pub is_pair : Link → ℕ → ℕ → Bool
is_pair Off station enb = false
is_pair (On on_station on_enb) station enb = (on_station == station) && (on_enb == enb)

-- the message came on the session's connection
abbrev pub here : Session → Message → Bool
here s m = is_pair s.link m.station m.enb

abbrev pub forbidden : Subscriber → ℕ → Bool
forbidden row tac = list_any (λ area. area == tac) row.forbidden
