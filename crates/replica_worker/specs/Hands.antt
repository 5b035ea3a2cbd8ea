-- What a replica holds, and what becomes of it by a read.
use Rattle.std.specs.Borrow.{Bor}
use Rattle.std.specs.Prelude.{ℕ, List, Option, Some, None}
use Rattle.device_types.specs.declared.input.Input.{Input}
use Rattle.device_types.specs.declared.look.Look.{Look}
use Rattle.device_types.specs.declared.look.Look.TheVariants as looks
use Rattle.device_types.specs.declared.session.Session.{Session}
use Rattle.device_types.specs.declared.step.Entry.{Entry}
use Rattle.device_types.specs.declared.step.Step.{Step}
use Rattle.device_types.specs.declared.subscriber.DeviceId.{DeviceId}
use Rattle.device_types.specs.declared.subscriber.Subscriber.{Subscriber}
use Rattle.device_types.specs.Journal.{version_of, session_of}
use Rattle.device_types.specs.StepTable.{step_of}
use Rattle.replica_worker.specs.declared.hand.Hand.{Hand}
use Rattle.replica_worker.specs.declared.hand.Hand.TheVariants.{Empty, Taken, Ready}
use Rattle.session_store.specs.Rows.{IsDevice}
use Rattle.session_store.specs.Seen.{IsAsked, asked_of, look_to}

-- the input that is held, with its device
abbrev pub held_in : Hand → Option (DeviceId × Input)
held_in Empty = None
held_in (Taken d input) = Some (d, input)
held_in (Ready d version entry) = Some (d, entry.input)

-- the same where the input is lent
abbrev pub lent_held : Option (DeviceId × Bor Input) → Option (DeviceId × Input)
lent_held None = None
lent_held (Some held) = Some (held.0, held.1.now)

-- an input of one of so many devices, with numbers about which a row is asked
abbrev pub CanBeRead : ℕ → Option (DeviceId × Input) → Type 0
CanBeRead devices None = ⊥
CanBeRead devices (Some held) = IsDevice devices held.0.0 × IsAsked (asked_of held.1)

-- a step is made exactly where the row is ready for the input
abbrev pub step_at : Subscriber → Session → Input → Look → Option Step
step_at row session input looks.Ready = Some (step_of row session input)
step_at row session input _ = None

-- the hand with an input, and with its step for that version, if one was made
abbrev pub hand_of : DeviceId → Input → ℕ → Option Step → Hand
hand_of d input version None = Taken d input
hand_of d input version (Some step) = Ready d version (record { input = input; step = step })

-- the hand after a read of that journal
abbrev pub hand_after : Subscriber → DeviceId → Input → List Entry → Hand
hand_after row d input journal = hand_of d input (version_of journal) (step_at row (session_of journal) input (look_to journal (asked_of input)))
