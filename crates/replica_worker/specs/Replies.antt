-- The reply to a message, made before its step is committed.
use Rattle.std.specs.Prelude.{Option, Some, None}
use Rattle.device_types.specs.declared.event.Lane.TheVariants as lane
use Rattle.device_types.specs.declared.input.Input.{Input}
use Rattle.device_types.specs.declared.input.Input.TheVariants as inputs
use Rattle.device_types.specs.declared.step.Entry.{Entry}
use Rattle.device_types.specs.declared.step.Reply.{Reply}
use Rattle.device_types.specs.Journal.{effects_on}
use Rattle.replica_worker.specs.declared.hand.Hand.{Hand}
use Rattle.replica_worker.specs.declared.hand.Hand.TheVariants.{Ready}
use Rattle.replica_worker.specs.declared.replies.Told.{Told}
use Rattle.session_row.specs.declared.commit.Commit.{Commit}
use Rattle.session_row.specs.declared.commit.Commit.TheVariants.{Committed}

-- what the device is told of the entry, if it is one of a message
abbrev pub told_by : Input → Entry → Option Told
told_by (inputs.Message message) entry = Some (record { number = message.number; downs = effects_on lane.Down entry.step.effects })
told_by (inputs.Answer l k answer) entry = None

abbrev pub told_of : Entry → Option Told
told_of entry = told_by entry.input entry

abbrev pub told_in : Hand → Option Told
told_in (Ready d version entry) = told_of entry
told_in _ = None

-- the reply, where the step was committed
abbrev pub reply_when : Option Told → Commit → Option Reply
reply_when (Some told) (Committed version) = Some (record { number = told.number; version = version; downs = told.downs })
reply_when _ commit = None
