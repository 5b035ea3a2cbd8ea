-- What a device does at a visit, as scripts of messages, and the calls that the core makes of each message.
use Rattle.std.specs.Prelude.{ℕ, ◌==◌, List, [], ◌∷◌, if◌then◌else◌}
use Rattle.device_types.specs.declared.event.Lane.{Lane}
use Rattle.device_types.specs.declared.event.Lane.TheVariants as lane
use Rattle.trace_gen.specs.declared.script.Script.{Script}
use Rattle.trace_gen.specs.declared.script.Script.TheVariants as script
use Rattle.trace_gen.specs.declared.script.Sending.{Sending}
use Rattle.trace_gen.specs.declared.script.Sending.TheVariants.{AttachRequest, AuthenticationResponse, SecurityComplete, AttachContext, RadioCapability, AttachComplete, ReleaseRequest, ReleaseComplete, ServiceRequest, ServiceContext, AreaRequest, DetachRequest}
use Rattle.trace_gen.specs.declared.script.Call.{Call}
use Rattle.trace_gen.specs.declared.script.Call.TheVariants.{Subscriber, Gateway, Notice}

-- the messages of a script, in order
abbrev pub sendings_of : Script → List Sending
sendings_of script.Attach = AttachRequest ∷ AuthenticationResponse ∷ SecurityComplete ∷ AttachContext ∷ RadioCapability ∷ AttachComplete ∷ []
sendings_of script.Release = ReleaseRequest ∷ ReleaseComplete ∷ []
sendings_of script.Service = ServiceRequest ∷ ServiceContext ∷ []
sendings_of script.Area = AreaRequest ∷ ReleaseComplete ∷ []
sendings_of script.Detach = DetachRequest ∷ ReleaseComplete ∷ []

-- the calls after a message, in order
abbrev pub calls_after : Sending → List Call
calls_after AttachRequest = Subscriber ∷ []
calls_after AuthenticationResponse = []
calls_after SecurityComplete = Subscriber ∷ Gateway ∷ []
calls_after AttachContext = []
calls_after RadioCapability = []
calls_after AttachComplete = Gateway ∷ []
calls_after ReleaseRequest = Gateway ∷ []
calls_after ReleaseComplete = []
calls_after ServiceRequest = []
calls_after ServiceContext = Gateway ∷ []
calls_after AreaRequest = []
calls_after DetachRequest = Gateway ∷ Notice ∷ []

-- the lane of a call; the notice that a device is gone goes to the subscriber server
abbrev pub lane_of : Call → Lane
lane_of Subscriber = lane.Subscriber
lane_of Gateway = lane.Gateway
lane_of Notice = lane.Subscriber

-- the scripts of a visit behind the first round, by a draw below 3
abbrev pub scripts_of : ℕ → List Script
scripts_of draw = if draw == 0 then script.Release ∷ script.Service ∷ [] else if draw == 1 then script.Release ∷ script.Area ∷ script.Service ∷ [] else script.Detach ∷ script.Attach ∷ []
