-- The lines of a session.
use Rattle.std.specs.Prelude.{ℕ, ◌++◌, List, [], codes}
use Rattle.std.specs.Fmt.{decimal}
use Rattle.device_types.specs.declared.session.Stage.{Stage}
use Rattle.device_types.specs.declared.session.Stage.TheVariants.{Detached, AwaitVectors, Authenticating, Securing, AwaitLocation, AwaitCreate, Accepting, AcceptingContext, AcceptingDone, AwaitModify, Connecting, Connected, AwaitRelease, Releasing, Idle, AwaitDelete, AwaitSecond, AwaitSecondModify}
use Rattle.device_types.specs.declared.session.Link.{Link}
use Rattle.device_types.specs.declared.session.Link.TheVariants.{Off, On}
use Rattle.device_types.specs.declared.session.Bearer.{Bearer}
use Rattle.device_types.specs.declared.session.Bearer.TheVariants as bearer
use Rattle.device_types.specs.declared.session.Second.{Second}
use Rattle.device_types.specs.declared.session.Second.TheVariants as second
use Rattle.device_types.specs.declared.session.Session.{Session}
use Rattle.report_text.specs.Lines.{ended, hex_filled}

abbrev pub stage_name : Stage → List ℕ
stage_name Detached = codes "detached"
stage_name AwaitVectors = codes "await-vectors"
stage_name Authenticating = codes "authenticating"
stage_name Securing = codes "securing"
stage_name AwaitLocation = codes "await-location"
stage_name AwaitCreate = codes "await-create"
stage_name Accepting = codes "accepting"
stage_name AcceptingContext = codes "accepting-context"
stage_name AcceptingDone = codes "accepting-done"
stage_name AwaitModify = codes "await-modify"
stage_name Connecting = codes "connecting"
stage_name Connected = codes "connected"
stage_name AwaitRelease = codes "await-release"
stage_name Releasing = codes "releasing"
stage_name Idle = codes "idle"
stage_name AwaitDelete = codes "await-delete"
stage_name AwaitSecond = codes "await-second"
stage_name AwaitSecondModify = codes "await-second-modify"

abbrev pub link_text : Link → List ℕ
link_text Off = codes "off"
link_text (On station enb) = decimal station ++ codes "/" ++ decimal enb

abbrev pub bearer_name : Bearer → List ℕ
bearer_name bearer.None = codes "none"
bearer_name bearer.Made = codes "made"
bearer_name bearer.Active = codes "active"

abbrev pub session_front : Session → List ℕ
session_front s = codes "session " ++ stage_name s.stage ++ codes " link " ++ link_text s.link

abbrev pub session_back : Session → List ℕ
session_back s = codes "area " ++ hex_filled 6 s.plmn ++ codes " " ++ decimal s.tac ++ codes " bearer " ++ bearer_name s.bearer ++ codes " radio " ++ decimal s.radio

abbrev pub session_line : Session → List ℕ
session_line s = session_front s ++ codes " " ++ session_back s

-- the line of a second connection, where there is one: made until the device, its base station and the gateway have it
abbrev pub second_text : Second → List ℕ
second_text second.None = []
second_text second.Active = ended (codes "second active")
second_text _ = ended (codes "second made")

-- its line, and that of its second connection
unfoldable pub session_text : Session → List ℕ
session_text s = ended (session_line s) ++ second_text s.second
