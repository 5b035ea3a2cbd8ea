-- What a step makes: which of it can be written, and where it goes. Where a device has a connection.
use Rattle.device_types.specs.declared.down.Down.{Down}
use Rattle.device_types.specs.declared.down.Down.TheVariants.{Nas, Setup, Release, Page, Erab, SetupTwo}
use Rattle.device_types.specs.declared.effect.Effect.{Effect}
use Rattle.device_types.specs.declared.effect.Effect.TheVariants as effects
use Rattle.device_types.specs.declared.session.Link.{Link}
use Rattle.device_types.specs.declared.session.Link.TheVariants.{Off, On}
use Rattle.device_types.specs.declared.session.Session.{Session}
use Rattle.device_types.specs.declared.session.Stage.{Stage}
use Rattle.device_types.specs.declared.session.Stage.TheVariants.{Detached, Idle}
use Rattle.device_types.specs.declared.subscriber.Subscriber.{Subscriber}
use Rattle.device_types.specs.Down.{IsDown}
use Rattle.device_types.specs.Message.{IsPair}

-- a call, or a message to the device of a row that can be written
abbrev pub IsWritable : Subscriber → Effect → Type 0
IsWritable row (effects.Down down) = IsDown row down
IsWritable row (effects.Gateway call) = Unit {0}
IsWritable row (effects.Subscriber call) = Unit {0}

-- a message to the device goes to a base station, which are numbered from 1; a paging goes to each one of an area
abbrev pub HasReceiver : Down → Type 0
HasReceiver (Nas station enb nas) = IsPair station enb
HasReceiver (Setup station enb dl ul sgw teid eea eia key accept) = IsPair station enb
HasReceiver (Release station enb cause) = IsPair station enb
HasReceiver (Page plmn tac) = Unit {0}
HasReceiver (Erab station enb sgw teid pti ip) = IsPair station enb
HasReceiver (SetupTwo station enb dl ul sgw teid eea eia key sgw2 teid2) = IsPair station enb

-- a call, or such a message
abbrev pub IsSent : Effect → Type 0
IsSent (effects.Down down) = HasReceiver down
IsSent (effects.Gateway call) = Unit {0}
IsSent (effects.Subscriber call) = Unit {0}

abbrev pub IsOn : Link → Type 0
IsOn Off = ⊥
IsOn (On station enb) = IsPair station enb

-- a device that is neither detached nor idle has an S1 connection
abbrev pub IsConnectedIn : Stage → Link → Type 0
IsConnectedIn Detached link = Unit {0}
IsConnectedIn Idle link = Unit {0}
IsConnectedIn _ link = IsOn link

abbrev pub IsConnected : Session → Type 0
IsConnected s = IsConnectedIn s.stage s.link
