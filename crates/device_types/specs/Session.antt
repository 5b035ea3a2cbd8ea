-- The session of a device: that of one never seen, and the ranges of its fields.
use Rattle.std.specs.Prelude.{◌^◌, ◌<◌, ◌≤◌, false, [], length, replicate}
use Rattle.device_types.specs.declared.session.Link.{Link}
use Rattle.device_types.specs.declared.session.Link.TheVariants.{Off, On}
use Rattle.device_types.specs.declared.session.Bearer.TheVariants as bearer
use Rattle.device_types.specs.declared.session.Second.TheVariants as second
use Rattle.device_types.specs.declared.session.Stage.TheVariants as stage
use Rattle.device_types.specs.declared.session.Session.{Session}
use Rattle.device_types.specs.Cause.{IsStoredCause}
use Rattle.device_types.specs.Keys.{IsKey}
use Rattle.device_types.specs.Message.{IsArea, IsPair}
use Rattle.device_types.specs.Numbers.{IsBitRate}
use Rattle.device_types.specs.Octets.{AreOctets}

abbrev pub opening : Session
opening = record {
  stage = stage.Detached;
  link = Off;
  plmn = 0;
  tac = 0;
  eea = 0;
  eia = 0;
  pti = 0;
  res = [];
  key = replicate 32 0;
  dl = 0;
  ul = 0;
  sgw = 0;
  teid = 0;
  ip = 0;
  side_addr = 0;
  side_teid = 0;
  bearer = bearer.None;
  registered = false;
  off = false;
  cause = record { group = 0; extended = false; index = 0 };
  radio = 0;
  second = second.None;
  pti2 = 0;
  sgw2 = 0;
  teid2 = 0;
  ip2 = 0;
  side2_addr = 0;
  side2_teid = 0;
}

abbrev pub IsLink : Link → Type 0
IsLink Off = Unit {0}
IsLink (On station enb) = IsPair station enb

-- a session as it is stored
pub record IsSession (s : Session) : Type 0 where
  pub link : IsLink s.link
  pub area : IsArea s.plmn s.tac
  pub eea : s.eea < 256
  pub eia : s.eia < 256
  pub pti : s.pti < 256
  pub res : length s.res ≤ 16
  pub res_octets : AreOctets s.res
  pub key : IsKey s.key
  pub dl : IsBitRate s.dl
  pub ul : IsBitRate s.ul
  pub sgw : s.sgw < 2 ^ 32
  pub teid : s.teid < 2 ^ 32
  pub ip : s.ip < 2 ^ 32
  pub side_addr : s.side_addr < 2 ^ 32
  pub side_teid : s.side_teid < 2 ^ 32
  pub cause : IsStoredCause s.cause
  pub radio : s.radio < 2 ^ 32
  pub pti2 : s.pti2 < 256
  pub sgw2 : s.sgw2 < 2 ^ 32
  pub teid2 : s.teid2 < 2 ^ 32
  pub ip2 : s.ip2 < 2 ^ 32
  pub side2_addr : s.side2_addr < 2 ^ 32
  pub side2_teid : s.side2_teid < 2 ^ 32
