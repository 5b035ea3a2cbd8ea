-- The answers of the peers: the ranges of their fields.
use Rattle.std.specs.Prelude.{◌≡◌, ℕ, ◌^◌, ◌<◌, ◌≤◌, List, length}
use Rattle.device_types.specs.declared.input.Answer.{Answer}
use Rattle.device_types.specs.declared.input.Answer.TheVariants.{Vectors, Located, Purged, Created, Modified, Freed, Deleted, SecondCreated, SecondModified}
use Rattle.device_types.specs.Keys.{IsKey}
use Rattle.device_types.specs.Numbers.{IsBitRate}
use Rattle.device_types.specs.Octets.{AreOctets}

-- an authentication vector (TS 33.401, 6.1.2), with a response of 4 to 16 octets (TS 33.102, 6.3.7)
pub record IsVector (challenge token response secret : List ℕ) : Type 0 where
  pub rand : length challenge ≡ 16
  pub autn : length token ≡ 16
  pub res_least : 4 ≤ length response
  pub res_most : length response ≤ 16
  pub rand_octets : AreOctets challenge
  pub autn_octets : AreOctets token
  pub res_octets : AreOctets response
  pub key : IsKey secret

abbrev pub IsAnswer : Answer → Type 0
IsAnswer (Vectors rand autn res key) = IsVector rand autn res key
IsAnswer (Located dl ul) = IsBitRate dl × IsBitRate ul
IsAnswer Purged = Unit {0}
IsAnswer (Created sgw teid ip) = (sgw < 2 ^ 32) × (teid < 2 ^ 32) × (ip < 2 ^ 32)
IsAnswer Modified = Unit {0}
IsAnswer Freed = Unit {0}
IsAnswer Deleted = Unit {0}
IsAnswer (SecondCreated sgw teid ip) = (sgw < 2 ^ 32) × (teid < 2 ^ 32) × (ip < 2 ^ 32)
IsAnswer SecondModified = Unit {0}
