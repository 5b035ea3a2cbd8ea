-- Subscribers: the ranges of a row's fields.
use Rattle.std.specs.Prelude.{◌≡◌, ℕ, ◌^◌, ◌<◌, ◌≤◌, ◌||◌, Bool, List, length, All, IfSome}
use Rattle.std.specs.List.{AllPass}
use Rattle.std.specs.Char.{is_ascii_digit, is_ascii_lowercase}
use Rattle.device_types.specs.declared.subscriber.Subscriber.{Subscriber}
use Rattle.device_types.specs.Octets.{AreOctets}

-- a to z and 0 to 9
abbrev pub is_letter_or_digit : ℕ → Bool
is_letter_or_digit c = is_ascii_lowercase c || is_ascii_digit c

-- an access point name of one label (TS 23.003, 9.1)
pub record IsName (apn : List ℕ) : Type 0 where
  pub least : 1 ≤ length apn
  pub most : length apn ≤ 30
  pub characters : AllPass is_letter_or_digit apn

-- IMSI and M-TMSI (3GPP TS 23.003, 2.2 and 2.8), the authentication vector (TS 33.401, 6.1.2), the access point name of one label
-- (TS 23.003, 9.1), the addresses, the gateway's tunnel, the aggregate maximum bit rates (TS 36.413, 9.2.1.20), the areas (TS 23.003, 19.4.2.3),
-- and the name and the address of a second connection, where there is one
pub record IsSubscriber (row : Subscriber) : Type 0 where
  pub imsi : row.imsi < 10 ^ 15
  pub tmsi : row.tmsi < 2 ^ 32
  pub rand : length row.rand ≡ 16
  pub autn : length row.autn ≡ 16
  pub res_least : 4 ≤ length row.res
  pub res_most : length row.res ≤ 16
  pub key : length row.key ≡ 32
  pub rand_octets : AreOctets row.rand
  pub autn_octets : AreOctets row.autn
  pub res_octets : AreOctets row.res
  pub key_octets : AreOctets row.key
  pub apn_least : 1 ≤ length row.apn
  pub apn_most : length row.apn ≤ 30
  pub apn_characters : AllPass is_letter_or_digit row.apn
  pub ip : row.ip < 2 ^ 32
  pub sgw : row.sgw < 2 ^ 32
  pub teid_least : 1 ≤ row.teid
  pub teid_most : row.teid ≤ 4000000000
  pub ambr_dl : row.ambr_dl ≤ 10000000000
  pub ambr_ul : row.ambr_ul ≤ 10000000000
  pub forbidden_most : length row.forbidden ≤ 16
  pub forbidden_areas : All (λ area. area < 65536) row.forbidden
  pub apn2 : IfSome row.apn2 IsName
  pub ip2 : IfSome row.ip2 (λ ip. ip < 2 ^ 32)
