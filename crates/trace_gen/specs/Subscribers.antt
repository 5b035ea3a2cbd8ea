-- The subscribers, a JSON object each.
use Rattle.std.specs.Prelude.{ℕ, ◌+◌, ◌*◌, List, ◌++◌, codes}
use Rattle.std.specs.Fmt.{decimal}
use Rattle.std.specs.Int.{w32, to_be_bytes}
use Rattle.hex.specs.Hex.{encode_lower}

-- of PLMN 208 93
abbrev pub imsi_of : ℕ → ℕ
imsi_of device = 208930000000000 + device

-- 10.45.0.0, and the device
abbrev pub address_of : ℕ → ℕ
address_of device = 0x0a2d0000 + device

-- the columns that all devices have alike, before the address
unfoldable pub key_columns : List ℕ
key_columns = codes "\"rand\":\"000102030405060708090a0b0c0d0e0f\",\"autn\":\"101112131415161718191a1b1c1d1e1f\",\"res\":\"a0a1a2a3a4a5a6a7\",\"key\":\"1111111111111111111111111111111111111111111111111111111111111111\",\"apn\":\"internet\""

-- and the last
unfoldable pub rate_columns : List ℕ
rate_columns = codes "\"ambr_dl\":1000000000,\"ambr_ul\":1000000000,\"forbidden\":[]"

unfoldable pub identity_columns : ℕ → List ℕ
identity_columns device = codes "\"imsi\":\"" ++ decimal (imsi_of device) ++ codes "\",\"tmsi\":" ++ decimal device

-- the address of the device, in hexadecimal
unfoldable pub address_column : List ℕ → List ℕ
address_column octets = codes "\"ip\":\"" ++ encode_lower octets ++ codes "\""

-- the gateway, and the end of its tunnel
unfoldable pub tunnel_columns : ℕ → List ℕ
tunnel_columns teid = codes "\"sgw\":\"c0a80001\",\"teid\":" ++ decimal teid

-- the row of a device: its columns in their order, and no spaces
unfoldable pub subscriber_line : ℕ → List ℕ
subscriber_line device = codes "{" ++ identity_columns device ++ codes "," ++ key_columns ++ codes "," ++ address_column (to_be_bytes w32 (address_of device)) ++ codes "," ++ tunnel_columns (1000 * device) ++ codes "," ++ rate_columns ++ codes "}"
