-- Keys of octets.
use Rattle.std.specs.Prelude.{◌≡◌, ℕ, List, [], ◌∷◌, length}
use Rattle.device_types.specs.Keys.{IsKey, full}
use Rattle.device_types.specs.Octets.{AreOctets}

-- 32 octets are a key
pub full_is_key : (octets : List ℕ) → length octets ≡ 32 → AreOctets octets → IsKey (full octets)
full_is_key [] count octets = cc
full_is_key (octet ∷ more) count octets = record { count = count; octets = octets }
