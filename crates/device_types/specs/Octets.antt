-- Octets.
use Rattle.std.specs.Prelude.{ℕ, ◌<◌, List, All}

-- each is below 256
abbrev pub AreOctets : List ℕ → Type 0
AreOctets octets = All (λ octet. octet < 256) octets
