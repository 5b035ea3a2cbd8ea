-- EPS mobile identities (TS 24.301, 9.9.3.12), by their octets behind the length.
use Rattle.std.specs.Prelude.{◌≡◌, ℕ, ◌+◌, ◌*◌, ◌/◌, ◌%◌, ◌<◌, List, [], ◌∷◌, ◌++◌, length, All, fold}
use Rattle.std.specs.Int.{w32, from_be_bytes}
use Rattle.echo_base.specs.declared.identity.Identity.{Identity}
use Rattle.echo_base.specs.declared.identity.Identity.TheVariants.{Imsi, Tmsi}

-- the halves of octets, the low half of each first
abbrev pub halves : List ℕ → List ℕ
halves [] = []
halves (octet ∷ octets) = octet % 16 ∷ octet / 16 ∷ halves octets

-- the number of decimal digits, the highest digit first
abbrev pub decimal_number : List ℕ → ℕ
decimal_number digits = fold (λ number digit. 10 * number + digit) 0 digits

-- An IMSI has eight octets. Their halves are 9 (an odd count of digits, type IMSI) and fifteen decimal digits.
abbrev pub IsImsi : List ℕ → ℕ → Type 0
IsImsi octets imsi = (digits : List ℕ) × (length octets ≡ 8) × (halves octets ≡ 9 ∷ digits) × All (λ digit. digit < 10) digits × (imsi ≡ decimal_number digits)

-- A GUTI is the octet f6 (type GUTI), six octets (PLMN, MME group and MME code), and the four of the M-TMSI.
abbrev pub IsGuti : List ℕ → ℕ → Type 0
IsGuti octets tmsi = (mme : List ℕ) × (last : List ℕ) × (octets ≡ 0xf6 ∷ mme ++ last) × (length mme ≡ 6) × (length last ≡ 4) × (tmsi ≡ from_be_bytes w32 last)

-- the octets are this identity
abbrev pub IsIdentity : List ℕ → Identity → Type 0
IsIdentity octets (Imsi imsi) = IsImsi octets imsi
IsIdentity octets (Tmsi tmsi) = IsGuti octets tmsi
