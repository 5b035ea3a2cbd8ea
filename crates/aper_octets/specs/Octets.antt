-- Pieces of aligned PER that begin at an octet, as octets: lengths, numbers, and what stands before what an IE contains.
use Rattle.std.specs.Prelude.{ℕ, ◌+◌, ◌-◌, ◌*◌, ◌/◌, ◌%◌, nat_lt, List, [], ◌∷◌, ◌++◌, length, if◌then◌else◌}

-- a length: one octet below 128, else two that begin with the bits 10
unfoldable pub count_octets : ℕ → List ℕ
count_octets n = if nat_lt n 128 then n ∷ [] else (128 + n / 256) ∷ n % 256 ∷ []

-- octets behind their length: an octet string, and an open type
unfoldable pub counted : List ℕ → List ℕ
counted octets = count_octets (length octets) ++ octets

-- a number below 2^32 in four octets
unfoldable pub four_octets : ℕ → List ℕ
four_octets n = n / 16777216 ∷ n / 65536 % 256 ∷ n / 256 % 256 ∷ n % 256 ∷ []

-- a number below 2^40 in its least octets
unfoldable pub least_octets : ℕ → List ℕ
least_octets n =
    if nat_lt n 256 then n ∷ []
    else (if nat_lt n 65536 then n / 256 ∷ n % 256 ∷ []
    else (if nat_lt n 16777216 then n / 65536 ∷ n / 256 % 256 ∷ n % 256 ∷ []
    else (if nat_lt n 4294967296 then n / 16777216 ∷ n / 65536 % 256 ∷ n / 256 % 256 ∷ n % 256 ∷ []
    else n / 4294967296 ∷ n / 16777216 % 256 ∷ n / 65536 % 256 ∷ n / 256 % 256 ∷ n % 256 ∷ [])))

-- a number behind an octet that holds the bits before it, and the count of its octets less one
unfoldable pub number_octets : ℕ → ℕ → ℕ → List ℕ
number_octets before unit n = (before + unit * (length (least_octets n) - 1)) ∷ least_octets n

-- an IE, or an item of a list: its id, its criticality, and what it contains
unfoldable pub ie_octets : ℕ → ℕ → List ℕ → List ℕ
ie_octets id criticality content = 0 ∷ id ∷ 64 * criticality ∷ counted content
