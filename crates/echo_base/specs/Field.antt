-- Fields of octets: formats, readings and runs. An error that is due where the octets are too few is a parameter.
use Rattle.std.specs.Prelude.{◌≡◌, ℕ, ◌+◌, ◌*◌, ◌<◌, nat_lt, List, [], ◌∷◌, ◌++◌, length, take, drop, Ok, Err, if◌then◌else◌}
use Rattle.byteorder.specs.Endian.{big_number, big_bytes}
use Rattle.echo_base.specs.Format as formats
use Rattle.echo_base.specs.Format.{Format, just}
use Rattle.echo_base.specs.Reading as readings
use Rattle.echo_base.specs.Reading.{Reader, done}

-- ---- formats

-- a format of octets
abbrev pub Field : Type 0 → Type 0 → Type 1
Field E A = Format (List ℕ) E A

-- an octet
abbrev pub octet_in : {E : Type 0} → E → Field E ℕ
octet_in short = record { Stands = λ octets v rest. octets ≡ v ∷ rest; Refuses = λ octets e. (octets ≡ []) × (e ≡ short) }

-- n octets
abbrev pub octets_in : {E : Type 0} → E → ℕ → Field E (List ℕ)
octets_in short n = record { Stands = λ octets v rest. (octets ≡ v ++ rest) × (length v ≡ n); Refuses = λ octets e. (length octets < n) × (e ≡ short) }

-- a number of n octets, the highest first
unfoldable pub number_in : {E : Type 0} → E → ℕ → Field E ℕ
number_in short n = formats.◌>>=◌ (octets_in short n) (λ octets. just (big_number n octets))

-- octets behind their count in one octet
unfoldable pub counted_in : {E : Type 0} → E → Field E (List ℕ)
counted_in short = formats.◌>>=◌ (octet_in short) (octets_in short)

-- octets behind their count in two octets
unfoldable pub long_counted_in : {E : Type 0} → E → Field E (List ℕ)
long_counted_in short = formats.◌>>=◌ (octet_in short) (λ high. formats.◌>>=◌ (octet_in short) (λ low. octets_in short (256 * high + low)))

-- ---- readings

-- a reading of octets
abbrev pub FieldReader : Type 0 → Type 0 → Type 0
FieldReader E A = Reader (List ℕ) E A

unfoldable pub octet_at : {E : Type 0} → E → FieldReader E ℕ
octet_at short [] = Err short
octet_at short (octet ∷ octets) = Ok (octet, octets)

unfoldable pub octets_at : {E : Type 0} → E → ℕ → FieldReader E (List ℕ)
octets_at short n octets = if nat_lt (length octets) n then Err short else Ok (take n octets, drop n octets)

unfoldable pub number_at : {E : Type 0} → E → ℕ → FieldReader E ℕ
number_at short n = readings.◌>>=◌ (octets_at short n) (λ octets. done (big_number n octets))

unfoldable pub counted_at : {E : Type 0} → E → FieldReader E (List ℕ)
counted_at short = readings.◌>>=◌ (octet_at short) (octets_at short)

unfoldable pub long_counted_at : {E : Type 0} → E → FieldReader E (List ℕ)
long_counted_at short = readings.◌>>=◌ (octet_at short) (λ high. readings.◌>>=◌ (octet_at short) (λ low. octets_at short (256 * high + low)))

-- ---- runs

abbrev pub number_run : ℕ → ℕ → List ℕ
number_run n v = big_bytes n v

abbrev pub counted_run : List ℕ → List ℕ
counted_run octets = length octets ∷ octets

abbrev pub long_counted_run : List ℕ → List ℕ
long_counted_run octets = number_run 2 (length octets) ++ octets
