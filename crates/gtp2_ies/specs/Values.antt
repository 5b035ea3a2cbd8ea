-- The values of information elements (3GPP TS 29.274, 8): what octets mean, how they are read and how they are written.
use Rattle.std.specs.Prelude.{◌≡◌, ℕ, ◌+◌, ◌*◌, ◌/◌, ◌%◌, ◌^◌, ◌<◌, ◌==◌, ◌&&◌, nat_le, List, [], ◌∷◌, ◌++◌, length, replicate, take, slice_index, if◌then◌else◌, Option, None}
use Rattle.tlv_elements.specs.Grammar.{Form, and_then}
use Rattle.tlv_elements.specs.Piece.{given, unread, octet, number, counted, among, behind, before, also, leading, alone, passing}
use Rattle.tlv_elements.specs.Digits.{coded, number_from}

-- RAT Type (8.17), PDN Type (8.34): the one value that is taken
abbrev pub exactly : ℕ → Form (Unit {0})
exactly wanted = leading (given wanted)

-- Cause (8.4): the cause, and an octet whose bits are not set
abbrev pub cause : Form ℕ
cause = leading (before octet 0)

-- EPS Bearer ID (8.8): 5 or 6
abbrev pub ebi : Form ℕ
ebi = leading (among 5 6 octet)

-- F-TEID (8.22): an octet that says that an IPv4 address follows, and of which interface it is; the TEID and the address
abbrev pub fteid : ℕ → Form (ℕ × ℕ)
fteid whose = leading (behind whose (also (number 4) (number 4)))

-- PDN Address Allocation (8.14): an IPv4 address
abbrev pub address : Form ℕ
address = leading (behind 1 (number 4))

-- that of a request, which leaves the address to the network
abbrev pub no_address : Form ℕ
no_address = leading (behind 1 (among 0 0 (number 4)))

-- Aggregate Maximum Bit Rate (8.7): uplink and downlink, in kbit/s
abbrev pub rates : Form (ℕ × ℕ)
rates = leading (also (number 4) (number 4))

-- Bearer QoS (8.15): 22 octets that are not looked at. Written are priority level 8, no flag of pre-emption, QCI 9, and bit rates of 0
abbrev pub qos : Form (Unit {0})
qos = leading (unread (0x20 ∷ 9 ∷ replicate 20 0))

-- Access Point Name (8.6): one label of 1 to 30 octets
abbrev pub apn : Form (List ℕ)
apn = alone (counted 1 30)

-- ---- IMSI (8.3): 15 digits, two an octet, the first in the low half; the last high half is 15

abbrev pub pair_run : ℕ → ℕ
pair_run n = n / 10 + 16 * (n % 10)

abbrev pub pair_of : ℕ → Option ℕ
pair_of o = passing (nat_le (o % 16) 9 && nat_le (o / 16) 9) (10 * (o % 16) + o / 16)

abbrev pub imsi_run : ℕ → List ℕ
imsi_run v = coded pair_run 100 7 (v / 10) ++ (v % 10 + 240) ∷ []

-- the number of seven octets of pairs, and of the last digit
abbrev pub imsi_of : List ℕ → ℕ → Option ℕ
imsi_of front last = and_then (number_from pair_of 100 0 front) (λ n. passing (nat_le (last % 16) 9 && last / 16 == 15) (10 * n + last % 16))

unfoldable pub imsi_decode : List ℕ → Option ℕ
imsi_decode octets = if length octets == 8 then imsi_of (take 7 octets) (slice_index octets 7) else None

-- the octets that are read are those that are written
abbrev pub imsi : Form ℕ
imsi = record {
  Means = λ octets v. (v < 10 ^ 15) × (octets ≡ imsi_run v);
  decode = imsi_decode;
  IsValue = λ v. v < 10 ^ 15;
  run = imsi_run;
}
