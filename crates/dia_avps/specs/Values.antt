-- The values of AVPs (RFC 6733, 4.2, 4.3 and 8; 3GPP TS 29.272, 7.3): what octets mean, how they are read and how they are written. Each is exact.
use Rattle.std.specs.Prelude.{◌≡◌, ℕ, ◌+◌, ◌-◌, ◌*◌, ◌/◌, ◌%◌, ◌^◌, ◌<◌, ◌≤◌, ◌==◌, ◌&&◌, nat_le, List, length, Option, None, if◌then◌else◌}
use Rattle.tlv_elements.specs.Grammar.{Form}
use Rattle.tlv_elements.specs.Piece.{number, alone, passing}
use Rattle.tlv_elements.specs.Digits.{coded, number_from}

-- OctetString, UTF8String (4.2, 4.3): from least to most octets
abbrev pub sized : ℕ → ℕ → Form (List ℕ)
sized least most = record {
  Means = λ octets v. (v ≡ octets) × (least ≤ length octets) × (length octets ≤ most);
  decode = λ octets. passing (nat_le least (length octets) && nat_le (length octets) most) octets;
  IsValue = λ v. (least ≤ length v) × (length v ≤ most);
  run = λ v. v;
}

-- Unsigned32 (4.2)
abbrev pub unsigned : Form ℕ
unsigned = alone (number 4)

-- Session-Id (8.8): 1 to 1,000 octets
abbrev pub session : Form (List ℕ)
session = sized 1 1000

-- Visited-PLMN-Id (TS 29.272, 7.3.9): three octets
abbrev pub plmn : Form ℕ
plmn = alone (number 3)

-- the digit of an IMSI that counts 10^place
abbrev pub digit_at : ℕ → ℕ → ℕ
digit_at place imsi = imsi / 10 ^ place % 10

-- the network of an IMSI whose network code has two digits (TS 29.272, 7.3.9; TS 23.003, 2.2): its first five digits, two an octet, the first in
-- the low half, with 15 in place of a third digit of the network code
abbrev pub plmn_of : ℕ → ℕ
plmn_of imsi = 65536 * (16 * digit_at 13 imsi + digit_at 14 imsi) + 256 * (240 + digit_at 12 imsi) + (16 * digit_at 10 imsi + digit_at 11 imsi)

-- ---- User-Name (8.14) of S6a, an IMSI: 15 decimal digits in ASCII, the highest first

abbrev pub digit_run : ℕ → ℕ
digit_run n = 48 + n

abbrev pub digit_of : ℕ → Option ℕ
digit_of octet = passing (nat_le 48 octet && nat_le octet 57) (octet - 48)

abbrev pub imsi_run : ℕ → List ℕ
imsi_run v = coded digit_run 10 15 v

unfoldable pub imsi_decode : List ℕ → Option ℕ
imsi_decode octets = if length octets == 15 then number_from digit_of 10 0 octets else None

-- the octets that are read are those that are written
abbrev pub imsi : Form ℕ
imsi = record {
  Means = λ octets v. (v < 10 ^ 15) × (octets ≡ imsi_run v);
  decode = imsi_decode;
  IsValue = λ v. v < 10 ^ 15;
  run = imsi_run;
}
