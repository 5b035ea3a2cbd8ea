-- The NAS messages of a device (TS 24.301, 8.2), octet for octet.
use Rattle.std.specs.Prelude.{ℕ, ◌+◌, ◌*◌, ◌/◌, ◌%◌, ◌^◌, List, [], ◌∷◌, ◌++◌}
use Rattle.std.specs.Int.{w32, to_be_bytes}
use Rattle.echo_base.specs.Field.{counted_run, long_counted_run}

-- the decimal digit of a number at a power of ten
abbrev pub digit : ℕ → ℕ → ℕ
digit number power = number / power % 10

-- two digits in an octet, the higher digit in the low half
abbrev pub two_digits : ℕ → ℕ → ℕ
two_digits number power = 16 * digit number power + digit number (10 * power)

-- EPS mobile identity (9.9.3.12) of an IMSI of 15 digits: the first digit in the octet of the type, with 9 (IMSI, an odd count of digits), and two in each of the others
abbrev pub imsi_octets : ℕ → List ℕ
imsi_octets imsi = (16 * digit imsi (10 ^ 14) + 9) ∷ two_digits imsi (10 ^ 12) ∷ two_digits imsi (10 ^ 10) ∷ two_digits imsi (10 ^ 8) ∷ two_digits imsi (10 ^ 6) ∷ two_digits imsi (10 ^ 4) ∷ two_digits imsi (10 ^ 2) ∷ two_digits imsi 1 ∷ []

-- the same of a GUTI: type GUTI, PLMN 208 93, MME group 1, MME code 1, M-TMSI
abbrev pub guti_octets : ℕ → List ℕ
guti_octets tmsi = 0xf6 ∷ 0x02 ∷ 0xf8 ∷ 0x39 ∷ 0x00 ∷ 0x01 ∷ 0x01 ∷ to_be_bytes w32 tmsi

-- 8.2.4: no key, EPS attach; the identity; all algorithms (9.9.3.34); PDN CONNECTIVITY REQUEST (8.3.20) of transaction 1, for IPv4, initial
abbrev pub attach_request : ℕ → List ℕ
attach_request imsi = 0x07 ∷ 0x41 ∷ 0x71 ∷ counted_run (imsi_octets imsi) ++ counted_run (0xe0 ∷ 0xe0 ∷ []) ++ long_counted_run (0x02 ∷ 0x01 ∷ 0xd0 ∷ 0x11 ∷ [])

-- 8.2.8: RES
abbrev pub authentication_response : List ℕ
authentication_response = 0x07 ∷ 0x53 ∷ counted_run (0xa0 ∷ 0xa1 ∷ 0xa2 ∷ 0xa3 ∷ 0xa4 ∷ 0xa5 ∷ 0xa6 ∷ 0xa7 ∷ [])

-- a security protected message (9.1): security header type, a message authentication code of zeros, sequence number, and the plain message
abbrev pub protected : ℕ → ℕ → List ℕ → List ℕ
protected header sequence message = (16 * header + 7) ∷ 0 ∷ 0 ∷ 0 ∷ 0 ∷ sequence ∷ message

-- 8.2.21, under the new security context
abbrev pub security_complete : List ℕ
security_complete = protected 4 0 (0x07 ∷ 0x5e ∷ [])

-- 8.2.2: ACTIVATE DEFAULT EPS BEARER CONTEXT ACCEPT (8.3.4) of bearer 5
abbrev pub attach_complete : List ℕ
attach_complete = protected 2 1 (0x07 ∷ 0x43 ∷ long_counted_run (0x52 ∷ 0x00 ∷ 0xc2 ∷ []))

-- 8.2.25: key set 0, sequence number 0, a short message authentication code of zeros
abbrev pub service_request : List ℕ
service_request = 0xc7 ∷ 0x00 ∷ 0x00 ∷ 0x00 ∷ []

-- 8.2.29: TA updating, no key; the old GUTI
abbrev pub area_request : ℕ → List ℕ
area_request tmsi = 0x07 ∷ 0x48 ∷ 0x70 ∷ counted_run (guti_octets tmsi)

-- 8.2.11.1: EPS detach, not switched off, no key; the GUTI
abbrev pub detach_request : ℕ → List ℕ
detach_request tmsi = 0x07 ∷ 0x45 ∷ 0x71 ∷ counted_run (guti_octets tmsi)
