-- AVPs found in the octets of a message, and whether an answer succeeds (RFC 6733, 7.1).
use Rattle.std.specs.Prelude.{ℕ, ◌==◌, Bool, false, List, Option, Some, None}
use Rattle.tlv_elements.specs.Element.{Element}
use Rattle.tlv_elements.specs.Reading.{find_at}
use Rattle.tlv_elements.specs.Grammar.{and_then}
use Rattle.dia_avps.specs.Frame.{dia}
use Rattle.dia_avps.specs.Values.{unsigned}

-- the first AVP of a code and a vendor
abbrev pub found : ℕ → ℕ → ℕ → List ℕ → Option Element
found code mark end octets = find_at dia end code mark octets

abbrev pub unsigned_at : ℕ → ℕ → ℕ → List ℕ → Option ℕ
unsigned_at code mark end octets = and_then (found code mark end octets) (λ e. unsigned.decode e.value)

-- the first Result-Code
abbrev pub result_at : ℕ → List ℕ → Option ℕ
result_at end octets = unsigned_at 268 0 end octets

-- an answer succeeds where that is 2001, DIAMETER_SUCCESS (7.1.2)
abbrev pub is_2001 : Option ℕ → Bool
is_2001 None = false
is_2001 (Some r) = r == 2001

abbrev pub succeeded : ℕ → List ℕ → Bool
succeeded end octets = is_2001 (result_at end octets)
