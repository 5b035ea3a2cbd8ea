-- Elements that are picked out of octets.
use Rattle.std.specs.Prelude.{ℕ, ◌==◌, List, [], ◌∷◌, Option, Some, None, if◌then◌else◌}
use Rattle.tlv_elements.specs.Element.{Element}
use Rattle.tlv_elements.specs.Reading.{find_at}
use Rattle.tlv_elements.specs.Grammar.{and_then}
use Rattle.gtp2_ies.specs.Frame.{gtp}

-- the first element of a type, of instance 0
abbrev pub found : ℕ → ℕ → List ℕ → Option Element
found tag end octets = find_at gtp end tag 0 octets

-- a cause that rejects: the first octet of the first cause is not 16, "request accepted" (3GPP TS 29.274, 8.4)
abbrev pub other_than_16 : List ℕ → Option ℕ
other_than_16 [] = None
other_than_16 (c ∷ octets) = if c == 16 then None else Some c

abbrev pub rejecting : ℕ → List ℕ → Option ℕ
rejecting end octets = and_then (found 2 end octets) (λ e. other_than_16 e.value)
