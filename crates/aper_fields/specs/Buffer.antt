-- The octets that a writer keeps: what was written, and behind it bits that are still free.
use Rattle.std.specs.Prelude.{◌≡◌, ℕ, ◌-◌, ◌*◌, Bool, List, ◌++◌, length, take}
use Rattle.aper_fields.specs.Bits.{bits_of, zeros}

-- Octets are a run and so many zeros behind it, which are still free.
abbrev pub FreeBehind : List Bool → List ℕ → ℕ → Type 0
FreeBehind run octets free = bits_of octets ≡ run ++ zeros free

-- the bits of octets before those that are free
abbrev pub before_free : List ℕ → ℕ → List Bool
before_free octets free = take (8 * length octets - free) (bits_of octets)
