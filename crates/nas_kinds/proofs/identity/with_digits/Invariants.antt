use Rattle.std.proofs.Common.{◌≡◌, ◌+◌, ◌*◌, ◌^◌, ◌<◌, drop}
use Rattle.nas_kinds.specs.Reading.{decimal_from}
use Rattle.nas_kinds.specs.Identity.{halves}
use Rattle.nas_kinds.proofs.identity.with_digits.Given as goal

-- the digits that are left lead to the same number, and so many digits are below a power of ten
abbrev pub invariant-loop-octet : goal.invariant-loop-octet
invariant-loop-octet l = (decimal_from l.number (halves (drop l.octet-index l.octets)) ≡ decimal_from l.first (halves l.octets)) × (l.number < 10 ^ (2 * l.octet-index + 1))
