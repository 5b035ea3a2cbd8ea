use Rattle.std.proofs.Common.{◌≡◌, ◌^◌, ◌<◌, drop}
use Rattle.tlv_elements.specs.Digits.{number_from}
use Rattle.tlv_elements.proofs.digit.number_of.Given as goal

-- the digits that are left lead to the same number, and so many digits are below that power of the base
abbrev pub invariant-loop-octet : goal.invariant-loop-octet
invariant-loop-octet g l = record {
  same : number_from g.D.Digit.digit g.D.Digit.base l.number (drop l.octet-index l.octets) ≡ number_from g.D.Digit.digit g.D.Digit.base 0 l.octets;
  few : l.number < g.D.Digit.base ^ l.octet-index;
}
