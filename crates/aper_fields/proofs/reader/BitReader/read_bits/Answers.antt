-- The turns gather the next bits into one number, and two whole octets are read as sixteen bits; each number fits in its count of bits.
use Rattle.std.proofs.Common.{◌≡◌, ◌+◌, ◌-◌, ◌≤◌, length, drop, ap, sym, ◌∙◌, arith}
use Rattle.aper_fields.specs.Reading.{forward}
use Rattle.aper_fields.proofs.Steps.{forward-zero, forward-add, gathered, number_of-none, number_of-take-lt, two_value, two_read}
use Rattle.aper_fields.proofs.reader.BitReader.read_bits.Goals as goal

pub loop-wanted-init : goal.loop-wanted-init
loop-wanted-init c =
    let none : c.args.count - c.args.count ≡ 0 = omega arith in
    record { within = omega arith; here = omega (arith, c.if-not-has.ensures); value = rw (none, number_of-none); moved = rw none (sym (forward-zero c.args.self.now)) }

pub loop-wanted-preserved : goal.loop-wanted-preserved
loop-wanted-preserved c =
    let l = c.loop-wanted in
    let i = c.args.self.now in
    let m = c.args.count - l.wanted in
    let k = c.min-taken.result in
    let here : c.args.count ≤ length i.left = l.invariant.here in
    let turn : c.args.count - (l.wanted - k) ≡ m + k = omega arith in
    let behind : l.self.left ≡ drop m i.left = ap (λ j. j.left) l.invariant.moved in
    record {
      within = omega arith;
      here = here;
      value = rw (turn, l.invariant.value, c.take_bits-in-loop-wanted.ensures.value, behind) (gathered m k i.left (omega arith) (omega arith));
      moved = rw turn (c.take_bits-in-loop-wanted.ensures.moved ∙ ap (forward k) l.invariant.moved ∙ forward-add m k i);
    }

pub returns-clause-fits : goal.returns-clause-fits
returns-clause-fits c =
    let all : c.args.count - c.loop-wanted.wanted ≡ c.args.count = omega arith in
    rw (c.loop-wanted.invariant.value, all) (number_of-take-lt c.args.count c.args.self.now.left c.loop-wanted.invariant.here)

pub returns-then-count-room-clause-fits : goal.returns-then-count-room-clause-fits
returns-then-count-room-clause-fits c =
    rw c.take_bits.ensures.value (number_of-take-lt c.args.count c.args.self.now.left (omega (arith, c.if-not-has.ensures)))

pub returns-then-room-eq8-clause-read : goal.returns-then-room-eq8-clause-read
returns-then-room-eq8-clause-read c =
    let high = c.take_bits-high.ensures in
    let low = c.take_bits-then-room-eq8.ensures in
    rw c.if-count-eq16.true (two_read c.args.self.now _ _ _ _ (omega (arith, c.if-not-has.ensures)) high.value high.moved low.value low.moved)

pub returns-then-room-eq8-clause-fits : goal.returns-then-room-eq8-clause-fits
returns-then-room-eq8-clause-fits c =
    let i = c.args.self.now in
    let here : 16 ≤ length i.left = omega (arith, c.if-not-has.ensures) in
    let high = c.take_bits-high.ensures in
    rw (c.if-count-eq16.true, two_value i _ _ _ here high.value high.moved c.take_bits-then-room-eq8.ensures.value) (number_of-take-lt 16 i.left here)
