-- At each turn: the value is the number of the bits that were read so far, the reader stands behind them, and all bits that are wanted are there.
use Rattle.std.proofs.Common.{◌≡◌, ◌-◌, ◌≤◌, length, take}
use Rattle.aper_fields.specs.Bits.{number_of}
use Rattle.aper_fields.specs.Reading.{forward}
use Rattle.aper_fields.proofs.reader.BitReader.read_bits.Given as goal

abbrev pub invariant-loop-wanted : goal.invariant-loop-wanted
invariant-loop-wanted l = record {
  within : l.wanted ≤ l.count;
  here : l.count ≤ length l.fn.self.left;
  value : l.value ≡ number_of (take (l.count - l.wanted) l.fn.self.left);
  moved : l.self ≡ forward (l.count - l.wanted) l.fn.self;
}

abbrev pub decreases-loop-wanted : goal.decreases-loop-wanted
decreases-loop-wanted l = l.wanted
