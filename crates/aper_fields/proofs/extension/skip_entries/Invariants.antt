-- At each turn: passing over the entries that are left, from where the reader is, gives what passing over all of them from the first gives.
use Rattle.std.proofs.Common.{◌≡◌}
use Rattle.aper_fields.specs.SequenceReading.{entry_at, skipped_at}
use Rattle.aper_fields.proofs.extension.skip_entries.Given as goal

abbrev pub invariant-loop-left : goal.invariant-loop-left
invariant-loop-left l = skipped_at entry_at l.left l.ahead ≡ skipped_at entry_at l.fn.count l.fn.r

abbrev pub decreases-loop-left : goal.decreases-loop-left
decreases-loop-left l = l.left
