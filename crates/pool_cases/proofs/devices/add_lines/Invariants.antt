use Rattle.std.specs.Prelude.{◌≡◌, length, All}
use Rattle.session_store.specs.Charter.{IsShort}
use Rattle.pool_cases.proofs.devices.add_lines.Given as goal

abbrev pub invariant-loop-index : goal.invariant-loop-index
invariant-loop-index l = (length l.book ≡ l.index) × All IsShort l.book
