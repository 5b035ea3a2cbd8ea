use Rattle.dia_wire.proofs.WrittenLaws as laws
use Rattle.dia_wire.proofs.laws.written_is_read.Goals as goal

pub returns : goal.returns
returns c = laws.written_is_read
