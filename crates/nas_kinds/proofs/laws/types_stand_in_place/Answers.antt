use Rattle.nas_kinds.proofs.Types.{typed}
use Rattle.nas_kinds.proofs.laws.types_stand_in_place.Goals as goal

pub returns : goal.returns
returns c = typed
