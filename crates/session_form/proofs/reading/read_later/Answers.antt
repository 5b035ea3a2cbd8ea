use Rattle.std.proofs.Common.{refl}
use Rattle.session_form.specs.Fields.{reading}
use Rattle.session_form.proofs.reading.read_later.Goals as goal

pub returns-in-One : goal.returns-in-One
unfolding reading
returns-in-One c = rw c.in-One.is refl

pub returns-in-Two : goal.returns-in-Two
returns-in-Two c = rw c.in-Two.is c.read_second.ensures
