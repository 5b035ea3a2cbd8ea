-- Proved without a file as well. It is said here, so that a wrong body is refused by this alone, and at once.
use Rattle.std.proofs.Common.{rules}
use Rattle.attach_proc.proofs.response.Goals as goal

pub returns : goal.returns
returns c = search rules
