-- Proved without a file as well. It is said here, so that a wrong body is refused by this alone, and at once.
use Rattle.std.proofs.Common.{rules}
use Rattle.attach_proc.proofs.attach_done.Goals as goal

pub returns-then-is_at : goal.returns-then-is_at
returns-then-is_at c = search rules
