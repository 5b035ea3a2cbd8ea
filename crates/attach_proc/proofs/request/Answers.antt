-- Proved without a file as well. It is said here, so that a wrong body is refused by this alone, and at once.
use Rattle.std.proofs.Common.{rules}
use Rattle.attach_proc.proofs.request.Goals as goal

pub returns-then-is_forbidden : goal.returns-then-is_forbidden
returns-then-is_forbidden c = search rules
