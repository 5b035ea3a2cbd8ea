use Rattle.std.proofs.Common.{rules}
use Rattle.device_types.proofs.book.Book.push.Goals as goal

pub returns-clause-ok : goal.returns-clause-ok
returns-clause-ok c = search rules
