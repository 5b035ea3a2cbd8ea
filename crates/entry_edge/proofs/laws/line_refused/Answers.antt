use Rattle.std.proofs.Common.{ap, ◌∙◌}
use Rattle.entry_edge.specs.Trace.{bound, book_of, refused_of}
use Rattle.entry_edge.proofs.StepLaws.{refused_turn, bound_still}
use Rattle.entry_edge.proofs.laws.line_refused.Goals as goal

pub returns-clause-refused : goal.returns-clause-refused
returns-clause-refused c = λ rows H line e is. ap refused_of (refused_turn rows H line e is)

pub returns-clause-book : goal.returns-clause-book
returns-clause-book c = λ rows H line e is devices. ap (book_of devices) (refused_turn rows H line e is)

pub returns-clause-bound : goal.returns-clause-bound
returns-clause-bound c = λ rows H line e is pair. ap (bound pair) (refused_turn rows H line e is) ∙ bound_still pair H (record { line = line.line; refusal = e })
