use Rattle.std.proofs.Common.{refl, arith, rules}
use Rattle.std.specs.Prelude.{codes}
use Rattle.std.proofs.lemmas.Slice.Eq.{text_from_reads}
use Rattle.case_form.specs.Section.{heading_of}
use Rattle.case_form.proofs.section.heading_of.Goals as goal

pub returns-in-91 : goal.returns-in-91
unfolding heading_of
returns-in-91 c = rw (text_from_reads c.args.line.now (codes "[subscribers]") (omega arith) (search rules)) refl

pub returns-in-91-2 : goal.returns-in-91-2
unfolding heading_of
returns-in-91-2 c = rw (text_from_reads c.args.line.now (codes "[trace]") (omega arith) (search rules)) refl

pub returns-in-91-3 : goal.returns-in-91-3
unfolding heading_of
returns-in-91-3 c = rw (text_from_reads c.args.line.now (codes "[schedule]") (omega arith) (search rules)) refl
