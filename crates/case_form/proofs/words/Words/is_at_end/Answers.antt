use Rattle.case_form.proofs.WordLaws.{words_at_end}
use Rattle.case_form.proofs.words.Words.is_at_end.Goals as goal

pub returns : goal.returns
returns c = rw (← c.self.view_is) (words_at_end c.self.inside.left c.is_none.result c.is_none.ensures)
