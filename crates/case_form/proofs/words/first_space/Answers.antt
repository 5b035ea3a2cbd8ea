use Rattle.case_form.proofs.WordLaws.{space_found}
use Rattle.case_form.proofs.words.first_space.Goals as goal

pub returns-in-None : goal.returns-in-None
returns-in-None c = space_found _ _ c.memchr.ensures
