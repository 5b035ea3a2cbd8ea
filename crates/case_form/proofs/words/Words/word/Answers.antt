use Rattle.std.proofs.Common.{refl, sym}
use Rattle.case_form.proofs.WordLaws.{last_word, first_word}
use Rattle.case_form.proofs.words.Words.word.Goals as goal

pub returns-in-None : goal.returns-in-None
returns-in-None c = rw (← c.self.view_is, c.in_ok-left.was, last_word c.in_ok-left.left.now (sym c.in-None.ensures)) refl

pub returns-in-Some : goal.returns-in-Some
returns-in-Some c = rw (← c.self.view_is, c.in_ok-left.was, first_word c.in_ok-left.left.now c.in-Some.at (sym c.in-Some.ensures)) refl
