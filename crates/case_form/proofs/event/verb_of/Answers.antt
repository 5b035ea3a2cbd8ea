use Rattle.std.proofs.Common.{refl, arith, rules}
use Rattle.std.specs.Prelude.{codes}
use Rattle.std.proofs.lemmas.Slice.Eq.{text_from_reads}
use Rattle.case_form.specs.Event.{verb_of}
use Rattle.case_form.proofs.event.verb_of.Goals as goal

pub returns-in-send : goal.returns-in-send
unfolding verb_of
returns-in-send c = rw (text_from_reads c.args.word.now (codes "send") (omega arith) (search rules)) refl

pub returns-in-take : goal.returns-in-take
unfolding verb_of
returns-in-take c = rw (text_from_reads c.args.word.now (codes "take") (omega arith) (search rules)) refl

pub returns-in-answer : goal.returns-in-answer
unfolding verb_of
returns-in-answer c = rw (text_from_reads c.args.word.now (codes "answer") (omega arith) (search rules)) refl

pub returns-in-read : goal.returns-in-read
unfolding verb_of
returns-in-read c = rw (text_from_reads c.args.word.now (codes "read") (omega arith) (search rules)) refl

pub returns-in-write : goal.returns-in-write
unfolding verb_of
returns-in-write c = rw (text_from_reads c.args.word.now (codes "write") (omega arith) (search rules)) refl

pub returns-in-stop : goal.returns-in-stop
unfolding verb_of
returns-in-stop c = rw (text_from_reads c.args.word.now (codes "stop") (omega arith) (search rules)) refl

pub returns-in-reply : goal.returns-in-reply
unfolding verb_of
returns-in-reply c = rw (text_from_reads c.args.word.now (codes "reply") (omega arith) (search rules)) refl

pub returns-in-push : goal.returns-in-push
unfolding verb_of
returns-in-push c = rw (text_from_reads c.args.word.now (codes "push") (omega arith) (search rules)) refl

pub returns-in-effect : goal.returns-in-effect
unfolding verb_of
returns-in-effect c = rw (text_from_reads c.args.word.now (codes "effect") (omega arith) (search rules)) refl

pub returns-in-settle : goal.returns-in-settle
unfolding verb_of
returns-in-settle c = rw (text_from_reads c.args.word.now (codes "settle") (omega arith) (search rules)) refl
