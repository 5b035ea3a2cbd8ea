-- Where the pieces find no memory, the front that was written before is what `back_to` leaves.
use Rattle.std.proofs.Common.{rules, ◌≡◌, Bool, List, length, take, Err, ap, ◌∙◌, arith}
use Rattle.std.proofs.lemmas.List.{take_all, length-take}
use Rattle.aper_fields.specs.Kept.{Keeps}
use Rattle.aper_fields.proofs.whole.all_or_nothing.Goals as goal

kept_front : (old new : List Bool) → Keeps old new → take (length old) new ≡ old
kept_front old new kept = kept (length old) (omega arith) ∙ take_all (length old) old (omega arith)

pub back_to-requires : goal.back_to-requires
back_to-requires g c =
    let kept : Keeps c.args.w.now c.write.new.arg2 = c.requires.kept (Err c.in-Err.error) c.write.new.arg2 (search rules) in
    let front = kept_front c.args.w.now c.write.new.arg2 kept in
    omega (arith, c.mark-mark.ensures, ap length front, length-take (length c.args.w.now) c.write.new.arg2)

pub returns-in-Err-clause-err : goal.returns-in-Err-clause-err
returns-in-Err-clause-err g c =
    let kept : Keeps c.args.w.now c.write.new.arg2 = c.requires.kept (Err c.in-Err.error) c.write.new.arg2 (search rules) in
    c.back_to.ensures ∙ ap (λ n. take n c.write.new.arg2) c.mark-mark.ensures ∙ kept_front c.args.w.now c.write.new.arg2 kept

pub returns-in-Err-clause-given : goal.returns-in-Err-clause-given
returns-in-Err-clause-given g c = (c.write.new.arg2, search rules)
