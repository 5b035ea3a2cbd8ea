-- Runs written one behind another.
use Rattle.std.proofs.Common.{◌≡◌, ◌+◌, Bool, List, ◌++◌, length, sym, ap, ◌∙◌, append_assoc}
use Rattle.std.proofs.lemmas.List.{length-append}
use Rattle.aper_fields.specs.Run.{Run, ◌▸◌, then_written}

pub then_written-then : (before : List Bool) (f g : Run) → then_written before (f ▸ g) ≡ then_written (then_written before f) g
then_written-then before f g =
    rw (length-append before (f (length before))) (sym (append_assoc before (f (length before)) (g (length before + length (f (length before))))))

-- what two writers wrote, one behind another
pub two_written : (old middle new : List Bool) (f g : Run) → middle ≡ then_written old f → new ≡ then_written middle g → new ≡ then_written old (f ▸ g)
two_written old middle new f g e h = h ∙ ap (λ (l : List Bool). then_written l g) e ∙ sym (then_written-then old f g)

-- another run that is the same here
pub same_written : (old new : List Bool) (f g : Run) → f (length old) ≡ g (length old) → new ≡ then_written old f → new ≡ then_written old g
same_written old new f g same e = e ∙ ap (λ (l : List Bool). old ++ l) same
