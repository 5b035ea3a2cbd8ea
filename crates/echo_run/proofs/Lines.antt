-- The ends of a book, made one by one.
use Rattle.std.proofs.Common.{◌≡◌, ◌⊎◌, ⊎_elim, List, [], ◌∷◌, ◌++◌, refl, sym, ap, ◌∙◌, append-nil}
use Rattle.std.proofs.lemmas.List.{append_assoc}
use Rattle.device_types.specs.declared.subscriber.Subscriber.{Subscriber}
use Rattle.device_types.specs.declared.message.Message.{Message}
use Rattle.device_types.specs.declared.finals.DeviceEnd.{DeviceEnd}
use Rattle.device_machine.specs.Ends.{end_of, finals_of}

pub one_more_end : (row : Subscriber) (messages lent : List Message) (end : DeviceEnd) (ends more all : List DeviceEnd) (rows rows_left : List Subscriber) (lines lines_left : List (List Message)) → rows ≡ row ∷ rows_left → lines ≡ messages ∷ lines_left → lent ≡ messages → end ≡ end_of row lent → more ≡ ends ++ end ∷ [] → ends ++ finals_of rows lines ≡ all → more ++ finals_of rows_left lines_left ≡ all
one_more_end row messages lent end ends more all rows rows_left lines lines_left rows_are lines_are same is more_is whole =
    let left = finals_of rows_left lines_left in
    ap (λ es. es ++ left) more_is
    ∙ append_assoc ends (end ∷ []) left
    ∙ ap (λ e. ends ++ (e ∷ left)) (is ∙ ap (end_of row) same)
    ∙ ap (λ rs. ends ++ finals_of rs (messages ∷ lines_left)) (sym rows_are)
    ∙ ap (λ ls. ends ++ finals_of rows ls) (sym lines_are)
    ∙ whole

no_lines : (rows : List Subscriber) → finals_of rows [] ≡ []
no_lines [] = refl
no_lines (row ∷ rows) = refl

pub all_made : (ends all : List DeviceEnd) (rows : List Subscriber) (lines : List (List Message)) → (rows ≡ []) ⊎ (lines ≡ []) → ends ++ finals_of rows lines ≡ all → ends ≡ all
all_made ends all rows lines empty whole =
    let none : finals_of rows lines ≡ [] = ⊎_elim (λ e. ap (λ rs. finals_of rs lines) e) (λ e. ap (finals_of rows) e ∙ no_lines rows) empty in
    sym (append-nil ends) ∙ ap (λ es. ends ++ es) (sym none) ∙ whole
