-- Reading a row and adding it.
use Rattle.std.proofs.Common.{◌≡◌, ℕ, ◌+◌, true, List, [], ◌∷◌, ◌++◌, length, Option, Some, None, Ok, Err, refl, sym, ap, ◌∙◌}
use Rattle.std.specs.Option.{option_map_or}
use Rattle.echo_base.specs.declared.reason.Reason.{Reason}
use Rattle.echo_base.specs.declared.refusal.Refusal.{Refusal}
use Rattle.echo_base.specs.declared.refusal.Bad.{Bad}
use Rattle.echo_base.specs.declared.refusal.Bad.TheVariants.{Refused, OutOfMemory}
use Rattle.echo_base.specs.Answer as answers
use Rattle.echo_base.specs.Answer.{IsAnswer}
use Rattle.echo_base.proofs.Answers.{err_is}
use Rattle.device_types.specs.declared.subscriber.DeviceId.{DeviceId}
use Rattle.device_types.specs.declared.subscriber.Subscriber.{Subscriber}
use Rattle.subs_table.specs.Row.{row_of}
use Rattle.subs_table.specs.Table.{add_refusal, add_answer, device_of}
use Rattle.case_form.specs.Case.{row_reason}
use Rattle.case_form.specs.State.{Takes, rows_after}

-- a row that the table took, and one that it refused
taken_by : (refusal : Option Reason) (d e : DeviceId) → option_map_or (λ reason. Err (answers.refused reason)) refusal (Ok d) ≡ Ok e → refusal ≡ None
taken_by None d e is = refl
taken_by (Some reason) d e is = absurd cc

refused_by : (refusal : Option Reason) (d : DeviceId) (e : Refusal) → option_map_or (λ reason. Err (answers.refused reason)) refusal (Ok d) ≡ Err e → refusal ≡ Some e.reason
refused_by None d e is = absurd cc
refused_by (Some reason) d e is = ap (λ (x : Refusal). Some x.reason) (err_is {A = DeviceId} (answers.refused reason) e is)

added : (rows : List Subscriber) (row : Subscriber) (d : DeviceId) → add_answer rows row ≡ Ok d → add_refusal rows row ≡ None
unfolding add_answer
added rows row d e = taken_by (add_refusal rows row) (device_of row) d e

refused : (rows : List Subscriber) (row : Subscriber) (e : Refusal) → add_answer rows row ≡ Err e → add_refusal rows row ≡ Some e.reason
unfolding add_answer
refused rows row e is = refused_by (add_refusal rows row) (device_of row) e is

pub row_taken : (rows new : List Subscriber) (line : List ℕ) (number : ℕ) (row : Subscriber) (d : DeviceId) → number ≡ length rows + 1 → row_of number line ≡ Ok row → add_answer rows row ≡ Ok d → new ≡ rows ++ row ∷ [] → (row_reason rows (row_of (length rows + 1) line) ≡ None) × (new ≡ rows_after rows line)
unfolding rows_after
row_taken rows new line number row d count read answer is =
    let reads : row_of (length rows + 1) line ≡ Ok row = ap (λ n. row_of n line) (sym count) ∙ read in
    rw reads (added rows row d answer, is)

pub row_refused : (rows : List Subscriber) (line : List ℕ) (number : ℕ) (row : Subscriber) (bad : Bad) (P : Type 0) → number ≡ length rows + 1 → row_of number line ≡ Ok row → IsAnswer (add_answer rows row) (Err bad) → Takes (Err bad) (row_reason rows (row_of (length rows + 1) line)) true P
row_refused rows line number row (Refused e) P count read answer =
    let reads : row_of (length rows + 1) line ≡ Ok row = ap (λ n. row_of n line) (sym count) ∙ read in
    rw reads (refused rows row e answer)
row_refused rows line number row OutOfMemory P count read answer = refl
