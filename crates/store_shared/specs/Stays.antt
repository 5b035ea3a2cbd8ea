-- What holds of a list of turns and stays so behind more of them: the laws of the jobs' conditions.
use Rattle.std.proofs.Common.{◌≡◌, ℕ, ◌≤◌, ◌==◌, Bool, true, false, cond, List, [], ◌∷◌, ◌++◌, length, take, refl, sym, ap, ◌∙◌, subst, arith, length-append, append-nil, append_assoc}
use Rattle.std.proofs.lemmas.Grind.{flat_map-append}
use Rattle.std.proofs.lemmas.List.{take-append-le}
use Rattle.device_types.specs.declared.event.Lane.{Lane}
use Rattle.device_types.specs.declared.step.Entry.{Entry}
use Rattle.device_types.specs.Journal.{effects_on, effects_of, pushed_count}
use Rattle.session_row.specs.declared.commit.Commit.TheVariants.{Committed, Stale}
use Rattle.session_row.specs.Row.{RowState}
use Rattle.session_store.specs.Rows.{opening_row, Begins}
use Rattle.store_shared.specs.declared.turn.Turn.{Turn}
use Rattle.store_shared.specs.declared.turn.TurnCall.{TurnCall}
use Rattle.store_shared.specs.declared.turn.TurnCall.TheVariants as calls
use Rattle.store_shared.specs.declared.turn.TurnAnswer.{TurnAnswer}
use Rattle.store_shared.specs.declared.turn.TurnAnswer.TheVariants as answers
use Rattle.store_shared.specs.Legal.{row_after, row_from, row_in, journal_in}

begins_self : {X : Type 0} (xs : List X) → Begins xs xs
begins_self xs = ([], sym (append-nil xs))

begins_trans : {X : Type 0} (xs ys zs : List X) → Begins xs ys → Begins ys zs → Begins xs zs
begins_trans xs ys zs p q = (p.0 ++ q.0, q.1 ∙ (ap (λ w. w ++ q.0) p.1 ∙ append_assoc xs p.0 q.0))

pub row_from-append : (row : RowState) (d : ℕ) (h more : List Turn) → row_from row d (h ++ more) ≡ row_from (row_from row d h) d more
row_from-append row d [] more = refl
row_from-append row d (t ∷ ts) more = row_from-append (cond (t.device.0 == d) (row_after row t.call t.answer) row) d ts more

-- the row behind one turn more
pub row_next : (d : ℕ) (h : List Turn) (x : Turn) → row_in d (h ++ x ∷ []) ≡ cond (x.device.0 == d) (row_after (row_in d h) x.call x.answer) (row_in d h)
row_next d h x = row_from-append opening_row d h (x ∷ [])

after_begins : (row : RowState) (call : TurnCall) (answer : TurnAnswer) → Begins row.journal (row_after row call answer).journal
after_begins row (calls.Read asked) answer = begins_self row.journal
after_begins row (calls.Peek asked) answer = begins_self row.journal
after_begins row (calls.Commit read entry) (answers.Commit (Committed version)) = (entry ∷ [], refl)
after_begins row (calls.Commit read entry) (answers.Commit (Stale asked current)) = begins_self row.journal
after_begins row (calls.Commit read entry) (answers.Read seen) = begins_self row.journal
after_begins row (calls.Commit read entry) (answers.Peek seen) = begins_self row.journal
after_begins row (calls.Commit read entry) (answers.Push effect) = begins_self row.journal
after_begins row (calls.Commit read entry) (answers.Settle settled) = begins_self row.journal
after_begins row (calls.Commit read entry) (answers.Offer offer) = begins_self row.journal
after_begins row (calls.Push l k) answer = begins_self row.journal
after_begins row (calls.Settle l k) answer = begins_self row.journal
after_begins row (calls.Offer k call) answer = begins_self row.journal

step_begins : (b : Bool) (row : RowState) (call : TurnCall) (answer : TurnAnswer) → Begins row.journal (cond b (row_after row call answer) row).journal
step_begins true row call answer = after_begins row call answer
step_begins false row call answer = begins_self row.journal

from_begins : (row : RowState) (d : ℕ) (more : List Turn) → Begins row.journal (row_from row d more).journal
from_begins row d [] = begins_self row.journal
from_begins row d (t ∷ ts) =
    let next = cond (t.device.0 == d) (row_after row t.call t.answer) row in
    begins_trans row.journal next.journal (row_from next d ts).journal (step_begins (t.device.0 == d) row t.call t.answer) (from_begins next d ts)

-- a journal begins that behind more turns
pub journal_begins : (d : ℕ) (h more : List Turn) → Begins (journal_in d h) (journal_in d (h ++ more))
journal_begins d h more =
    subst (λ (r : RowState). Begins (journal_in d h) r.journal) (sym (row_from-append opening_row d h more)) (from_begins (row_in d h) d more)

-- ---- what stays true

pub commit_stays : (P : List Entry → Type 0) (d read : ℕ) (h more : List Turn) → (read ≤ length (journal_in d h)) × P (take read (journal_in d h)) → (read ≤ length (journal_in d (h ++ more))) × P (take read (journal_in d (h ++ more)))
commit_stays P d read h more c =
    let b = journal_begins d h more in
    let count = length-append (journal_in d h) b.0 in
    let whole = ap length b.1 in
    let least = c.0 in (
      omega arith,
      subst P (sym (ap (take read) b.1 ∙ take-append-le read (journal_in d h) b.0 c.0)) c.1,
    )

pub pushed_stays : (d k : ℕ) (l : Lane) (h more : List Turn) → k ≤ pushed_count l (journal_in d h) → k ≤ pushed_count l (journal_in d (h ++ more))
pushed_stays d k l h more c =
    let b = journal_begins d h more in
    let all = ap (pushed_count l) b.1 ∙ ap length (flat_map-append (λ (e : Entry). effects_on l e.step.effects) (journal_in d h) b.0) in
    let count = length-append (effects_of l (journal_in d h)) (effects_of l b.0) in
    omega arith
