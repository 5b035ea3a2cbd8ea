-- A store has room for the next entry of a device.
use Rattle.std.proofs.Common.{◌≡◌, ℕ, zero, suc, ◌-◌, ◌*◌, ◌^◌, ◌<◌, ◌≤◌, List, [], ◌∷◌, length, Option, Some, None, lit≤, refl, sym, ap, ◌∙◌, arith}
use Rattle.std.specs.Prelude.{slice_get, slice_index_or}
use Rattle.std.proofs.lemmas.List.{length-take}
use Rattle.std.proofs.lemmas.List.Sums.{sum_by-cons}
use Rattle.device_types.specs.declared.message.Message.{Message}
use Rattle.device_types.specs.declared.subscriber.Subscriber.{Subscriber}
use Rattle.device_types.specs.Alone.{alone_of}
use Rattle.device_types.proofs.Prefixes.{short}
use Rattle.session_row.specs.Row.{RowState}
use Rattle.session_store.specs.AloneLaw.{holds_of, lawful_is_alone}
use Rattle.session_store.specs.Charter.{CharterState, IsCharter, IsShort, alone_with, alone_in, follows_alone}
use Rattle.session_store.specs.Rows.{IsDevice, opening_row, journal_of, AreLawful}
use Rattle.session_disk.specs.Stored.{entry_count}

few_alone : (row : Option Subscriber) (line : Option (List Message)) → ((ms : List Message) → line ≡ Some ms → IsShort ms) → length (alone_with row line) ≤ 300000
unfolding alone_of
few_alone None line each = lit≤ tt
few_alone (Some row) None each = lit≤ tt
few_alone (Some row) (Some ms) each = omega (arith, short row ms (3 * length ms), each ms refl)

few_journal : (charter : CharterState) (rows : List RowState) (d : ℕ) → IsCharter charter → AreLawful (follows_alone charter) rows → IsDevice (length rows) d → length (journal_of rows d) ≤ 300000
few_journal charter rows d in_form lawful here =
    let journal = journal_of rows d in
    let begins = ap length (lawful_is_alone charter d journal (lawful d here)) in
    let most = length-take (length journal) (alone_in charter d) in
    let few = few_alone (slice_get charter.rows (d - 1)) (slice_get charter.lines (d - 1)) (λ ms g. holds_of IsShort charter.lines (d - 1) ms in_form.short g) in
    omega (arith, begins, most, few)

few_in_all : (rows : List RowState) → ((d : ℕ) → IsDevice (length rows) d → length (journal_of rows d) ≤ 300000) → entry_count rows ≤ 300000 * length rows
few_in_all [] each = lit≤ tt
few_in_all (row ∷ rows) each = omega (arith, sum_by-cons (λ (r : RowState). length r.journal) row rows, each 1 (omega arith, omega arith), few_in_all rows behind)
  where
    behind : (d : ℕ) → IsDevice (length rows) d → length (journal_of rows d) ≤ 300000
    behind zero here = absurd (omega (arith, here.0))
    behind (suc d) here =
        let last : suc d - 1 ≡ d = omega arith in
        let next : suc (suc d) - 1 ≡ suc d = omega arith in
        let same : length (journal_of (row ∷ rows) (suc (suc d))) ≡ length (journal_of rows (suc d)) =
        ap (λ n. length (slice_index_or (row ∷ rows) n opening_row).journal) next ∙ ap (λ n. length (slice_index_or rows n opening_row).journal) (sym last) in
        omega (arith, same, each (suc (suc d)) (omega arith, omega (arith, here.1)))

pub has_room : (charter : CharterState) (rows : List RowState) → IsCharter charter → length rows ≡ length charter.rows → AreLawful (follows_alone charter) rows → entry_count rows < 2 ^ 40
has_room charter rows in_form count lawful =
    omega (arith, in_form.table.most, count, few_in_all rows (λ d here. few_journal charter rows d in_form lawful here))
