-- The entries that are held, by device.
use Rattle.std.proofs.Common.{◌≡◌, ℕ, zero, suc, ◌+◌, ◌-◌, ◌<◌, ◌≤◌, List, [], ◌∷◌, ◌++◌, length, map, take, get_or, Option, Some, None, refl, sym, ap, ◌∙◌, arith}
use Rattle.std.specs.Prelude.{slice_get}
use Rattle.std.proofs.lemmas.List.{map-append, take_all, take_more}
use Rattle.std.proofs.lemmas.Option.{slice_get_within, slice_get-get_or, get_or_from_slice_get}
use Rattle.device_types.specs.declared.message.Message.{Message}
use Rattle.device_types.specs.declared.step.Entry.{Entry}
use Rattle.device_types.specs.declared.subscriber.Subscriber.{Subscriber}
use Rattle.device_types.specs.Alone.{alone_of}
use Rattle.session_store.specs.Charter.{CharterState, alone_with, alone_in}
use Rattle.crash_run.specs.Made.{alone_each}

abbrev pub or_none : Option (List Entry) → List Entry
or_none None = []
or_none (Some entries) = entries

lacks_line : (row : Option Subscriber) → [] ≡ alone_with row None
lacks_line None = refl
lacks_line (Some row) = refl

-- what is held at a place are the entries of the device of that place
pub each_at : (rows : List Subscriber) (lines : List (List Message)) (i : ℕ) → or_none (slice_get (alone_each rows lines) i) ≡ alone_with (slice_get rows i) (slice_get lines i)
each_at [] lines i = refl
each_at (row ∷ rows) [] i = lacks_line (slice_get (row ∷ rows) i)
each_at (row ∷ rows) (line ∷ lines) zero = refl
each_at (row ∷ rows) (line ∷ lines) (suc i) = each_at rows lines i

each_found : (rows : List Subscriber) (lines : List (List Message)) (i : ℕ) (row : Subscriber) (line : List Message) → slice_get rows i ≡ Some row → slice_get lines i ≡ Some line → slice_get (alone_each rows lines) i ≡ Some (alone_of row line)
each_found [] lines i row line r l = absurd (cc)
each_found (x ∷ rows) [] i row line r l = absurd (cc)
each_found (x ∷ rows) (y ∷ lines) zero row line r l =
    let first : x ≡ row = cc in
    let second : y ≡ line = cc in
    ap (λ (z : Subscriber). Some (alone_of z y)) first ∙ ap (λ (z : List Message). Some (alone_of row z)) second
each_found (x ∷ rows) (y ∷ lines) (suc i) row line r l = each_found rows lines i row line r l

-- with the entries of one device more
pub one_more : (rows : List Subscriber) (lines : List (List Message)) (i : ℕ) (row : Subscriber) (line : List Message) (held more : List (List Entry)) → slice_get rows (i + 1 - 1) ≡ Some row → i < length lines → line ≡ get_or lines i line → held ≡ take i (alone_each rows lines) → more ≡ held ++ alone_of row line ∷ [] → more ≡ take (i + 1) (alone_each rows lines)
one_more rows lines i row line held more at within got is and =
    let all = alone_each rows lines in
    let place : i ≡ i + 1 - 1 = omega arith in
    let l : slice_get lines i ≡ Some line = slice_get-get_or lines i line within ∙ ap (λ (x : List Message). Some x) (sym got) in
    let found = each_found rows lines i row line (ap (slice_get rows) place ∙ at) l in
    let last : get_or all i [] ≡ alone_of row line = get_or_from_slice_get all i (alone_of row line) [] found in
    and ∙ ap (λ (h : List (List Entry)). h ++ alone_of row line ∷ []) is
    ∙ ap (λ (e : List Entry). take i all ++ e ∷ []) (sym last)
    ∙ sym (take_more all i [] (slice_get_within all i (alone_of row line) found))

-- as many as rows, where there is a line for each
pub each_length : (rows : List Subscriber) (lines : List (List Message)) → length lines ≡ length rows → length (alone_each rows lines) ≡ length rows
each_length [] lines same = refl
each_length (row ∷ rows) [] same = absurd (cc)
each_length (row ∷ rows) (line ∷ lines) same = let less : length lines ≡ length rows = omega (arith, same) in ap suc (each_length rows lines less)

held_at : (rows : List Subscriber) (lines : List (List Message)) (i : ℕ) → i < length (alone_each rows lines) → get_or (alone_each rows lines) i [] ≡ alone_with (slice_get rows i) (slice_get lines i)
held_at rows lines i within = ap or_none (sym (slice_get-get_or (alone_each rows lines) i [] within)) ∙ each_at rows lines i

-- with the count of one device more
pub one_counted : (charter : CharterState) (i n : ℕ) (counts more : List ℕ) → length charter.lines ≡ length charter.rows → i < length charter.rows → counts ≡ map length (take i (alone_each charter.rows charter.lines)) → n ≡ length (alone_in charter (i + 1)) → more ≡ counts ++ n ∷ [] → more ≡ map length (take (i + 1) (alone_each charter.rows charter.lines))
one_counted charter i n counts more same within is count and =
    let all = alone_each charter.rows charter.lines in
    let inside : i < length all = omega (arith, each_length charter.rows charter.lines same, within) in
    let place : i + 1 - 1 ≡ i = omega arith in
    let held : n ≡ length (get_or all i []) = count ∙ ap (λ j. length (alone_with (slice_get charter.rows j) (slice_get charter.lines j))) place ∙ ap length (sym (held_at charter.rows charter.lines i inside)) in
    and ∙ ap (λ (c : List ℕ). c ++ n ∷ []) is
    ∙ ap (λ m. map length (take i all) ++ m ∷ []) held
    ∙ sym (map-append length (take i all) (get_or all i [] ∷ []))
    ∙ ap (map length) (sym (take_more all i [] inside))

pub all_held : (rows : List Subscriber) (lines : List (List Message)) (i : ℕ) → length lines ≡ length rows → length rows ≤ i → take i (alone_each rows lines) ≡ alone_each rows lines
all_held rows lines i same past = take_all i (alone_each rows lines) (omega (arith, each_length rows lines same, past))
