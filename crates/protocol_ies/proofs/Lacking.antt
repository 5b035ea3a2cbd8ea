-- The first needed row without a value, row by row.
use Rattle.std.proofs.Common.{◌≡◌, ℕ, ◌+◌, ◌-◌, ◌<◌, true, false, ◌&&◌, List, [], ◌∷◌, length, get_or, take, drop, Option, Some, None, is_none, refl, sym, ap, ◌∙◌, arith}
use Rattle.std.proofs.lemmas.List.{drop_more, take_all}
use Rattle.protocol_ies.specs.declared.tables.IeRow.{IeRow}
use Rattle.protocol_ies.specs.Slots.{lacking}

-- the first row that is left is needed, and its place is empty
pub lacking_here : {V : Type 0} (left : List IeRow) (d : IeRow) (values : List (Option V)) (place : ℕ) (all : Option ℕ) → 0 < length left → place < length values → lacking left (drop place values) ≡ all → (get_or left 0 d).needed && is_none (get_or values place None) ≡ true → Some (get_or left 0 d).id ≡ all
unfolding lacking
lacking_here [] d values place all some lt e t = absurd (omega arith)
lacking_here (row ∷ later) d values place all some lt e t =
    let here : lacking (row ∷ later) (drop place values) ≡ Some row.id = rw (drop_more values place None lt, t) refl in
    sym here ∙ e

-- it is not needed, or has a value
pub lacking_later : {V : Type 0} (left : List IeRow) (d : IeRow) (values : List (Option V)) (place : ℕ) (all : Option ℕ) → 0 < length left → place < length values → lacking left (drop place values) ≡ all → (get_or left 0 d).needed && is_none (get_or values place None) ≡ false → lacking (take (length left - 1) (drop 1 left)) (drop (place + 1) values) ≡ all
unfolding lacking
lacking_later [] d values place all some lt e f = absurd (omega arith)
lacking_later (row ∷ later) d values place all some lt e f =
    let behind : lacking (row ∷ later) (drop place values) ≡ lacking later (drop (place + 1) values) = rw (drop_more values place None lt, f) refl in
    let rest : take (length (row ∷ later) - 1) later ≡ later = take_all _ later (omega arith) in
    ap (λ (rows : List IeRow). lacking rows (drop (place + 1) values)) rest ∙ sym behind ∙ e
