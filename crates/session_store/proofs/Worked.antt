-- Worked shards, computed: the cheapest test of their definitions.
use Rattle.std.proofs.Common.{◌≡◌, ℕ, ◌-◌, ◌^◌, List, [], ◌∷◌, replicate, Some, None, refl, arith}
use Rattle.session_row.specs.Row.{RowState}
use Rattle.session_store.specs.Rows.{one_more, opening_row}
use Rattle.session_store.specs.Shards.{shard_of, ShardState, IsHere, find_row, row_in, with_row, no_shard, stored_rows}

-- the row of a device that was seen, and another
seen : RowState
seen = record { journal = []; settled = record { down = 1; gateway = 2; subscriber = 3 } }

other : RowState
other = record { journal = []; settled = record { down = 4; gateway = 5; subscriber = 6 } }

first-device : shard_of 1 ≡ 1
first-device = refl

sixteenth-device : shard_of 16 ≡ 0
sixteenth-device = refl

seventeenth-device : shard_of 17 ≡ 1
seventeenth-device = refl

-- the rows of devices 1 and 17, which share a shard
rows : List (ℕ × RowState)
rows = (1, seen) ∷ (17, opening_row) ∷ []

row-is-found : find_row rows 1 ≡ Some seen
unfolding rows
row-is-found = refl

next-row-is-found : find_row rows 17 ≡ Some opening_row
unfolding rows
next-row-is-found = refl

no-row-is-found : find_row rows 2 ≡ None
unfolding rows
no-row-is-found = refl

no-row-is-opening : row_in rows 2 ≡ opening_row
unfolding rows
no-row-is-opening = refl

second-row-is-put : with_row rows 17 other ≡ (1, seen) ∷ (17, other) ∷ []
unfolding rows
second-row-is-put = refl

shard : ShardState
shard = record no_shard { number = 1; devices = 17; rows = rows }

second-of-the-shard-is-here : IsHere shard 17
unfolding shard rows
second-of-the-shard-is-here = ((omega arith, omega arith), refl)

device-of-another-shard-is-not : IsHere shard 2 → ⊥
unfolding shard rows
device-of-another-shard-is-not h = let e : 2 ≡ 1 = h.1 in absurd (omega (arith, e))

rows-by-device : stored_rows (no_shard ∷ shard ∷ []) 17 ≡ seen ∷ replicate 16 opening_row
unfolding shard rows
rows-by-device = refl

first-read-counts : one_more 0 ≡ 1
first-read-counts = refl

last-count-stands : one_more (2 ^ 64 - 1) ≡ 2 ^ 64 - 1
last-count-stands = refl
