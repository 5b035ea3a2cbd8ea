-- Words for contracts over a front and its seats.
use Rattle.std.specs.Prelude.{◌≡◌, ◌<◌, ℕ, IsTrue, Some}
use Rattle.front_lock.specs.declared.view.View.{View}
use Rattle.front_lock.specs.declared.held.Held.{Ghosts}
use Rattle.front_lock.specs.declared.front.Front.{Front}
use Rattle.front_lock.specs.declared.seat.FrontSeat.{FrontSeat}
use Rattle.front_lock.specs.Numbers.{speaks_for}

module _ {T X B : Type 0} where
  -- the basis of the value that the front was made with
  abbrev pub basis_of : (T → B) → Front T X B → B
  basis_of basis f = basis f.table.shared.key.value.value

  -- with how many seats it was made
  abbrev pub seats_of : Front T X B → ℕ
  seats_of f = f.table.shared.key.seats

  module _ {h : Ghosts T X B} where
    -- what a seat knows
    abbrev pub view : FrontSeat T X B h → View X B
    view s = s.seat.me.0

    -- the seat was made with this front
    abbrev pub IsSeatOf : (T → B) → Front T X B → FrontSeat T X B h → Type 0
    IsSeatOf basis f s = (s.seat.table_id ≡ f.table.shared.table_id) × (s.seat.me.0.basis ≡ Some (basis_of basis f))

    -- it speaks for each number of the front
    abbrev pub SpeaksForAll : Front T X B → FrontSeat T X B h → Type 0
    SpeaksForAll f s = (k : ℕ) → k < seats_of f → IsTrue (speaks_for k (view s).mine)
