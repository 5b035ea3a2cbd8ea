-- What holds of a store while entries of the machines alone are committed to it.
use Rattle.std.specs.Prelude.{◌≡◌, Bool, true, length}
use Rattle.session_store.specs.Charter.{CharterState}
use Rattle.session_store.specs.Rows.{StoreState}

-- it is open, under that charter, with a row for each of its devices
pub record IsStore (charter : CharterState) (store : StoreState) (is_open : Bool) : Type 0 where
  pub open_is : is_open ≡ true
  pub charter_is : store.charter ≡ charter
  pub rows_are : length store.rows ≡ length charter.rows
