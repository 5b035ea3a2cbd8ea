-- What the header of a message says, and the octets of its AVPs.
use Rattle.std.specs.Prelude.{ℕ, Bool, List}
use Rattle.dia_wire.specs.declared.kind.Command.{Command}

pub record Header : Type 0 where
  pub command : Command
  pub request : Bool
  pub hop : ℕ
  pub end_to_end : ℕ
  pub end : ℕ
  pub octets : List ℕ
