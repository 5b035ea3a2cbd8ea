-- Commands (3GPP TS 29.272, 7.2.2), and the kinds of messages: a command's request, its answer that succeeds, and one that does not.
use Rattle.std.specs.Prelude.{ℕ, ◌==◌, Bool, true, false, Option, Some, None, if◌then◌else◌}
use Rattle.dia_wire.specs.declared.kind.Command.{Command}
use Rattle.dia_wire.specs.declared.kind.Command.TheVariants.{Authentication, Location, Purge}
use Rattle.dia_wire.specs.declared.kind.Kind.{Kind}
use Rattle.dia_wire.specs.declared.kind.Kind.TheVariants as kinds

abbrev pub code_of : Command → ℕ
code_of Authentication = 318
code_of Location = 316
code_of Purge = 321

abbrev pub command_of : ℕ → Option Command
command_of code = if code == 318 then Some Authentication else (if code == 316 then Some Location else (if code == 321 then Some Purge else None))

abbrev pub asking : Command → Kind
asking Authentication = kinds.AskVectors
asking Location = kinds.AskLocation
asking Purge = kinds.AskPurge

abbrev pub granting : Command → Kind
granting Authentication = kinds.Vectors
granting Location = kinds.Located
granting Purge = kinds.Purged

-- an answer succeeds, or does not
abbrev pub answering : Bool → Command → Kind
answering true command = granting command
answering false command = kinds.Rejected command
