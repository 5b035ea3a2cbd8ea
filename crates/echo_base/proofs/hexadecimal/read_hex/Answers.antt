use Rattle.std.proofs.Common.{sym, arith}
use Rattle.echo_base.proofs.Digits.{no_digits, odd_digits}
use Rattle.echo_base.proofs.hexadecimal.read_hex.Goals as goal
use Rattle.echo_base.proofs.hexadecimal.read_hex.Goals.{then-text-ne0-via-then-text-ne0, then-text-ne0-via-else-text-ne0+then-not-are_digits}

pub returns-then-text-ne0 : goal.returns-then-text-ne0
returns-then-text-ne0 c =
    elim c.then-text-ne0.branch [
      | then-text-ne0-via-then-text-ne0 w ↦ odd_digits c.args.text.now (omega arith)
      | then-text-ne0-via-else-text-ne0+then-not-are_digits w ↦ no_digits c.args.text.now (sym w.if-not-are_digits.ensures)
    ]
