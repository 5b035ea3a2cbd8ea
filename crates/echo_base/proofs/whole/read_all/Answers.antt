use Rattle.std.proofs.Common.{◌++◌, ◌≤◌, take, length, arith}
use Rattle.std.proofs.lemmas.Grind.{common_steps}
use Rattle.std.proofs.lemmas.Result.{err_from_is_err_and}
use Rattle.std.proofs.lemmas.List.{length-take-le}
use Rattle.echo_base.proofs.Taking.{IsTaken-more}
use Rattle.echo_base.proofs.whole.read_all.Goals as goal

-- the stored octets and those of the last read are one more than the limit
pub returns-then-n-limit-clause-too_long : goal.returns-then-n-limit-clause-too_long
returns-then-n-limit-clause-too_long g c =
    let piece = take c.in-Got.n c.read.new.into in
    let within : c.in-Got.n ≤ length c.read.new.into = grind (arith, common_steps) in
    let counted = length-take-le c.in-Got.n c.read.new.into within in
    λ _. (c.pieces.bytes.items ++ piece, grind (arith, common_steps), IsTaken-more _ _ _ _ _ c.pieces.invariant.taken c.in-Got.ensures.octets)

-- the stored octets and those of the last read are within the limit
pub returns-in_err-extend_from_slice-in-Got-clause-short :
    goal.returns-in_err-extend_from_slice-in-Got-clause-short
returns-in_err-extend_from_slice-in-Got-clause-short g c =
    let p = err_from_is_err_and c.from_residual.result c.from_residual.ensures.1 in
    let piece = take c.in-Got.n c.read.new.into in
    let within : c.in-Got.n ≤ length c.read.new.into = grind (arith, common_steps) in
    let counted = length-take-le c.in-Got.n c.read.new.into within in
    rw (p.1, p.2) (λ _. (c.pieces.bytes.items ++ piece, grind (arith, common_steps), IsTaken-more _ _ _ _ _ c.pieces.invariant.taken c.in-Got.ensures.octets))
