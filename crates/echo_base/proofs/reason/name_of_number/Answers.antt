use Rattle.std.proofs.Common.{◌≡◌, ◌<◌, ◌≤◌, ◌⊎◌, ⊎_elim, sym, ap, arith}
use Rattle.echo_base.specs.Reason.{name_of_number}
use Rattle.echo_base.proofs.Printed.{unnamed, unnamed_gtp, unnamed_dia}
use Rattle.echo_base.proofs.reason.name_of_number.Goals as goal

-- a number that no arm takes is 0, or in a gap, or past the last
pub returns-in_default : goal.returns-in_default
returns-in_default c =
    let n = c.args.number in
    let which : (n ≡ 0) ⊎ (((33 ≤ n) × (n < 40)) ⊎ (((43 ≤ n) × (n < 50)) ⊎ (55 ≤ n))) = grind arith in
    ⊎_elim (λ zero. sym (ap name_of_number zero)) (λ more. ⊎_elim (λ gap. sym (unnamed _ gap)) (λ others. ⊎_elim (λ gap. sym (unnamed_gtp _ gap)) (λ above. sym (unnamed_dia _ above)) others) more) which
