use Rattle.std.proofs.Common.{◌≡◌, eqb, false, length, refl, arith}
use Rattle.std.proofs.lemmas.Bool.{ne_eqb}
use Rattle.s1ap_pdu.specs.Run.{written}
use Rattle.codec_bench.proofs.Written.{written_some}
use Rattle.codec_bench.proofs.turns.is_something.Goals as goal

pub returns : goal.returns
returns c =
    let p = c.args.sample.now.pdu in
    let some : eqb (length (written p)) 0 ≡ false = ne_eqb _ _ (λ none. absurd (omega (arith, none, written_some p))) in
    rw (c.is_empty.ensures, c.items.ensures, c.requires, some) refl
