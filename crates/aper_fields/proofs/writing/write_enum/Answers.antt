-- The bits that are written are the run of the value: beyond the roots, of a root alone, or of a root behind an extension bit 0, where the index fits.
use Rattle.std.proofs.Common.{◌≡◌, suc, ◌+◌, length, arith}
use Rattle.std.proofs.lemmas.Result.{on_ok_weaker}
use Rattle.std.proofs.Math.Nat.{pow-suc}
use Rattle.aper_fields.specs.Run.{bits_run, enumerated_run}
use Rattle.aper_fields.proofs.Pieces.{enumerated_run-beyond, enumerated_run-root, enumerated_run-marked}
use Rattle.aper_fields.proofs.Widths.{width_below}
use Rattle.aper_fields.proofs.Written.{same_written}
use Rattle.aper_fields.proofs.writing.write_enum.Goals as goal

pub returns-then-v-clause-ok : goal.returns-then-v-clause-ok
returns-then-v-clause-ok c =
    let old = c.args.w.now in
    let v = c.args.v in
    let small = rw c.if-v.true at c.requires.value in
    let same = enumerated_run-beyond c.args.roots c.args.extensible v (length old) c.if-v.true small.1 in
    on_ok_weaker c.write_bits.result (same_written old _ (bits_run 8 (128 + c.from-index.result)) (enumerated_run c.args.roots c.args.extensible v) (rw c.from-index.ensures same)) c.write_bits.ensures.ok

pub write_bits-requires-then-extensible-clause-fits : goal.write_bits-requires-then-extensible-clause-fits
write_bits-requires-then-extensible-clause-fits c =
    let small = rw c.if-v.false at c.requires.value in
    let one : 1 + c.width-index_width.result ≡ suc c.width-index_width.result = omega arith in
    rw one (omega (arith, small, pow-suc 2 c.width-index_width.result))

pub write_bits-requires-then-extensible-clause-small : goal.write_bits-requires-then-extensible-clause-small
write_bits-requires-then-extensible-clause-small c = omega (arith, width_below c.from.result 6 (omega arith) (omega arith))

pub returns-then-extensible-clause-ok : goal.returns-then-extensible-clause-ok
returns-then-extensible-clause-ok c =
    let old = c.args.w.now in
    let v = c.args.v in
    let small = rw c.if-v.false at c.requires.value in
    let same = enumerated_run-marked c.args.roots c.args.extensible v (length old) c.if-v.false c.if-extensible.true small c.requires.most in
    on_ok_weaker c.write_bits-then-extensible.result
    (same_written old _ (bits_run (1 + c.width-index_width.result) c.from-index.result) (enumerated_run c.args.roots c.args.extensible v) (rw (c.from-index.ensures, c.width-index_width.ensures.value, c.from.ensures) same))
    c.write_bits-then-extensible.ensures.ok

pub returns-else-extensible-clause-ok : goal.returns-else-extensible-clause-ok
returns-else-extensible-clause-ok c =
    let old = c.args.w.now in
    let v = c.args.v in
    let small = rw c.if-v.false at c.requires.value in
    let same = enumerated_run-root c.args.roots c.args.extensible v (length old) c.if-v.false c.if-extensible.false small c.requires.most in
    on_ok_weaker c.write_bits-else-extensible.result
    (same_written old _ (bits_run c.width-index_width.result c.from-index.result) (enumerated_run c.args.roots c.args.extensible v) (rw (c.from-index.ensures, c.width-index_width.ensures.value, c.from.ensures) same))
    c.write_bits-else-extensible.ensures.ok
