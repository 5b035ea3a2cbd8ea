-- The octets of the body, or one of zeros for an empty body, behind their count are the run of the open type; they are few enough for a length.
use Rattle.std.proofs.Common.{[], ◌∷◌, length, ap, sym, arith}
use Rattle.std.proofs.lemmas.Bool.{eqb-true, eqb-false}
use Rattle.std.proofs.lemmas.Result.{on_ok_weaker}
use Rattle.aper_fields.specs.Run.{octet_string_run, open_run}
use Rattle.aper_fields.proofs.BitLaws.{length-bits_of}
use Rattle.aper_fields.proofs.Pieces.{content_of-some, open_run-none, open_run-some}
use Rattle.aper_fields.proofs.Written.{same_written}
use Rattle.aper_fields.proofs.writing.write_open.Goals as goal

pub write_octet_string-requires-else-is_empty : goal.write_octet_string-requires-else-is_empty
write_octet_string-requires-else-is_empty c =
    let octets = c.bytes-octets.result.now in
    let content = content_of-some octets c.args.body.now c.bytes-octets.ensures.bits (eqb-false _ _ (sym c.if-is_empty.ensures)) in
    omega (arith, ap length content, length-bits_of octets, c.requires)

pub returns-then-is_empty-clause-ok : goal.returns-then-is_empty-clause-ok
returns-then-is_empty-clause-ok c =
    let old = c.args.w.now in
    let octets = c.bytes-octets.result.now in
    let body = c.args.body.now in
    let same = open_run-none octets body (length old) c.bytes-octets.ensures.bits (eqb-true _ _ (sym c.if-is_empty.ensures)) in
    on_ok_weaker c.write_octet_string.result (same_written old _ (octet_string_run (0 ∷ [])) (open_run body) same) c.write_octet_string.ensures.ok

pub returns-else-is_empty-clause-ok : goal.returns-else-is_empty-clause-ok
returns-else-is_empty-clause-ok c =
    let old = c.args.w.now in
    let octets = c.bytes-octets.result.now in
    let body = c.args.body.now in
    let same = open_run-some octets body (length old) c.bytes-octets.ensures.bits (eqb-false _ _ (sym c.if-is_empty.ensures)) in
    on_ok_weaker c.write_octet_string-else-is_empty.result (same_written old _ (octet_string_run octets) (open_run body) same) c.write_octet_string-else-is_empty.ensures.ok
