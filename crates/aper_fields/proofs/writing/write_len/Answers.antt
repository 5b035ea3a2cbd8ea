-- What is written is the run of a general length: padding and 8 bits below 128, else padding and 16 bits for the length plus 32,768.
use Rattle.std.proofs.Common.{◌+◌, length}
use Rattle.std.proofs.lemmas.Result.{on_ok_weaker}
use Rattle.aper_fields.specs.Run.{◌▸◌, bits_run, padding_run, length_run}
use Rattle.aper_fields.proofs.Pieces.{length_run-short, length_run-long}
use Rattle.aper_fields.proofs.Written.{same_written}
use Rattle.aper_fields.proofs.writing.write_len.Goals as goal

pub returns-then-n-lt128-clause-ok : goal.returns-then-n-lt128-clause-ok
returns-then-n-lt128-clause-ok c =
    let n = c.args.n in
    on_ok_weaker c.write_padded_bits.result (same_written c.args.w.now _ (padding_run ▸ bits_run 8 n) (length_run n) (length_run-short n (length c.args.w.now) c.if-n-lt128.true)) c.write_padded_bits.ensures.ok

pub returns-else-n-lt128-clause-ok : goal.returns-else-n-lt128-clause-ok
returns-else-n-lt128-clause-ok c =
    let n = c.args.n in
    on_ok_weaker c.write_padded_bits-else-n-lt128.result (same_written c.args.w.now _ (padding_run ▸ bits_run 16 (32768 + n)) (length_run n) (length_run-long n (length c.args.w.now) c.if-n-lt128.false c.requires)) c.write_padded_bits-else-n-lt128.ensures.ok
