-- A length, and octets behind padding, are the run of an octet string of free size, as behind a length there is no padding.
use Rattle.std.proofs.Common.{length}
use Rattle.aper_fields.specs.Run.{◌▸◌, length_run, fixed_octets_run, octet_string_run}
use Rattle.aper_fields.proofs.Pieces.{octet_string_run-is}
use Rattle.aper_fields.proofs.Written.{two_written, same_written}
use Rattle.aper_fields.proofs.writing.put_octet_string.Goals as goal

pub returns-clause-ok : goal.returns-clause-ok
returns-clause-ok c =
    let old = c.args.w.now in
    let octets = c.args.octets.now in
    let first = length_run (length octets) in
    let second = fixed_octets_run octets in
    same_written old _ (first ▸ second) (octet_string_run octets) (octet_string_run-is octets (length old)) (two_written old _ _ first second c.in_ok-write_len.ensures.ok c.in_ok-write_padded_octets.ensures.ok)
