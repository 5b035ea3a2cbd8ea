use Rattle.std.proofs.Common.{◌+◌, arith}
use Rattle.store_disk.proofs.Runs.{behind_gate, at_least, at_gate, grown, gate_shut, gate_opened}
use Rattle.store_disk.proofs.write.append.Goals as goal

pub returns-clause-grown : goal.returns-clause-grown
returns-clause-grown g c = λ octets is.
    grown g.D.Disk.bytes g.D.Disk.moment g.D.Disk.left_since c.args.disk.now c.write_through.new.disk c.write_through-2.new.disk c.args.gate c.args.piece.now octets is c.requires.shut
    c.in_ok-write_through.ensures.written c.in_ok-write_through-2.ensures.written

pub returns-in_err-write_through-clause-any_moment : goal.returns-in_err-write_through-clause-any_moment
returns-in_err-write_through-clause-any_moment g c = λ octets is.
    gate_shut g.D.Disk.bytes g.D.Disk.moment g.D.Disk.left_since c.args.disk.now c.write_through.new.disk c.write_through.new.disk c.args.gate c.args.piece.now octets is c.requires.shut
    (c.write_through.ensures.any_moment octets is)

pub returns-in_err-write_through-2-clause-any_moment : goal.returns-in_err-write_through-2-clause-any_moment
returns-in_err-write_through-2-clause-any_moment g c = λ octets is.
    gate_opened g.D.Disk.bytes g.D.Disk.moment g.D.Disk.left_since c.args.disk.now c.write_through.new.disk c.write_through-2.new.disk c.args.gate c.args.piece.now octets is c.requires.shut
    (c.write_through.ensures.any_moment octets is) c.in_ok-write_through.ensures.written c.write_through-2.ensures.any_moment

pub returns-clause-any_moment : goal.returns-clause-any_moment
returns-clause-any_moment g c = λ octets is.
    gate_opened g.D.Disk.bytes g.D.Disk.moment g.D.Disk.left_since c.args.disk.now c.write_through.new.disk c.write_through-2.new.disk c.args.gate c.args.piece.now octets is c.requires.shut
    (c.write_through.ensures.any_moment octets is) c.in_ok-write_through.ensures.written c.write_through-2.ensures.any_moment

pub write_through-requires-clause-place : goal.write_through-requires-clause-place
write_through-requires-clause-place g c =
    let old = g.D.Disk.bytes c.args.disk.now in
    at_least (c.args.gate + 1) _ old (omega arith) (behind_gate c.args.gate old c.requires.shut)

pub write_through-requires-2-clause-place : goal.write_through-requires-2-clause-place
write_through-requires-2-clause-place g c = at_gate c.args.gate c.args.piece.now (g.D.Disk.bytes c.args.disk.now) (g.D.Disk.bytes c.write_through.new.disk) c.requires.shut c.in_ok-write_through.ensures.written
