use Rattle.std.proofs.Common.{arith}
use Rattle.disk_log.proofs.Openings.{measured, gate_written}
use Rattle.disk_log.proofs.log.first_gate.Goals as goal

pub returns-in_err-count-clause-any_moment : goal.returns-in_err-count-clause-any_moment
returns-in_err-count-clause-any_moment g c = λ octets is.
    measured g.D.Disk.bytes g.D.Disk.moment g.D.Disk.may_leave g.D.Disk.left_since c.args.disk.now c.len.new.self octets is c.requires.durable (g.met.D.Disk.only_now c.args.disk.now) c.len.ensures.images c.len.ensures.time

pub returns-in_err-write_through-clause-any_moment : goal.returns-in_err-write_through-clause-any_moment
returns-in_err-write_through-clause-any_moment g c = λ octets is.
    gate_written g.D.Disk.bytes g.D.Disk.moment g.D.Disk.may_leave g.D.Disk.left_since c.args.disk.now c.len.new.self octets is c.requires.durable (g.met.D.Disk.only_now c.args.disk.now) c.len.ensures.images c.len.ensures.time
    c.write_through.new.disk c.in_ok-count.count c.in_ok-count.ensures.length (omega (arith, c.if-count-gt1.false)) c.len.ensures.bytes c.write_through.ensures.any_moment

pub returns-clause-any_moment : goal.returns-clause-any_moment
returns-clause-any_moment g c = λ octets is.
    gate_written g.D.Disk.bytes g.D.Disk.moment g.D.Disk.may_leave g.D.Disk.left_since c.args.disk.now c.len.new.self octets is c.requires.durable (g.met.D.Disk.only_now c.args.disk.now) c.len.ensures.images c.len.ensures.time
    c.write_through.new.disk c.in_ok-count.count c.in_ok-count.ensures.length (omega (arith, c.if-count-gt1.false)) c.len.ensures.bytes c.write_through.ensures.any_moment
