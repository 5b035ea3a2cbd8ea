use Rattle.std.proofs.Common.{inl, ◌∙◌}
use Rattle.disk_log.proofs.Openings.{first_sync, opened, opened_and_read}
use Rattle.disk_log.proofs.log.open_log.Goals as goal

pub returns-in_err-sync-clause-any_moment : goal.returns-in_err-sync-clause-any_moment
returns-in_err-sync-clause-any_moment g c = λ octets is.
    inl (first_sync g.D.Disk.bytes g.D.Disk.moment g.D.Disk.may_leave g.D.Disk.left_since c.args.disk.now c.sync.new.self (g.met.D.Disk.only_now c.args.disk.now) c.sync.ensures.images c.sync.ensures.time)

pub returns-in_err-count-clause-any_moment : goal.returns-in_err-count-clause-any_moment
returns-in_err-count-clause-any_moment g c = λ octets is.
    opened g.D.Disk.bytes g.D.Disk.moment g.D.Disk.may_leave g.D.Disk.left_since c.args.disk.now c.sync.new.self c.first_gate.new.disk octets (g.met.D.Disk.only_now c.args.disk.now) c.sync.ensures.images c.sync.ensures.time
    (c.first_gate.ensures.any_moment octets (c.sync.ensures.bytes ∙ is))

pub returns-in_err-octets-clause-any_moment : goal.returns-in_err-octets-clause-any_moment
returns-in_err-octets-clause-any_moment g c = λ octets is.
    opened g.D.Disk.bytes g.D.Disk.moment g.D.Disk.may_leave g.D.Disk.left_since c.args.disk.now c.sync.new.self c.first_gate.new.disk octets (g.met.D.Disk.only_now c.args.disk.now) c.sync.ensures.images c.sync.ensures.time
    (c.first_gate.ensures.any_moment octets (c.sync.ensures.bytes ∙ is))

pub returns-in_err-read_at-clause-any_moment : goal.returns-in_err-read_at-clause-any_moment
returns-in_err-read_at-clause-any_moment g c = λ octets is.
    opened_and_read g.D.Disk.bytes g.D.Disk.moment g.D.Disk.may_leave g.D.Disk.left_since c.args.disk.now c.sync.new.self c.first_gate.new.disk octets (g.met.D.Disk.only_now c.args.disk.now) c.sync.ensures.images c.sync.ensures.time
    (c.first_gate.ensures.any_moment octets (c.sync.ensures.bytes ∙ is)) c.read_at.new.self (c.sync.ensures.bytes ∙ is) c.in_ok-count.ensures.gated c.in_ok-count.ensures.durable c.read_at.ensures.images c.read_at.ensures.time

pub returns-clause-any_moment : goal.returns-clause-any_moment
returns-clause-any_moment g c = λ octets is.
    opened_and_read g.D.Disk.bytes g.D.Disk.moment g.D.Disk.may_leave g.D.Disk.left_since c.args.disk.now c.sync.new.self c.first_gate.new.disk octets (g.met.D.Disk.only_now c.args.disk.now) c.sync.ensures.images c.sync.ensures.time
    (c.first_gate.ensures.any_moment octets (c.sync.ensures.bytes ∙ is)) c.read_at.new.self (c.sync.ensures.bytes ∙ is) c.in_ok-count.ensures.gated c.in_ok-count.ensures.durable c.read_at.ensures.images c.read_at.ensures.time
