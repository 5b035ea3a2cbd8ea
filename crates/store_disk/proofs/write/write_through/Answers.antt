use Rattle.store_disk.proofs.Runs.{written_torn, synced_torn}
use Rattle.store_disk.proofs.write.write_through.Goals as goal

pub returns-in_err-write_at-clause-any_moment : goal.returns-in_err-write_at-clause-any_moment
returns-in_err-write_at-clause-any_moment g c = λ octets is.
    let old = c.args.disk.now in
    written_torn g.D.Disk.bytes g.D.Disk.moment g.D.Disk.may_leave g.D.Disk.left_since old c.write_at.new.self c.args.at c.args.piece.now octets is c.requires.durable (g.met.D.Disk.only_now old) c.write_at.ensures.images c.write_at.ensures.time

pub returns-in_err-sync-clause-any_moment : goal.returns-in_err-sync-clause-any_moment
returns-in_err-sync-clause-any_moment g c = λ octets is.
    let old = c.args.disk.now in
    synced_torn g.D.Disk.bytes g.D.Disk.moment g.D.Disk.may_leave g.D.Disk.left_since old c.write_at.new.self c.args.at c.args.piece.now octets is c.requires.durable (g.met.D.Disk.only_now old) c.write_at.ensures.images c.write_at.ensures.time
    c.sync.new.self c.sync.ensures.images c.sync.ensures.time

pub returns-clause-any_moment : goal.returns-clause-any_moment
returns-clause-any_moment g c = λ octets is.
    let old = c.args.disk.now in
    synced_torn g.D.Disk.bytes g.D.Disk.moment g.D.Disk.may_leave g.D.Disk.left_since old c.write_at.new.self c.args.at c.args.piece.now octets is c.requires.durable (g.met.D.Disk.only_now old) c.write_at.ensures.images c.write_at.ensures.time
    c.sync.new.self c.sync.ensures.images c.sync.ensures.time

pub returns-clause-durable : goal.returns-clause-durable
returns-clause-durable g c = c.in_ok-sync.ensures.durable
