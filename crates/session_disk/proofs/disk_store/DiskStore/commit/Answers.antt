use Rattle.std.proofs.Common.{◌≡◌, ◌+◌, [], ◌∷◌, ◌++◌, length, ap, ◌∙◌, subst, arith}
use Rattle.disk_log.specs.Log.{log_of, EndsAt, WithOrWithout}
use Rattle.disk_log.specs.Record.{LogRecord}
use Rattle.store_disk.specs.Moments.{LeavesOnly}
use Rattle.session_disk.specs.Stored.{record_of}
use Rattle.session_disk.proofs.Commits.{nothing_written, image_has, open_inside, disk_inside, device_inside, told_inside, kept, few_octets, recorded, at_rest_later}
use Rattle.session_disk.proofs.disk_store.DiskStore.commit.Goals as goal

pub returns-in_err-commit-clause-any_moment : goal.returns-in_err-commit-clause-any_moment
returns-in_err-commit-clause-any_moment g c = λ octets is_told.
    let disk_is = disk_inside _ _ c.self.view_is in
    let rest = c.self.invariant (open_inside _ _ c.self.view_is c.requires.open) in
    let r = record_of c.args.d.0 (c.args.read + 1) c.args.entry in
    subst (λ (x : _). LeavesOnly g.D.Disk.moment g.D.Disk.left_since x c.self.inside.disk (WithOrWithout (log_of octets) r)) disk_is
    (nothing_written g.D.Disk.bytes g.D.Disk.moment g.D.Disk.may_leave g.D.Disk.left_since c.self.inside.disk r octets (ap g.D.Disk.bytes disk_is ∙ is_told) rest.durable (g.met.D.Disk.only_now c.self.inside.disk))

pub new-record-requires : goal.new-record-requires
new-record-requires g c =
    let d = c.args.d.0 in
    let old = c.self.inside.store in
    let new = c.commit.new.self in
    let is = device_inside _ _ d c.self.view_is c.requires.device in
    let k = kept (g.L.RowLaw.follows new.charter) old new d c.args.read c.args.entry is c.commit.ensures.others (λ J. g.met.L.RowLaw.can_follow new.charter d J c.args.entry c.commit.ensures.in_form) c.commit.ensures.lawful
    c.in_ok-commit.commit c.in-Committed.version c.in-Committed.is c.in_ok-commit.ensures.ok c.row.result.now c.row.ensures c.octets.result.now c.octets.ensures in
    few_octets (g.L.RowLaw.follows new.charter) old new d c.args.read c.args.entry is c.commit.ensures.others c.in-Committed.version c.octets.result.now k

pub add_record-requires-clause-session : goal.add_record-requires-clause-session
add_record-requires-clause-session g c =
    let d = c.args.d.0 in
    let old = c.self.inside.store in
    let new = c.commit.new.self in
    let is = device_inside _ _ d c.self.view_is c.requires.device in
    let k = kept (g.L.RowLaw.follows new.charter) old new d c.args.read c.args.entry is c.commit.ensures.others (λ J. g.met.L.RowLaw.can_follow new.charter d J c.args.entry c.commit.ensures.in_form) c.commit.ensures.lawful
    c.in_ok-commit.commit c.in-Committed.version c.in-Committed.is c.in_ok-commit.ensures.ok c.row.result.now c.row.ensures c.octets.result.now c.octets.ensures in
    omega (arith, ap (λ (r : LogRecord). length r.session) c.new-record.ensures, few_octets (g.L.RowLaw.follows new.charter) old new d c.args.read c.args.entry is c.commit.ensures.others c.in-Committed.version c.octets.result.now k)

pub returns-in_err-self-inside-clause-any_moment : goal.returns-in_err-self-inside-clause-any_moment
returns-in_err-self-inside-clause-any_moment g c = λ octets is_told.
    let d = c.args.d.0 in
    let old = c.self.inside.store in
    let new = c.commit.new.self in
    let is = device_inside _ _ d c.self.view_is c.requires.device in
    let k = kept (g.L.RowLaw.follows new.charter) old new d c.args.read c.args.entry is c.commit.ensures.others (λ J. g.met.L.RowLaw.can_follow new.charter d J c.args.entry c.commit.ensures.in_form) c.commit.ensures.lawful
    c.in_ok-commit.commit c.in-Committed.version c.in-Committed.is c.in_ok-commit.ensures.ok c.row.result.now c.row.ensures c.octets.result.now c.octets.ensures in
    told_inside g.D.Disk.bytes g.D.Disk.moment g.D.Disk.left_since _ _ c.add_record.new.disk _ _ octets c.self.view_is (recorded (g.L.RowLaw.follows new.charter) old new d c.args.read c.args.entry is c.commit.ensures.others c.in-Committed.version c.octets.result.now k _ c.new-record.ensures) is_told c.add_record.ensures.any_moment

pub returns-clause-any_moment : goal.returns-clause-any_moment
returns-clause-any_moment g c = λ octets is_told.
    let d = c.args.d.0 in
    let old = c.self.inside.store in
    let new = c.commit.new.self in
    let is = device_inside _ _ d c.self.view_is c.requires.device in
    let k = kept (g.L.RowLaw.follows new.charter) old new d c.args.read c.args.entry is c.commit.ensures.others (λ J. g.met.L.RowLaw.can_follow new.charter d J c.args.entry c.commit.ensures.in_form) c.commit.ensures.lawful
    c.in_ok-commit.commit c.in-Committed.version c.in-Committed.is c.in_ok-commit.ensures.ok c.row.result.now c.row.ensures c.octets.result.now c.octets.ensures in
    told_inside g.D.Disk.bytes g.D.Disk.moment g.D.Disk.left_since _ _ c.add_record.new.disk _ _ octets c.self.view_is (recorded (g.L.RowLaw.follows new.charter) old new d c.args.read c.args.entry is c.commit.ensures.others c.in-Committed.version c.octets.result.now k _ c.new-record.ensures) is_told c.add_record.ensures.any_moment

pub returns-clause-committed : goal.returns-clause-committed
returns-clause-committed g c = λ version octets same is_told image left.
    let d = c.args.d.0 in
    let old = c.self.inside.store in
    let new = c.commit.new.self in
    let is = device_inside _ _ d c.self.view_is c.requires.device in
    let k = kept (g.L.RowLaw.follows new.charter) old new d c.args.read c.args.entry is c.commit.ensures.others (λ J. g.met.L.RowLaw.can_follow new.charter d J c.args.entry c.commit.ensures.in_form) c.commit.ensures.lawful
    c.in_ok-commit.commit c.in-Committed.version c.in-Committed.is c.in_ok-commit.ensures.ok c.row.result.now c.row.ensures c.octets.result.now c.octets.ensures in
    let there = c.in_ok-self-inside.ensures.added octets (ap g.D.Disk.bytes (disk_inside _ _ c.self.view_is) ∙ is_told) in
    (image_has (g.D.Disk.bytes c.add_record.new.disk) (λ os. (log_of os ≡ log_of octets ++ c.new-record.result ∷ []) × EndsAt c.in_ok-self-inside.field-0 os) image (c.in_ok-self-inside.ensures.durable image left) there).0
    ∙ ap (λ (r : LogRecord). log_of octets ++ r ∷ []) (recorded (g.L.RowLaw.follows new.charter) old new d c.args.read c.args.entry is c.commit.ensures.others c.in-Committed.version c.octets.result.now k _ c.new-record.ensures)

pub invariant_of-self-2 : goal.invariant_of-self-2
invariant_of-self-2 g c = λ same.
    let d = c.args.d.0 in
    let old = c.self.inside.store in
    let new = c.commit.new.self in
    let is = device_inside _ _ d c.self.view_is c.requires.device in
    let k = kept (g.L.RowLaw.follows new.charter) old new d c.args.read c.args.entry is c.commit.ensures.others (λ J. g.met.L.RowLaw.can_follow new.charter d J c.args.entry c.commit.ensures.in_form) c.commit.ensures.lawful
    c.in_ok-commit.commit c.in-Committed.version c.in-Committed.is c.in_ok-commit.ensures.ok c.row.result.now c.row.ensures c.octets.result.now c.octets.ensures in
    let rest = c.self.invariant (open_inside _ _ c.self.view_is c.requires.open) in
    at_rest_later old.rows new.rows d c.args.entry is k.made.rows k.made.range c.args.read k.made.newest c.new-record.result (recorded (g.L.RowLaw.follows new.charter) old new d c.args.read c.args.entry is c.commit.ensures.others c.in-Committed.version c.octets.result.now k _ c.new-record.ensures) c.self.inside.gate c.in_ok-self-inside.field-0
    (g.D.Disk.bytes c.self.inside.disk) (g.D.Disk.bytes c.add_record.new.disk) (g.D.Disk.may_leave c.add_record.new.disk) rest.log rest.few c.in_ok-self-inside.ensures.next c.in_ok-self-inside.ensures.added
    c.in_ok-self-inside.ensures.tells c.in_ok-self-inside.ensures.durable
