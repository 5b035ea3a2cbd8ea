use Rattle.std.proofs.Common.{rules, ◌≡◌, ℕ, List, ap, ◌∙◌, subst}
use Rattle.disk_log.specs.Log.{log_of, gated}
use Rattle.disk_log.specs.Record.{LogRecord}
use Rattle.session_store.specs.Charter.{CharterState}
use Rattle.session_store.specs.Rows.{StoreState}
use Rattle.disk_log.proofs.Logs.{log_of_gated}
use Rattle.session_disk.specs.Fits.{AreRowsOf, IsForeign}
use Rattle.session_disk.proofs.Foreign.{read_is, foreign_file, file_of_its_own}
use Rattle.session_disk.proofs.disk_store.load.Goals as goal

pub returns-in_err-gate-clause-foreign : goal.returns-in_err-gate-clause-foreign
returns-in_err-gate-clause-foreign g c = λ octets at is_told refused.
    let charter : c.in_ok-store.store.charter ≡ g.L.RowLaw.charter c.args.law = ap (λ (s : StoreState). s.charter) c.in_ok-store.ensures in
    let read : c.deref.result.now ≡ gated octets = c.deref.ensures.value ∙ read_is (g.D.Disk.bytes c.args.disk.now) (g.D.Disk.bytes c.open_log.new.disk) octets c.in_ok-octets.octets.items is_told c.in_ok-octets.ensures.gated c.in_ok-octets.ensures.read in
    let there = c.in_err-gate.ensures.foreign at (search rules) in
    let under = subst (λ (x : CharterState). IsForeign c.args.devices (g.M.Maker.made x) c.deref.result.now at) charter there in
    foreign_file c.args.devices (g.M.Maker.made (g.L.RowLaw.charter c.args.law)) octets at (subst (λ (os : List ℕ). IsForeign c.args.devices (g.M.Maker.made (g.L.RowLaw.charter c.args.law)) os at) read under)

pub returns-clause-rows : goal.returns-clause-rows
returns-clause-rows g c = λ octets is_told.
    let charter : c.in_ok-store.store.charter ≡ g.L.RowLaw.charter c.args.law = ap (λ (s : StoreState). s.charter) c.in_ok-store.ensures in
    let read : c.deref.result.now ≡ gated octets = c.deref.ensures.value ∙ read_is (g.D.Disk.bytes c.args.disk.now) (g.D.Disk.bytes c.open_log.new.disk) octets c.in_ok-octets.octets.items is_told c.in_ok-octets.ensures.gated c.in_ok-octets.ensures.read in
    let under = subst (λ (x : CharterState). AreRowsOf c.args.devices (g.M.Maker.made x) (log_of c.deref.result.now) c.replay.new.store.rows) charter c.in_ok-gate.ensures.rows in
    subst (λ (rs : List LogRecord). AreRowsOf c.args.devices (g.M.Maker.made (g.L.RowLaw.charter c.args.law)) rs c.replay.new.store.rows) (ap log_of read ∙ log_of_gated octets) under

pub returns-clause-devices : goal.returns-clause-devices
returns-clause-devices g c = c.in_ok-gate.ensures.rows.count

pub returns-clause-exact : goal.returns-clause-exact
returns-clause-exact g c = λ octets is_told at.
    let charter : c.in_ok-store.store.charter ≡ g.L.RowLaw.charter c.args.law = ap (λ (s : StoreState). s.charter) c.in_ok-store.ensures in
    let read : c.deref.result.now ≡ gated octets = c.deref.ensures.value ∙ read_is (g.D.Disk.bytes c.args.disk.now) (g.D.Disk.bytes c.open_log.new.disk) octets c.in_ok-octets.octets.items is_told c.in_ok-octets.ensures.gated c.in_ok-octets.ensures.read in
    let entries = g.M.Maker.made (g.L.RowLaw.charter c.args.law) in
    let under = subst (λ (x : CharterState). IsForeign c.args.devices (g.M.Maker.made x) c.deref.result.now at → ⊥) charter (c.in_ok-gate.ensures.exact at) in
    file_of_its_own c.args.devices entries octets at (subst (λ (os : List ℕ). IsForeign c.args.devices entries os at → ⊥) read under)
