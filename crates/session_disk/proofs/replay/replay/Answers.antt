use Rattle.std.proofs.Common.{rules, ◌≡◌, ◌+◌, ℕ, true, false, drop, Some, None, refl, sym, ap, ◌∙◌, subst}
use Rattle.std.proofs.lemmas.List.{take_rest}
use Rattle.disk_log.specs.Record.{first_record}
use Rattle.session_store.specs.Charter.{CharterState}
use Rattle.session_disk.specs.Fits.{IsForeign}
use Rattle.session_disk.specs.Replay.{IsNext, Takes}
use Rattle.session_disk.proofs.Foreign.{not_foreign}
use Rattle.session_disk.proofs.Replays.{begun, none_lawful, taken, without_record, with_another, ended, log_is, rows_are}
use Rattle.session_disk.proofs.replay.replay.Goals as goal

pub loop-at-init : goal.loop-at-init
loop-at-init g c = (
  begun c.args.devices (g.M.Maker.made c.args.store.now.charter) c.args.octets.now c.args.store.now.rows c.requires.some c.requires.empty,
  refl,
  none_lawful (g.L.RowLaw.follows c.args.store.now.charter) c.args.devices c.args.store.now.rows c.requires.empty,
)

pub loop-at-preserved : goal.loop-at-preserved
loop-at-preserved g c =
    let inv = c.loop-at.invariant in
    let entries = g.M.Maker.made c.args.store.now.charter in
    let some : first_record (drop (c.loop-at.at + 1) c.args.octets.now) ≡ Some c.in-Some.next = ap first_record (sym (take_rest c.args.octets.now (c.loop-at.at + 1))) ∙ sym c.first.ensures ∙ c.in-Some.is in
    let made : c.in_ok-take_record.field-0 ≡ true = search rules in
    let takes = subst (λ (x : CharterState). Takes (g.M.Maker.made x) c.loop-at.store.rows c.take_record.new.store.rows c.in-Some.next) inv.1 (c.in_ok-take_record.ensures.next made) in
    rw c.size.ensures (
      taken c.args.devices entries c.args.octets.now c.loop-at.at c.loop-at.store.rows inv.0 c.loop-at-test.true c.in-Some.next c.take_record.new.store.rows some takes,
      c.in_ok-take_record.ensures.charter ∙ inv.1,
      c.in_ok-take_record.ensures.lawful,
    )

pub returns-in_default-clause-foreign : goal.returns-in_default-clause-foreign
returns-in_default-clause-foreign g c = λ at same.
    let inv = c.loop-at.invariant in
    let entries = g.M.Maker.made c.args.store.now.charter in
    let no_record : c.first.result ≡ None = search rules in
    let none : first_record (drop (c.loop-at.at + 1) c.args.octets.now) ≡ None = ap first_record (sym (take_rest c.args.octets.now (c.loop-at.at + 1))) ∙ sym c.first.ensures ∙ no_record in
    let here : c.loop-at.at ≡ at = cc in
    subst (λ (n : ℕ). IsForeign c.args.devices entries c.args.octets.now n) here (without_record c.args.devices entries c.args.octets.now c.loop-at.at c.loop-at.store.rows inv.0 c.loop-at-test.true none)

pub returns-then-not-branch-clause-foreign : goal.returns-then-not-branch-clause-foreign
returns-then-not-branch-clause-foreign g c = λ at same.
    let inv = c.loop-at.invariant in
    let entries = g.M.Maker.made c.args.store.now.charter in
    let some : first_record (drop (c.loop-at.at + 1) c.args.octets.now) ≡ Some c.in-Some.next = ap first_record (sym (take_rest c.args.octets.now (c.loop-at.at + 1))) ∙ sym c.first.ensures ∙ c.in-Some.is in
    let refused : c.in_ok-take_record.field-0 ≡ false = search rules in
    let other = subst (λ (x : CharterState). IsNext (g.M.Maker.made x) c.loop-at.store.rows c.in-Some.next → ⊥) inv.1 (c.in_ok-take_record.ensures.other refused) in
    let here : c.loop-at.at ≡ at = cc in
    subst (λ (n : ℕ). IsForeign c.args.devices entries c.args.octets.now n) here (with_another c.args.devices entries c.args.octets.now c.loop-at.at c.loop-at.store.rows inv.0 c.loop-at-test.true c.in-Some.next some other)

pub returns-clause-ends : goal.returns-clause-ends
returns-clause-ends g c = ended c.args.devices (g.M.Maker.made c.args.store.now.charter) c.args.octets.now c.loop-at.at c.loop-at.store.rows c.loop-at.invariant.0 c.loop-at-test.false

pub returns-clause-rows : goal.returns-clause-rows
returns-clause-rows g c = rows_are c.args.devices (g.M.Maker.made c.args.store.now.charter) c.args.octets.now c.loop-at.at c.loop-at.store.rows c.loop-at.invariant.0 c.loop-at-test.false

pub returns-clause-log : goal.returns-clause-log
returns-clause-log g c = log_is c.args.devices (g.M.Maker.made c.args.store.now.charter) c.args.octets.now c.loop-at.at c.loop-at.store.rows c.loop-at.invariant.0 c.loop-at-test.false

pub returns-clause-exact : goal.returns-clause-exact
returns-clause-exact g c = λ at.
    let entries = g.M.Maker.made c.args.store.now.charter in
    not_foreign c.args.devices entries c.args.octets.now c.loop-at.at at
    (ended c.args.devices entries c.args.octets.now c.loop-at.at c.loop-at.store.rows c.loop-at.invariant.0 c.loop-at-test.false)
    (rows_are c.args.devices entries c.args.octets.now c.loop-at.at c.loop-at.store.rows c.loop-at.invariant.0 c.loop-at-test.false).fit
