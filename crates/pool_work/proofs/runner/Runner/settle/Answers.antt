use Rattle.std.proofs.Common.{rules, ◌≡◌, ◌-◌, ◌∙◌, Some, ap, subst, sym}
use Rattle.std.specs.Prelude.{slice_get}
use Rattle.device_types.specs.declared.look.Look.TheVariants.{Ready}
use Rattle.session_store.specs.declared.asked.Peeked.{Peeked}
use Rattle.session_store.specs.Charter.{CharterState}
use Rattle.pool_ends.specs.Ends.{IsWhole}
use Rattle.pool_work.proofs.Wholes.{whole_when}
use Rattle.pool_work.proofs.runner.Runner.settle.Goals as goal

pub returns-in_default-clause-whole : goal.returns-in_default-clause-whole
returns-in_default-clause-whole g c =
    let d = c.args.d.0 in
    let ms = c.messages_of.result.now in
    let known = (g.T.SharedRows.known c.peek.new.self.seat d).journal in
    let charter = g.T.SharedRows.charter c.peek.new.self.rows in
    let same : charter ≡ g.T.SharedRows.charter c.args.store.now.rows = c.in_ok-look.ensures.charter ∙ ap g.T.SharedRows.charter c.loop.invariant.store.same in
    let line = subst (λ (b : CharterState). slice_get b.lines (d - 1) ≡ Some ms) (c.requires.charter ∙ sym same) c.messages_of.ensures.line in
    let look : c.in_ok-look.field-0.look ≡ Ready = (search rules) in
    let told = ap (λ (p : Peeked). p.look) c.in_ok-look.ensures.ok in
    subst (λ (b : CharterState). IsWhole b d known) (same ∙ sym c.requires.peers) (whole_when charter d known ms line (sym told ∙ look))
