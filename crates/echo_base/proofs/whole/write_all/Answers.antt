use Rattle.std.proofs.Common.{take, drop, sym, ◌∙◌, rules, arith}
use Rattle.std.proofs.lemmas.Grind.{common_steps}
use Rattle.echo_base.specs.Outside.{IsPut}
use Rattle.std.proofs.lemmas.List.{take-append-drop}
use Rattle.std.proofs.Math.Seq.{take-add}
use Rattle.echo_base.proofs.Taking.{IsPut-more}
use Rattle.echo_base.proofs.whole.write_all.Goals as goal

-- the octets that this write took are the next ones
pub loop-done-preserved : goal.loop-done-preserved
loop-done-preserved g c =
    let bytes = c.args.bytes.now in
    let done = c.loop-done.done in
    let n = c.in-Took.n in
    let octets : IsPut (g.K.Sink.held c.loop-done.out) (take n (drop done bytes)) (g.K.Sink.held c.write.new.self) = grind (arith, common_steps, c.in-Took.ensures.octets) in
    record {
      within = search rules;
      put = rw (take-add done n bytes) (IsPut-more _ _ _ _ _ c.loop-done.invariant.put octets);
      untouched = λ none. absurd (omega (arith, c.in-Took.ensures.took));
      quiet = c.in-Took.ensures.quiet ∙ c.loop-done.invariant.quiet;
    }

-- what was put before the fault, and what was not
pub returns-in-Failed-clause-front : goal.returns-in-Failed-clause-front
returns-in-Failed-clause-front g c =
    let bytes = c.args.bytes.now in
    let done = c.loop-done.done in
    (take done bytes, drop done bytes, sym (take-append-drop done bytes), c.in-Failed.ensures.untaken ∙ c.loop-done.invariant.put)
