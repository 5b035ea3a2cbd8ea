use Rattle.std.proofs.Common.{◌≡◌, ◌∙◌, ℕ, ap, arith, map}
use Rattle.std.specs.List.{range_with_len}
use Rattle.session_store.specs.Charter.{follows_alone}
use Rattle.session_store.specs.Law.{IsLawful}
use Rattle.pool_ends.specs.Ends.{end_in}
use Rattle.pool_ends.proofs.Calls.{one_more}
use Rattle.pool_ends.proofs.Wholes.{end_more, finals_are}
use Rattle.pool_ends.proofs.ends.finals.Goals as goal

pub loop-index-preserved : goal.loop-index-preserved
loop-index-preserved g c =
    let index = c.loop-index.index in
    let journal = g.T.SharedRows.journal c.args.closed.now in
    let low = c.loop-index-test.true in
    record {
      ends = end_more journal index c.journal-journal.result.now c.in_ok-end_of.field-0 c.loop-index.finals c.push.new.self c.journal-journal.ensures.value c.in_ok-end_of.ensures c.loop-index.invariant.ends c.in_ok-push.ensures.ok;
      lawful = λ charter d closes same within.
          one_more (λ (i : ℕ). IsLawful (follows_alone charter i) (journal i)) index (λ i here. c.loop-index.invariant.lawful charter i closes same here)
          (c.journal-journal.ensures.lawful charter closes (omega arith, omega (arith, low, same))) d within;
    }

pub returns-clause-whole : goal.returns-clause-whole
returns-clause-whole g c = λ charter each same whole.
    let journal = g.T.SharedRows.journal c.args.closed.now in
    let most = c.loop-index.auto.index-end in
    let past = c.loop-index-test.false in
    let all : c.loop-index.index ≡ c.args.devices = omega (arith, most, past) in
    c.loop-index.invariant.ends ∙ (ap (λ n. map (λ d. end_in (journal d)) (range_with_len 1 n)) all ∙ finals_are charter c.args.devices journal each same whole)
