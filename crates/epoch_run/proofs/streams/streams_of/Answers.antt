use Rattle.std.proofs.Common.{[], arith, rules}
use Rattle.epoch_run.specs.Streams.{streams_behind}
use Rattle.epoch_run.proofs.StreamLaws.{cut_more}
use Rattle.epoch_run.proofs.streams.streams_of.Goals as goal

pub loop-index-preserved : goal.loop-index-preserved
loop-index-preserved c =
    let before = c.loop-index in
    let message = c.index-messages-index.result in
    record {
      streams = cut_more c.args.messages.now before.index message message before.streams.items c.put_stream.new.streams.items (streams_behind [] c.args.messages.now) c.in_ok-put_stream.ensures.streams c.loop-index-test.true (search rules) before.invariant.streams;
      counts = c.in_ok-put_stream.ensures.counts;
      few = omega (arith, c.in_ok-put_stream.ensures.few, before.invariant.few);
    }
