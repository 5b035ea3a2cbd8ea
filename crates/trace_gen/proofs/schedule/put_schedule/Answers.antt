use Rattle.std.proofs.Common.{◌≡◌, ◌+◌, ◌-◌, [], take, drop, set, get_or, replicate, refl, sym, ap, subst, ◌∙◌}
use Rattle.trace_gen.specs.Draws.{next_state, value, drawn}
use Rattle.trace_gen.specs.Made.{events_text}
use Rattle.trace_gen.specs.Schedule.{sent_events, schedule_behind}
use Rattle.trace_gen.specs.State.{none, AreCounts}
use Rattle.trace_gen.proofs.Counting.{none_counted}
use Rattle.trace_gen.proofs.Steps.{state_more, joined, no_sent, room_messages, room_gateway, room_subscriber, step_text, step_counts}
use Rattle.trace_gen.proofs.schedule.put_schedule.Goals as goal

pub loop-sent-init : goal.loop-sent-init
loop-sent-init c =
    let a = c.deref_mut-counts.ensures.value in
    let b = c.in_ok-counts.ensures in
    let e : c.deref_mut-counts.result.now ≡ replicate c.args.devices none = cc in
    record { text = refl; state = refl; counts = subst (λ all. AreCounts c.args.devices [] all) (sym e) (none_counted c.args.devices) }

pub put_next-requires-clause-messages : goal.put_next-requires-clause-messages
put_next-requires-clause-messages c = room_messages c.args.devices c.args.trace.now c.loop-sent.sent-index c.loop-sent.counts c.requires.devices c.requires.few c.loop-sent-test.true c.loop-sent.invariant.counts

pub put_next-requires-clause-gateway : goal.put_next-requires-clause-gateway
put_next-requires-clause-gateway c = room_gateway c.args.devices c.args.trace.now c.loop-sent.sent-index c.loop-sent.counts c.requires.devices c.requires.few c.loop-sent-test.true c.loop-sent.invariant.counts

pub put_next-requires-clause-subscriber : goal.put_next-requires-clause-subscriber
put_next-requires-clause-subscriber c = room_subscriber c.args.devices c.args.trace.now c.loop-sent.sent-index c.loop-sent.counts c.requires.devices c.requires.few c.loop-sent-test.true c.loop-sent.invariant.counts

pub loop-sent-preserved : goal.loop-sent-preserved
loop-sent-preserved c =
    let first = c.args.draws.now.state in
    let i = c.loop-sent.sent-index in
    let v : c.draw.result ≡ drawn first 2 i = c.draw.ensures.value ∙ ap (λ x. value 2 (next_state x)) c.loop-sent.invariant.state in
    let text = step_text c.args.devices c.args.trace.now i c.loop-sent.counts c.requires.devices c.requires.few c.loop-sent-test.true c.loop-sent.invariant.counts first c.draw.result v in
    record {
      text = joined _ _ _ _ _ _ c.in_ok-put_next.ensures.text text c.loop-sent.invariant.text;
      state = c.draw.ensures.state ∙ ap next_state c.loop-sent.invariant.state ∙ sym (state_more first i);
      counts = subst (λ all. AreCounts c.args.devices (take (i + 1) c.args.trace.now) all) (sym c.in_ok-put_next.ensures.counts) (step_counts c.args.devices c.args.trace.now i c.loop-sent.counts c.requires.devices c.requires.few c.loop-sent-test.true c.loop-sent.invariant.counts);
    }
