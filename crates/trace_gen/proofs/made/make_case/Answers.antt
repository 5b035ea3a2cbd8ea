use Rattle.std.proofs.Common.{◌≡◌, ◌<◌, ◌≤◌, length, sym, subst, arith}
use Rattle.std.specs.Prelude.{All}
use Rattle.device_types.specs.Numbers.{IsWithin}
use Rattle.trace_gen.specs.Trace.{made_trace}
use Rattle.trace_gen.proofs.Ranges.{few_devices}
use Rattle.trace_gen.proofs.Within.{all_devices, device_within, trace_few}
use Rattle.trace_gen.proofs.made.make_case.Goals as goal

pub put_trace-requires : goal.put_trace-requires
put_trace-requires c =
    let a = c.deref.ensures.value in
    let b = c.in_ok-trace.ensures.trace in
    let e : c.deref.result.now ≡ made_trace c.from.result c.args.devices c.args.rounds = cc in
    record { devices = subst (All (λ s. s.device < 16777216)) (sym e) (all_devices (λ d. d < 16777216) c.from.result c.args.devices c.args.rounds (λ visit. let w = device_within c.args.devices visit c.requires.some in omega (arith, w.1, few_devices c.args.devices c.args.rounds c.requires.few))) }

pub put_schedule-requires-clause-devices : goal.put_schedule-requires-clause-devices
put_schedule-requires-clause-devices c =
    let a = c.deref-2.ensures.value in
    let b = c.in_ok-trace.ensures.trace in
    let e : c.deref-2.result.now ≡ made_trace c.from.result c.args.devices c.args.rounds = cc in
    subst (All (λ s. IsWithin c.args.devices s.device)) (sym e) (all_devices (IsWithin c.args.devices) c.from.result c.args.devices c.args.rounds (λ visit. device_within c.args.devices visit c.requires.some))

pub put_schedule-requires-clause-few : goal.put_schedule-requires-clause-few
put_schedule-requires-clause-few c =
    let a = c.deref-2.ensures.value in
    let b = c.in_ok-trace.ensures.trace in
    let e : c.deref-2.result.now ≡ made_trace c.from.result c.args.devices c.args.rounds = cc in
    subst (λ t. length t < 4294967296) (sym e) (trace_few c.from.result c.args.devices c.args.rounds c.requires.few)
