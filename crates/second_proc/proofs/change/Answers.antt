-- The copy of the session that the step shares is that session.
use Rattle.std.proofs.Common.{rules, ◌≡◌, refl}
use Rattle.device_types.specs.Acts.{made}
use Rattle.second_proc.proofs.change.Goals as goal

pub returns : goal.returns
returns c =
    let same : c.in_ok-session.session ≡ c.args.step.session = search rules in
    let step : made c.in_ok-session.session c.args.step.effects ≡ c.args.step = rw same refl in
    search (rules, step)
