use Rattle.std.proofs.Common.{ap, ◌∙◌}
use Rattle.peer_gateway.specs.Counted.{calls_in}
use Rattle.peer_gateway.proofs.Counting.{calls_in_none}
use Rattle.peer_gateway.proofs.gateway.Gateway.new.Goals as goal

pub returns : goal.returns
returns c = ap calls_in c.in_ok-new.ensures ∙ calls_in_none c.args.devices
