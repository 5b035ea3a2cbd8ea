use Rattle.std.proofs.Common.{◌∙◌, arith}
use Rattle.epoch_agents.proofs.KeptLaws.{heard_found, heard_beyond, heard_before}
use Rattle.epoch_agents.proofs.heard.heard_at.Goals as goal

pub returns-in_err-index : goal.returns-in_err-index
returns-in_err-index c = c.from_residual.ensures ∙ heard_before c.args.turns.now c.args.i (omega (arith, c.in_err-index.ensures))

pub returns-in_err-turn : goal.returns-in_err-turn
returns-in_err-turn c = c.from_residual-in_err-turn.ensures ∙ heard_beyond c.args.turns.now c.args.i (omega (arith, c.in_err-turn.ensures.lookup.3, c.in_ok-index.ensures.0, c.in_ok-index.ensures.1))

pub returns : goal.returns
returns c = c.heard_of.ensures ∙ heard_found c.args.turns.now c.in_ok-index.index c.args.i c.in_ok-turn.turn.now (omega (arith, c.in_ok-index.ensures.0, c.in_ok-index.ensures.1)) c.in_ok-turn.ensures.lookup.3.0 c.in_ok-turn.ensures.lookup.1
