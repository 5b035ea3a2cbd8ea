use Rattle.std.proofs.Common.{◌-◌, ap, ◌∙◌}
use Rattle.crash_run.proofs.Made.{or_none, each_at}
use Rattle.crash_run.proofs.maker.AloneMaker.entries.Goals as goal

pub returns-in-Some : goal.returns-in-Some
returns-in-Some c = c.items.ensures ∙ ap or_none c.in-Some.ensures ∙ each_at c.args.self.now.rows c.args.self.now.lines (c.args.d.0 - 1)

pub returns-in-None : goal.returns-in-None
returns-in-None c = ap or_none c.in-None.ensures ∙ each_at c.args.self.now.rows c.args.self.now.lines (c.args.d.0 - 1)
