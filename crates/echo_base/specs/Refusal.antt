-- The text of a refusal.
use Rattle.std.specs.Prelude.{ℕ, List, ◌++◌, codes}
use Rattle.std.specs.Fmt.{decimal}
use Rattle.echo_base.specs.Reason.{reason_number, reason_name, detail_of}
use Rattle.echo_base.specs.declared.refusal.Refusal.{Refusal}

-- the reason's number and name, and what stands behind them
abbrev pub refusal_text : Refusal → List ℕ
refusal_text r = decimal (reason_number r.reason) ++ codes " " ++ reason_name r.reason ++ detail_of r.reason r.place
