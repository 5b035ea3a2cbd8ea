use Rattle.report_text.specs.Calls.{gateway_wire, server_wire}
use Rattle.echo_run.proofs.Callers.{all_call, gateway_caller, server_caller}
use Rattle.echo_run.proofs.calls.callers.Goals as goal

pub finals_of-requires : goal.finals_of-requires
finals_of-requires c = c.in_ok-admitted.ensures.short

pub returns-clause-gateway : goal.returns-clause-gateway
returns-clause-gateway c = all_call gateway_wire gateway_caller _ _ _ _ _ c.in_ok-admitted.ensures c.table.ensures.value c.finals_of.ensures

pub returns-clause-server : goal.returns-clause-server
returns-clause-server c = all_call server_wire server_caller _ _ _ _ _ c.in_ok-admitted.ensures c.table.ensures.value c.finals_of.ensures
