use Rattle.std.proofs.Common.{◌-◌, ◌≤◌, length, get_or, ap, ◌∙◌, arith}
use Rattle.device_types.specs.declared.effect.GwCall.TheVariants as gateway
use Rattle.peer_calls.specs.Calls.{calls_of}
use Rattle.peer_gateway.specs.declared.counted.Counted.{Counted}
use Rattle.peer_gateway.proofs.Counting.{creates_few, said_again, done_counted, kept_at}
use Rattle.peer_gateway.proofs.gateway.Gateway.answer.Goals as goal

pub bounds-calls-k : goal.bounds-calls-k
bounds-calls-k c =
    let same = ap length c.calls.ensures in
    let count = done_counted c.self.inside.done _ c.args.row.now.number c.self.view_is in
    let low = c.requires.number in
    let high = c.requires.accepted in
    omega arith

-- the first variant of a call, which is read where there is none
abbrev none : Counted
none = record { call = gateway.Create; creates = 0 }

pub answer-requires : goal.answer-requires
answer-requires c =
    let calls = calls_of c.self.inside.done c.args.row.now.number in
    let kept = kept_at c.self.inside.done _ c.calls.result.now c.args.row.now.number c.args.k none c.self.view_is c.calls.ensures c.requires.number c.requires.accepted in
    let few = creates_few calls (c.args.k - 1) (get_or c.calls.result.now (c.args.k - 1) none) (c.self.invariant c.args.row.now.number) kept in
    let teid = c.requires.tunnel in
    let most = c.requires.count in
    omega arith

pub returns : goal.returns
returns c =
    c.answer.ensures
    ∙ said_again c.args.row.now c.self.inside.done _ c.args.k (get_or c.calls.result.now (c.args.k - 1) none) c.self.view_is c.requires.number (c.self.invariant c.args.row.now.number)
    (kept_at c.self.inside.done _ c.calls.result.now c.args.row.now.number c.args.k none c.self.view_is c.calls.ensures c.requires.number c.requires.accepted)
