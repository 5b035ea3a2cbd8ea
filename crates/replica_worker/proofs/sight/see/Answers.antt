use Rattle.std.proofs.Common.{◌≡◌, refl, sym, ap, ◌∙◌, subst, inl, inr}
use Rattle.replica_worker.specs.declared.sight.Sight.{Sight}
use Rattle.replica_worker.specs.Cache.{AreSessionsOf}
use Rattle.replica_worker.specs.Replica.{sight_in, Sees, MayCount}
use Rattle.replica_worker.proofs.Cached.{begins_trans, reads_behind, sufficing_is, sight_is, on_ok, at_err}
use Rattle.session_store.specs.Seen.{seen_of}
use Rattle.replica_worker.proofs.sight.see.Goals as goal

pub returns-in_err-seen-clause-extends : goal.returns-in_err-seen-clause-extends
returns-in_err-seen-clause-extends g c = λ i.
    begins_trans (g.S.RowStore.known c.args.store.now i) (g.S.RowStore.known c.peek.new.self i) (g.S.RowStore.known c.read.new.self i) (c.in_ok-peeked.ensures.extends i) (c.in_err-seen.ensures.extends i)

pub returns-in_err-seen-clause-err : goal.returns-in_err-seen-clause-err
returns-in_err-seen-clause-err g c =
    let d = c.args.d in
    let before = c.args.store.now in
    let now = c.read.new.self in
    at_err (MayCount c.args.cache.now d c.args.input.now (g.S.RowStore.known before d.0) (g.S.RowStore.known now d.0) (g.S.RowStore.reads before) (g.S.RowStore.reads now)) c.from_residual-in_err-seen.result
    (inr (reads_behind (c.in_ok-peeked.ensures.extends c.args.d.0) c.asked_of.ensures c.in_ok-peeked.ensures.ok c.in-Ready.is c.in_default-session.ensures c.in_ok-peeked.ensures.uncounted (c.in_err-seen.ensures.extends c.args.d.0) c.in_err-seen.ensures.counted))

pub returns-in_default-session-clause-extends : goal.returns-in_default-session-clause-extends
returns-in_default-session-clause-extends g c = λ i.
    begins_trans (g.S.RowStore.known c.args.store.now i) (g.S.RowStore.known c.peek.new.self i) (g.S.RowStore.known c.read.new.self i) (c.in_ok-peeked.ensures.extends i) (c.in_ok-seen.ensures.extends i)

pub returns-in_default-session-clause-ok : goal.returns-in_default-session-clause-ok
returns-in_default-session-clause-ok g c =
    let d = c.args.d in
    let before = c.args.store.now in
    let now = c.read.new.self in
    let told = c.in_ok-seen.ensures.ok ∙ ap (seen_of (g.S.RowStore.known now d.0)) c.asked_of-in_default-session.ensures in
    on_ok (λ (s : Sight). s ≡ sight_in c.args.row.now d c.args.input.now c.in_ok-seen.seen)
    (λ (s : Sight). Sees c.args.cache.now c.args.row.now d c.args.input.now (g.S.RowStore.known before d.0) (g.S.RowStore.known now d.0) (g.S.RowStore.reads before) (g.S.RowStore.reads now) s) c.sight_in.result
    (λ s e. inr (reads_behind (c.in_ok-peeked.ensures.extends c.args.d.0) c.asked_of.ensures c.in_ok-peeked.ensures.ok c.in-Ready.is c.in_default-session.ensures c.in_ok-peeked.ensures.uncounted (c.in_ok-seen.ensures.extends c.args.d.0) c.in_ok-seen.ensures.counted, e ∙ ap (sight_in c.args.row.now d c.args.input.now) told)) c.sight_in.ensures

pub returns-in_default-session-clause-err : goal.returns-in_default-session-clause-err
returns-in_default-session-clause-err g c =
    let d = c.args.d in
    let before = c.args.store.now in
    let now = c.read.new.self in
    at_err (MayCount c.args.cache.now d c.args.input.now (g.S.RowStore.known before d.0) (g.S.RowStore.known now d.0) (g.S.RowStore.reads before) (g.S.RowStore.reads now)) c.sight_in.result
    (inr (reads_behind (c.in_ok-peeked.ensures.extends c.args.d.0) c.asked_of.ensures c.in_ok-peeked.ensures.ok c.in-Ready.is c.in_default-session.ensures c.in_ok-peeked.ensures.uncounted (c.in_ok-seen.ensures.extends c.args.d.0) c.in_ok-seen.ensures.counted))

pub returns-clause-ok : goal.returns-clause-ok
returns-clause-ok g c =
    let d = c.args.d in
    let now = c.peek.new.self in
    let journal = g.S.RowStore.known now d.0 in
    let cache = c.args.cache.now in
    let peeked = c.in_ok-peeked.peeked in
    let all = subst (λ x. AreSessionsOf x cache) (sym c.in_ok-peeked.ensures.charter) c.requires.remembers in
    inl (
      record {
        enough = sufficing_is cache d c.args.input.now journal c.asked_of.result peeked c.in-Some.session.now c.asked_of.ensures c.in_ok-peeked.ensures.ok c.in-Ready.is c.in-Some.ensures;
        uncounted = c.in_ok-peeked.ensures.uncounted;
        same = refl;
      },
      sight_is (g.S.RowStore.charter now) cache c.args.row.now d c.args.input.now journal c.asked_of.result peeked c.in-Some.session.now c.in_ok-step.step c.asked_of.ensures c.in_ok-peeked.ensures.ok c.in-Ready.is c.in-Some.ensures all c.in_ok-peeked.ensures.lawful
          c.in_ok-step.ensures.step,
    )
