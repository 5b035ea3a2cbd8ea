use Rattle.std.proofs.Common.{◌≡◌, Some, sym, ap, ◌∙◌, subst}
use Rattle.replica_worker.specs.declared.hand.Hand.{Hand}
use Rattle.replica_worker.specs.declared.hand.Hand.TheVariants as hands
use Rattle.replica_worker.specs.Cache.{AreSessionsOf, cached_when, written_session}
use Rattle.replica_worker.specs.Replica.{ReplicaState}
use Rattle.replica_worker.specs.Replies.{told_in, reply_when}
use Rattle.replica_worker.specs.Writes.{written_reply}
use Rattle.replica_worker.proofs.Answered.{reply_is}
use Rattle.replica_worker.proofs.Cached.{IsFresh, noted_all, written_fresh}
use Rattle.replica_worker.proofs.replica.Replica.commit.Goals as goal

pub returns-in-Ok-clause-reply : goal.returns-in-Ok-clause-reply
returns-in-Ok-clause-reply g c =
    let d = c.in-Ready.d in
    let version = c.in-Ready.version in
    let entry = c.in-Ready.entry in
    let charter = g.S.RowStore.charter c.commit.new.self in
    let known = g.S.RowStore.known c.commit.new.self in
    let commit = c.in-Ok.commit in
    let was = ap (λ (r : ReplicaState). r.hand) c.self.view_is in
    let hand : c.args.self.now.hand ≡ hands.Ready d version entry = sym was ∙ sym c.in-Ready.ensures.value in
    ap (λ (h : Hand). reply_when (told_in h) commit) hand
    ∙ reply_is charter d.0 version (known d.0) entry commit c.in-Ok.ensures.in_form c.in-Ok.ensures.lawful c.in-Ok.ensures.ok
    ∙ sym (ap (λ (h : Hand). written_reply h known commit) hand)

pub returns-in-Ok-clause-remembers : goal.returns-in-Ok-clause-remembers
returns-in-Ok-clause-remembers g c =
    let d = c.in-Ready.d in
    let version = c.in-Ready.version in
    let entry = c.in-Ready.entry in
    let store = c.commit.new.self in
    let charter = g.S.RowStore.charter store in
    let cache = c.self.inside.cache in
    let commit = c.in-Ok.commit in
    let session : c.in_ok-session.session ≡ Some entry.step.session = c.in_ok-session.ensures ∙ ap written_session (sym c.in-Ready.ensures.value) in
    let fresh : c.cached_when.result ≡ cached_when d (Some entry.step.session) commit = c.cached_when.ensures ∙ ap (λ s. cached_when d s commit) session in
    let all = subst (λ x. AreSessionsOf x cache) (sym c.in-Ok.ensures.charter) (subst (AreSessionsOf (g.S.RowStore.charter c.args.store.now)) (sym (ap (λ (r : ReplicaState). r.cache) c.self.view_is)) c.requires.remembers) in
    subst (AreSessionsOf charter) (sym c.note.ensures)
    (noted_all charter cache c.cached_when.result all (subst (IsFresh charter) (sym fresh) (written_fresh charter d version (g.S.RowStore.known store d.0) entry commit c.in-Ok.ensures.lawful c.in-Ok.ensures.ok)))
