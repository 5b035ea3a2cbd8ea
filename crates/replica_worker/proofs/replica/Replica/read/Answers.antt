use Rattle.std.proofs.Common.{◌≡◌, Some, IsSomeAnd, rules, refl, sym, subst, ap, ◌∙◌, arith}
use Rattle.std.proofs.lemmas.Grind.{common_steps}
use Rattle.replica_worker.specs.Cache.{AreSessionsOf, noted}
use Rattle.replica_worker.specs.Hands.{held_in, CanBeRead, hand_after}
use Rattle.replica_worker.specs.Replica.{ReplicaState}
use Rattle.replica_worker.proofs.Cached.{sees_peeked, sees_fresh}
use Rattle.replica_worker.proofs.May.{asked_in, may_read}
use Rattle.session_store.specs.declared.asked.Peeked.{Peeked}
use Rattle.session_store.specs.Seen.{asked_of, repeated_reply}
use Rattle.session_store.proofs.Repeats.{repeat_told}
use Rattle.replica_worker.proofs.replica.Replica.read.Goals as goal

pub returns-clause-told : goal.returns-clause-told
returns-clause-told g c =
    let d = c.in-Some.d in
    let input = c.in-Some.input.now in
    let before = c.args.store.now in
    let store = c.see.new.store in
    let journal = g.S.RowStore.known store d.0 in
    let sight = c.in_ok-peeked.field-0 in
    let held : held_in c.args.self.now.hand ≡ Some (d, input) = search rules in
    let asked = asked_in (g.S.RowStore.devices before) (held_in c.args.self.now.hand) d input (asked_of input) held refl c.requires.held in
    let seen = (sees_peeked c.self.inside.cache c.args.row.now d input (g.S.RowStore.known before d.0) journal (g.S.RowStore.reads before) (g.S.RowStore.reads store) sight c.in_ok-peeked.ensures.ok).0 in
    let look = ap (λ (p : Peeked). p.look) seen in
    let reply = ap (λ (p : Peeked). p.reply) seen in
    repeat_told journal (asked_of input) sight.peeked.look sight.peeked.reply asked look (reply ∙ ap (repeated_reply journal) (sym look))

pub returns-clause-may : goal.returns-clause-may
returns-clause-may g c = λ owns.
    let d = c.in-Some.d in
    let store = c.see.new.store in
    let held : held_in c.args.self.now.hand ≡ Some (d, c.in-Some.input.now) = search rules in
    let hand : IsSomeAnd (held_in c.args.self.now.hand) (λ h. c.self-2.inside.hand ≡ hand_after c.args.row.now h.0 h.1 (g.S.RowStore.known store h.0.0)) = first_of (search rules, grind (arith, common_steps)) in
    let can = subst (λ n. CanBeRead n (held_in c.args.self.now.hand)) (sym c.in_ok-peeked.ensures.devices) c.requires.held in
    may_read (g.S.RowStore.charter store) (g.S.RowStore.devices store) (g.S.RowStore.known store) c.args.row.now (held_in c.args.self.now.hand) d c.in-Some.input.now c.self-2.inside.hand held can c.in_ok-peeked.ensures.lawful hand owns

pub returns-clause-remembers : goal.returns-clause-remembers
returns-clause-remembers g c =
    let d = c.in-Some.d in
    let before = c.args.store.now in
    let store = c.see.new.store in
    let charter = g.S.RowStore.charter store in
    let cache = c.self.inside.cache in
    let sight = c.in_ok-peeked.field-0 in
    let was : cache ≡ c.args.self.now.cache = ap (λ (r : ReplicaState). r.cache) c.self.view_is in
    let same : c.self-2.inside.cache ≡ cache = ap (λ (r : ReplicaState). r.cache) (c.self-2.view_is ∙ c.hold.ensures) in
    let all = subst (λ x. AreSessionsOf x cache) (sym c.in_ok-peeked.ensures.charter) (subst (AreSessionsOf (g.S.RowStore.charter before)) (sym was) c.requires.remembers) in
    subst (AreSessionsOf charter) (sym (c.note.ensures ∙ ap (λ cs. noted cs sight.fresh) same))
    (sees_fresh charter cache c.args.row.now d c.in-Some.input.now (g.S.RowStore.known before d.0) (g.S.RowStore.known store d.0) (g.S.RowStore.reads before) (g.S.RowStore.reads store) sight all c.in_ok-peeked.ensures.lawful c.in_ok-peeked.ensures.ok)
