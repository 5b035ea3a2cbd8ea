-- What a replica remembers are sessions of its store's journals.
use Rattle.std.proofs.Common.{◌≡◌, ◌==◌, ℕ, ◌+◌, ◌-◌, ◌<◌, Bool, true, false, cond, ⊎_elim, List, [], ◌∷◌, ◌++◌, length, take, drop, get_or, Option, Some, None, refl, sym, ap, ◌∙◌, subst, append_assoc}
use Rattle.std.specs.Prelude.{IfOk, OnErr, Result, Ok, Err}
use Rattle.std.proofs.lemmas.Bool.{and_parts, eqb-true}
use Rattle.std.proofs.lemmas.List.{take_more, take-append-drop}
use Rattle.std.proofs.lemmas.List.Elements.{All-head, All-tail, All-push, All-drop}
use Rattle.device_types.specs.declared.input.Input.{Input}
use Rattle.device_types.specs.declared.look.Look.{Look}
use Rattle.device_types.specs.declared.look.Look.TheVariants as looks
use Rattle.device_types.specs.declared.session.Session.{Session}
use Rattle.device_types.specs.declared.step.Entry.{Entry}
use Rattle.device_types.specs.declared.step.Step.{Step}
use Rattle.device_types.specs.declared.subscriber.DeviceId.{DeviceId}
use Rattle.device_types.specs.declared.subscriber.Subscriber.{Subscriber}
use Rattle.device_types.specs.Journal.{version_of, session_of}
use Rattle.device_types.specs.StepTable.{step_of}
use Rattle.device_types.proofs.Journals.{session_more}
use Rattle.replica_worker.specs.declared.cache.CachedSession.{CachedSession}
use Rattle.replica_worker.specs.Cache.{cache_size, is_of, session_in, IsSessionOf, AreSessionsOf, lacks, must_read, fresh_at, noted, ReadsBehind, cached_when}
use Rattle.replica_worker.specs.declared.sight.Sight.{Sight}
use Rattle.replica_worker.specs.Hands.{step_at}
use Rattle.replica_worker.specs.Replica.{sight_peeked, Sees}
use Rattle.replica_worker.proofs.Answered.{last_apart}
use Rattle.session_row.specs.declared.commit.Commit.{Commit}
use Rattle.session_row.specs.declared.commit.Commit.TheVariants.{Committed, Stale}
use Rattle.session_store.specs.declared.asked.Asked.{Asked}
use Rattle.session_store.specs.declared.asked.Peeked.{Peeked}
use Rattle.session_store.specs.AloneLaw.{lawful_is_alone}
use Rattle.session_store.specs.Charter.{CharterState, alone_in, follows_alone}
use Rattle.session_store.specs.Law.{IsLawful}
use Rattle.session_store.specs.Rows.{one_more, Begins, IsKnownAfter}
use Rattle.session_store.specs.Seen.{asked_of, look_to, peeked_of}

-- ---- what is found

found_by : (charter : CharterState) (cached : CachedSession) (d : DeviceId) (version : ℕ) (session : Session) (b : Bool) (rest : Option Session) → is_of d version cached ≡ b → IsSessionOf charter cached → (rest ≡ Some session → session ≡ session_of (take version (alone_in charter d.0))) → cond b (Some cached.session) rest ≡ Some session → session ≡ session_of (take version (alone_in charter d.0))
found_by charter cached d version session true rest is own more e =
    let parts = and_parts (cached.d.0 == d.0) (cached.version == version) is in
    let device : cached.d.0 ≡ d.0 = eqb-true cached.d.0 d.0 parts.0 in
    let place : cached.version ≡ version = eqb-true cached.version version parts.1 in
    let same : cached.session ≡ session = cc in
    sym same ∙ own ∙ ap (λ n. session_of (take n (alone_in charter cached.d.0))) place ∙ ap (λ n. session_of (take version (alone_in charter n))) device
found_by charter cached d version session false rest is own more e = more e

found_in : (charter : CharterState) (cache : List CachedSession) (d : DeviceId) (version : ℕ) (session : Session) → AreSessionsOf charter cache → session_in cache d version ≡ Some session → session ≡ session_of (take version (alone_in charter d.0))
found_in charter [] d version session all e = absurd (cc)
found_in charter (cached ∷ cache) d version session all e =
    found_by charter cached d version session (is_of d version cached) (session_in cache d version) refl (All-head (IsSessionOf charter) cached cache all)
    (found_in charter cache d version session (All-tail (IsSessionOf charter) cached cache all)) e

-- the session of a lawful journal is that of the first so many entries of Alone
own_session : (charter : CharterState) (d : ℕ) (journal : List Entry) → IsLawful (follows_alone charter d) journal → session_of journal ≡ session_of (take (version_of journal) (alone_in charter d))
own_session charter d journal l = ap session_of (sym (lawful_is_alone charter d journal l))

-- what is remembered of a journal's version is its session
pub remembered_is : (charter : CharterState) (cache : List CachedSession) (d : DeviceId) (journal : List Entry) (session : Session) → AreSessionsOf charter cache → IsLawful (follows_alone charter d.0) journal → Some session ≡ session_in cache d (version_of journal) → session ≡ session_of journal
remembered_is charter cache d journal session all l e = found_in charter cache d (version_of journal) session all (sym e) ∙ sym (own_session charter d.0 journal l)

-- ---- two lists of sessions

-- a session that is in neither, or else in the first of the two that has one
pub either : Option Session → Option Session → Option Session
either None newer = newer
either (Some session) newer = Some session

either_more : (b : Bool) (session : Session) (older newer : Option Session) → cond b (Some session) (either older newer) ≡ either (cond b (Some session) older) newer
unfolding either
either_more true session older newer = refl
either_more false session older newer = refl

in_both : (older newer : List CachedSession) (d : DeviceId) (version : ℕ) → session_in (older ++ newer) d version ≡ either (session_in older d version) (session_in newer d version)
unfolding either
in_both [] newer d version = refl
in_both (cached ∷ older) newer d version =
    ap (λ o. cond (is_of d version cached) (Some cached.session) o) (in_both older newer d version)
    ∙ either_more (is_of d version cached) cached.session (session_in older d version) (session_in newer d version)

pub in_older : (all older newer : List CachedSession) (d : DeviceId) (version : ℕ) (session : Session) → older ++ newer ≡ all → Some session ≡ session_in older d version → Some session ≡ session_in all d version
unfolding either
in_older all older newer d version session parts e = sym (ap (λ cache. session_in cache d version) (sym parts) ∙ in_both older newer d version ∙ ap (λ o. either o (session_in newer d version)) (sym e))

pub in_newer : (all older newer : List CachedSession) (d : DeviceId) (version : ℕ) (found : Option Session) → older ++ newer ≡ all → None ≡ session_in older d version → found ≡ session_in newer d version → found ≡ session_in all d version
unfolding either
in_newer all older newer d version found parts none e = e ∙ sym (ap (λ cache. session_in cache d version) (sym parts) ∙ in_both older newer d version ∙ ap (λ o. either o (session_in newer d version)) (sym none))

-- no session among these and one more
pub none_more : (sessions : List CachedSession) (i : ℕ) (cached : CachedSession) (d : DeviceId) (version : ℕ) → session_in (take i sessions) d version ≡ None → i < length sessions → cached ≡ get_or sessions i cached → is_of d version cached ≡ false → session_in (take (i + 1) sessions) d version ≡ None
unfolding either
none_more sessions i cached d version none within at apart =
    ap (λ cache. session_in cache d version) (take_more sessions i cached within ∙ ap (λ c. take i sessions ++ c ∷ []) (sym at))
    ∙ in_both (take i sessions) (cached ∷ []) d version
    ∙ ap (λ o. either o (session_in (cached ∷ []) d version)) none
    ∙ ap (λ b. cond b (Some cached.session) None) apart

-- the first of them
pub first_found : (sessions : List CachedSession) (i : ℕ) (cached : CachedSession) (d : DeviceId) (version : ℕ) → session_in (take i sessions) d version ≡ None → i < length sessions → cached ≡ get_or sessions i cached → is_of d version cached ≡ true → Some cached.session ≡ session_in sessions d version
unfolding either
first_found sessions i cached d version none within at is =
    let last : session_in (take (i + 1) sessions) d version ≡ Some cached.session =
    ap (λ cache. session_in cache d version) (take_more sessions i cached within ∙ ap (λ c. take i sessions ++ c ∷ []) (sym at))
    ∙ in_both (take i sessions) (cached ∷ []) d version
    ∙ ap (λ o. either o (session_in (cached ∷ []) d version)) none
    ∙ ap (λ b. cond b (Some cached.session) None) is
    in
    sym (ap (λ cache. session_in cache d version) (sym (take-append-drop (i + 1) sessions))
    ∙ in_both (take (i + 1) sessions) (drop (i + 1) sessions) d version
    ∙ ap (λ o. either o (session_in (drop (i + 1) sessions) d version)) last)

-- ---- what is noted

abbrev pub IsFresh : CharterState → Option CachedSession → Type 0
IsFresh charter None = Unit {0}
IsFresh charter (Some cached) = IsSessionOf charter cached

pub noted_all : (charter : CharterState) (cache : List CachedSession) (fresh : Option CachedSession) → AreSessionsOf charter cache → IsFresh charter fresh → AreSessionsOf charter (noted cache fresh)
noted_all charter cache None all own = all
noted_all charter cache (Some cached) all own = All-drop (IsSessionOf charter) (length (cache ++ cached ∷ []) - cache_size) (cache ++ cached ∷ []) (All-push (IsSessionOf charter) cache cached all own)

fresh_by : (charter : CharterState) (look : Look) (cached : CachedSession) → IsSessionOf charter cached → IsFresh charter (fresh_at look cached)
fresh_by charter looks.Ready cached own = own
fresh_by charter (looks.Repeat n) cached own = tt
fresh_by charter (looks.Settled n) cached own = tt
fresh_by charter (looks.Ahead n) cached own = tt
fresh_by charter (looks.Waiting lane k) cached own = tt
fresh_by charter (looks.Old lane k) cached own = tt
fresh_by charter (looks.NotAwaited k) cached own = tt

-- of a read
pub read_fresh : (charter : CharterState) (d : DeviceId) (journal : List Entry) (look : Look) → IsLawful (follows_alone charter d.0) journal → IsFresh charter (fresh_at look (record { d = d; version = version_of journal; session = session_of journal }))
read_fresh charter d journal look l = fresh_by charter look (record { d = d; version = version_of journal; session = session_of journal }) (own_session charter d.0 journal l)

-- of a write
pub written_fresh : (charter : CharterState) (d : DeviceId) (version : ℕ) (journal : List Entry) (entry : Entry) (commit : Commit) → IsLawful (follows_alone charter d.0) journal → IsKnownAfter journal version entry commit → IsFresh charter (cached_when d (Some entry.step.session) commit)
written_fresh charter d version journal entry (Committed now) l k =
    let last : journal ≡ take version journal ++ entry ∷ [] = last_apart journal version entry (k.1 ∙ k.0) k.2 in
    let session : session_of journal ≡ entry.step.session = ap session_of last ∙ session_more (take version journal) entry in
    sym session ∙ own_session charter d.0 journal l ∙ ap (λ n. session_of (take n (alone_in charter d.0))) k.1
written_fresh charter d version journal entry (Stale asked current) l k = tt

-- ---- what is seen

pub begins_trans : {X : Type 0} (xs ys zs : List X) → Begins xs ys → Begins ys zs → Begins xs zs
begins_trans xs ys zs a b = (a.0 ++ b.0, b.1 ∙ ap (λ l. l ++ b.0) a.1 ∙ append_assoc xs a.0 b.0)

ready_is : (input : Input) (journal : List Entry) (asked : Asked) (peeked : Peeked) → asked ≡ asked_of input → peeked ≡ peeked_of journal asked → peeked.look ≡ looks.Ready → look_to journal (asked_of input) ≡ looks.Ready
ready_is input journal asked peeked a p ready = ap (look_to journal) (sym a) ∙ sym (ap (λ (x : Peeked). x.look) p) ∙ ready

-- the session of a row that is ready is not remembered
lacking_is : (cache : List CachedSession) (d : DeviceId) (input : Input) (journal : List Entry) (asked : Asked) (peeked : Peeked) → asked ≡ asked_of input → peeked ≡ peeked_of journal asked → peeked.look ≡ looks.Ready → None ≡ session_in cache d peeked.version → must_read cache d input journal ≡ true
lacking_is cache d input journal asked peeked a p ready none =
    let lacking : session_in cache d (version_of journal) ≡ None = sym (none ∙ ap (λ (x : Peeked). session_in cache d x.version) p) in
    ap (λ l. lacks l (session_in cache d (version_of journal))) (ready_is input journal asked peeked a p ready) ∙ ap (lacks looks.Ready) lacking

-- so the store is read behind the peek
pub reads_behind : {cache : List CachedSession} {d : DeviceId} {input : Input} {known between now : List Entry} {reads peeks new_reads : ℕ} {asked : Asked} {peeked : Peeked} → Begins known between → asked ≡ asked_of input → peeked ≡ peeked_of between asked → peeked.look ≡ looks.Ready → None ≡ session_in cache d peeked.version → peeks ≡ reads → Begins between now → new_reads ≡ one_more peeks → ReadsBehind cache d input known now reads new_reads
reads_behind {cache} {d} {input} {known} {between} {now} {reads} {peeks} {new_reads} {asked} {peeked} later a p ready none same sooner counted = record {
  peeked = between;
  later = later;
  sooner = sooner;
  lacking = lacking_is cache d input between asked peeked a p ready none;
  counted = counted ∙ ap one_more same;
}

-- it is remembered
pub sufficing_is : (cache : List CachedSession) (d : DeviceId) (input : Input) (journal : List Entry) (asked : Asked) (peeked : Peeked) (session : Session) → asked ≡ asked_of input → peeked ≡ peeked_of journal asked → peeked.look ≡ looks.Ready → Some session ≡ session_in cache d peeked.version → must_read cache d input journal ≡ false
sufficing_is cache d input journal asked peeked session a p ready some =
    let there : session_in cache d (version_of journal) ≡ Some session = sym (some ∙ ap (λ (x : Peeked). session_in cache d x.version) p) in
    ap (λ l. lacks l (session_in cache d (version_of journal))) (ready_is input journal asked peeked a p ready) ∙ ap (lacks looks.Ready) there

-- the step by a remembered session is that of the journal
pub sight_is : (charter : CharterState) (cache : List CachedSession) (row : Subscriber) (d : DeviceId) (input : Input) (journal : List Entry) (asked : Asked) (peeked : Peeked) (session : Session) (step : Step) → asked ≡ asked_of input → peeked ≡ peeked_of journal asked → peeked.look ≡ looks.Ready → Some session ≡ session_in cache d peeked.version
    → AreSessionsOf charter cache → IsLawful (follows_alone charter d.0) journal → step ≡ step_of row session input → record { peeked = peeked; step = Some step; fresh = None } ≡ sight_peeked row input journal
sight_is charter cache row d input journal asked peeked session step a p ready some all l made =
    let same : session ≡ session_of journal = remembered_is charter cache d journal session all l (some ∙ ap (λ (x : Peeked). session_in cache d x.version) p) in
    let steps : Some step ≡ step_at row (session_of journal) input (look_to journal (asked_of input)) =
    ap Some (made ∙ ap (λ s. step_of row s input) same) ∙ ap (step_at row (session_of journal) input) (sym (ready_is input journal asked peeked a p ready))
    in
    ap (λ x. record { peeked = x; step = Some step; fresh = None }) (p ∙ ap (peeked_of journal) a) ∙ ap (λ o. record { peeked = peeked_of journal (asked_of input); step = o; fresh = None }) steps

pub sees_peeked : (cache : List CachedSession) (row : Subscriber) (d : DeviceId) (input : Input) (known now : List Entry) (reads new_reads : ℕ) (sight : Sight) → Sees cache row d input known now reads new_reads sight
    → (sight.peeked ≡ peeked_of now (asked_of input)) × (sight.step ≡ step_at row (session_of now) input (look_to now (asked_of input)))
sees_peeked cache row d input known now reads new_reads sight s =
    ⊎_elim (λ p. (ap (λ (x : Sight). x.peeked) p.1, ap (λ (x : Sight). x.step) p.1)) (λ r. (ap (λ (x : Sight). x.peeked) r.1, ap (λ (x : Sight). x.step) r.1)) s

pub sees_fresh : (charter : CharterState) (cache : List CachedSession) (row : Subscriber) (d : DeviceId) (input : Input) (known now : List Entry) (reads new_reads : ℕ) (sight : Sight) → AreSessionsOf charter cache → IsLawful (follows_alone charter d.0) now → Sees cache row d input known now reads new_reads sight
    → AreSessionsOf charter (noted cache sight.fresh)
sees_fresh charter cache row d input known now reads new_reads sight all l s =
    noted_all charter cache sight.fresh all
    (⊎_elim (λ p. subst (IsFresh charter) (sym (ap (λ (x : Sight). x.fresh) p.1)) tt)
    (λ r. subst (IsFresh charter) (sym (ap (λ (x : Sight). x.fresh) r.1)) (read_fresh charter d now (look_to now (asked_of input)) l)) s)

pub on_ok : {A E : Type 0} (P Q : A → Type 0) (r : Result A E) → ((x : A) → P x → Q x) → IfOk r P → IfOk r Q
on_ok P Q (Ok x) f h = f x h
on_ok P Q (Err e) f h = tt

pub at_err : {A E : Type 0} (Q : Type 0) (r : Result A E) → Q → OnErr r Q
at_err Q (Ok x) q = tt
at_err Q (Err e) q = q
