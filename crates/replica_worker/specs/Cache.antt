-- The sessions that a replica remembers.
use Rattle.std.specs.Prelude.{◌≡◌, ◌==◌, ◌&&◌, ℕ, Bool, true, false, List, [], ◌∷◌, ◌++◌, take, All, Option, Some, None, if◌then◌else◌}
use Rattle.circular_buffer.specs.Buffer.{keep_last}
use Rattle.device_types.specs.declared.input.Input.{Input}
use Rattle.device_types.specs.declared.look.Look.{Look}
use Rattle.device_types.specs.declared.look.Look.TheVariants as looks
use Rattle.device_types.specs.declared.session.Session.{Session}
use Rattle.device_types.specs.declared.step.Entry.{Entry}
use Rattle.device_types.specs.declared.subscriber.DeviceId.{DeviceId}
use Rattle.device_types.specs.Journal.{version_of, session_of}
use Rattle.replica_worker.specs.declared.cache.CachedSession.{CachedSession}
use Rattle.replica_worker.specs.declared.hand.Hand.{Hand}
use Rattle.replica_worker.specs.declared.hand.Hand.TheVariants as hands
use Rattle.session_row.specs.declared.commit.Commit.{Commit}
use Rattle.session_row.specs.declared.commit.Commit.TheVariants.{Committed}
use Rattle.session_store.specs.Charter.{CharterState, alone_in}
use Rattle.session_store.specs.Rows.{Begins, one_more}
use Rattle.session_store.specs.Seen.{asked_of, look_to}

-- so many sessions are remembered
abbrev pub cache_size : ℕ
cache_size = 8

-- the cache, the oldest first, with one session more: a full one drops its oldest
abbrev pub remember : List CachedSession → CachedSession → List CachedSession
remember cache cached = keep_last cache_size (cache ++ cached ∷ [])

abbrev pub is_of : DeviceId → ℕ → CachedSession → Bool
is_of d version cached = (cached.d.0 == d.0) && (cached.version == version)

-- the session of that device and version, if it is remembered
abbrev pub session_in : List CachedSession → DeviceId → ℕ → Option Session
session_in [] d version = None
session_in (cached ∷ cache) d version = if is_of d version cached then Some cached.session else session_in cache d version

-- under a charter, the session of the first so many entries of its device's journal
abbrev pub IsSessionOf : CharterState → CachedSession → Type 0
IsSessionOf charter cached = cached.session ≡ session_of (take cached.version (alone_in charter cached.d.0))

abbrev pub AreSessionsOf : CharterState → List CachedSession → Type 0
AreSessionsOf charter cache = All (IsSessionOf charter) cache

-- ---- what a read leaves

-- the row is ready, and its session is not remembered
abbrev pub lacks : Look → Option Session → Bool
lacks looks.Ready None = true
lacks _ session = false

-- a peek at this journal is not enough for a step of the input
abbrev pub must_read : List CachedSession → DeviceId → Input → List Entry → Bool
must_read cache d input journal = lacks (look_to journal (asked_of input)) (session_in cache d (version_of journal))

-- what is remembered of a read, where the row is ready
abbrev pub fresh_at : Look → CachedSession → Option CachedSession
fresh_at looks.Ready cached = Some cached
fresh_at _ cached = None

abbrev pub noted : List CachedSession → Option CachedSession → List CachedSession
noted cache None = cache
noted cache (Some cached) = remember cache cached

-- the cache after a read of that journal
abbrev pub cache_read : List CachedSession → DeviceId → Input → List Entry → List CachedSession
cache_read cache d input journal = noted cache (fresh_at (look_to journal (asked_of input)) (record { d = d; version = version_of journal; session = session_of journal }))

-- a peek at the journal was enough: the store was not read, and nothing was remembered
pub record PeekSuffices (cache new_cache : List CachedSession) (d : DeviceId) (input : Input) (known : List Entry) (reads new_reads : ℕ) : Type 0 where
  pub enough : must_read cache d input known ≡ false
  pub uncounted : new_reads ≡ reads
  pub same : new_cache ≡ cache

-- it was not: the store was read once
pub record ReadsBehind (cache : List CachedSession) (d : DeviceId) (input : Input) (known new_known : List Entry) (reads new_reads : ℕ) : Type 0 where
  pub peeked : List Entry
  pub later : Begins known peeked
  pub sooner : Begins peeked new_known
  pub lacking : must_read cache d input peeked ≡ true
  pub counted : new_reads ≡ one_more reads

-- ---- what a write leaves

-- what is remembered of a write
abbrev pub cached_when : DeviceId → Option Session → Commit → Option CachedSession
cached_when d (Some session) (Committed version) = Some (record { d = d; version = version; session = session })
cached_when d _ commit = None

abbrev pub written_session : Hand → Option Session
written_session (hands.Ready d version entry) = Some entry.step.session
written_session _ = None

-- the cache after a write of the hand
abbrev pub cache_written : List CachedSession → Hand → Commit → List CachedSession
cache_written cache (hands.Ready d version entry) commit = noted cache (cached_when d (Some entry.step.session) commit)
cache_written cache _ commit = cache
