-- A replica, and what it makes of what it sees.
use Rattle.std.specs.Prelude.{◌≡◌, ◌⊎◌, ℕ, List, None}
use Rattle.device_types.specs.declared.input.Input.{Input}
use Rattle.device_types.specs.declared.step.Entry.{Entry}
use Rattle.device_types.specs.declared.subscriber.DeviceId.{DeviceId}
use Rattle.device_types.specs.declared.subscriber.Subscriber.{Subscriber}
use Rattle.device_types.specs.Journal.{session_of}
use Rattle.replica_worker.specs.declared.cache.CachedSession.{CachedSession}
use Rattle.replica_worker.specs.declared.hand.Hand.{Hand}
use Rattle.replica_worker.specs.declared.sight.Sight.{Sight}
use Rattle.replica_worker.specs.Cache.{fresh_at, cache_read, PeekSuffices, ReadsBehind}
use Rattle.replica_worker.specs.Hands.{step_at}
use Rattle.session_store.specs.declared.asked.Seen.{Seen}
use Rattle.session_store.specs.Seen.{asked_of, look_to, peeked_of, seen_of}

-- what it holds, and the sessions that it remembers, the oldest first
pub record ReplicaState : Type 0 where
  pub hand : Hand
  pub cache : List CachedSession

-- what is seen of a journal about an input by a peek, with the step that it leads to: nothing is remembered of it
abbrev pub sight_peeked : Subscriber → Input → List Entry → Sight
sight_peeked row input journal = record {
  peeked = peeked_of journal (asked_of input);
  step = step_at row (session_of journal) input (look_to journal (asked_of input));
  fresh = None;
}

-- what is seen by what a read of the store has told
abbrev pub sight_in : Subscriber → DeviceId → Input → Seen → Sight
sight_in row d input seen = record {
  peeked = record { version = seen.version; look = seen.look; reply = seen.reply };
  step = step_at row seen.session input seen.look;
  fresh = fresh_at seen.look (record { d = d; version = seen.version; session = seen.session });
}

-- what is seen of a journal by a read
abbrev pub sight_read : Subscriber → DeviceId → Input → List Entry → Sight
sight_read row d input journal = sight_in row d input (seen_of journal (asked_of input))

-- what is seen by a peek that suffices, or else by a read
abbrev pub Sees : List CachedSession → Subscriber → DeviceId → Input → List Entry → List Entry → ℕ → ℕ → Sight → Type 0
Sees cache row d input known new_known reads new_reads sight =
    (PeekSuffices cache cache d input new_known reads new_reads × (sight ≡ sight_peeked row input new_known)) ⊎ (ReadsBehind cache d input known new_known reads new_reads × (sight ≡ sight_read row d input new_known))

-- a read peeks at the journal, and reads it where that does not suffice, of which it remembers the session
abbrev pub Remembers : List CachedSession → List CachedSession → DeviceId → Input → List Entry → List Entry → ℕ → ℕ → Type 0
Remembers cache new_cache d input known new_known reads new_reads =
    PeekSuffices cache new_cache d input new_known reads new_reads ⊎ (ReadsBehind cache d input known new_known reads new_reads × (new_cache ≡ cache_read cache d input new_known))

-- a read that found no memory may have been counted, where the peek did not suffice
abbrev pub MayCount : List CachedSession → DeviceId → Input → List Entry → List Entry → ℕ → ℕ → Type 0
MayCount cache d input known new_known reads new_reads = (new_reads ≡ reads) ⊎ ReadsBehind cache d input known new_known reads new_reads
