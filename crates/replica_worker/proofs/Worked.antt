-- A worked run of a replica over the rows of two devices, computed: the cheapest test of the definitions of store and replica.
use Rattle.std.proofs.Common.{◌≡◌, ℕ, ◌+◌, true, false, [], ◌∷◌, Some, None, refl}
use Rattle.device_types.specs.declared.down.Down.TheVariants.{Nas}
use Rattle.device_types.specs.declared.effect.Effect.TheVariants as effects
use Rattle.device_types.specs.declared.input.Input.TheVariants as inputs
use Rattle.device_types.specs.declared.look.Look.TheVariants.{Ready, Repeat}
use Rattle.device_types.specs.declared.message.Body.TheVariants as bodies
use Rattle.device_types.specs.declared.message.Message.{Message}
use Rattle.device_types.specs.declared.nas_out.NasOut.TheVariants.{ServiceReject}
use Rattle.device_types.specs.declared.step.Entry.{Entry}
use Rattle.device_types.specs.declared.step.Reply.{Reply}
use Rattle.device_types.specs.declared.subscriber.DeviceId.{DeviceId}
use Rattle.device_types.specs.declared.subscriber.Subscriber.{Subscriber}
use Rattle.device_types.specs.Acts.{moves_connection, drops_ue, frees_bearers}
use Rattle.device_types.specs.Alone.{alone_of}
use Rattle.device_types.specs.Session.{opening}
use Rattle.device_types.specs.StepTable.{step_table, step_of}
use Rattle.replica_worker.specs.declared.cache.CachedSession.{CachedSession}
use Rattle.replica_worker.specs.declared.hand.Hand.TheVariants as hands
use Rattle.replica_worker.specs.Cache.{remember, session_in, must_read, cache_read, cache_written}
use Rattle.replica_worker.specs.Hands.{hand_after}
use Rattle.replica_worker.specs.Writes.{written_reply}
use Rattle.session_row.specs.declared.commit.Commit.TheVariants.{Committed, Stale}
use Rattle.session_store.specs.declared.asked.Asked.TheVariants as about
use Rattle.session_store.specs.Charter.{CharterState, alone_in}
use Rattle.session_store.specs.Seen.{seen_of}

row : ℕ → Subscriber
row number = record {
  number = number;
  imsi = 208930000000000 + number;
  tmsi = number;
  rand = 1 ∷ [];
  autn = 2 ∷ [];
  res = 3 ∷ 4 ∷ [];
  key = 5 ∷ [];
  apn = 6 ∷ [];
  ip = 7;
  sgw = 8;
  teid = 9;
  ambr_dl = 10;
  ambr_ul = 11;
  forbidden = [];
  apn2 = None;
  ip2 = None;
}

second : DeviceId
second = record { 0 = 2 }

service : Message
service = record { number = 1; station = 1; enb = 7; body = bodies.Service }

-- the second device, which is not attached, asks for service
charter : CharterState
charter = record { rows = row 1 ∷ row 2 ∷ []; lines = [] ∷ (service ∷ []) ∷ [] }

-- it is rejected (TS 24.301, 9.9.3.9: cause 10, implicitly detached)
rejected : Entry
rejected = record {
  input = inputs.Message service;
  step = record { session = opening; effects = effects.Down (Nas 1 7 (ServiceReject 10)) ∷ [] };
}

reply : Reply
reply = record { number = 1; version = 1; downs = effects.Down (Nas 1 7 (ServiceReject 10)) ∷ [] }

first-does-nothing : alone_in charter 1 ≡ []
unfolding alone_of charter row
first-does-nothing = refl

second-is-rejected : alone_in charter 2 ≡ rejected ∷ []
unfolding alone_of step_table step_of moves_connection drops_ue frees_bearers charter row service rejected
second-is-rejected = refl

hand-after-a-read : hand_after (row 2) second (inputs.Message service) [] ≡ hands.Ready second 0 rejected
unfolding step_table step_of moves_connection drops_ue frees_bearers row second service rejected
hand-after-a-read = refl

repeat-is-seen : seen_of (rejected ∷ []) (about.Message 1) ≡ record { version = 1; session = opening; look = Repeat 1; reply = Some reply }
unfolding rejected reply service
repeat-is-seen = refl

next-is-seen : seen_of (rejected ∷ []) (about.Message 2) ≡ record { version = 1; session = opening; look = Ready; reply = None }
unfolding rejected service
next-is-seen = refl

hand-after-a-repeat : hand_after (row 2) second (inputs.Message service) (rejected ∷ []) ≡ hands.Taken second (inputs.Message service)
unfolding row second service rejected
hand-after-a-repeat = refl

reply-of-a-write : written_reply (hands.Ready second 0 rejected) (λ d. rejected ∷ []) (Committed 1) ≡ Some reply
unfolding second rejected reply service
reply-of-a-write = refl

no-reply-if-stale : written_reply (hands.Ready second 0 rejected) (λ d. rejected ∷ []) (Stale 0 1) ≡ None
unfolding second rejected service
no-reply-if-stale = refl

-- ---- what is remembered

-- the session of the second device at a version
at : ℕ → CachedSession
at version = record { d = second; version = version; session = opening }

-- nine of them: a full cache drops its oldest
eight-are-kept : remember (at 0 ∷ at 1 ∷ at 2 ∷ at 3 ∷ at 4 ∷ at 5 ∷ at 6 ∷ []) (at 7) ≡ at 0 ∷ at 1 ∷ at 2 ∷ at 3 ∷ at 4 ∷ at 5 ∷ at 6 ∷ at 7 ∷ []
eight-are-kept = refl

ninth-drops-the-oldest : remember (at 0 ∷ at 1 ∷ at 2 ∷ at 3 ∷ at 4 ∷ at 5 ∷ at 6 ∷ at 7 ∷ []) (at 8) ≡ at 1 ∷ at 2 ∷ at 3 ∷ at 4 ∷ at 5 ∷ at 6 ∷ at 7 ∷ at 8 ∷ []
ninth-drops-the-oldest = refl

version-is-found : session_in (at 0 ∷ at 1 ∷ []) second 1 ≡ Some opening
unfolding at second
version-is-found = refl

later-version-is-not-found : session_in (at 0 ∷ at 1 ∷ []) second 2 ≡ None
unfolding at second
later-version-is-not-found = refl

other-device-is-not-found : session_in (at 0 ∷ at 1 ∷ []) (record { 0 = 1 }) 1 ≡ None
unfolding at second
other-device-is-not-found = refl

ready-row-is-read : must_read [] second (inputs.Message service) [] ≡ true
unfolding second service
ready-row-is-read = refl

remembered-row-is-not-read : must_read (at 0 ∷ []) second (inputs.Message service) [] ≡ false
unfolding at second service
remembered-row-is-not-read = refl

repeat-is-not-read : must_read [] second (inputs.Message service) (rejected ∷ []) ≡ false
unfolding second service rejected
repeat-is-not-read = refl

read-is-remembered : cache_read [] second (inputs.Message service) [] ≡ at 0 ∷ []
unfolding at second service
read-is-remembered = refl

read-of-a-repeat-is-not-remembered : cache_read (at 0 ∷ []) second (inputs.Message service) (rejected ∷ []) ≡ at 0 ∷ []
unfolding at second service rejected
read-of-a-repeat-is-not-remembered = refl

write-is-remembered : cache_written (at 0 ∷ []) (hands.Ready second 0 rejected) (Committed 1) ≡ at 0 ∷ at 1 ∷ []
unfolding at second rejected
write-is-remembered = refl

stale-write-is-not-remembered : cache_written (at 0 ∷ []) (hands.Ready second 0 rejected) (Stale 0 1) ≡ at 0 ∷ []
unfolding at second rejected
stale-write-is-not-remembered = refl
