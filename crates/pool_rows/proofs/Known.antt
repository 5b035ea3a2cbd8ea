-- What a call of the store says of the row that the seat knows behind it.
use Rattle.std.proofs.Common.{◌≡◌, ◌≤◌, ◌==◌, ℕ, cond, Bool, true, false, List, [], ◌∷◌, ◌++◌, Option, length, refl, sym, ap, ◌∙◌, subst, arith, length-append, eq-eqb}
use Rattle.std.specs.Prelude.{All, IsTrue, slice_get}
use Rattle.std.proofs.Math.Nat.{le-max_right}
use Rattle.device_types.specs.declared.effect.Effect.{Effect}
use Rattle.device_types.specs.declared.event.Lane.{Lane}
use Rattle.device_types.specs.declared.event.Lane.TheVariants as lanes
use Rattle.device_types.specs.declared.step.Entry.{Entry}
use Rattle.device_types.specs.declared.subscriber.DeviceId.{DeviceId}
use Rattle.effect_outbox.specs.declared.settled.Settled.{Settled}
use Rattle.effect_outbox.specs.Outbox.{LaneNumbers, number_on, settled_by, with_number}
use Rattle.front_lock.specs.declared.front.Front.{Front}
use Rattle.front_lock.specs.declared.held.Held.{Ghosts}
use Rattle.front_lock.specs.declared.seat.FrontSeat.{FrontSeat}
use Rattle.front_lock.specs.Front.{view}
use Rattle.front_lock.specs.Numbers.{speaks_for}
use Rattle.session_row.specs.declared.commit.Commit.{Commit}
use Rattle.session_row.specs.declared.commit.Commit.TheVariants.{Committed, Stale}
use Rattle.session_row.specs.Row.{RowState}
use Rattle.session_store.specs.Charter.{CharterState}
use Rattle.session_store.specs.Law.{IsLawful}
use Rattle.session_store.specs.Rows.{Begins, IsDevice, IsKnownAfter, opening_row, unsettled_effect}
use Rattle.session_store.specs.declared.asked.Asked.{Asked}
use Rattle.session_store.specs.declared.asked.Peeked.{Peeked}
use Rattle.session_store.specs.declared.asked.Seen.{Seen}
use Rattle.session_store.specs.Seen.{peeked_of, seen_of}
use Rattle.session_store.specs.Shards.{shard_of}
use Rattle.store_shared.specs.declared.basis.ShardBasis.{ShardBasis}
use Rattle.front_lock.specs.declared.row.FrontsSeat.{FrontsSeat}
use Rattle.store_shared.specs.declared.turn.Turn.{Turn}
use Rattle.store_shared.specs.declared.turn.TurnAnswer.{TurnAnswer}
use Rattle.store_shared.specs.declared.turn.TurnAnswer.TheVariants as answers
use Rattle.store_shared.specs.declared.turn.TurnCall.{TurnCall}
use Rattle.store_shared.specs.declared.turn.TurnCall.TheVariants as calls
use Rattle.front_lock.specs.FrontRow.{AreFreshSeats, AreJoined, IsFreshSeat, seen_at}
use Rattle.store_shared.specs.Legal.{IsBehind, TellsCount, commit_of, journal_in, row_after, row_from, row_in}
use Rattle.store_shared.specs.SharedCalls.{Called}
use Rattle.store_shared.specs.Stays.{journal_begins, row_from-append, row_next}
use Rattle.store_shared.specs.StoreBases.{seat_of}
use Rattle.store_shared.specs.StoreShards.{turn_by}
use Rattle.front_lock.proofs.Items.{get_at, some_one}
use Rattle.store_shared.proofs.Turns.{seen_is}
use Rattle.pool_rows.specs.Seats.{IsLater, Settles}
use Rattle.pool_rows.specs.Shared.{RowComes, row_known}
use Rattle.pool_rows.proofs.Seats.{Moves, each_seat, fresh_seen, history_is, joined_seen, others_came, seen_before, sees_more}

-- ---- rows of longer histories

grows_on : (n : LaneNumbers) (l m : Lane) (k : ℕ) → number_on n m ≤ number_on (with_number n l k) m
grows_on n lanes.Down lanes.Down k = le-max_right k n.down
grows_on n lanes.Down lanes.Gateway k = omega arith
grows_on n lanes.Down lanes.Subscriber k = omega arith
grows_on n lanes.Gateway lanes.Down k = omega arith
grows_on n lanes.Gateway lanes.Gateway k = le-max_right k n.gateway
grows_on n lanes.Gateway lanes.Subscriber k = omega arith
grows_on n lanes.Subscriber lanes.Down k = omega arith
grows_on n lanes.Subscriber lanes.Gateway k = omega arith
grows_on n lanes.Subscriber lanes.Subscriber k = le-max_right k n.subscriber

settled_after : (row : RowState) (call : TurnCall) (answer : TurnAnswer) (l : Lane) → number_on row.settled l ≤ number_on (row_after row call answer).settled l
settled_after row (calls.Settle m k) answer l = grows_on row.settled m l k
settled_after row (calls.Read asked) answer l = omega arith
settled_after row (calls.Peek asked) answer l = omega arith
settled_after row (calls.Push m k) answer l = omega arith
settled_after row (calls.Offer k call) answer l = omega arith
settled_after row (calls.Commit read entry) (answers.Commit (Committed version)) l = omega arith
settled_after row (calls.Commit read entry) (answers.Commit (Stale asked current)) l = omega arith
settled_after row (calls.Commit read entry) (answers.Read seen) l = omega arith
settled_after row (calls.Commit read entry) (answers.Peek seen) l = omega arith
settled_after row (calls.Commit read entry) (answers.Push effect) l = omega arith
settled_after row (calls.Commit read entry) (answers.Settle settled) l = omega arith
settled_after row (calls.Commit read entry) (answers.Offer offer) l = omega arith

settled_when : (b : Bool) (row after : RowState) (l : Lane) → number_on row.settled l ≤ number_on after.settled l → number_on row.settled l ≤ number_on (cond b after row).settled l
settled_when true row after l h = h
settled_when false row after l h = omega arith

settled_from : (row : RowState) (d : ℕ) (more : List Turn) (l : Lane) → number_on row.settled l ≤ number_on (row_from row d more).settled l
settled_from row d [] l = omega arith
settled_from row d (t ∷ ts) l =
    let next = cond (t.device.0 == d) (row_after row t.call t.answer) row in
    let one = settled_when (t.device.0 == d) row (row_after row t.call t.answer) l (settled_after row t.call t.answer l) in
    let two = settled_from next d ts l in
    omega arith

-- the row of a longer history is a later one
pub row_more : (d : ℕ) (xs ys : List Turn) → Begins xs ys → IsLater (row_in d xs) (row_in d ys)
row_more d xs ys b = subst (λ (l : List Turn). IsLater (row_in d xs) (row_in d l)) (sym b.1) (record {
  journal = journal_begins d xs b.0;
  settled = λ l. subst (λ (r : RowState). number_on (row_in d xs).settled l ≤ number_on r.settled l) (sym (row_from-append opening_row d xs b.0)) (settled_from (row_in d xs) d b.0 l);
})

pub known_more : {T : Type 0} {h : Ghosts T Turn ShardBasis} (old new : List (FrontSeat T Turn ShardBasis h)) (at : ℕ) → Moves old new at → (i : ℕ) → IsLater (row_known old i) (row_known new i)
known_more old new at m i = row_more i (seen_at old (shard_of i)) (seen_at new (shard_of i)) (sees_more old new at m (shard_of i))

-- of two seats that are joined
pub known_joined : {T : Type 0} {h : Ghosts T Turn ShardBasis} (into from new : List (FrontSeat T Turn ShardBasis h)) → length from ≡ length into → length new ≡ length into → AreJoined into from new → ((i : ℕ) → IsLater (row_known into i) (row_known new i)) × ((i : ℕ) → IsLater (row_known from i) (row_known new i))
known_joined into from new a b j = (
  λ i. row_more i (seen_at into (shard_of i)) (seen_at new (shard_of i)) (joined_seen into from new a b j (shard_of i)).0,
  λ i. row_more i (seen_at from (shard_of i)) (seen_at new (shard_of i)) (joined_seen into from new a b j (shard_of i)).1,
)

-- new seats know the row that was never seen
pub fresh_rows : {T : Type 0} {h : Ghosts T Turn ShardBasis} (basis : T → ShardBasis) (bases : List ShardBasis) (seats : ℕ) (fs : List (Front T Turn ShardBasis)) (made : List (FrontsSeat T Turn ShardBasis h)) → AreFreshSeats basis bases seats fs made → All (λ s. (d : ℕ) → row_known s.seats.items d ≡ opening_row) made
fresh_rows {T} {h} basis bases seats fs made fresh =
    each_seat (λ (s : FrontsSeat T Turn ShardBasis h). (d : ℕ) → row_known s.seats.items d ≡ opening_row) (λ (n : ℕ) (s : FrontsSeat T Turn ShardBasis h). IsFreshSeat basis bases seats fs n s) made fresh
    (λ n s is d. ap (row_in d) (fresh_seen basis bases seats fs n s is (shard_of d)))

module _ {T : Type 0} {h : Ghosts T Turn ShardBasis} {follows : CharterState → ℕ → List Entry → Entry → Type 0} {devices : ℕ} {charter : CharterState} {old new : List (FrontSeat T Turn ShardBasis h)} {d : DeviceId} {call : TurnCall} {answer : TurnAnswer} {says : List Turn → Type 0} where
  -- the row behind the call
  pub row_is : (c : Called follows devices charter old new d call answer says) → row_in d.0 (seen_at new (shard_of d.0)) ≡ row_after (row_in d.0 c.before) call answer
  row_is c =
      let before = row_in d.0 c.before in
      ap (row_in d.0) (history_is c) ∙ (row_next d.0 c.before (turn_by (view c.from).number d call answer) ∙ ap (λ (b : Bool). cond b (row_after before call answer) before) (eq-eqb d.0 d.0 refl))

  pub lawful_now : Called follows devices charter old new d call answer says → IsDevice devices d.0 → IsLawful (follows charter d.0) (journal_in d.0 (seen_at new (shard_of d.0)))
  lawful_now c within = subst (λ (turns : List Turn). IsLawful (follows charter d.0) (journal_in d.0 turns)) (sym (history_is c)) (c.lawful d.0 within)

  -- what is said of the row before a call that changes none is said of the row behind it
  pub says_still : (P : RowState → Type 0) (c : Called follows devices charter old new d call answer says) → ((row : RowState) → row_after row call answer ≡ row) → P (row_in d.0 c.before) → P (row_in d.0 (seen_at new (shard_of d.0)))
  says_still P c same p = subst P (sym (row_is c ∙ same (row_in d.0 c.before))) p

-- what a write tells of the journal that is known behind it
pub known_after : {T : Type 0} {h : Ghosts T Turn ShardBasis} {follows : CharterState → ℕ → List Entry → Entry → Type 0} {devices : ℕ} {charter : CharterState} {old new : List (FrontSeat T Turn ShardBasis h)} {d : DeviceId} (read : ℕ) (entry : Entry) (commit : Commit)
    → Called follows devices charter old new d (calls.Commit read entry) (answers.Commit commit) (λ before. (commit ≡ commit_of (length (journal_in d.0 before)) read) × IsBehind read commit) → TellsCount d.0 read (seen_at new (shard_of d.0)) commit → IsKnownAfter (journal_in d.0 (seen_at new (shard_of d.0))) read entry commit
known_after {new = new} {d = d} read entry (Committed version) c t =
    let before = journal_in d.0 c.before in
    let now : journal_in d.0 (seen_at new (shard_of d.0)) ≡ before ++ entry ∷ [] = ap (λ (r : RowState). r.journal) (row_is c) in
    let longer = ap length now ∙ length-append before (entry ∷ []) in
    let made = t.0 in
    let count = t.1 in
    let place : read ≡ length before = omega arith in
    (t.0, t.1, ap (λ l. slice_get l read) now ∙ (ap (slice_get (before ++ entry ∷ [])) place ∙ get_at before [] entry))
known_after read entry (Stale asked current) c t = (t.0, t.1, λ e. let behind = t.2 in absurd (omega (arith, e)))

-- ---- what each call tells

module _ {T : Type 0} {h : Ghosts T Turn ShardBasis} {follows : CharterState → ℕ → List Entry → Entry → Type 0} {devices : ℕ} {charter : CharterState} {old new : List (FrontSeat T Turn ShardBasis h)} {d : DeviceId} where
  pub read_tells : (asked : Asked) (seen : Seen) → Called follows devices charter old new d (calls.Read asked) (answers.Read seen) (λ before. seen ≡ seen_of (journal_in d.0 before) asked) → seen ≡ seen_of (row_known new d.0).journal asked
  read_tells asked seen c = says_still (λ (row : RowState). seen ≡ seen_of row.journal asked) c (λ row. refl) c.value

  pub peek_tells : (asked : Asked) (peeked : Peeked) → Called follows devices charter old new d (calls.Peek asked) (answers.Peek peeked) (λ before. peeked ≡ peeked_of (journal_in d.0 before) asked) → peeked ≡ peeked_of (row_known new d.0).journal asked
  peek_tells asked peeked c = says_still (λ (row : RowState). peeked ≡ peeked_of row.journal asked) c (λ row. refl) c.value

  pub push_tells : (l : Lane) (k : ℕ) (effect : Option Effect) → Called follows devices charter old new d (calls.Push l k) (answers.Push effect) (λ before. effect ≡ unsettled_effect (row_in d.0 before) l k) → effect ≡ unsettled_effect (row_known new d.0) l k
  push_tells l k effect c = says_still (λ (row : RowState). effect ≡ unsettled_effect row l k) c (λ row. refl) c.value

  pub settle_tells : ((x : Turn) → h.by x ≡ seat_of x) → (l : Lane) (k : ℕ) (told : Settled) → Called follows devices charter old new d (calls.Settle l k) (answers.Settle told) (λ before. told ≡ settled_by (number_on (row_in d.0 before).settled l) k) → Settles (RowComes old d.0) (row_known old d.0) l k (row_known new d.0) told
  settle_tells by l k told c = record {
    before = row_in d.0 c.before;
    others = record {
      more = c.seen.0;
      others = λ n s at speaks. others_came by c n (subst (λ (t : FrontSeat T Turn ShardBasis h). IsTrue (speaks_for n (view t).mine)) (some_one s c.from (sym at ∙ c.was)) speaks);
      row_is = ap (row_in d.0) (sym c.seen.1 ∙ ap (λ l. l ++ c.seen.0) (sym (seen_is old (shard_of d.0) c.from c.was)));
    };
    later = row_more d.0 (seen_at old (shard_of d.0)) c.before (seen_before c);
    says = c.value;
    behind = row_is c;
  }
