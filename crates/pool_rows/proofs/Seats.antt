-- What a call leaves of what a seat knows.
use Rattle.std.proofs.Common.{◌≡◌, ◌≢◌, ◌+◌, ℕ, zero, suc, Bool, true, false, cond, ⊎_elim, List, [], ◌∷◌, ◌++◌, length, map, get_or, Some, Result, Ok, Err, refl, sym, ap, ◌∙◌, subst, arith, append-nil, append_assoc, length-append}
use Rattle.std.specs.Option.{option_map_or}
use Rattle.std.specs.Prelude.{All, IfOk, IsTrue, OnErr, nat_le, slice_get}
use Rattle.std.proofs.lemmas.Option.{slice_get-get_or}
use Rattle.std.proofs.lemmas.Bool.{cases_eq}
use mathlib.Core.List.{IsPrefix}
use Rattle.device_types.specs.declared.effect.Effect.{Effect}
use Rattle.device_types.specs.declared.input.Offer.{Offer}
use Rattle.device_types.specs.declared.step.Entry.{Entry}
use Rattle.device_types.specs.declared.subscriber.DeviceId.{DeviceId}
use Rattle.front_lock.specs.declared.front.Front.{Front}
use Rattle.front_lock.specs.declared.held.Held.{Ghosts}
use Rattle.front_lock.specs.declared.seat.FrontSeat.{FrontSeat}
use Rattle.front_lock.specs.declared.view.View.{View}
use Rattle.front_lock.specs.Front.{view}
use Rattle.front_lock.specs.Numbers.{list_of, speaks_for, turns_of, with_turn}
use Rattle.front_lock.specs.View.{fresh_view}
use Rattle.front_lock.proofs.Histories.{list_of-with_turn_else, list_of-with_turn_here, speaks_for-with_turn, turns_of-append, turns_of-else, turns_of-here}
use Rattle.session_store.specs.Charter.{CharterState}
use Rattle.session_store.specs.Rows.{Begins}
use Rattle.session_store.specs.Shards.{shard_of}
use Rattle.store_shared.specs.declared.basis.PeerBasis.{PeerBasis}
use Rattle.store_shared.specs.declared.basis.ShardBasis.{ShardBasis}
use Rattle.front_lock.specs.declared.row.FrontsSeat.{FrontsSeat}
use Rattle.store_shared.specs.declared.turn.Turn.{Turn}
use Rattle.store_shared.specs.declared.turn.TurnAnswer.{TurnAnswer}
use Rattle.store_shared.specs.declared.turn.TurnAnswer.TheVariants as answers
use Rattle.store_shared.specs.declared.turn.TurnCall.{TurnCall}
use Rattle.front_lock.specs.FrontRow.{AreJoined, IsFreshSeat, MissesAt, SpeaksOnAll, seen_at}
use Rattle.store_shared.specs.PeerShards.{offer_by}
use Rattle.store_shared.specs.SharedCalls.{Called}
use Rattle.store_shared.specs.SharedOffers.{Offered}
use Rattle.store_shared.specs.StoreBases.{seat_of}
use Rattle.store_shared.specs.StoreShards.{turn_by}
use Rattle.front_lock.proofs.Items.{some_one}
use Rattle.store_shared.proofs.Turns.{seen_is}
use Rattle.pool_rows.specs.Seats.{GoesOn}

pub same_begins : {X : Type 0} (xs : List X) → Begins xs xs
same_begins xs = ([], sym (append-nil xs))

-- of two histories the one begins the other, and both begin the longer one
longer_begins : {X : Type 0} (b : Bool) (xs ys : List X) → IsPrefix (cond b xs ys) (cond b ys xs) → Begins xs (cond b ys xs) × Begins ys (cond b ys xs)
longer_begins true xs ys p = ((p.0, sym p.1), same_begins ys)
longer_begins false xs ys p = (same_begins xs, (p.0, sym p.1))

module _ {T X B : Type 0} {h : Ghosts T X B} where
  -- on each front a seat that took in another has seen what either had seen
  pub joined_seen : (into from new : List (FrontSeat T X B h)) → length from ≡ length into → length new ≡ length into → AreJoined into from new → (k : ℕ) → Begins (seen_at into k) (seen_at new k) × Begins (seen_at from k) (seen_at new k)
  joined_seen [] [] new a b j k = ((seen_at new k, refl), (seen_at new k, refl))
  joined_seen [] (w ∷ ws) new a b j k = absurd (omega arith)
  joined_seen (v ∷ vs) [] new a b j k = absurd (omega arith)
  joined_seen (v ∷ vs) (w ∷ ws) [] a b j k = absurd (omega arith)
  joined_seen (v ∷ vs) (w ∷ ws) (u ∷ us) a b j zero =
      let one = j zero v w u refl refl refl in
      let both = longer_begins (nat_le (length (view v).seen) (length (view w).seen)) (view v).seen (view w).seen one.one_history in
      subst (λ (l : List X). Begins (view v).seen l × Begins (view w).seen l) (sym (ap (λ (z : View X B). z.seen) one.view_is)) both
  joined_seen (v ∷ vs) (w ∷ ws) (u ∷ us) a b j (suc k) = joined_seen vs ws us (omega arith) (omega arith) (λ i. j (suc i)) k

  -- the seat of one front has seen more, and speaks for the same numbers; those of the others are as before
  pub record Moves (old new : List (FrontSeat T X B h)) (at : ℕ) : Type 0 where
    pub from : FrontSeat T X B h
    pub to : FrontSeat T X B h
    pub was : slice_get old at ≡ Some from
    pub now : slice_get new at ≡ Some to
    pub sees : Begins (view from).seen (view to).seen
    pub speaks : (n : ℕ) → speaks_for n (view to).mine ≡ speaks_for n (view from).mine
    pub others : (k : ℕ) → k ≢ at → slice_get new k ≡ slice_get old k

  -- on each front it has seen what it had seen, and maybe more
  pub sees_more : (old new : List (FrontSeat T X B h)) (at : ℕ) → Moves old new at → (k : ℕ) → Begins (seen_at old k) (seen_at new k)
  sees_more old new at m k = ⊎_elim
      (λ (e : k ≡ at). subst (λ (i : ℕ). Begins (seen_at old i) (seen_at new i)) (sym e) (m.sees.0, seen_is new at m.to m.now ∙ (m.sees.1 ∙ ap (λ l. l ++ m.sees.0) (sym (seen_is old at m.from m.was)))))
      (λ (ne : k ≢ at). ([], ap (λ o. option_map_or (λ (t : FrontSeat T X B h). (view t).seen) o []) (m.others k ne) ∙ sym (append-nil (seen_at old k))))
      (cases_eq k at)

  -- it speaks for what it spoke for
  pub speaks_still : (old new : List (FrontSeat T X B h)) (at : ℕ) → Moves old new at → (n : ℕ) → SpeaksOnAll n old → SpeaksOnAll n new
  speaks_still old new at m n all k s got = ⊎_elim
      (λ (e : k ≡ at).
      let same : m.to ≡ s = some_one m.to s (sym m.now ∙ (ap (slice_get new) (sym e) ∙ got)) in
      subst (λ (t : FrontSeat T X B h). IsTrue (speaks_for n (view t).mine)) same (m.speaks n ∙ all at m.from m.was))
      (λ (ne : k ≢ at). all k s (sym (m.others k ne) ∙ got))
      (cases_eq k at)

  -- of a call that found no memory
  pub missed : (turns : T → List X) (basis : T → B) (old new : List (FrontSeat T X B h)) (at : ℕ) → ((k : ℕ) → k ≢ at → slice_get new k ≡ slice_get old k) → MissesAt turns basis old at new → Moves old new at
  missed turns basis old new at others m =
      let v = m.misses in
      record {
        from = m.from;
        to = m.to;
        was = m.was;
        now = m.now;
        sees = (v.seen.0, ap (λ (w : View X B). w.seen) v.view_is ∙ sym v.seen.1);
        speaks = λ n. ap (λ (w : View X B). speaks_for n w.mine) v.view_is;
        others = others;
      }

  -- what a call leaves, whether or not it found memory
  pub moves : {A E : Type 0} (turns : T → List X) (basis : T → B) (old new : List (FrontSeat T X B h)) (at : ℕ) (P : A → Type 0) (r : Result A E) → ((a : A) → P a → Moves old new at) → ((k : ℕ) → k ≢ at → slice_get new k ≡ slice_get old k) → IfOk r P → OnErr r (MissesAt turns basis old at new) → Moves old new at
  moves turns basis old new at P (Ok a) f others ok err = f a ok
  moves turns basis old new at P (Err e) f others ok err = missed turns basis old new at others err

  -- so the seat goes on
  pub goes_on : {A E : Type 0} (turns : T → List X) (basis : T → B) (IsSeat : FrontsSeat T X B h → Type 0) (Knows : FrontsSeat T X B h → FrontsSeat T X B h → Type 0) (old new : FrontsSeat T X B h) (at : ℕ) (P : A → Type 0) (r : Result A E) → (Moves old.seats.items new.seats.items at → Knows old new) → ((a : A) → P a → Moves old.seats.items new.seats.items at)
      → ((k : ℕ) → k ≢ at → slice_get new.seats.items k ≡ slice_get old.seats.items k) → IsSeat new → IfOk r P → OnErr r (MissesAt turns basis old.seats.items at new.seats.items) → GoesOn IsSeat (λ seat n. SpeaksOnAll n seat.seats.items) Knows old new
  goes_on turns basis IsSeat Knows old new at P r knows f others is ok err =
      let m = moves turns basis old.seats.items new.seats.items at P r f others ok err in
      record { seat = is; speaks = speaks_still old.seats.items new.seats.items at m; knows = knows m }

  -- what a new seat has seen
  fresh_from : (ss : List (FrontSeat T X B h)) (bases : List B) (seats n : ℕ) → map (λ (t : FrontSeat T X B h). view t) ss ≡ map (λ (b : B). fresh_view b seats n) bases → (k : ℕ) → seen_at ss k ≡ []
  fresh_from [] bases seats n e k = refl
  fresh_from (s ∷ ss) [] seats n e k = absurd (cc)
  fresh_from (s ∷ ss) (b ∷ bs) seats n e zero = let here : view s ≡ fresh_view b seats n = cc e in ap (λ (v : View X B). v.seen) here
  fresh_from (s ∷ ss) (b ∷ bs) seats n e (suc k) = fresh_from ss bs seats n (cc e) k

  pub fresh_seen : (basis : T → B) (bases : List B) (seats : ℕ) (fs : List (Front T X B)) (n : ℕ) (s : FrontsSeat T X B h) → IsFreshSeat basis bases seats fs n s → (k : ℕ) → seen_at s.seats.items k ≡ []
  fresh_seen basis bases seats fs n s fresh k = fresh_from s.seats.items bases seats n fresh.views k

-- what holds of the seat of each number holds of each
pub each_seat : {S : Type 0} (P : S → Type 0) (F : ℕ → S → Type 0) (made : List S) → ((n : ℕ) (s : S) → slice_get made n ≡ Some s → F n s) → ((n : ℕ) (s : S) → F n s → P s) → All P made
each_seat P F made each f k d lt = f k (get_or made k d) (each k (get_or made k d) (slice_get-get_or made k d lt))

-- a list begins what it begins with one more
begins_one : {X : Type 0} (xs ys zs : List X) (x : X) → (rest : List X) × (xs ++ rest ≡ ys) → zs ≡ ys ++ x ∷ [] → Begins xs zs
begins_one xs ys zs x p e = (p.0 ++ x ∷ [], e ∙ (ap (λ l. l ++ x ∷ []) (sym p.1) ∙ append_assoc xs p.0 (x ∷ [])))

nothing : {X : Type 0} (xs : List X) → length xs ≡ 0 → xs ≡ []
nothing [] e = refl
nothing (x ∷ xs) e = absurd (omega arith)

-- the list of a number grows by the turns that are its own
list_more : {X : Type 0} (by : X → ℕ) (n m : ℕ) (x : X) (mine : List (ℕ × List X)) → IsTrue (speaks_for m mine) → by x ≡ m → length (list_of n (with_turn m x mine)) ≡ length (list_of n mine) + length (turns_of by n (x ∷ []))
list_more by n m x mine speaks is = ⊎_elim
    (λ (e : n ≡ m).
    let own = ap length (turns_of-here by n [] x (e ∙ sym is)) in
    let count = length-append (list_of n mine) (x ∷ []) in
    let more = ap length (ap (λ k. list_of k (with_turn m x mine)) e ∙ (list_of-with_turn_here m x mine speaks ∙ ap (λ k. list_of k mine ++ x ∷ []) (sym e))) in
    omega (arith, own, count, more))
    (λ (ne : n ≢ m).
    let own = ap length (turns_of-else by n [] x (λ e. ne (e ∙ is))) in
    let more = ap length (list_of-with_turn_else m n x mine ne) in
    omega (arith, own, more))
    (cases_eq n m)

by_other : (by : Turn → ℕ) (n : ℕ) → ((x : Turn) → by x ≡ seat_of x) → (turns : List Turn) → turns_of by n turns ≡ [] → turns_of seat_of n turns ≡ []
by_other by n same turns none =
    let one : by ≡ seat_of = λ i x. same x i in subst (λ (f : Turn → ℕ). turns_of f n turns ≡ []) one none

module _ {T : Type 0} {h : Ghosts T Turn ShardBasis} {follows : CharterState → ℕ → List Entry → Entry → Type 0} {devices : ℕ} {charter : CharterState} {old new : List (FrontSeat T Turn ShardBasis h)} {d : DeviceId} {call : TurnCall} {answer : TurnAnswer} {says : List Turn → Type 0} where
  -- the seat's new history of the shard
  pub history_is : (c : Called follows devices charter old new d call answer says) → seen_at new (shard_of d.0) ≡ c.before ++ turn_by (view c.from).number d call answer ∷ []
  history_is c = seen_is new (shard_of d.0) c.to c.now ∙ ap (λ (v : View Turn ShardBasis). v.seen) c.view_is

  -- what it had seen begins the history before the call
  pub seen_before : (c : Called follows devices charter old new d call answer says) → Begins (seen_at old (shard_of d.0)) c.before
  seen_before c = (c.seen.0, sym c.seen.1 ∙ ap (λ l. l ++ c.seen.0) (sym (seen_is old (shard_of d.0) c.from c.was)))

  -- between what it had seen and the call came no turn of a number that it speaks for
  pub others_came : ((x : Turn) → h.by x ≡ seat_of x) → (c : Called follows devices charter old new d call answer says) → (n : ℕ) → IsTrue (speaks_for n (view c.from).mine) → turns_of seat_of n c.seen.0 ≡ []
  others_came by c n speaks =
      let m = (view c.from).number in
      let mine = (view c.from).mine in
      let turn = turn_by m d call answer in
      let more = c.seen.0 in
      let told = c.from.knows.told n speaks in
      let seen = subst (λ (v : View Turn ShardBasis). IsTrue (speaks_for n v.mine) → turns_of h.by n v.seen ≡ list_of n v.mine) c.view_is (c.to.knows.told n) (speaks_for-with_turn m n turn mine ∙ speaks) in
      let split : turns_of h.by n (c.before ++ turn ∷ []) ≡ turns_of h.by n (view c.from).seen ++ (turns_of h.by n more ++ turns_of h.by n (turn ∷ [])) =
      turns_of-append h.by n c.before (turn ∷ []) ∙ (ap (λ l. l ++ turns_of h.by n (turn ∷ [])) (ap (turns_of h.by n) (sym c.seen.1) ∙ turns_of-append h.by n (view c.from).seen more) ∙ append_assoc (turns_of h.by n (view c.from).seen) (turns_of h.by n more) (turns_of h.by n (turn ∷ []))) in
      let count = length-append (turns_of h.by n (view c.from).seen) (turns_of h.by n more ++ turns_of h.by n (turn ∷ [])) in
      let counts = length-append (turns_of h.by n more) (turns_of h.by n (turn ∷ [])) in
      let whole = ap length (sym split ∙ seen) in
      let known = ap length told in
      let own = list_more h.by n m turn mine c.from.knows.own (by turn) in
      by_other h.by n by more (nothing (turns_of h.by n more) (omega (arith, count, counts, whole, known, own)))

  pub called_moves : ((k : ℕ) → k ≢ shard_of d.0 → slice_get new k ≡ slice_get old k) → Called follows devices charter old new d call answer says → Moves old new (shard_of d.0)
  called_moves others c =
      let n = (view c.from).number in
      let turn = turn_by n d call answer in
      record {
        from = c.from;
        to = c.to;
        was = c.was;
        now = c.now;
        sees = begins_one (view c.from).seen c.before (view c.to).seen turn c.seen (ap (λ (v : View Turn ShardBasis). v.seen) c.view_is);
        speaks = λ k. ap (λ (v : View Turn ShardBasis). speaks_for k v.mine) c.view_is ∙ speaks_for-with_turn n k turn (view c.from).mine;
        others = others;
      }

module _ {T : Type 0} {h : Ghosts T Turn PeerBasis} {charter : CharterState} {old new : List (FrontSeat T Turn PeerBasis h)} {d : DeviceId} {k : ℕ} {call : Effect} {offer : Offer} where
  pub offers_are : (c : Offered charter old new d k call offer) → seen_at new (shard_of d.0) ≡ c.before ++ offer_by (view c.from).number d k call (answers.Offer offer) ∷ []
  offers_are c = seen_is new (shard_of d.0) c.to c.now ∙ ap (λ (v : View Turn PeerBasis). v.seen) c.view_is

  pub offered_moves : ((i : ℕ) → i ≢ shard_of d.0 → slice_get new i ≡ slice_get old i) → Offered charter old new d k call offer → Moves old new (shard_of d.0)
  offered_moves others c =
      let n = (view c.from).number in
      let turn = offer_by n d k call (answers.Offer offer) in
      record {
        from = c.from;
        to = c.to;
        was = c.was;
        now = c.now;
        sees = begins_one (view c.from).seen c.before (view c.to).seen turn c.seen (ap (λ (v : View Turn PeerBasis). v.seen) c.view_is);
        speaks = λ i. ap (λ (v : View Turn PeerBasis). speaks_for i v.mine) c.view_is ∙ speaks_for-with_turn n i turn (view c.from).mine;
        others = others;
      }
