-- What closed shards say.
use Rattle.std.proofs.Common.{◌≡◌, ◌<◌, ℕ, zero, suc, List, [], ◌∷◌, Some, Result, Ok, Err, length, map, get_or, refl, sym, ap, ◌∙◌, subst, arith}
use Rattle.std.specs.List.{range_with_len}
use Rattle.std.specs.Option.{option_map_or}
use Rattle.std.specs.Prelude.{All, IfOk, slice_get}
use Rattle.std.proofs.lemmas.List.{length-map}
use Rattle.std.proofs.lemmas.List.FromFn.{length-map-range_with_len}
use mathlib.Core.List.{IsPrefix}
use Rattle.front_lock.specs.declared.front.Front.{Front}
use Rattle.front_lock.specs.declared.held.Held as held
use Rattle.front_lock.specs.declared.seat.FrontSeat.{FrontSeat}
use Rattle.front_lock.specs.Front.{view}
use Rattle.device_types.specs.declared.event.Lane.{Lane}
use Rattle.device_types.specs.declared.step.Entry.{Entry}
use Rattle.session_store.specs.declared.row_law.RowLaw as law
use Rattle.session_store.specs.Charter.{CharterState}
use Rattle.session_store.specs.Law.{IsLawful}
use Rattle.session_store.specs.Rows.{Begins, IsDevice}
use Rattle.session_store.specs.Shards.{IsHere, shard_count, shard_of}
use Rattle.session_store.proofs.Shards.{shard_within}
use Rattle.store_shared.specs.declared.basis.PeerBasis.{PeerBasis}
use Rattle.store_shared.specs.declared.basis.ShardBasis.{ShardBasis}
use Rattle.store_shared.specs.declared.peer_shard.PeerShard.{PeerShard}
use Rattle.store_shared.specs.declared.store_shard.StoreShard.{StoreShard}
use Rattle.front_lock.specs.declared.row.FrontsSeat.{FrontsSeat}
use Rattle.store_shared.specs.declared.turn.Turn.{Turn}
use Rattle.front_lock.specs.FrontRow.{Along, IsFreshSeat, SpeaksOnAll, seen_at}
use Rattle.store_shared.specs.Legal.{AreAcceptedIn, IsAcceptedOf, accepted_in, journal_in}
use Rattle.store_shared.specs.PeerBases.{peer_bases, peer_basis, peer_basis_at, peer_turns}
use Rattle.store_shared.specs.StoreBases.{basis_at, store_basis, store_turns}
use Rattle.front_lock.proofs.Columns.{got_map, placed_from, speaks_own}
use Rattle.front_lock.proofs.Items.{get_here, some_one}
use Rattle.pool_rows.specs.Shared.{AreClosedRows, closed_calls, closed_journal, turns_on}

module _ {T B : Type 0} {h : held.Ghosts T Turn B} where
  -- the turns of each closed shard begin with what the seat has seen
  pub closed_seen : {F Y : Type 0} (turns : Y → List Turn) (P : F → FrontSeat T Turn B h → Y → Type 0) → ((f : F) (s : FrontSeat T Turn B h) (y : Y) → P f s y → IsPrefix (view s).seen (turns y))
      → (fs : List F) (ss : List (FrontSeat T Turn B h)) (ys : List Y) → Along P fs ss ys → (k : ℕ) → Begins (seen_at ss k) (turns_on turns ys k)
  closed_seen turns P seen [] [] [] a k = ([], refl)
  closed_seen turns P seen (f ∷ fs) (s ∷ ss) (y ∷ ys) a zero = let p = seen f s y a.0 in (p.0, sym p.1)
  closed_seen turns P seen (f ∷ fs) (s ∷ ss) (y ∷ ys) a (suc k) = closed_seen turns P seen fs ss ys a.1 k
  closed_seen turns P seen [] [] (y ∷ ys) a k = absurd a
  closed_seen turns P seen [] (s ∷ ss) [] a k = absurd a
  closed_seen turns P seen [] (s ∷ ss) (y ∷ ys) a k = absurd a
  closed_seen turns P seen (f ∷ fs) [] [] a k = absurd a
  closed_seen turns P seen (f ∷ fs) [] (y ∷ ys) a k = absurd a
  closed_seen turns P seen (f ∷ fs) (s ∷ ss) [] a k = absurd a

-- what holds of each item of a list that is a table of bases
pub closed_count : {Y B : Type 0} (basis : Y → B) (at : ℕ → B) (ys : List Y) → map basis ys ≡ map at (range_with_len 0 shard_count) → length ys ≡ shard_count
closed_count basis at ys are = sym (length-map ys basis) ∙ (ap length are ∙ length-map-range_with_len at 0 shard_count)

pub closed_basis : {Y B : Type 0} (basis : Y → B) (at : ℕ → B) (ys : List Y) (k : ℕ) (y : Y) → map basis ys ≡ map at (range_with_len 0 shard_count) → k < shard_count → slice_get ys k ≡ Some y → basis y ≡ at k
closed_basis basis at ys k y are lt got = some_one (basis y) (at k) (sym (got_map basis ys k y got) ∙ (ap (λ l. slice_get l k) are ∙ placed_from at shard_count k lt))

pub got : {A : Type 0} (xs : List A) (k : ℕ) → k < length xs → (x : A) × (slice_get xs k ≡ Some x)
got [] k lt = absurd (omega arith)
got (x ∷ xs) zero lt = (x, refl)
got (x ∷ xs) (suc k) lt = got xs k (omega arith)

-- what was read of a list at the place of a device
item_at : {X : Type 0} (xs : List X) (at k : ℕ) (x : X) → at ≡ k → k < length xs → x ≡ get_or xs at x → slice_get xs k ≡ Some x
item_at xs at k x e lt is = get_here xs k x lt (is ∙ ap (λ n. get_or xs n x) e)

pub every : {X : Type 0} (P : X → Type 0) (xs : List X) → ((x : X) → P x) → All P xs
every P xs all k d lt = all (get_or xs k d)

-- ---- rows and calls

module _ {L : Type 0} {h : law.Ghosts L} (charter : CharterState) (shards : List (StoreShard L h)) (d : ℕ) where
  shard_is_there : AreClosedRows charter shards → shard_of d < length shards
  shard_is_there closed = subst (λ (n : ℕ). shard_of d < n) (sym (closed_count store_basis (basis_at (length charter.rows) charter) shards closed.bases)) (shard_within d)

  pub shard_read : (at : ℕ) (y : StoreShard L h) → AreClosedRows charter shards → at ≡ shard_of d → y ≡ get_or shards at y → slice_get shards (shard_of d) ≡ Some y
  shard_read at y closed same is = item_at shards at (shard_of d) y same (shard_is_there closed) is

  module _ (y : StoreShard L h) (there : slice_get shards (shard_of d) ≡ Some y) where
    turns_there : turns_on store_turns shards (shard_of d) ≡ store_turns y
    turns_there = ap (λ o. option_map_or store_turns o []) there

    basis_there : AreClosedRows charter shards → store_basis y ≡ basis_at (length charter.rows) charter (shard_of d)
    basis_there closed = closed_basis store_basis (basis_at (length charter.rows) charter) shards (shard_of d) y closed.bases (shard_within d) there

    -- the device lies in that shard
    pub here_there : AreClosedRows charter shards → IsDevice (length charter.rows) d → IsHere y.shard d
    here_there closed within =
        let b = basis_there closed in
        (subst (λ (c : ShardBasis). IsDevice c.devices d) (sym b) within, sym (ap (λ (c : ShardBasis). c.shard) b))

    pub journal_there : journal_in d (store_turns y) ≡ closed_journal shards d
    journal_there = ap (journal_in d) (sym turns_there)

    pub lawful_there : (follows : CharterState → ℕ → List Entry → Entry → Type 0) → IsLawful (follows y.shard.charter d) (journal_in d (store_turns y)) → AreClosedRows charter shards → IsLawful (follows charter d) (closed_journal shards d)
    lawful_there follows lawful closed =
        subst (IsLawful (follows charter d)) journal_there
        (subst (λ (c : ShardBasis). IsLawful (follows c.charter d) (journal_in d (store_turns y))) (basis_there closed) lawful)

-- what closed peers have accepted begins its lane of Alone
pub calls_lawful : (charter : CharterState) (shards : List PeerShard) → map peer_basis shards ≡ peer_bases charter → (d : ℕ) (l : Lane) → IsDevice (length charter.rows) d → IsAcceptedOf charter d l (closed_calls shards d l)
calls_lawful charter shards are d l within =
    let y = got shards (shard_of d) (subst (λ (n : ℕ). shard_of d < n) (sym (closed_count peer_basis (peer_basis_at charter) shards are)) (shard_within d)) in
    let b = closed_basis peer_basis (peer_basis_at charter) shards (shard_of d) y.0 are (shard_within d) y.1 in
    let lawful = subst (λ (c : PeerBasis). AreAcceptedIn c.charter (peer_turns y.0)) b y.0.kept.lawful in
    subst (λ (t : List Turn). IsAcceptedOf charter d l (accepted_in d l t)) (sym (ap (λ o. option_map_or peer_turns o []) y.1)) (lawful d l within)

-- ---- results

pub if_both : {A E : Type 0} (P Q R : A → Type 0) (r : Result A E) → ((a : A) → P a → Q a → R a) → IfOk r P → IfOk r Q → IfOk r R
if_both P Q R (Ok a) f p q = f a p q
if_both P Q R (Err e) f p q = p

pub if_all : {A E : Type 0} (P Q R S : A → Type 0) (r : Result A E) → ((a : A) → P a → Q a → R a → S a) → IfOk r P → IfOk r Q → IfOk r R → IfOk r S
if_all P Q R S (Ok a) f p q s = f a p q s
if_all P Q R S (Err e) f p q s = p

-- ---- new seats

module _ {T X B : Type 0} {h : held.Ghosts T X B} where
  -- a new seat speaks for its number
  pub fresh_speaks : (basis : T → B) (bases : List B) (seats : ℕ) (fs : List (Front T X B)) (n : ℕ) (s : FrontsSeat T X B h) → IsFreshSeat basis bases seats fs n s → SpeaksOnAll n s.seats.items
  fresh_speaks basis bases seats fs n s fresh = subst (λ (m : ℕ). SpeaksOnAll m s.seats.items) fresh.number_is (speaks_own h.by s.seats.items s.number (λ t. t.knows) s.numbered)
