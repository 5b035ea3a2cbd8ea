-- What a turn on a front says of a call of the store, and of an offer.
use Rattle.std.proofs.Common.{◌≡◌, ℕ, ◌+◌, ◌<◌, ◌≤◌, zero, suc, List, [], ◌∷◌, ◌++◌, length, map, Some, refl, sym, ap, ◌∙◌, arith, subst}
use Rattle.std.specs.Prelude.{slice_get, All, Result, IfOk}
use Rattle.std.specs.List.{range_with_len}
use Rattle.std.specs.Option.{option_map_or}
use Rattle.std.proofs.lemmas.List.{map-append}
use Rattle.std.proofs.lemmas.List.Elements.{All-nil, All-push}
use Rattle.std.proofs.lemmas.List.FromFn.{map-range_with_len_more}
use Rattle.device_types.specs.declared.effect.Effect.{Effect}
use Rattle.device_types.specs.declared.input.Offer.{Offer}
use Rattle.device_types.specs.declared.step.Entry.{Entry}
use Rattle.device_types.specs.declared.subscriber.DeviceId.{DeviceId}
use Rattle.front_lock.specs.declared.held.Held.{Ghosts}
use Rattle.front_lock.specs.declared.front.Front.{Front}
use Rattle.front_lock.specs.declared.seat.FrontSeat.{FrontSeat}
use Rattle.front_lock.specs.declared.view.View.{View}
use Rattle.front_lock.specs.declared.view.Stage.TheVariants.{Idle}
use Rattle.front_lock.specs.View.{view_at}
use Rattle.front_lock.specs.Numbers.{with_turn}
use Rattle.front_lock.specs.Front.{view, basis_of, IsSeatOf}
use Rattle.front_lock.specs.FrontRow.{AreSeatsOf, Along, TurnsAt, MissesAt, IsValueMore, seen_at}
use Rattle.front_lock.proofs.Items.{some_one, if_ok}
use Rattle.front_lock.proofs.Columns.{got_map, placed_from}
use Rattle.session_row.specs.declared.commit.Commit.{Commit}
use Rattle.session_store.specs.Charter.{CharterState}
use Rattle.session_store.specs.Shards.{shard_count, shard_of}
use Rattle.session_store.proofs.Shards.{shard_within}
use Rattle.store_shared.specs.declared.turn.Turn.{Turn}
use Rattle.store_shared.specs.declared.turn.TurnCall.{TurnCall}
use Rattle.store_shared.specs.declared.turn.TurnAnswer.{TurnAnswer}
use Rattle.store_shared.specs.declared.turn.TurnCall.TheVariants as calls
use Rattle.store_shared.specs.declared.turn.TurnAnswer.TheVariants as answers
use Rattle.store_shared.specs.Legal.{TellsCount, IsBehind, commit_of, journal_in, store_says, IsStoreHistory, AreLawfulIn, IsTurn, peers_say, IsPeerHistory, AreAcceptedIn}
use Rattle.store_shared.proofs.Histories.{legal_more}
use Rattle.store_shared.specs.declared.basis.ShardBasis.{ShardBasis}
use Rattle.store_shared.specs.StoreShards.{turn_by, IsMade}
use Rattle.store_shared.specs.declared.basis.PeerBasis.{PeerBasis}
use Rattle.store_shared.specs.PeerShards.{offer_by}
use Rattle.store_shared.specs.PeerBases.{peer_basis_at, peer_bases}
use Rattle.store_shared.specs.SharedCalls.{Called}
use Rattle.store_shared.specs.SharedOffers.{Offered}
use Rattle.store_shared.specs.StoreBases.{basis_at, shard_bases}
use Rattle.store_shared.proofs.StoreTurns.{tells}

-- the front of a place has its basis
pub front_basis : {T X B : Type 0} (basis : T → B) (at : ℕ → B) (fs : List (Front T X B)) (i : ℕ) (f : Front T X B) → map (λ (p : Front T X B). basis_of basis p) fs ≡ map at (range_with_len 0 shard_count) → i < shard_count → slice_get fs i ≡ Some f → basis_of basis f ≡ at i
front_basis {T = T} {X = X} {B = B} basis at fs i f are lt g =
    some_one (basis_of basis f) (at i) (sym (got_map (λ (p : Front T X B). basis_of basis p) fs i f g) ∙ (ap (λ l. slice_get l i) are ∙ placed_from at shard_count i lt))

-- there is a front at each place below 16
got_unmap : {X Y : Type 0} (f : X → Y) (xs : List X) (i : ℕ) (y : Y) → slice_get (map f xs) i ≡ Some y → (x : X) × (slice_get xs i ≡ Some x) × (f x ≡ y)
got_unmap f [] i y g = absurd (cc)
got_unmap f (x ∷ xs) zero y g = (x, refl, some_one (f x) y g)
got_unmap f (x ∷ xs) (suc i) y g = got_unmap f xs i y g

front_at : {F B : Type 0} (basis : F → B) (at : ℕ → B) (fs : List F) (i : ℕ) → map basis fs ≡ map at (range_with_len 0 shard_count) → i < shard_count → (f : F) × (slice_get fs i ≡ Some f) × (basis f ≡ at i)
front_at basis at fs i are lt = got_unmap basis fs i (at i) (ap (λ l. slice_get l i) are ∙ placed_from at shard_count i lt)

pub low : (d : DeviceId) → shard_of d.0 < shard_count
low d = shard_within d.0

pub seen_is : {T X B : Type 0} {h : Ghosts T X B} (ss : List (FrontSeat T X B h)) (k : ℕ) (s : FrontSeat T X B h) → slice_get ss k ≡ Some s → seen_at ss k ≡ (view s).seen
seen_is {T = T} {X = X} {B = B} {h = h} ss k s g = ap (λ o. option_map_or (λ (t : FrontSeat T X B h). (view t).seen) o []) g

-- what each value keeps
abbrev pub HasHistory : {T : Type 0} → (T → List Turn) → (T → ShardBasis) → T → Type 0
HasHistory turns basis y = IsStoreHistory (basis y).shard (basis y).devices (turns y)

abbrev pub HasOffers : {T : Type 0} → (T → List Turn) → (T → PeerBasis) → T → Type 0
HasOffers turns basis y = IsPeerHistory (basis y).charter (basis y).shard (turns y)

module _ {T : Type 0} {h : Ghosts T Turn ShardBasis} (turns : T → List Turn) (basis : T → ShardBasis) where
  pub called : {A : Type 0} (follows : CharterState → ℕ → List Entry → Entry → Type 0) (devices : ℕ) (charter : CharterState) (fs : List (Front T Turn ShardBasis)) (old new : List (FrontSeat T Turn ShardBasis h)) (d : DeviceId) (call : TurnCall) (answer : TurnAnswer) (says : List Turn → Type 0) (done : ShardBasis → List Turn → Turn → A → Type 0) (a : A)
      → ((y : T) → HasHistory turns basis y) → ((b : ShardBasis) (before : List Turn) (x : Turn) → done b before x a → IsMade follows b before x d call answer × says before)
      → AreSeatsOf basis fs old → map (λ (p : Front T Turn ShardBasis). basis_of basis p) fs ≡ shard_bases devices charter → TurnsAt turns basis (λ x. x.seat) done old (shard_of d.0) a new
      → Called follows devices charter old new d call answer says
  called follows devices charter fs old new d call answer says done a keeps means of are t =
      let v = t.makes in
      let x = v.turn in
      let y = v.value in
      let n = (view t.from).number in
      let f = front_at (λ (p : Front T Turn ShardBasis). basis_of basis p) (basis_at devices charter) fs (shard_of d.0) are (low d) in
      let is : IsSeatOf basis f.0 t.from = of.1 (shard_of d.0) f.0 t.from f.1 t.was in
      let b : basis y ≡ basis_at devices charter (shard_of d.0) = some_one (basis y) (basis_at devices charter (shard_of d.0)) (sym v.basis_is ∙ (is.1 ∙ ap (λ c. Some c) f.2)) in
      let kept = subst (λ (c : ShardBasis). IsStoreHistory c.shard c.devices (turns y)) b (keeps y) in
      let made = subst (λ (c : ShardBasis). IsMade follows c (turns y) x d call answer) b (means (basis y) (turns y) x v.is_done).0 in
      let same : x ≡ turn_by n d call answer = made.turn ∙ ap (λ m. turn_by m d call answer) v.of in
      let turn = subst (λ (z : Turn). IsTurn store_says (shard_of d.0) devices (turns y) z) same made.legal in
      record {
        from = t.from;
        to = t.to;
        before = turns y;
        was = t.was;
        now = t.now;
        seen = v.seen;
        view_is = v.view_is ∙ ap (λ (z : Turn). view_at Idle 0 (turns y ++ z ∷ []) (with_turn n z (view t.from).mine) (view t.from)) same;
        legal = legal_more store_says (shard_of d.0) devices (turns y) (turn_by n d call answer) kept turn;
        lawful = subst (λ (z : Turn). AreLawfulIn (follows charter) devices (turns y ++ z ∷ [])) same made.lawful;
        value = (means (basis y) (turns y) x v.is_done).1;
      }

  pub called_where : {A E : Type 0} (follows : CharterState → ℕ → List Entry → Entry → Type 0) (devices : ℕ) (charter : CharterState) (fs : List (Front T Turn ShardBasis)) (old new : List (FrontSeat T Turn ShardBasis h)) (d : DeviceId) (call : TurnCall) (answer : A → TurnAnswer) (says : A → List Turn → Type 0) (done : ShardBasis → List Turn → Turn → A → Type 0) (r : Result A E)
      → ((y : T) → HasHistory turns basis y) → ((a : A) (b : ShardBasis) (before : List Turn) (x : Turn) → done b before x a → IsMade follows b before x d call (answer a) × says a before)
      → AreSeatsOf basis fs old → map (λ (p : Front T Turn ShardBasis). basis_of basis p) fs ≡ shard_bases devices charter → IfOk r (λ a. TurnsAt turns basis (λ x. x.seat) done old (shard_of d.0) a new)
      → IfOk r (λ a. Called follows devices charter old new d call (answer a) (says a))
  called_where follows devices charter fs old new d call answer says done r keeps means of are all =
      if_ok (λ a. TurnsAt turns basis (λ x. x.seat) done old (shard_of d.0) a new) (λ a. Called follows devices charter old new d call (answer a) (says a)) r
      (λ a t. called follows devices charter fs old new d call (answer a) (says a) done a keeps (means a) of are t) all

-- what a write tells of what the seat has seen behind it
pub told : {T : Type 0} {h : Ghosts T Turn ShardBasis} (follows : CharterState → ℕ → List Entry → Entry → Type 0) (devices : ℕ) (charter : CharterState) (old new : List (FrontSeat T Turn ShardBasis h)) (d : DeviceId) (read : ℕ) (entry : Entry) (commit : Commit)
    → Called follows devices charter old new d (calls.Commit read entry) (answers.Commit commit) (λ before. (commit ≡ commit_of (length (journal_in d.0 before)) read) × IsBehind read commit) → TellsCount d.0 read (seen_at new (shard_of d.0)) commit
told follows devices charter old new d read entry commit c =
    let seen = seen_is new (shard_of d.0) c.to c.now ∙ ap (λ (v : View Turn ShardBasis). v.seen) c.view_is in
    subst (λ (t : List Turn). TellsCount d.0 read t commit) (sym seen) (tells d (view c.from).number read entry c.before commit c.value.0 c.value.1)

module _ {T : Type 0} {h : Ghosts T Turn PeerBasis} (turns : T → List Turn) (basis : T → PeerBasis) where
  pub offered : (charter : CharterState) (fs : List (Front T Turn PeerBasis)) (old new : List (FrontSeat T Turn PeerBasis h)) (d : DeviceId) (k : ℕ) (call : Effect) (done : PeerBasis → List Turn → Turn → Offer → Type 0) (offer : Offer)
      → ((y : T) → HasOffers turns basis y) → ((b : PeerBasis) (before : List Turn) (x : Turn) → done b before x offer → (x ≡ offer_by x.seat d k call (answers.Offer offer)) × IsTurn (peers_say b.charter.rows) b.shard (length b.charter.rows) before x × AreAcceptedIn b.charter (before ++ x ∷ []))
      → AreSeatsOf basis fs old → map (λ (p : Front T Turn PeerBasis). basis_of basis p) fs ≡ peer_bases charter → TurnsAt turns basis (λ x. x.seat) done old (shard_of d.0) offer new
      → Offered charter old new d k call offer
  offered charter fs old new d k call done offer keeps means of are t =
      let v = t.makes in
      let x = v.turn in
      let y = v.value in
      let n = (view t.from).number in
      let f = front_at (λ (p : Front T Turn PeerBasis). basis_of basis p) (peer_basis_at charter) fs (shard_of d.0) are (low d) in
      let is : IsSeatOf basis f.0 t.from = of.1 (shard_of d.0) f.0 t.from f.1 t.was in
      let b : basis y ≡ peer_basis_at charter (shard_of d.0) = some_one (basis y) (peer_basis_at charter (shard_of d.0)) (sym v.basis_is ∙ (is.1 ∙ ap (λ c. Some c) f.2)) in
      let kept = subst (λ (c : PeerBasis). IsPeerHistory c.charter c.shard (turns y)) b (keeps y) in
      let made = means (basis y) (turns y) x v.is_done in
      let legal = subst (λ (c : PeerBasis). IsTurn (peers_say c.charter.rows) c.shard (length c.charter.rows) (turns y) x) b made.1 in
      let same : x ≡ offer_by n d k call (answers.Offer offer) = made.0 ∙ ap (λ m. offer_by m d k call (answers.Offer offer)) v.of in
      let turn = subst (λ (z : Turn). IsTurn (peers_say charter.rows) (shard_of d.0) (length charter.rows) (turns y) z) same legal in
      record {
        from = t.from;
        to = t.to;
        before = turns y;
        was = t.was;
        now = t.now;
        seen = v.seen;
        view_is = v.view_is ∙ ap (λ (z : Turn). view_at Idle 0 (turns y ++ z ∷ []) (with_turn n z (view t.from).mine) (view t.from)) same;
        legal = legal_more (peers_say charter.rows) (shard_of d.0) (length charter.rows) (turns y) (offer_by n d k call (answers.Offer offer)) kept turn;
        lawful = subst (λ (z : Turn). AreAcceptedIn charter (turns y ++ z ∷ [])) same (subst (λ (c : PeerBasis). AreAcceptedIn c.charter (turns y ++ x ∷ [])) b made.2);
      }

pub missed_at : {T X B : Type 0} {h : Ghosts T X B} (turns : T → List X) (basis : T → B) (old new : List (FrontSeat T X B h)) (at k : ℕ) → at ≡ k → MissesAt turns basis old at new → MissesAt turns basis old k new
missed_at turns basis old new at k e m = subst (λ (n : ℕ). MissesAt turns basis old n new) e m

pub turned_at : {T X B A : Type 0} {h : Ghosts T X B} (turns : T → List X) (basis : T → B) (by : X → ℕ) (done : B → List X → X → A → Type 0) (old new : List (FrontSeat T X B h)) (at k : ℕ) (a : A) → at ≡ k → TurnsAt turns basis by done old at a new → TurnsAt turns basis by done old k a new
turned_at turns basis by done old new at k a e t = subst (λ (n : ℕ). TurnsAt turns basis by done old n a new) e t

-- one more shard at the end
pub bases_more : {S B : Type 0} (basis : S → B) (at : ℕ → B) (made made' : List S) (x : S) (n : ℕ) → made' ≡ made ++ x ∷ [] → basis x ≡ at n → map basis made ≡ map at (range_with_len 0 n) → map basis made' ≡ map at (range_with_len 0 (n + 1))
bases_more basis at made made' x n more is h =
    ap (map basis) more ∙ (map-append basis made (x ∷ []) ∙ (ap (λ l. l ++ basis x ∷ []) h ∙ (ap (λ b. map at (range_with_len 0 n) ++ b ∷ []) is ∙ sym (map-range_with_len_more at 0 n n (omega arith)))))

-- a shard more, without turns
pub shards_on : {T X B : Type 0} (turns : T → List X) (basis : T → B) (at : ℕ → B) (made made' : List T) (n : ℕ) → IsValueMore turns basis (at n) made made' → map basis made ≡ map at (range_with_len 0 n) → map basis made' ≡ map at (range_with_len 0 (n + 1))
shards_on turns basis at made made' n more are = bases_more basis at made made' more.value n more.items more.basis_is are

pub empty_on : {T X B : Type 0} (turns : T → List X) (basis : T → B) (b : B) (made made' : List T) → IsValueMore turns basis b made made' → All (λ t. turns t ≡ []) made → All (λ t. turns t ≡ []) made'
empty_on turns basis b made made' more are = subst (All (λ t. turns t ≡ [])) (sym more.items) (All-push (λ t. turns t ≡ []) made more.value are more.empty)

-- as many as there are
pub all_made : {S B : Type 0} (basis : S → B) (at : ℕ → B) (made : List S) (n count : ℕ) → n ≤ count → count ≤ n → map basis made ≡ map at (range_with_len 0 n) → map basis made ≡ map at (range_with_len 0 count)
all_made basis at made n count most least are = let e : n ≡ count = omega (arith, most, least) in subst (λ (m : ℕ). map basis made ≡ map at (range_with_len 0 m)) e are

-- where there is none yet
pub none_held : {T X : Type 0} (turns : T → List X) (made : List T) → made ≡ [] → All (λ t. turns t ≡ []) made
none_held turns made none = subst (All (λ t. turns t ≡ [])) (sym none) (All-nil (λ t. turns t ≡ []))

-- the closed values have the bases of their fronts
pub closed_bases : {F S Y B : Type 0} (P : F → S → Y → Type 0) (of : F → B) (basis : Y → B) → ((f : F) (s : S) (y : Y) → P f s y → basis y ≡ of f) → (fs : List F) (ss : List S) (ys : List Y) → Along P fs ss ys → map basis ys ≡ map of fs
closed_bases P of basis is [] [] [] a = refl
closed_bases P of basis is (f ∷ fs) (s ∷ ss) (y ∷ ys) a = let head = is f s y a.0 in let tail = closed_bases P of basis is fs ss ys a.1 in ap (λ b. b ∷ map basis ys) head ∙ ap (λ l. of f ∷ l) tail
closed_bases P of basis is [] [] (y ∷ ys) a = absurd a
closed_bases P of basis is [] (s ∷ ss) [] a = absurd a
closed_bases P of basis is [] (s ∷ ss) (y ∷ ys) a = absurd a
closed_bases P of basis is (f ∷ fs) [] [] a = absurd a
closed_bases P of basis is (f ∷ fs) [] (y ∷ ys) a = absurd a
closed_bases P of basis is (f ∷ fs) (s ∷ ss) [] a = absurd a
