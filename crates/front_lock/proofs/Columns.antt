-- Fronts in a row and their seats, one after another.
use Rattle.std.proofs.Common.{◌≡◌, ℕ, zero, suc, ◌+◌, ◌<◌, ◌≤◌, ⊎_elim, List, [], ◌∷◌, ◌++◌, length, map, set, get_or, Some, refl, sym, ap, ◌∙◌, arith, subst, append_assoc, append-nil, length-append}
use Rattle.std.specs.List.{range_with_len}
use Rattle.std.specs.Prelude.{slice_get, All, reverse, IfOk, IfErr, Result, Ok, Err, IsTrue, ◌||◌, ◌==◌, true}
use Rattle.std.proofs.lemmas.Bool.{cases_eq, cases_lt, or_left}
use Rattle.std.proofs.lemmas.List.{map-append, length-map, reverse-append, reverse-reverse}
use Rattle.std.proofs.lemmas.List.Elements.{All-get_or, All-nil, All-pop, All-push, All-set}
use Rattle.std.proofs.lemmas.List.Folds.{list_any-append}
use Rattle.std.proofs.Math.Bool.{or-true}
use Rattle.std.proofs.lemmas.List.FromFn.{length-map-range_with_len}
use Rattle.std.proofs.lemmas.Simd.{map-map}
use Rattle.std.proofs.lemmas.Option.{slice_get_within, slice_get-get_or, get_or_from_slice_get}
use Rattle.front_lock.specs.declared.held.Held.{Ghosts}
use Rattle.front_lock.specs.declared.front.Front.{Front}
use Rattle.front_lock.specs.declared.seat.FrontSeat.{FrontSeat}
use Rattle.front_lock.specs.declared.view.View.{View}
use Rattle.front_lock.proofs.Seats.{all_reverse}
use Rattle.front_lock.specs.Front.{view, basis_of, seats_of, IsSeatOf}
use Rattle.front_lock.specs.View.{fresh_view, KnowsItsTurns}
use Rattle.front_lock.specs.Numbers.{speaks_for}
use Rattle.front_lock.specs.Turns.{JoinsViews, MakesTurn, MissesTurn}
use Rattle.front_lock.specs.declared.row.FrontsSeat.{FrontsSeat}
use Rattle.front_lock.specs.FrontRow.{AreSeatsOf, SpeaksOnAll, AreFreshSeats, AreJoined, Along, IsDealtAt, AreDealt, IsSeated, AreSeated, IsFrontMore, AreFronts}
use Rattle.front_lock.proofs.Items.{get_here, get_set, get_set_else, length_set, some_one, get_at, last_or_before, of_set, one_off}

nil_of : {X : Type 0} (l : List X) → length l ≡ 0 → l ≡ []
nil_of [] e = refl
nil_of (x ∷ l) e = absurd (omega arith)

-- what holds of each item holds of one that is got
pub holds_of : {X : Type 0} (P : X → Type 0) (xs : List X) (i : ℕ) (x : X) → All P xs → slice_get xs i ≡ Some x → P x
holds_of P xs i x all g = subst P (get_or_from_slice_get xs i x x g) (All-get_or P xs i x (slice_get_within xs i x g) all)

pub all_of : {X : Type 0} (P Q : X → Type 0) (xs : List X) → ((x : X) → P x → Q x) → All P xs → All Q xs
all_of P Q xs f all k d lt = f (get_or xs k d) (all k d lt)

-- what stands at a place of a list that was mapped
pub got_map : {X Y : Type 0} (f : X → Y) (xs : List X) (i : ℕ) (x : X) → slice_get xs i ≡ Some x → slice_get (map f xs) i ≡ Some (f x)
got_map f [] i x g = absurd (cc)
got_map f (y ∷ ys) zero x g = ap (λ o. Some (f o)) (some_one y x g)
got_map f (y ∷ ys) (suc i) x g = got_map f ys i x g

-- one more at the end of each of two lists
pub of_more : {A C : Type 0} (P : A → C → Type 0) (fs : List A) (ss : List C) (f : A) (s : C) → length ss ≡ length fs → P f s → ((k : ℕ) (p : A) (q : C) → slice_get fs k ≡ Some p → slice_get ss k ≡ Some q → P p q)
    → (k : ℕ) (p : A) (q : C) → slice_get (fs ++ f ∷ []) k ≡ Some p → slice_get (ss ++ s ∷ []) k ≡ Some q → P p q
of_more {A = A} {C = C} P fs ss f s len new old k p q there at =
    let one = last_or_before fs f p k there in
    let two = last_or_before ss s q k at in
    ⊎_elim
    (λ (below : k < length fs). old k p q (one.0 below) (two.0 (omega arith)))
    (λ (past : length fs ≤ k).
    let a = one.1 past in
    let b = two.1 (omega arith) in
    subst (λ (t : A × C). P t.0 t.1) (λ j. (a.1 j, b.1 j)) new)
    (cases_lt k (length fs))

-- what stands at a place of a list that was made by place
pub placed : {B : Type 0} (f : ℕ → B) (n a i : ℕ) → i < n → slice_get (map f (range_with_len a n)) i ≡ Some (f (a + i))
placed f zero a i lt = absurd (omega arith)
placed f (suc n) a zero lt = ap (λ m. Some (f m)) (omega arith)
placed f (suc n) a (suc i) lt = placed f n (a + 1) i (omega arith) ∙ ap (λ m. Some (f m)) (omega arith)

pub placed_from : {B : Type 0} (f : ℕ → B) (n i : ℕ) → i < n → slice_get (map f (range_with_len 0 n)) i ≡ Some (f i)
placed_from f n i lt = placed f n 0 i lt ∙ ap (λ m. Some (f m)) (omega arith)

-- the views of a new seat, by the bases
pub views_of : {F B V : Type 0} (basis : F → B) (view_of : B → V) (fs : List F) (bs : List B) (vs : List V) → vs ≡ map (λ f. view_of (basis f)) fs → map basis fs ≡ bs → vs ≡ map view_of bs
views_of basis view_of fs bs vs are is = are ∙ (sym (map-map view_of basis fs) ∙ ap (map view_of) is)

module _ {T X B : Type 0} {h : Ghosts T X B} where
  -- ---- seats are dealt out

  -- what is known while the seats of a column are dealt out, from the last one on
  pub record Deals (made₀ : List (FrontsSeat T X B h)) (all : List (FrontSeat T X B h)) (made : List (FrontsSeat T X B h)) (column : List (FrontSeat T X B h)) : Type 0 where
    pub gone : List (FrontSeat T X B h)
    pub whole : column ++ gone ≡ all
    pub count : length made ≡ length made₀
    pub low : length column ≤ length made
    pub below : (n : ℕ) → n < length column → slice_get made n ≡ slice_get made₀ n
    pub above : (n : ℕ) (s : FrontsSeat T X B h) → length column ≤ n → slice_get made n ≡ Some s → IsDealtAt made₀ all n s

  pub deals_on : (made₀ : List (FrontsSeat T X B h)) (all : List (FrontSeat T X B h)) (made : List (FrontsSeat T X B h)) (before after : List (FrontSeat T X B h)) (x : FrontSeat T X B h) (from to : FrontsSeat T X B h) → Deals made₀ all made before → before ≡ after ++ x ∷ [] → slice_get made (length after) ≡ Some from → to.seats.items ≡ from.seats.items ++ x ∷ [] → to.number ≡ from.number → Deals made₀ all (set made (length after) to) after
  deals_on made₀ all made before after x from to d off was items number =
      let k = length after in
      let longer : length before ≡ k + 1 = ap length off ∙ length-append after (x ∷ []) in
      let whole : after ++ x ∷ d.gone ≡ all = one_off all before after d.gone x off d.whole in
      let low = d.low in
      let within : k < length made = omega arith in
      let here : slice_get all k ≡ Some x = ap (λ l. slice_get l k) (sym whole) ∙ get_at after d.gone x in
      let old : slice_get made₀ k ≡ Some from = sym (d.below k (omega arith)) ∙ was in
      record {
        gone = x ∷ d.gone;
        whole = whole;
        count = length_set made k to ∙ d.count;
        low = let e = length_set made k to in omega arith;
        below = λ n lt. get_set_else made k n to (λ e. absurd (omega (arith, e))) ∙ d.below n (omega arith);
        above = λ n s le g.
            ⊎_elim
            (λ (e : n ≡ k).
            let same : to ≡ s = some_one to s (sym (get_set made k to within) ∙ (ap (slice_get (set made k to)) (sym e) ∙ g)) in
            subst (λ (m : ℕ). IsDealtAt made₀ all m s) (sym e) (subst (λ (t : FrontsSeat T X B h). IsDealtAt made₀ all k t) same (record { from = from; more = x; was = old; here = here; number_is = number; items = items })))
            (λ (ne : n ≡ k → ⊥). d.above n s (omega (arith, ne)) (sym (get_set_else made k n to ne) ∙ g))
            (cases_eq n k);
      }

  pub deals_at : (made₀ : List (FrontsSeat T X B h)) (all : List (FrontSeat T X B h)) (made : List (FrontsSeat T X B h)) (before after : List (FrontSeat T X B h)) (x : FrontSeat T X B h) (from to : FrontsSeat T X B h) (k : ℕ) → Deals made₀ all made before → before ≡ after ++ x ∷ [] → k ≡ length after → from ≡ get_or made k from → to.seats.items ≡ from.seats.items ++ x ∷ [] → to.number ≡ from.number → Deals made₀ all (set made k to) after
  deals_at made₀ all made before after x from to k d off place was items number =
      let longer : length before ≡ length after + 1 = ap length off ∙ length-append after (x ∷ []) in
      let low = d.low in
      let here : slice_get made k ≡ Some from = get_here made k from (omega arith) was in
      subst (λ (m : ℕ). Deals made₀ all (set made m to) after) (sym place) (deals_on made₀ all made before after x from to d off (ap (slice_get made) (sym place) ∙ here) items number)

  -- the seat of a column and the one that it goes to have one number
  pub deal_number : (made₀ : List (FrontsSeat T X B h)) (all : List (FrontSeat T X B h)) (made : List (FrontsSeat T X B h)) (before after : List (FrontSeat T X B h)) (x : FrontSeat T X B h) (from : FrontsSeat T X B h) (k : ℕ) → ((n : ℕ) (s : FrontsSeat T X B h) (t : FrontSeat T X B h) → slice_get made₀ n ≡ Some s → slice_get all n ≡ Some t → (view t).number ≡ s.number) → Deals made₀ all made before → before ≡ after ++ x ∷ [] → k ≡ length after → from ≡ get_or made k from → (view x).number ≡ from.number
  deal_number made₀ all made before after x from k numbers d off place was =
      let longer : length before ≡ length after + 1 = ap length off ∙ length-append after (x ∷ []) in
      let low = d.low in
      let here : slice_get made k ≡ Some from = get_here made k from (omega arith) was in
      let old : slice_get made₀ k ≡ Some from = sym (d.below k (omega arith)) ∙ here in
      let there : slice_get all k ≡ Some x = ap (λ l. slice_get l k) (sym (one_off all before after d.gone x off d.whole)) ∙ (ap (slice_get (after ++ x ∷ d.gone)) place ∙ get_at after d.gone x) in
      numbers k from x old there

  -- ---- one more front

  pub seated_more : (basis : T → B) (seats : ℕ) (fs fs' : List (Front T X B)) (f : Front T X B) (made made' : List (FrontsSeat T X B h)) (column : List (FrontSeat T X B h)) (b : B) → basis_of basis f ≡ b → length made ≡ seats → fs' ≡ fs ++ f ∷ []
      → ((n : ℕ) (s : FrontsSeat T X B h) → slice_get made n ≡ Some s → IsSeated basis seats fs n s.number s.seats.items)
      → map (λ (t : FrontSeat T X B h). view t) column ≡ map (fresh_view b seats) (range_with_len 0 seats) → All (λ t. IsSeatOf basis f t) column → AreDealt made column made'
      → (n : ℕ) (s : FrontsSeat T X B h) → slice_get made' n ≡ Some s → IsSeated basis seats fs' n s.number s.seats.items
  seated_more basis seats fs fs' f made made' column b is count more old fresh_are are dealt n s g =
      let d = dealt.each n s g in
      let was = old n d.from d.was in
      let within : n < seats = let e = slice_get_within made n d.from d.was in omega (arith, e, count) in
      let is_fresh : view d.more ≡ fresh_view (basis_of basis f) seats n = some_one (view d.more) (fresh_view (basis_of basis f) seats n) (sym (got_map (λ (t : FrontSeat T X B h). view t) column n d.more d.here) ∙ ap (λ l. slice_get l n) fresh_are ∙ placed_from (λ (k : ℕ). fresh_view {X = X} b seats k) seats n within ∙ ap (λ c. Some (fresh_view c seats n)) (sym is)) in
      let seat_of : IsSeatOf basis f d.more = holds_of (λ t. IsSeatOf basis f t) column n d.more are d.here in
      let len : length (d.from.seats.items ++ d.more ∷ []) ≡ length (fs ++ f ∷ []) = length-append d.from.seats.items (d.more ∷ []) ∙ (ap (λ q. q + 1) was.of.0 ∙ sym (length-append fs (f ∷ []))) in
      let now : IsSeated basis seats (fs ++ f ∷ []) n s.number (d.from.seats.items ++ d.more ∷ []) = record {
        number_is = d.number_is ∙ was.number_is;
        of = (len, of_more (λ p q. IsSeatOf basis p q) fs d.from.seats.items f d.more was.of.0 seat_of was.of.1);
        views = map-append (λ (t : FrontSeat T X B h). view t) d.from.seats.items (d.more ∷ []) ∙ (ap (λ l. l ++ view d.more ∷ []) was.views ∙ (ap (λ v. map (λ (p : Front T X B). fresh_view (basis_of basis p) seats n) fs ++ v ∷ []) is_fresh ∙ sym (map-append (λ (p : Front T X B). fresh_view (basis_of basis p) seats n) fs (f ∷ []))));
      } in
      subst (λ (t : List (Front T X B) × List (FrontSeat T X B h)). IsSeated basis seats t.0 n s.number t.1) (λ j. (sym more j, sym d.items j)) now

  -- ---- seats are joined

  pub record Joining (basis : T → B) (fs : List (Front T X B)) (into₀ all into from : List (FrontSeat T X B h)) : Type 0 where
    pub gone : List (FrontSeat T X B h)
    pub whole : from ++ gone ≡ all
    pub of : AreSeatsOf basis fs into
    pub low : length from ≤ length into
    pub below : (n : ℕ) → n < length from → slice_get into n ≡ slice_get into₀ n
    pub above : (n : ℕ) (v w u : FrontSeat T X B h) → length from ≤ n → slice_get into₀ n ≡ Some v → slice_get all n ≡ Some w → slice_get into n ≡ Some u → JoinsViews (view v) (view w) (view u)

  pub joins_on : (basis : T → B) (fs : List (Front T X B)) (into₀ all into before after : List (FrontSeat T X B h)) (f : Front T X B) (x from to : FrontSeat T X B h) → Joining basis fs into₀ all into before → before ≡ after ++ x ∷ [] → slice_get fs (length after) ≡ Some f → slice_get into (length after) ≡ Some from → IsSeatOf basis f to → JoinsViews (view from) (view x) (view to) → Joining basis fs into₀ all (set into (length after) to) after
  joins_on basis fs into₀ all into before after f x from to d off front was is together =
      let k = length after in
      let longer : length before ≡ k + 1 = ap length off ∙ length-append after (x ∷ []) in
      let whole : after ++ x ∷ d.gone ≡ all = one_off all before after d.gone x off d.whole in
      let low = d.low in
      let within : k < length into = omega arith in
      let here : slice_get all k ≡ Some x = ap (λ l. slice_get l k) (sym whole) ∙ get_at after d.gone x in
      let old : slice_get into₀ k ≡ Some from = sym (d.below k (omega arith)) ∙ was in
      record {
        gone = x ∷ d.gone;
        whole = whole;
        of = (length_set into k to ∙ d.of.0, of_set (λ p q. IsSeatOf basis p q) fs into k f to within front is d.of.1);
        low = let e = length_set into k to in omega arith;
        below = λ n lt. get_set_else into k n to (λ e. absurd (omega (arith, e))) ∙ d.below n (omega arith);
        above = λ n v w u le gv gw gu.
            ⊎_elim
            (λ (e : n ≡ k).
            let one : from ≡ v = some_one from v (sym old ∙ (ap (slice_get into₀) (sym e) ∙ gv)) in
            let two : x ≡ w = some_one x w (sym here ∙ (ap (slice_get all) (sym e) ∙ gw)) in
            let three : to ≡ u = some_one to u (sym (get_set into k to within) ∙ (ap (slice_get (set into k to)) (sym e) ∙ gu)) in
            subst (λ (t : FrontSeat T X B h). JoinsViews (view v) (view w) (view t)) three (subst (λ (t : FrontSeat T X B h). JoinsViews (view v) (view t) (view to)) two (subst (λ (t : FrontSeat T X B h). JoinsViews (view t) (view x) (view to)) one together)))
            (λ (ne : n ≡ k → ⊥). d.above n v w u (omega (arith, ne)) gv gw (sym (get_set_else into k n to ne) ∙ gu))
            (cases_eq n k);
      }

  pub joins_at : (basis : T → B) (fs : List (Front T X B)) (into₀ all into before after : List (FrontSeat T X B h)) (f : Front T X B) (x from to : FrontSeat T X B h) (k : ℕ) → Joining basis fs into₀ all into before → before ≡ after ++ x ∷ [] → k ≡ length after → f ≡ get_or fs k f → from ≡ get_or into k from → IsSeatOf basis f to → JoinsViews (view from) (view x) (view to) → Joining basis fs into₀ all (set into k to) after
  joins_at basis fs into₀ all into before after f x from to k d off place front was is together =
      let longer : length before ≡ length after + 1 = ap length off ∙ length-append after (x ∷ []) in
      let low = d.low in
      let same = d.of.0 in
      let here : slice_get into k ≡ Some from = get_here into k from (omega arith) was in
      let there : slice_get fs k ≡ Some f = get_here fs k f (omega arith) front in
      subst (λ (m : ℕ). Joining basis fs into₀ all (set into m to) after) (sym place) (joins_on basis fs into₀ all into before after f x from to d off (ap (slice_get fs) (sym place) ∙ there) (ap (slice_get into) (sym place) ∙ here) is together)

  pub joins_below : (basis : T → B) (fs : List (Front T X B)) (into₀ all into before after : List (FrontSeat T X B h)) (x : FrontSeat T X B h) (k : ℕ) → Joining basis fs into₀ all into before → before ≡ after ++ x ∷ [] → k ≡ length after → k < length into
  joins_below basis fs into₀ all into before after x k d off place =
      let longer : length before ≡ length after + 1 = ap length off ∙ length-append after (x ∷ []) in
      let low = d.low in
      omega arith

  -- both seats were made with the front
  pub join_into : (basis : T → B) (fs : List (Front T X B)) (into₀ all into before after : List (FrontSeat T X B h)) (f : Front T X B) (x from : FrontSeat T X B h) (k : ℕ) → Joining basis fs into₀ all into before → before ≡ after ++ x ∷ [] → k ≡ length after → f ≡ get_or fs k f → from ≡ get_or into k from → IsSeatOf basis f from
  join_into basis fs into₀ all into before after f x from k d off place front was =
      let longer : length before ≡ length after + 1 = ap length off ∙ length-append after (x ∷ []) in
      let low = d.low in
      let same = d.of.0 in
      d.of.1 k f from (get_here fs k f (omega arith) front) (get_here into k from (omega arith) was)

  pub join_from : (basis : T → B) (fs : List (Front T X B)) (into₀ all into before after : List (FrontSeat T X B h)) (f : Front T X B) (x : FrontSeat T X B h) (k : ℕ) → Joining basis fs into₀ all into before → AreSeatsOf basis fs all → before ≡ after ++ x ∷ [] → k ≡ length after → f ≡ get_or fs k f → IsSeatOf basis f x
  join_from basis fs into₀ all into before after f x k d of off place front =
      let longer : length before ≡ length after + 1 = ap length off ∙ length-append after (x ∷ []) in
      let low = d.low in
      let same = d.of.0 in
      let here : slice_get all (length after) ≡ Some x = ap (λ l. slice_get l (length after)) (sym (one_off all before after d.gone x off d.whole)) ∙ get_at after d.gone x in
      of.1 k f x (get_here fs k f (omega arith) front) (ap (slice_get all) place ∙ here)

  pub join_opens : (basis : T → B) (fs : List (Front T X B)) (into from : List (FrontSeat T X B h)) → AreSeatsOf basis fs into → AreSeatsOf basis fs from → Joining basis fs into from into from
  join_opens basis fs into from a b = record {
    gone = [];
    whole = append-nil from;
    of = a;
    low = let p = a.0 in let q = b.0 in omega arith;
    below = λ n lt. refl;
    above = λ n v w u le gv gw gu. absurd (omega (arith, le, slice_get_within from n w gw));
  }

  pub deal_opens : (made : List (FrontsSeat T X B h)) (column : List (FrontSeat T X B h)) → length column ≡ length made → Deals made column made column
  deal_opens made column len = record {
    gone = [];
    whole = append-nil column;
    count = refl;
    low = omega arith;
    below = λ n lt. refl;
    above = λ n s le g. absurd (omega (arith, le, len, slice_get_within made n s g));
  }

  pub seated_none : (basis : T → B) (seats : ℕ) (fs : List (Front T X B)) (n number : ℕ) (ss : List (FrontSeat T X B h)) → fs ≡ [] → number ≡ n → ss ≡ [] → IsSeated basis seats fs n number ss
  seated_none basis seats fs n number ss ef is es =
      subst (λ (t : List (Front T X B) × List (FrontSeat T X B h)). IsSeated basis seats t.0 n number t.1) (λ j. (sym ef j, sym es j))
      (record { number_is = is; of = (refl, λ k f s g. absurd (cc)); views = refl })

  pub column_count : (made : List (FrontsSeat T X B h)) (column : List (FrontSeat T X B h)) (b : B) (seats : ℕ) → length made ≡ seats → map (λ (t : FrontSeat T X B h). view t) column ≡ map (fresh_view b seats) (range_with_len 0 seats) → length column ≡ length made
  column_count made column b seats count are = sym (length-map column (λ (t : FrontSeat T X B h). view t)) ∙ (ap length are ∙ (length-map-range_with_len (λ (k : ℕ). fresh_view {X = X} b seats k) 0 seats ∙ sym count))

-- ---- numbers

got_some : {A : Type 0} (xs : List A) (k : ℕ) → k < length xs → (x : A) × (slice_get xs k ≡ Some x)
got_some [] k lt = absurd (omega arith)
got_some (x ∷ xs) zero lt = (x, refl)
got_some (x ∷ xs) (suc k) lt = got_some xs k (omega arith)

-- a turn leaves the number as it is
pub number_stays : {T X B A E : Type 0} (turns : T → List X) (basis : T → B) (by : X → ℕ) (done : B → List X → X → A → Type 0) (v w : View X B) (r : Result A E) → IfOk r (λ a. MakesTurn turns basis by done v a w) → IfErr r (λ e. MissesTurn turns basis v w) → w.number ≡ v.number
number_stays turns basis by done v w (Ok a) ok err = ap (λ u. u.number) ok.view_is
number_stays turns basis by done v w (Err e) ok err = ap (λ u. u.number) err.view_is

pub count_more : {A : Type 0} (xs ys : List A) (x : A) (n : ℕ) → ys ≡ xs ++ x ∷ [] → length xs ≡ n → length ys ≡ n + 1
count_more xs ys x n more count = ap length more ∙ (length-append xs (x ∷ []) ∙ ap (λ m. m + 1) count)

pub none_got : {A : Type 0} (xs : List A) (i : ℕ) (x : A) → xs ≡ [] → slice_get xs i ≡ Some x → ⊥
none_got xs i x none got = let e : length xs ≡ 0 = ap length none in let lt = slice_get_within xs i x got in omega arith

module _ {T X B : Type 0} {h : Ghosts T X B} where
  -- a new seat without fronts behind those before it
  pub numbers_more : (made made' : List (FrontsSeat T X B h)) (s : FrontsSeat T X B h) (n : ℕ) → length made ≡ n → made' ≡ made ++ s ∷ [] → s.number ≡ n → s.seats.items ≡ [] → ((i : ℕ) (t : FrontsSeat T X B h) → slice_get made i ≡ Some t → (t.number ≡ i) × (t.seats.items ≡ [])) → (i : ℕ) (t : FrontsSeat T X B h) → slice_get made' i ≡ Some t → (t.number ≡ i) × (t.seats.items ≡ [])
  numbers_more made made' s n count more is none old i t got =
      let r = last_or_before made s t i (ap (λ l. slice_get l i) (sym more) ∙ got) in
      ⊎_elim
      (λ (below : i < length made). old i t (r.0 below))
      (λ (past : length made ≤ i).
      let last = r.1 past in
      subst (λ (u : FrontsSeat T X B h). (u.number ≡ i) × (u.seats.items ≡ [])) last.1 (is ∙ sym (last.0 ∙ count), none))
      (cases_lt i (length made))

  -- the seats of a front have the numbers of the seats that they go to
  pub column_numbers : (basis : T → B) (seats : ℕ) (fs : List (Front T X B)) (made : List (FrontsSeat T X B h)) (column : List (FrontSeat T X B h)) (b : B) → length made ≡ seats → ((n : ℕ) (s : FrontsSeat T X B h) → slice_get made n ≡ Some s → IsSeated basis seats fs n s.number s.seats.items)
      → map (λ (t : FrontSeat T X B h). view t) column ≡ map (fresh_view b seats) (range_with_len 0 seats) → (n : ℕ) (s : FrontsSeat T X B h) (t : FrontSeat T X B h) → slice_get made n ≡ Some s → slice_get column n ≡ Some t → (view t).number ≡ s.number
  column_numbers basis seats fs made column b count old are n s t gs gt =
      let within : n < seats = let e = slice_get_within made n s gs in omega (arith, e, count) in
      let is : view t ≡ fresh_view b seats n = some_one (view t) (fresh_view b seats n) (sym (got_map (λ (p : FrontSeat T X B h). view p) column n t gt) ∙ ap (λ l. slice_get l n) are ∙ placed_from (λ (k : ℕ). fresh_view {X = X} b seats k) seats n within) in
      ap (λ (v : View X B). v.number) is ∙ sym ((old n s gs).number_is)

  -- the numbers of seats of which one is another of the same number
  pub numbered_with : (ss : List (FrontSeat T X B h)) (i number : ℕ) (from to : FrontSeat T X B h) → i < length ss → from ≡ get_or ss i from → (view to).number ≡ (view from).number → All (λ s. (view s).number ≡ number) ss → All (λ s. (view s).number ≡ number) (set ss i to)
  numbered_with ss i number from to lt was same all =
      All-set (λ (s : FrontSeat T X B h). (view s).number ≡ number) ss i to (same ∙ holds_of (λ (s : FrontSeat T X B h). (view s).number ≡ number) ss i from all (get_here ss i from lt was)) all

  -- the numbers of seats with one of the same number more
  pub numbered_more : (ss mid items : List (FrontSeat T X B h)) (seat : FrontSeat T X B h) (number : ℕ) → items ≡ mid ++ seat ∷ [] → mid ≡ ss → (view seat).number ≡ number → All (λ s. (view s).number ≡ number) ss → All (λ s. (view s).number ≡ number) items
  numbered_more ss mid items seat number pushed same is all =
      subst (All (λ (s : FrontSeat T X B h). (view s).number ≡ number)) (sym (pushed ∙ ap (λ l. l ++ seat ∷ []) same)) (All-push (λ (s : FrontSeat T X B h). (view s).number ≡ number) ss seat all is)

  -- a seat speaks for its number on each front
  pub speaks_own : (by : X → ℕ) (ss : List (FrontSeat T X B h)) (number : ℕ) → ((s : FrontSeat T X B h) → KnowsItsTurns by (view s)) → All (λ s. (view s).number ≡ number) ss → SpeaksOnAll number ss
  speaks_own by ss number knows all k s got =
      subst (λ (n : ℕ). IsTrue (speaks_for n (view s).mine)) (holds_of (λ (t : FrontSeat T X B h). (view t).number ≡ number) ss k s all got) (knows s).own

  pub all_fresh : (basis : T → B) (bases : List B) (seats : ℕ) (fs : List (Front T X B)) (made : List (FrontsSeat T X B h)) → AreFreshSeats basis bases seats fs made → All (λ s. AreSeatsOf basis fs s.seats.items) made
  all_fresh basis bases seats fs made fresh k d lt = (fresh k (get_or made k d) (slice_get-get_or made k d lt)).of

  module _ (into from new : List (FrontSeat T X B h)) (joined : AreJoined into from new) (n : ℕ) where
    joined_mine : (k : ℕ) (u : FrontSeat T X B h) → length new ≡ length into → length from ≡ length into → slice_get new k ≡ Some u → (v : FrontSeat T X B h) × (slice_get into k ≡ Some v) × (w : FrontSeat T X B h) × (slice_get from k ≡ Some w) × (speaks_for n (view u).mine ≡ (speaks_for n (view v).mine || speaks_for n (view w).mine))
    joined_mine k u same other got =
        let within = slice_get_within new k u got in
        let v = got_some into k (omega arith) in
        let w = got_some from k (omega arith) in
        let j = joined k v.0 w.0 u v.1 w.1 got in
        (v.0, v.1, w.0, w.1, ap (λ (z : View X B). speaks_for n z.mine) j.view_is ∙ list_any-append (λ (e : ℕ × List X). n == e.0) (view v.0).mine (view w.0).mine)

    pub joined_keeps : length new ≡ length into → length from ≡ length into → SpeaksOnAll n into → SpeaksOnAll n new
    joined_keeps same other speaks k u got =
        let j = joined_mine k u same other got in
        let own : speaks_for n (view j.0).mine ≡ true = speaks k j.0 j.1 in
        j.4 ∙ or_left (speaks_for n (view j.0).mine) (speaks_for n (view j.2).mine) own

    pub joined_gains : length new ≡ length into → length from ≡ length into → SpeaksOnAll n from → SpeaksOnAll n new
    joined_gains same other speaks k u got =
        let j = joined_mine k u same other got in
        let own : speaks_for n (view j.2).mine ≡ true = speaks k j.2 j.3 in
        j.4 ∙ (ap (λ b. speaks_for n (view j.0).mine || b) own ∙ or-true (speaks_for n (view j.0).mine))

pub bases_open : {F S B : Type 0} (f : F → B) (g : S → B) (fs : List F) (vs ws : List S) → fs ≡ [] → vs ≡ reverse ws → map f fs ++ map g (reverse vs) ≡ map g ws
bases_open f g fs vs ws none turned = ap (λ l. map f l ++ map g (reverse vs)) none ∙ ap (map g) (ap reverse turned ∙ reverse-reverse ws)

pub bases_on : {F S B : Type 0} (f : F → B) (g : S → B) (fs fs' : List F) (vs vs' ws : List S) (x : F) (v : S) → fs' ≡ fs ++ x ∷ [] → vs ≡ vs' ++ v ∷ [] → f x ≡ g v → map f fs ++ map g (reverse vs) ≡ map g ws → map f fs' ++ map g (reverse vs') ≡ map g ws
bases_on f g fs fs' vs vs' ws x v more off is h =
    ap (λ l. map f l ++ map g (reverse vs')) more ∙ (ap (λ l. l ++ map g (reverse vs')) (map-append f fs (x ∷ [])) ∙ (append_assoc (map f fs) (f x ∷ []) (map g (reverse vs'))
    ∙ (ap (λ y. map f fs ++ y ∷ map g (reverse vs')) is ∙ (ap (λ l. map f fs ++ map g l) (sym (ap reverse off ∙ reverse-append vs' (v ∷ []))) ∙ h))))

-- all were taken
pub bases_close : {F S B : Type 0} (f : F → B) (g : S → B) (fs : List F) (vs ws : List S) → length vs ≡ 0 → map f fs ++ map g (reverse vs) ≡ map g ws → map f fs ≡ map g ws
bases_close f g fs vs ws none h =
    let empty : vs ≡ [] = nil_of vs none in
    sym (append-nil (map f fs)) ∙ (ap (λ l. map f fs ++ map g (reverse l)) (sym empty) ∙ h)

-- ---- fronts are made

module _ {T X B : Type 0} {h : Ghosts T X B} where
  -- one more front, whose seats were dealt out
  pub front_more : (basis : T → B) (b : B) (seats : ℕ) (fs mid fs' : List (Front T X B)) (f : Front T X B) (made made' : List (FrontsSeat T X B h)) (column : List (FrontSeat T X B h)) → fs' ≡ mid ++ f ∷ [] → mid ≡ fs → basis_of basis f ≡ b → seats_of f ≡ seats → length made ≡ seats → AreSeated basis seats fs made
      → map (λ (t : FrontSeat T X B h). view t) column ≡ map (fresh_view b seats) (range_with_len 0 seats) → All (λ t. IsSeatOf basis f t) column → AreDealt made column made' → IsFrontMore basis b seats fs fs' made made'
  front_more basis b seats fs mid fs' f made made' column pushed same basis_is seats_are count seated views are dealt =
      let more : fs' ≡ fs ++ f ∷ [] = pushed ∙ ap (λ l. l ++ f ∷ []) same in
      record {
        front = f;
        fronts = more;
        basis_is = basis_is;
        seats_are = seats_are;
        count = dealt.count;
        seated = seated_more basis seats fs fs' f made made' column b basis_is count more seated views are dealt;
      }

  -- what is known while fronts are made, for the last value first
  pub record Filling (basis : T → B) (turns : T → List X) (values : List T) (seats : ℕ) (left : List T) (fs : List (Front T X B)) (made : List (FrontsSeat T X B h)) : Type 0 where
    pub bases : map (λ (f : Front T X B). basis_of basis f) fs ++ map basis (reverse left) ≡ map basis values
    pub empty : All (λ v. turns v ≡ []) left
    pub seats_are : All (λ (f : Front T X B). seats_of f ≡ seats) fs
    pub count : length made ≡ seats
    pub seated : AreSeated basis seats fs made

  pub fills_from : (basis : T → B) (turns : T → List X) (values : List T) (seats : ℕ) (left : List T) (fs : List (Front T X B)) (made : List (FrontsSeat T X B h)) → fs ≡ [] → left ≡ reverse values → All (λ v. turns v ≡ []) values → length made ≡ seats → ((n : ℕ) (s : FrontsSeat T X B h) → slice_get made n ≡ Some s → (s.number ≡ n) × (s.seats.items ≡ [])) → Filling basis turns values seats left fs made
  fills_from basis turns values seats left fs made none turned empty count numbers = record {
    bases = bases_open (λ (f : Front T X B). basis_of basis f) basis fs left values none turned;
    empty = subst (All (λ v. turns v ≡ [])) (sym turned) (all_reverse (λ v. turns v ≡ []) values empty);
    seats_are = subst (All (λ (f : Front T X B). seats_of f ≡ seats)) (sym none) (All-nil (λ (f : Front T X B). seats_of f ≡ seats));
    count = count;
    seated = λ n s got. seated_none basis seats fs n s.number s.seats.items none (numbers n s got).0 (numbers n s got).1;
  }

  pub fills_on : (basis : T → B) (turns : T → List X) (values : List T) (seats : ℕ) (left left' : List T) (fs fs' : List (Front T X B)) (made made' : List (FrontsSeat T X B h)) (v : T) → left ≡ left' ++ v ∷ [] → Filling basis turns values seats left fs made → IsFrontMore basis (basis v) seats fs fs' made made' → Filling basis turns values seats left' fs' made'
  fills_on basis turns values seats left left' fs fs' made made' v off f more = record {
    bases = bases_on (λ (p : Front T X B). basis_of basis p) basis fs fs' left left' values more.front v more.fronts off more.basis_is f.bases;
    empty = (All-pop (λ v. turns v ≡ []) left left' (Some v) off f.empty).0;
    seats_are = subst (All (λ (p : Front T X B). seats_of p ≡ seats)) (sym more.fronts) (All-push (λ (p : Front T X B). seats_of p ≡ seats) fs more.front f.seats_are more.seats_are);
    count = more.count ∙ f.count;
    seated = more.seated;
  }

  pub fills_all : (basis : T → B) (turns : T → List X) (values : List T) (seats : ℕ) (left : List T) (fs : List (Front T X B)) (made : List (FrontsSeat T X B h)) → length left ≡ 0 → Filling basis turns values seats left fs made → AreFronts basis (map basis values) seats fs made
  fills_all basis turns values seats left fs made none f = record {
    bases_are = bases_close (λ (p : Front T X B). basis_of basis p) basis fs left values none f.bases;
    seats_are = f.seats_are;
    count = f.count;
    seated = f.seated;
  }

  pub fresh_seats : (basis : T → B) (bases : List B) (seats : ℕ) (fs : List (Front T X B)) (made : List (FrontsSeat T X B h)) → AreFronts basis bases seats fs made → AreFreshSeats basis bases seats fs made
  fresh_seats basis bases seats fs made are n s got =
      let seated = are.seated n s got in
      record {
        number_is = seated.number_is;
        of = seated.of;
        views = views_of (λ (f : Front T X B). basis_of basis f) (λ (b : B). fresh_view {X = X} b seats n) fs bases (map (λ (t : FrontSeat T X B h). view t) s.seats.items) seated.views are.bases_are;
      }

-- ---- fronts are closed

pub record Closing {F S Y : Type 0} (P : F → S → Y → Type 0) (fs₀ : List F) (ss₀ : List S) (fs : List F) (ss : List S) (ys : List Y) : Type 0 where
  pub fronts : List F
  pub seats : List S
  pub all_fronts : fs ++ fronts ≡ fs₀
  pub all_seats : ss ++ seats ≡ ss₀
  pub same : length ss ≡ length fs
  pub count : length ys + length fs ≡ length fs₀
  pub along : Along P fronts seats (reverse ys)

pub closes_on : {F S Y : Type 0} (P : F → S → Y → Type 0) (fs₀ : List F) (ss₀ : List S) (fs fs' : List F) (ss ss' : List S) (ys : List Y) (f : F) (s : S) (y : Y) → Closing P fs₀ ss₀ fs ss ys → fs ≡ fs' ++ f ∷ [] → ss ≡ ss' ++ s ∷ [] → P f s y → Closing P fs₀ ss₀ fs' ss' (ys ++ y ∷ [])
closes_on P fs₀ ss₀ fs fs' ss ss' ys f s y c ef es is =
    let lf : length fs ≡ length fs' + 1 = ap length ef ∙ length-append fs' (f ∷ []) in
    let ls : length ss ≡ length ss' + 1 = ap length es ∙ length-append ss' (s ∷ []) in
    let ly : length (ys ++ y ∷ []) ≡ length ys + 1 = length-append ys (y ∷ []) in
    let same = c.same in
    let count = c.count in
    record {
      fronts = f ∷ c.fronts;
      seats = s ∷ c.seats;
      all_fronts = one_off fs₀ fs fs' c.fronts f ef c.all_fronts;
      all_seats = one_off ss₀ ss ss' c.seats s es c.all_seats;
      same = omega arith;
      count = omega arith;
      along = subst (λ (l : List _). Along P (f ∷ c.fronts) (s ∷ c.seats) l) (sym (reverse-append ys (y ∷ []))) (is, c.along);
    }

pub opens : {F S Y : Type 0} (P : F → S → Y → Type 0) (fs : List F) (ss : List S) (ys : List Y) → length ss ≡ length fs → ys ≡ [] → Closing P fs ss fs ss ys
opens {F = F} {S = S} {Y = Y} P fs ss ys len none = record {
  fronts = [];
  seats = [];
  all_fronts = append-nil fs;
  all_seats = append-nil ss;
  same = len;
  count = let e : length ys ≡ 0 = ap length none in omega arith;
  along = subst (λ (l : List Y). Along P [] [] (reverse l)) (sym none) tt;
}

pub closed_all : {F S Y : Type 0} (P : F → S → Y → Type 0) (fs₀ : List F) (ss₀ : List S) (fs : List F) (ss : List S) (ys : List Y) → Closing P fs₀ ss₀ fs ss ys → length fs ≡ 0 → Along P fs₀ ss₀ (reverse ys)
closed_all {F = F} {S = S} {Y = Y} P fs₀ ss₀ fs ss ys c none =
    let front : c.fronts ≡ fs₀ = ap (λ l. l ++ c.fronts) (sym (nil_of fs none)) ∙ c.all_fronts in
    let seat : c.seats ≡ ss₀ = ap (λ l. l ++ c.seats) (sym (nil_of ss (c.same ∙ none))) ∙ c.all_seats in
    subst (λ (t : List F × List S). Along P t.0 t.1 (reverse ys)) (λ j. (front j, seat j)) c.along

-- the front and the seat that go are of one place
pub closing_pair : {F S Y : Type 0} (P : F → S → Y → Type 0) (fs₀ : List F) (ss₀ : List S) (fs fs' : List F) (ss ss' : List S) (ys : List Y) (f : F) (s : S) → Closing P fs₀ ss₀ fs ss ys → fs ≡ fs' ++ f ∷ [] → ss ≡ ss' ++ s ∷ [] → (slice_get fs₀ (length fs') ≡ Some f) × (slice_get ss₀ (length fs') ≡ Some s)
closing_pair P fs₀ ss₀ fs fs' ss ss' ys f s c ef es =
    let lf : length fs ≡ length fs' + 1 = ap length ef ∙ length-append fs' (f ∷ []) in
    let ls : length ss ≡ length ss' + 1 = ap length es ∙ length-append ss' (s ∷ []) in
    let same = c.same in
    let place : length fs' ≡ length ss' = omega arith in (
      ap (λ l. slice_get l (length fs')) (sym (one_off fs₀ fs fs' c.fronts f ef c.all_fronts)) ∙ get_at fs' c.fronts f,
      ap (slice_get ss₀) place ∙ (ap (λ l. slice_get l (length ss')) (sym (one_off ss₀ ss ss' c.seats s es c.all_seats)) ∙ get_at ss' c.seats s),
    )
