-- Seats over the fronts of a row.
use Rattle.std.specs.Prelude.{◌≡◌, ℕ, All, IsTrue, List, [], ◌∷◌, ◌++◌, length, map, slice_get, Some}
use Rattle.std.specs.Option.{option_map_or}
use Rattle.front_lock.specs.declared.held.Held.{Ghosts}
use Rattle.front_lock.specs.declared.front.Front.{Front}
use Rattle.front_lock.specs.declared.seat.FrontSeat.{FrontSeat}
use Rattle.front_lock.specs.Front.{view, basis_of, seats_of, IsSeatOf}
use Rattle.front_lock.specs.Numbers.{speaks_for}
use Rattle.front_lock.specs.Turns.{IsClosed, JoinsViews, MakesTurn, MissesTurn}
use Rattle.front_lock.specs.View.{fresh_view}
use Rattle.front_lock.specs.declared.row.FrontsSeat.{FrontsSeat}

-- P holds of three lists, place by place; they are as long
abbrev pub Along : {F S Y : Type 0} → (F → S → Y → Type 0) → List F → List S → List Y → Type 0
Along P [] [] [] = Unit {0}
Along P (f ∷ fs) (s ∷ ss) (y ∷ ys) = P f s y × Along P fs ss ys
Along P _ _ _ = ⊥

module _ {T X B : Type 0} {h : Ghosts T X B} where
  -- the k-th seat was made with the k-th front
  abbrev pub AreSeatsOf : (T → B) → List (Front T X B) → List (FrontSeat T X B h) → Type 0
  AreSeatsOf basis fs ss = (length ss ≡ length fs) × ((k : ℕ) (f : Front T X B) (s : FrontSeat T X B h) → slice_get fs k ≡ Some f → slice_get ss k ≡ Some s → IsSeatOf basis f s)

  -- on each front the seat speaks for the number n
  abbrev pub SpeaksOnAll : ℕ → List (FrontSeat T X B h) → Type 0
  SpeaksOnAll n ss = (k : ℕ) (s : FrontSeat T X B h) → slice_get ss k ≡ Some s → IsTrue (speaks_for n (view s).mine)

  -- what the seat has seen of the k-th front
  abbrev pub seen_at : List (FrontSeat T X B h) → ℕ → List X
  seen_at ss k = option_map_or (λ s. (view s).seen) (slice_get ss k) []

  -- a new seat of a number, of fronts with these bases: on each it has that number, has seen nothing and speaks for its number alone
  pub record IsFreshSeat (basis : T → B) (bases : List B) (seats : ℕ) (fs : List (Front T X B)) (n : ℕ) (s : FrontsSeat T X B h) : Type 0 where
    pub number_is : s.number ≡ n
    pub of : AreSeatsOf basis fs s.seats.items
    pub views : map (λ t. view t) s.seats.items ≡ map (λ b. fresh_view b seats n) bases

  -- the new seats of a row of fronts, in the order of their numbers
  abbrev pub AreFreshSeats : (T → B) → List B → ℕ → List (Front T X B) → List (FrontsSeat T X B h) → Type 0
  AreFreshSeats basis bases seats fs made = (n : ℕ) (s : FrontsSeat T X B h) → slice_get made n ≡ Some s → IsFreshSeat basis bases seats fs n s

  -- one turn at a place
  pub record TurnsAt {A : Type 0} (turns : T → List X) (basis : T → B) (by : X → ℕ) (done : B → List X → X → A → Type 0) (old : List (FrontSeat T X B h)) (at : ℕ) (answer : A) (new : List (FrontSeat T X B h)) : Type 0 where
    pub from : FrontSeat T X B h
    pub to : FrontSeat T X B h
    pub was : slice_get old at ≡ Some from
    pub now : slice_get new at ≡ Some to
    pub makes : MakesTurn turns basis by done (view from) answer (view to)

  -- none for want of memory
  pub record MissesAt (turns : T → List X) (basis : T → B) (old : List (FrontSeat T X B h)) (at : ℕ) (new : List (FrontSeat T X B h)) : Type 0 where
    pub from : FrontSeat T X B h
    pub to : FrontSeat T X B h
    pub was : slice_get old at ≡ Some from
    pub now : slice_get new at ≡ Some to
    pub misses : MissesTurn turns basis (view from) (view to)

  -- the seats of two are joined, front by front
  abbrev pub AreJoined : List (FrontSeat T X B h) → List (FrontSeat T X B h) → List (FrontSeat T X B h) → Type 0
  AreJoined into from new =
      (k : ℕ) (v w u : FrontSeat T X B h) → slice_get into k ≡ Some v → slice_get from k ≡ Some w → slice_get new k ≡ Some u → JoinsViews (view v) (view w) (view u)

  -- the values of closed fronts, in order
  abbrev pub AreClosed : (T → List X) → (T → B) → (X → ℕ) → List (Front T X B) → List (FrontSeat T X B h) → List T → Type 0
  AreClosed turns basis by fs ss values = Along (λ f s y. IsClosed turns basis by (basis_of basis f) (seats_of f) (view s) y) fs ss values

  -- seat n has one more, the n-th of a column
  pub record IsDealtAt (old : List (FrontsSeat T X B h)) (column : List (FrontSeat T X B h)) (n : ℕ) (s : FrontsSeat T X B h) : Type 0 where
    pub from : FrontsSeat T X B h
    pub more : FrontSeat T X B h
    pub was : slice_get old n ≡ Some from
    pub here : slice_get column n ≡ Some more
    pub number_is : s.number ≡ from.number
    pub items : s.seats.items ≡ from.seats.items ++ more ∷ []

  -- each seat of a column is added to the seat of its number
  pub record AreDealt (old : List (FrontsSeat T X B h)) (column : List (FrontSeat T X B h)) (new : List (FrontsSeat T X B h)) : Type 0 where
    pub count : length new ≡ length old
    pub each : (n : ℕ) (s : FrontsSeat T X B h) → slice_get new n ≡ Some s → IsDealtAt old column n s

  -- the n-th of the new seats, as far as fronts were made
  pub record IsSeated (basis : T → B) (seats : ℕ) (fs : List (Front T X B)) (n number : ℕ) (ss : List (FrontSeat T X B h)) : Type 0 where
    pub number_is : number ≡ n
    pub of : AreSeatsOf basis fs ss
    pub views : map (λ (t : FrontSeat T X B h). view t) ss ≡ map (λ (f : Front T X B). fresh_view (basis_of basis f) seats n) fs

  abbrev pub AreSeated : (T → B) → ℕ → List (Front T X B) → List (FrontsSeat T X B h) → Type 0
  AreSeated basis seats fs made = (n : ℕ) (s : FrontsSeat T X B h) → slice_get made n ≡ Some s → IsSeated basis seats fs n s.number s.seats.items

  -- a front more, of a value with that basis, and a seat of it for each number
  pub record IsFrontMore (basis : T → B) (b : B) (seats : ℕ) (fs fs' : List (Front T X B)) (made made' : List (FrontsSeat T X B h)) : Type 0 where
    pub front : Front T X B
    pub fronts : fs' ≡ fs ++ front ∷ []
    pub basis_is : basis_of basis front ≡ b
    pub seats_are : seats_of front ≡ seats
    pub count : length made' ≡ length made
    pub seated : AreSeated basis seats fs' made'

  -- fronts of values with these bases, and their seats
  pub record AreFronts (basis : T → B) (bases : List B) (seats : ℕ) (fs : List (Front T X B)) (made : List (FrontsSeat T X B h)) : Type 0 where
    pub bases_are : map (λ (f : Front T X B). basis_of basis f) fs ≡ bases
    pub seats_are : All (λ (f : Front T X B). seats_of f ≡ seats) fs
    pub count : length made ≡ seats
    pub seated : AreSeated basis seats fs made

-- a value more, with that basis and no turns
pub record IsValueMore {T X B : Type 0} (turns : T → List X) (basis : T → B) (b : B) (old new : List T) : Type 0 where
  pub value : T
  pub items : new ≡ old ++ value ∷ []
  pub basis_is : basis value ≡ b
  pub empty : turns value ≡ []
