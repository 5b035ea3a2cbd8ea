-- What a seat has seen of the machine alone.
use Rattle.std.proofs.Common.{◌≡◌, ℕ, zero, suc, ◌-◌, ◌≤◌, Bool, true, false, cond, List, [], ◌∷◌, ◌++◌, length, take, drop, Option, Some, None, sym, ap, ◌∙◌, subst, refl, arith, length-append}
use Rattle.std.specs.Prelude.{nat_lt, slice_get, IfSome, IfOk, OnOk, OnErr, Result, Ok, Err}
use Rattle.std.proofs.lemmas.Grind.{flat_map-append}
use Rattle.std.proofs.lemmas.List.{take-append-drop, length-take, length-take-le}
use Rattle.std.proofs.lemmas.Option.{slice_get_within}
use Rattle.device_types.specs.declared.effect.Effect.{Effect}
use Rattle.device_types.specs.declared.event.Lane.{Lane}
use Rattle.device_types.specs.declared.step.Entry.{Entry}
use Rattle.device_types.specs.Journal.{effects_of, effects_on, pushed_count}
use Rattle.effect_outbox.specs.Outbox.{number_on}
use Rattle.pool_rows.specs.Seats.{GoesOn, KnowsRows}
use Rattle.session_row.specs.declared.commit.Commit.{Commit}
use Rattle.session_row.specs.Row.{RowState}
use Rattle.session_store.specs.AloneLaw.{lawful_is_alone}
use Rattle.session_store.specs.Charter.{CharterState, alone_in, follows_alone}
use Rattle.session_store.specs.Law.{IsLawful}
use Rattle.session_store.specs.Rows.{Begins, IsKnownAfter, unsettled_effect}
use Rattle.pool_work.specs.Stores.{IsPushed, StoreState, Kept, seen_of_alone}

-- ---- lists

pub begins_length : {X : Type 0} (xs ys : List X) → Begins xs ys → length xs ≤ length ys
begins_length xs ys b = let all = ap length b.1 in let sum = length-append xs b.0 in omega arith

get_front : {X : Type 0} (xs ys : List X) (i : ℕ) (x : X) → slice_get xs i ≡ Some x → slice_get (xs ++ ys) i ≡ Some x
get_front [] ys i x at = absurd (cc)
get_front (z ∷ xs) ys zero x at = at
get_front (z ∷ xs) ys (suc i) x at = get_front xs ys i x at

get_taken : {X : Type 0} (n : ℕ) (xs : List X) (i : ℕ) (x : X) → slice_get (take n xs) i ≡ Some x → slice_get xs i ≡ Some x
get_taken {X} n xs i x at = subst (λ (l : List X). slice_get l i ≡ Some x) (take-append-drop n xs) (get_front (take n xs) (drop n xs) i x at)

take_begins : {X : Type 0} (n m : ℕ) (xs : List X) → n ≤ m → Begins (take n xs) (take m xs)
take_begins zero m xs low = (take m xs, refl)
take_begins (suc n) zero xs low = absurd (omega arith)
take_begins (suc n) (suc m) [] low = ([], refl)
take_begins (suc n) (suc m) (x ∷ xs) low = let b = take_begins n m xs (omega arith) in (b.0, ap (λ l. x ∷ l) b.1)

-- ---- the known of a seat

module _ (charter : CharterState) where
  pub seen_extends : (d : ℕ) (known more : List Entry) → Begins known more → Begins (seen_of_alone charter d known) (seen_of_alone charter d more)
  seen_extends d known more b = take_begins (length known) (length more) (alone_in charter d) (begins_length known more b)

  pub seen_lawful : (d : ℕ) (known : List Entry) → IsLawful (follows_alone charter d) (seen_of_alone charter d known)
  seen_lawful d known = λ v entry at.
      let seen = seen_of_alone charter d known in
      let within = slice_get_within seen v entry at in
      let place : length (take v seen) ≡ v = length-take-le v seen (omega arith) in
      subst (λ (n : ℕ). slice_get (alone_in charter d) n ≡ Some entry) (sym place) (get_taken (length known) (alone_in charter d) v entry at)

  pub seen_is : (d : ℕ) (known : List Entry) → IsLawful (follows_alone charter d) known → known ≡ seen_of_alone charter d known
  seen_is d known lawful = sym (lawful_is_alone charter d known lawful)

  pub seen_within : (d read : ℕ) (known : List Entry) → read ≤ length (seen_of_alone charter d known) → read ≤ length known
  seen_within d read known low = let n = length-take (length known) (alone_in charter d) in omega arith

  pub seen_follows : (d read : ℕ) (known : List Entry) (entry : Entry) → read ≤ length (seen_of_alone charter d known) → follows_alone charter d (take read (seen_of_alone charter d known)) entry → follows_alone charter d (take read known) entry
  seen_follows d read known entry low f =
      let here : length (take read (seen_of_alone charter d known)) ≡ read = length-take-le read (seen_of_alone charter d known) low in
      let there : length (take read known) ≡ read = length-take-le read known (seen_within d read known low) in
      subst (λ (n : ℕ). slice_get (alone_in charter d) n ≡ Some entry) (here ∙ sym there) f

  pub seen_known : (d read : ℕ) (known : List Entry) (entry : Entry) (commit : Commit) → IsLawful (follows_alone charter d) known → IsKnownAfter known read entry commit → IsKnownAfter (seen_of_alone charter d known) read entry commit
  seen_known d read known entry commit lawful k = subst (λ (l : List Entry). IsKnownAfter l read entry commit) (seen_is d known lawful) k

  pushed_some : (d k : ℕ) (lane : Lane) (known : List Entry) (effect : Effect) → IsLawful (follows_alone charter d) known → IsPushed lane k known (Some effect) → slice_get (effects_of lane (alone_in charter d)) (k - 1) ≡ Some effect
  pushed_some d k lane known effect lawful at =
      let all = alone_in charter d in
      let n = length known in
      let seen = subst (λ (l : List Entry). slice_get (effects_of lane l) (k - 1) ≡ Some effect) (seen_is d known lawful) at in
      let front = get_front (effects_of lane (take n all)) (effects_of lane (drop n all)) (k - 1) effect seen in
      subst (λ (l : List Effect). slice_get l (k - 1) ≡ Some effect)
      (sym (flat_map-append (λ (e : Entry). effects_on lane e.step.effects) (take n all) (drop n all)) ∙ ap (effects_of lane) (take-append-drop n all))
      front

  -- an effect that was pushed is one of the machine alone
  pub pushed_alone : (d k : ℕ) (lane : Lane) (known : List Entry) (o : Option Effect) → IsLawful (follows_alone charter d) known → IsPushed lane k known o → IsPushed lane k (alone_in charter d) o
  pushed_alone d k lane known None lawful at = tt
  pushed_alone d k lane known (Some effect) lawful at = pushed_some d k lane known effect lawful at

-- ---- effects

found_when : (b : Bool) (found : Option Effect) (effect : Effect) → cond b found None ≡ Some effect → found ≡ Some effect
found_when true found effect e = e
found_when false found effect e = absurd (cc)

-- an effect that is not settled is the effect of its number
pub pushed_of : (row : RowState) (lane : Lane) (k : ℕ) (told : Option Effect) → told ≡ unsettled_effect row lane k → IsPushed lane k row.journal told
pushed_of row lane k None e = tt
pushed_of row lane k (Some effect) e = found_when (nat_lt (number_on row.settled lane) k) (slice_get (effects_of lane row.journal) (k - 1)) effect (sym e)

-- so many were pushed
pub pushed_within : (k : ℕ) (lane : Lane) (known : List Entry) (o : Option Effect) → IsPushed lane k known o → IfSome o (λ e. k ≤ pushed_count lane known)
pushed_within k lane known None at = tt
pushed_within k lane known (Some effect) at = let within = slice_get_within (effects_of lane known) (k - 1) effect at in omega arith

-- ---- answers

pub if_ok : {A E : Type 0} (r : Result A E) (P Q : A → Type 0) → IfOk r P → ((a : A) → P a → Q a) → IfOk r Q
if_ok (Ok a) P Q p f = f a p
if_ok (Err e) P Q p f = tt

pub if_ok_with : {A E : Type 0} (r : Result A E) (L : Type 0) (P Q : A → Type 0) → OnOk r L → IfOk r P → (L → (a : A) → P a → Q a) → IfOk r Q
if_ok_with (Ok a) L P Q l p f = f l a p
if_ok_with (Err e) L P Q l p f = tt

pub always_ok : {A E : Type 0} (r : Result A E) (Q : A → Type 0) → ((a : A) → Q a) → IfOk r Q
always_ok (Ok a) Q q = q a
always_ok (Err e) Q q = tt

pub always_err : {A E : Type 0} (r : Result A E) (Q : Type 0) → Q → OnErr r Q
always_err (Ok a) Q q = tt
always_err (Err e) Q q = q

-- ---- what a call keeps

pub kept_by : {T Seat : Type 0} {IsSeat : Seat → Type 0} (Speaks : Seat → ℕ → Type 0) (known : Seat → ℕ → RowState) (rows : T) (seat more : Seat) (reads count : ℕ) (old : StoreState T Seat) → record { rows = rows; seat = seat; reads = reads } ≡ old
    → GoesOn IsSeat Speaks (KnowsRows known) seat more → Kept Speaks known old (record { rows = rows; seat = more; reads = count })
kept_by {T} {Seat} Speaks known rows seat more reads count old view goes =
    subst (λ (s : StoreState T Seat). Kept Speaks known s (record { rows = rows; seat = more; reads = count })) view (record {
      same = refl;
      speaks = goes.speaks;
      grows = λ i. begins_length (known seat i).journal (known more i).journal (goes.knows i).journal;
    })
