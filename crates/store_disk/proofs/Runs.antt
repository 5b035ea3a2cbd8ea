-- Files that a disk tells, before and after its calls, and what a crash leaves of them.
use Rattle.std.proofs.Common.{◌≡◌, ◌≤◌, ◌⊎◌, inl, ℕ, ◌+◌, List, [], ◌∷◌, ◌++◌, length, take, drop, Option, Some, None, refl, sym, ◌∙◌, ap, subst, arith, length-append}
use Rattle.std.specs.Prelude.{IfSome, option_map}
use Rattle.store_disk.specs.Disk.{written_at, Torn, Follows, Among, Elapses}
use Rattle.store_disk.specs.Gate.{IsShut, IsGrown}
use Rattle.store_disk.specs.Moments.{IsDurable, LeavesOnly}
use Rattle.store_disk.proofs.Crash.{gate_place, torn_behind, written_behind, torn_gate, written_gate, staged}
use Rattle.store_disk.proofs.Images.{untorn}
use Rattle.store_disk.proofs.Moments.{started, goes_on, joined, weakened}

-- what is told twice is the same
pub same_file : (bytes : Option (List ℕ)) (octets image : List ℕ) → bytes ≡ Some octets → bytes ≡ Some image → octets ≡ image
same_file bytes octets image is now = cc

pub behind_gate : (gate : ℕ) (bytes : Option (List ℕ)) → IfSome bytes (λ octets. IsShut (take gate octets) octets) → IfSome bytes (λ octets. gate + 1 ≤ length octets)
behind_gate gate None shut = tt
behind_gate gate (Some octets) shut = omega (arith, (gate_place gate octets shut).1)

-- a file of so many octets has as many as fewer
pub at_least : (m n : ℕ) (bytes : Option (List ℕ)) → n ≤ m → IfSome bytes (λ octets. m ≤ length octets) → IfSome bytes (λ octets. n ≤ length octets)
at_least m n None fewer long = tt
at_least m n (Some octets) fewer long = omega (arith, fewer, long)

pub at_gate : (gate : ℕ) (piece : List ℕ) (bytes now : Option (List ℕ)) → IfSome bytes (λ octets. IsShut (take gate octets) octets) → now ≡ option_map (written_at (gate + 1) piece) bytes → IfSome now (λ octets. gate ≤ length octets)
at_gate gate piece None now shut is = subst (λ (b : Option (List ℕ)). IfSome b (λ octets. gate ≤ length octets)) (sym is) tt
at_gate gate piece (Some octets) now shut is =
    let place = gate_place gate octets shut in
    let front = take gate octets in
    let shape = ap (written_at (gate + 1) piece) shut.3 ∙ written_behind front shut.1 piece gate shut.0 place.0 shut.2 in
    let long : gate ≤ length (written_at (gate + 1) piece octets) = omega (arith, ap length shape, length-append front (shut.0 ∷ (piece ++ drop (length piece) shut.1)), place.0) in
    subst (λ (b : Option (List ℕ)). IfSome b (λ octets. gate ≤ length octets)) (sym is) long

-- ---- a write onto a disk on which all is

module _ {D : Type 0} (bytes : D → Option (List ℕ)) (moment : D → ℕ) (may_leave : D → List ℕ → Type 0) (left_since : D → ℕ → List ℕ → Type 0) (old wrote : D) (at : ℕ) (piece octets : List ℕ) (is : bytes old ≡ Some octets)
    (durable : IsDurable (bytes old) (may_leave old)) (only : (image : List ℕ) → left_since old (moment old) image → may_leave old image) (images : Follows (Torn at (length piece)) (may_leave old) (may_leave wrote))
    (time : Elapses (moment old) (moment wrote) (left_since old) (left_since wrote) (may_leave wrote)) where
  abbrev IsTorn : List ℕ → Type 0
  IsTorn image = Torn at (length piece) octets image

  is_torn : (image : List ℕ) → may_leave wrote image → IsTorn image
  is_torn image now =
      let from = images image now in
      subst (λ (earlier : List ℕ). Torn at (length piece) earlier image) (sym (same_file (bytes old) octets from.0 is (durable from.0 from.1))) from.2

  pub written_torn : LeavesOnly moment left_since old wrote IsTorn
  written_torn =
      let whole : (image : List ℕ) → left_since old (moment old) image → IsTorn image = λ image left. subst IsTorn (same_file (bytes old) octets image is (durable image (only image left))) (untorn at (length piece) octets) in
      goes_on moment left_since old old wrote IsTorn (may_leave wrote) (started moment left_since old IsTorn whole) time is_torn

  -- and a sync
  pub synced_torn : (new : D) → Among (may_leave wrote) (may_leave new) → Elapses (moment wrote) (moment new) (left_since wrote) (left_since new) (may_leave new) → LeavesOnly moment left_since old new IsTorn
  synced_torn new among time = goes_on moment left_since old wrote new IsTorn (may_leave new) written_torn time (λ image now. is_torn image (among image now))

-- ---- a piece behind the gate

module _ {D : Type 0} (bytes : D → Option (List ℕ)) (moment : D → ℕ) (left_since : D → ℕ → List ℕ → Type 0) (old wrote new : D) (gate : ℕ) (piece octets : List ℕ) (is : bytes old ≡ Some octets) (shut : IfSome (bytes old) (λ os. IsShut (take gate os) os)) where
  abbrev front : List ℕ
  front = take gate octets

  abbrev ShutOrGrown : List ℕ → Type 0
  ShutOrGrown image = IsShut front image ⊎ IsGrown front piece image

  stands : IsShut front octets
  stands = subst (λ (b : Option (List ℕ)). IfSome b (λ os. IsShut (take gate os) os)) is shut

  place : length front ≡ gate
  place = (gate_place gate octets stands).0

  abbrev file : List ℕ
  file = staged front stands.1 piece gate stands.0 place stands.2

  file_is : bytes wrote ≡ option_map (written_at (gate + 1) piece) (bytes old) → bytes wrote ≡ Some file
  file_is written =
      written ∙ ap (option_map (written_at (gate + 1) piece)) is ∙ ap (λ (os : List ℕ). Some (written_at (gate + 1) piece os)) stands.3 ∙ ap Some (written_behind front stands.1 piece gate stands.0 place stands.2)

  pub grown : bytes wrote ≡ option_map (written_at (gate + 1) piece) (bytes old) → bytes new ≡ option_map (written_at gate (1 ∷ [])) (bytes wrote) → IfSome (bytes new) (IsGrown front piece)
  grown written opened =
      let now_is = opened ∙ ap (option_map (written_at gate (1 ∷ []))) (file_is written) ∙ ap Some (written_gate front stands.1 piece gate stands.0 place stands.2) in
      subst (λ (b : Option (List ℕ)). IfSome b (IsGrown front piece)) (sym now_is) (drop (length piece) stands.1, refl)

  -- a crash while it is written
  pub gate_shut : LeavesOnly moment left_since old wrote (Torn (gate + 1) (length piece) octets) → LeavesOnly moment left_since old wrote ShutOrGrown
  gate_shut torn =
      let closed : (image : List ℕ) → Torn (gate + 1) (length piece) octets image → ShutOrGrown image =
      λ image t. inl (torn_behind front stands.1 piece gate stands.0 place stands.2 image (subst (λ (os : List ℕ). Torn (gate + 1) (length piece) os image) stands.3 t)) in
      weakened moment left_since old wrote (Torn (gate + 1) (length piece) octets) ShutOrGrown closed torn

  -- or while its gate is opened
  pub gate_opened : LeavesOnly moment left_since old wrote (Torn (gate + 1) (length piece) octets) → bytes wrote ≡ option_map (written_at (gate + 1) piece) (bytes old)
      → ((os : List ℕ) → bytes wrote ≡ Some os → LeavesOnly moment left_since wrote new (Torn gate 1 os)) → LeavesOnly moment left_since old new ShutOrGrown
  gate_opened torn written opening =
      let opened = weakened moment left_since wrote new (Torn gate 1 file) ShutOrGrown (torn_gate front stands.1 piece gate stands.0 place stands.2) (opening file (file_is written)) in
      joined moment left_since old wrote new ShutOrGrown (gate_shut torn) opened
