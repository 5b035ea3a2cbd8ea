-- Logs whose front stays, and whose end changes.
use Rattle.std.proofs.Common.{◌≡◌, ◌≢◌, ◌<◌, ◌≤◌, ℕ, zero, suc, ◌+◌, ◌⊎◌, inl, inr, leb, true, false, List, [], ◌∷◌, ◌++◌, length, take, drop, Option, Some, None, refl, sym, ap, ◌∙◌, subst, arith, append_assoc, append-nil, length-append}
use Rattle.std.specs.Prelude.{slice_get, IfSome}
use Rattle.std.proofs.lemmas.Bool.{cases_eq, cases_lt, ne_eqb, le-leb, lt-leb}
use Rattle.std.proofs.lemmas.List.{length-take-le, drop_at}
use Rattle.std.proofs.lemmas.Option.{slice_get_within}
use Rattle.store_disk.specs.Gate.{IsShut, IsGrown}
use Rattle.disk_log.specs.Record.{LogRecord, HasRoom, octets_of, size_of, piece_of, first_record}
use Rattle.disk_log.specs.Log.{records_behind, log_of, gate_behind, EndsAt, gated, WithOrWithout}
use Rattle.disk_log.proofs.Heads.{length-octets_of, written_is_read, found_again}

-- ---- what a gate stands in front of

-- what is passed over does not count
pub passed_over : (n : ℕ) (os : List ℕ) → records_behind n os ≡ log_of (drop n os)
unfolding records_behind
passed_over zero [] = refl
passed_over zero (o ∷ os) = refl
passed_over (suc n) [] = refl
passed_over (suc n) (o ∷ os) = passed_over n os

-- a gate that is closed ends the log
pub closed : (gate : ℕ) (os : List ℕ) → gate ≢ 1 → log_of (gate ∷ os) ≡ []
unfolding records_behind
closed gate os shut = rw (ne_eqb gate 1 shut) refl

-- and so does an open one with no record
pub torn : (os : List ℕ) → first_record os ≡ None → log_of (1 ∷ os) ≡ []
unfolding records_behind
torn os none = rw none refl

pub one_more : (os : List ℕ) (r : LogRecord) → first_record os ≡ Some r → log_of (1 ∷ os) ≡ r ∷ log_of (drop (size_of r) os)
unfolding records_behind
one_more os r some = rw some (ap (λ (rs : List LogRecord). r ∷ rs) (passed_over (size_of r) os))

-- ---- the front of a log

-- with another end from its last gate on, the log is that of its front and of this end
abbrev OtherEnd : ℕ → List ℕ → List ℕ → Type 0
OtherEnd n os x = (k : ℕ) → k ≡ n + gate_behind (records_behind n os) → k < length os → records_behind n (take k os ++ x) ≡ records_behind n os ++ log_of x

no_record_in_front : (gate : ℕ) (os x : List ℕ) → log_of (gate ∷ os) ≡ [] → OtherEnd 0 (gate ∷ os) x
no_record_in_front gate os x none zero is within = rw none refl
no_record_in_front gate os x none (suc k) is within = absurd (omega (arith, is, ap gate_behind none))

record_in_front : (os x : List ℕ) (r : LogRecord) → 1 ≤ length x → first_record os ≡ Some r → OtherEnd (size_of r) os x → OtherEnd 0 (1 ∷ os) x
record_in_front os x r one some later k is within = by_place k is within
  where
    rest : log_of (1 ∷ os) ≡ r ∷ records_behind (size_of r) os
    rest = one_more os r some ∙ ap (λ (rs : List LogRecord). r ∷ rs) (sym (passed_over (size_of r) os))

    by_place : (k : ℕ) → k ≡ 0 + gate_behind (log_of (1 ∷ os)) → k < length (1 ∷ os) → log_of (take k (1 ∷ os) ++ x) ≡ log_of (1 ∷ os) ++ log_of x
    by_place zero is within = absurd (omega (arith, is, ap gate_behind rest))
    by_place (suc k) is within =
        let place : k ≡ size_of r + gate_behind (records_behind (size_of r) os) = omega (arith, is, ap gate_behind rest) in
        let inside : k < length os = omega (arith, within) in
        let again : first_record (take k os ++ x) ≡ Some r = found_again os x r k some (omega (arith, place)) (omega (arith, inside)) one in
        let more : log_of (1 ∷ (take k os ++ x)) ≡ r ∷ records_behind (size_of r) (take k os ++ x) =
        one_more (take k os ++ x) r again ∙ ap (λ (rs : List LogRecord). r ∷ rs) (sym (passed_over (size_of r) (take k os ++ x))) in
        more ∙ ap (λ (rs : List LogRecord). r ∷ rs) (later k place inside) ∙ ap (λ (rs : List LogRecord). rs ++ log_of x) (sym rest)

behind_open : (os x : List ℕ) (found : Option LogRecord) → 1 ≤ length x → first_record os ≡ found → ((n : ℕ) → OtherEnd n os x) → OtherEnd 0 (1 ∷ os) x
behind_open os x None one is later = no_record_in_front 1 os x (torn os is)
behind_open os x (Some r) one is later = record_in_front os x r one is (later (size_of r))

behind_gate : (gate : ℕ) (os x : List ℕ) → 1 ≤ length x → (gate ≡ 1) ⊎ (gate ≡ 1 → ⊥) → ((n : ℕ) → OtherEnd n os x) → OtherEnd 0 (gate ∷ os) x
behind_gate gate os x one (inr shut) later = no_record_in_front gate os x (closed gate os shut)
behind_gate gate os x one (inl is_open) later = subst (λ (g : ℕ). OtherEnd 0 (g ∷ os) x) (sym is_open) (behind_open os x (first_record os) one refl later)

passed_alike : (n o : ℕ) (os x : List ℕ) → OtherEnd n os x → OtherEnd (suc n) (o ∷ os) x
unfolding records_behind
passed_alike n o os x later zero is within = absurd (omega (arith, is))
passed_alike n o os x later (suc k) is within = later k (omega (arith, is)) (omega (arith, within))

pub other_end : (n : ℕ) (os x : List ℕ) → 1 ≤ length x → OtherEnd n os x
other_end zero [] x one k is within = absurd (omega (arith, within))
other_end (suc n) [] x one k is within = absurd (omega (arith, within))
other_end (suc n) (o ∷ os) x one k is within = passed_alike n o os x (other_end n os x one) k is within
other_end zero (gate ∷ os) x one k is within = behind_gate gate os x one (cases_eq gate 1) (λ n. other_end n os x one) k is within

pub gate_behind_more : (rs : List LogRecord) (r : LogRecord) → gate_behind (rs ++ r ∷ []) ≡ gate_behind rs + (1 + size_of r)
gate_behind_more [] r = omega arith
gate_behind_more (q ∷ rs) r = let more = gate_behind_more rs r in omega (arith, more)

-- ---- where a log ends

get_at : (xs ys : List ℕ) (y n : ℕ) → length xs ≡ n → slice_get (xs ++ y ∷ ys) n ≡ Some y
get_at [] ys y zero is = refl
get_at [] ys y (suc n) is = absurd (omega (arith, is))
get_at (x ∷ xs) ys y zero is = absurd (omega (arith, is))
get_at (x ∷ xs) ys y (suc n) is = get_at xs ys y n (omega (arith, is))

split_at : (os : List ℕ) (n x : ℕ) → slice_get os n ≡ Some x → (rest : List ℕ) × (os ≡ take n os ++ x ∷ rest)
split_at [] n x is = absurd (cc)
split_at (o ∷ os) zero x is = let same : o ≡ x = cc in (os, rw same refl)
split_at (o ∷ os) (suc n) x is = let more = split_at os n x is in (more.0, ap (λ (l : List ℕ). o ∷ l) more.1)

module _ (gate : ℕ) (octets : List ℕ) (ends : EndsAt gate octets) where
  inside : gate < length octets
  inside = slice_get_within octets gate ends.closing ends.stands

  front : length (take gate octets) ≡ gate
  front = length-take-le gate octets (omega (arith, inside))

  -- behind the same front, other octets
  pub same_front : (x : List ℕ) → 1 ≤ length x → log_of (take gate octets ++ x) ≡ log_of octets ++ log_of x
  same_front x one = other_end 0 octets x one gate (omega (arith, ends.place)) inside

  pub is_shut : IsShut (take gate octets) octets
  is_shut = let parts = split_at octets gate ends.closing ends.stands in (ends.closing, parts.0, ends.shut, parts.1)

  -- behind a gate that is still closed, nothing counts
  pub kept : (image : List ℕ) → IsShut (take gate octets) image → log_of image ≡ log_of octets
  kept image shut =
      ap log_of shut.3 ∙ same_front (shut.0 ∷ shut.1) (omega arith) ∙ ap (λ (rs : List LogRecord). log_of octets ++ rs) (closed shut.0 shut.1 shut.2) ∙ append-nil (log_of octets)

  -- behind one that is open there is one record more
  module _ (r : LogRecord) (room : HasRoom r) where
    pub grown : (image : List ℕ) → IsGrown (take gate octets) (piece_of r) image → log_of image ≡ log_of octets ++ r ∷ []
    grown image is =
        let behind = octets_of r ++ 0 ∷ is.0 in
        let shape : piece_of r ++ is.0 ≡ behind = append_assoc (octets_of r) (0 ∷ []) is.0 in
        let last : log_of (1 ∷ behind) ≡ r ∷ [] =
        one_more behind r (written_is_read r 0 is.0 room)
        ∙ ap (λ (os : List ℕ). r ∷ log_of os) (drop_at (octets_of r) (0 ∷ is.0) (size_of r) (length-octets_of r)) ∙ ap (λ (rs : List LogRecord). r ∷ rs) (closed 0 is.0 (omega arith)) in
        ap log_of (is.1 ∙ ap (λ (os : List ℕ). take gate octets ++ 1 ∷ os) shape) ∙ same_front (1 ∷ behind) (omega arith) ∙ ap (λ (rs : List LogRecord). log_of octets ++ rs) last

    pub ends_later : (image : List ℕ) → IsGrown (take gate octets) (piece_of r) image → EndsAt (gate + length (piece_of r)) image
    ends_later image is =
        let size : length (piece_of r) ≡ size_of r + 1 = omega (arith, length-octets_of r, length-append (octets_of r) (0 ∷ [])) in
        let ahead = take gate octets ++ 1 ∷ octets_of r in
        let far : length ahead ≡ gate + length (piece_of r) = omega (arith, front, size, length-octets_of r, length-append (take gate octets) (1 ∷ octets_of r)) in
        let shape : image ≡ ahead ++ 0 ∷ is.0 =
        is.1 ∙ ap (λ (os : List ℕ). take gate octets ++ 1 ∷ os) (append_assoc (octets_of r) (0 ∷ []) is.0) ∙ sym (append_assoc (take gate octets) (1 ∷ octets_of r) (0 ∷ is.0)) in
        record {
          place = omega (arith, ends.place, size, ap gate_behind (grown image is), gate_behind_more (log_of octets) r);
          closing = 0;
          stands = ap (λ (os : List ℕ). slice_get os (gate + length (piece_of r))) shape ∙ get_at ahead is.0 0 (gate + length (piece_of r)) far;
          shut = omega arith;
        }

    -- at any moment of the writing
    pub with_or_without : (image : List ℕ) → IsShut (take gate octets) image ⊎ IsGrown (take gate octets) (piece_of r) image → WithOrWithout (log_of octets) r image
    with_or_without image (inl shut) = inl (kept image shut)
    with_or_without image (inr is) = inr (grown image is)

-- ---- the first gate

no_record : first_record [] ≡ None
unfolding first_record
no_record = refl

-- a file of at most one octet has no record
pub short : (os : List ℕ) → length os ≤ 1 → log_of os ≡ []
unfolding records_behind
short [] few = refl
short (gate ∷ []) few = by_gate (cases_eq gate 1)
  where
    by_gate : (gate ≡ 1) ⊎ (gate ≡ 1 → ⊥) → log_of (gate ∷ []) ≡ []
    by_gate (inr shut) = closed gate [] shut
    by_gate (inl is_open) = subst (λ (g : ℕ). log_of (g ∷ []) ≡ []) (sym is_open) (torn [] no_record)
short (a ∷ b ∷ os) few = absurd (omega (arith, few))

-- as it is opened it has the log that it had
pub log_of_gated : (octets : List ℕ) → log_of (gated octets) ≡ log_of octets
log_of_gated octets = by_length (cases_lt 1 (length octets))
  where
    by_length : (1 < length octets) ⊎ (length octets ≤ 1) → log_of (gated octets) ≡ log_of octets
    by_length (inl long) = let large : leb (length octets) 1 ≡ false = lt-leb _ _ long in rw large refl
    by_length (inr few) =
        let small : leb (length octets) 1 ≡ true = le-leb _ _ few in
        let same : gated octets ≡ 0 ∷ [] = rw small refl in
        ap log_of same ∙ short (0 ∷ []) (omega arith) ∙ sym (short octets few)

-- ---- a disk that may not tell its octets

pub shut_there : (gate : ℕ) (bytes : Option (List ℕ)) → IfSome bytes (EndsAt gate) → IfSome bytes (λ octets. IsShut (take gate octets) octets)
shut_there gate None ends = tt
shut_there gate (Some octets) ends = is_shut gate octets ends

pub grown_there : (gate : ℕ) (r : LogRecord) (octets : List ℕ) (bytes now : Option (List ℕ)) → bytes ≡ Some octets → HasRoom r → IfSome bytes (EndsAt gate) → IfSome now (IsGrown (take gate octets) (piece_of r))
    → IfSome now (λ os. (log_of os ≡ log_of octets ++ r ∷ []) × EndsAt (gate + 1 + size_of r) os)
grown_there gate r octets bytes None is room ends grown = tt
grown_there gate r octets bytes (Some os) is room ends is_grown =
    let there : EndsAt gate octets = subst (λ (b : Option (List ℕ)). IfSome b (EndsAt gate)) is ends in
    let size : gate + length (piece_of r) ≡ gate + 1 + size_of r = omega (arith, length-octets_of r, length-append (octets_of r) (0 ∷ [])) in
    (grown gate octets there r room os is_grown, subst (λ (g : ℕ). EndsAt g os) size (ends_later gate octets there r room os is_grown))
