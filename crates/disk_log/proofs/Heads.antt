-- Heads of records, and the record in front of octets.
use Rattle.std.proofs.Common.{◌≡◌, ◌<◌, ◌≤◌, ℕ, ◌+◌, ◌-◌, ◌^◌, ◌⊎◌, inl, inr, true, false, ltb, List, [], ◌∷◌, ◌++◌, length, take, drop, Some, None, refl, sym, ap, ◌∙◌, arith, append_assoc, append-nil, length-append, length-drop}
use Rattle.std.proofs.lemmas.Bool.{ltb-true, ltb-false, lt-ltb, le-ltb, cases_Bool}
use Rattle.std.proofs.lemmas.List.{take_at, drop_at, take-take, take-append-le, drop-append-le, drop-take, drop-drop, length-take-le}
use Rattle.std.proofs.lemmas.Option.{same_Some}
use Rattle.byteorder.specs.Endian.{big_number, big_bytes}
use Rattle.byteorder.specs.Numbers.{big_number-reads_back, length-bytes_high_first}
use Rattle.disk_log.specs.Record.{LogRecord, HasRoom, head_of, octets_of, size_of, session_size, record_behind, first_record}

-- ---- three pieces behind one another

module _ (a b c : List ℕ) (m n : ℕ) (first : length a ≡ m) (second : length b ≡ n) where
  pub second_piece : drop m (a ++ (b ++ c)) ≡ b ++ c
  second_piece = drop_at a (b ++ c) m first

  pub third_piece : drop (m + n) (a ++ (b ++ c)) ≡ c
  third_piece = sym (drop-drop n m (a ++ (b ++ c))) ∙ ap (λ (os : List ℕ). drop n os) second_piece ∙ drop_at b c n second

-- ---- what a head tells

module _ (r : LogRecord) where
  abbrev count : ℕ
  count = length r.session

  pub length-head_of : length (head_of r) ≡ 14
  unfolding head_of
  length-head_of = omega (arith, length-append (big_bytes 4 r.device) (big_bytes 8 r.version ++ big_bytes 2 count), length-append (big_bytes 8 r.version) (big_bytes 2 count), length-bytes_high_first 4 r.device, length-bytes_high_first 8 r.version, length-bytes_high_first 2 count)

  pub length-octets_of : length (octets_of r) ≡ size_of r
  length-octets_of = omega (arith, length-head_of, length-append (head_of r) r.session)

  device_is : r.device < 256 ^ 4 → big_number 4 (head_of r) ≡ r.device
  unfolding head_of
  device_is few = big_number-reads_back 4 r.device (big_bytes 8 r.version ++ big_bytes 2 count) few

  version_is : r.version < 256 ^ 8 → big_number 8 (drop 4 (head_of r)) ≡ r.version
  unfolding head_of
  version_is few =
      ap (big_number 8) (second_piece (big_bytes 4 r.device) (big_bytes 8 r.version) (big_bytes 2 count) 4 8 (length-bytes_high_first 4 r.device) (length-bytes_high_first 8 r.version))
      ∙ big_number-reads_back 8 r.version (big_bytes 2 count) few

  pub session_size_is : count < 256 ^ 2 → session_size (head_of r) ≡ count
  unfolding head_of
  session_size_is few =
      ap (big_number 2) (third_piece (big_bytes 4 r.device) (big_bytes 8 r.version) (big_bytes 2 count) 4 8 (length-bytes_high_first 4 r.device) (length-bytes_high_first 8 r.version) ∙ sym (append-nil (big_bytes 2 count)))
      ∙ big_number-reads_back 2 count [] few

  -- what is written is read
  pub written_is_read : (gate : ℕ) (rest : List ℕ) → HasRoom r → first_record (octets_of r ++ gate ∷ rest) ≡ Some r
  unfolding first_record record_behind
  written_is_read gate rest room =
      let behind = r.session ++ gate ∷ rest in
      let all : octets_of r ++ gate ∷ rest ≡ head_of r ++ behind = append_assoc (head_of r) r.session (gate ∷ rest) in
      let long : ltb (length (head_of r ++ behind)) 14 ≡ false = le-ltb _ _ (omega (arith, length-head_of, length-append (head_of r) behind)) in
      let front : take 14 (head_of r ++ behind) ≡ head_of r = take_at (head_of r) behind 14 length-head_of in
      let left : drop 14 (head_of r ++ behind) ≡ behind = drop_at (head_of r) behind 14 length-head_of in
      let more : ltb count (length behind) ≡ true = lt-ltb _ _ (omega (arith, length-append r.session (gate ∷ rest))) in
      let session : take count behind ≡ r.session = take_at r.session (gate ∷ rest) count refl in
      rw (all, long, front, left, session_size_is room.session, more, device_is room.device, version_is room.version, session) refl

-- ---- the record in front

abbrev told_by : List ℕ → List ℕ → LogRecord
told_by head behind = record { device = big_number 4 head; version = big_number 8 (drop 4 head); session = take (session_size head) behind }

-- what a record in front is, and that a next gate is there
pub record Found (os : List ℕ) (r : LogRecord) : Type 0 where
  pub long : 14 ≤ length os
  pub more : session_size (take 14 os) < length (drop 14 os)
  pub is : told_by (take 14 os) (drop 14 os) ≡ r

pub found : (os : List ℕ) (r : LogRecord) → first_record os ≡ Some r → Found os r
unfolding first_record record_behind
found os r is = parted (cases_Bool (ltb (length os) 14)) (cases_Bool (ltb (session_size (take 14 os)) (length (drop 14 os))))
  where
    parted : (ltb (length os) 14 ≡ true) ⊎ (ltb (length os) 14 ≡ false) → (ltb (session_size (take 14 os)) (length (drop 14 os)) ≡ true) ⊎ (ltb (session_size (take 14 os)) (length (drop 14 os)) ≡ false) → Found os r
    parted (inl short) more = let none : None ≡ Some r = rw short at is in absurd (cc)
    parted (inr long) (inr few) = let none : None ≡ Some r = rw (long, few) at is in absurd (cc)
    parted (inr long) (inl more) =
        let some : Some (told_by (take 14 os) (drop 14 os)) ≡ Some r = rw (long, more) at is in
        record { long = ltb-false _ _ long; more = ltb-true _ _ more; is = same_Some _ _ some }

-- the same record is in front of other octets that begin with all of it, and have one more
pub found_again : (os x : List ℕ) (r : LogRecord) (k : ℕ) → first_record os ≡ Some r → size_of r ≤ k → k ≤ length os → 1 ≤ length x → first_record (take k os ++ x) ≡ Some r
unfolding first_record record_behind
found_again os x r k is far within one =
    let f = found os r is in
    let size = session_size (take 14 os) in
    let b = drop 14 os in
    let session : take size b ≡ r.session = ap (λ (l : LogRecord). l.session) f.is in
    let count : size ≡ length r.session = sym (length-take-le size b (omega (arith, f.more))) ∙ ap length session in
    let front : length (take k os) ≡ k = length-take-le k os within in
    let long : ltb (length (take k os ++ x)) 14 ≡ false = le-ltb _ _ (omega (arith, front, far, length-append (take k os) x)) in
    let head : take 14 (take k os ++ x) ≡ take 14 os = take-append-le 14 (take k os) x (omega (arith, front, far)) ∙ take-take 14 k os (omega (arith, far)) in
    let sum : k ≡ 14 + (k - 14) = omega (arith, far) in
    let kept : drop 14 (take k os) ≡ take (k - 14) b = ap (λ (n : ℕ). drop 14 (take n os)) sum ∙ drop-take 14 (k - 14) os in
    let left : drop 14 (take k os ++ x) ≡ take (k - 14) b ++ x = drop-append-le 14 (take k os) x (omega (arith, front, far)) ∙ ap (λ (l : List ℕ). l ++ x) kept in
    let b_long : length b ≡ length os - 14 = length-drop 14 os in
    let kept_long : length (take (k - 14) b) ≡ k - 14 = length-take-le (k - 14) b (omega (arith, b_long, within)) in
    let more : ltb size (length (take (k - 14) b ++ x)) ≡ true = lt-ltb _ _ (omega (arith, kept_long, one, far, count, length-append (take (k - 14) b) x)) in
    let same : take size (take (k - 14) b ++ x) ≡ take size b = take-append-le size (take (k - 14) b) x (omega (arith, kept_long, far, count)) ∙ take-take size (k - 14) b (omega (arith, far, count)) in
    rw (long, head, left, more, same) (ap Some f.is)

-- a record that is found is in its octets
pub found_within : (os : List ℕ) (r : LogRecord) → first_record os ≡ Some r → size_of r < length os
found_within os r is =
    let f = found os r is in
    let size = session_size (take 14 os) in
    let session : take size (drop 14 os) ≡ r.session = ap (λ (l : LogRecord). l.session) f.is in
    let count : size ≡ length r.session = sym (length-take-le size (drop 14 os) (omega (arith, f.more))) ∙ ap length session in
    omega (arith, f.more, f.long, count, length-drop 14 os)
