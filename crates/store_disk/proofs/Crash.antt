-- What a crash leaves while a record and its gate are written.
use Rattle.std.proofs.Common.{◌≡◌, ◌≢◌, ◌⊎◌, inl, inr, ◌<◌, ℕ, ◌+◌, min, List, [], ◌∷◌, ◌++◌, length, get_or, take, drop, sym, ◌∙◌, ap, arith, append_assoc, length-append, take-append-drop}
use Rattle.std.proofs.lemmas.Bool.{cases_eq}
use Rattle.std.proofs.lemmas.List.{take_at, drop_at, drop_more, drop-drop, length-take}
use Rattle.store_disk.specs.Disk.{written_at, Torn}
use Rattle.store_disk.specs.Gate.{IsShut, IsGrown}

-- the place of the closed gate is the length of what stands before it
pub gate_place : (gate : ℕ) (octets : List ℕ) → IsShut (take gate octets) octets → (length (take gate octets) ≡ gate) × (gate < length octets)
gate_place gate octets shut =
    let sum = ap length shut.3 in
    let parts = length-append (take gate octets) (shut.0 ∷ shut.1) in
    let front = length-take gate octets in
    (omega (arith, sum, parts, front), omega (arith, sum, parts, front))

module _ (front rest piece : List ℕ) (gate closing : ℕ) (place : length front ≡ gate) (shut : closing ≢ 1) where
  abbrev file : List ℕ
  file = front ++ closing ∷ rest

  size : length file ≡ gate + 1 + length rest
  size = omega (arith, place, length-append front (closing ∷ rest))

  shape : file ≡ (front ++ closing ∷ []) ++ rest
  shape = sym (append_assoc front (closing ∷ []) rest)

  with_gate : length (front ++ closing ∷ []) ≡ gate + 1
  with_gate = omega (arith, place, length-append front (closing ∷ []))

  -- the closed gate stands in each image of the first write
  pub torn_behind : (image : List ℕ) → Torn (gate + 1) (length piece) file image → IsShut front image
  torn_behind image torn =
      let least : min (gate + 1) (length file) ≡ gate + 1 = omega (arith, size) in
      let fronts : take (gate + 1) image ≡ take (gate + 1) file = ap (λ (k : ℕ). take k image) (sym least) ∙ torn.before in
      let kept : take (gate + 1) image ≡ front ++ closing ∷ [] = fronts ∙ ap (λ (l : List ℕ). take (gate + 1) l) shape ∙ take_at (front ++ closing ∷ []) rest (gate + 1) with_gate in
      let whole : image ≡ (front ++ closing ∷ []) ++ drop (gate + 1) image = sym (take-append-drop (gate + 1) image) ∙ ap (λ (l : List ℕ). l ++ drop (gate + 1) image) kept in
      (closing, drop (gate + 1) image, shut, whole ∙ append_assoc front (closing ∷ []) (drop (gate + 1) image))

  abbrev pub last : List ℕ
  last = drop (length piece) rest

  pub written_behind : written_at (gate + 1) piece file ≡ front ++ closing ∷ (piece ++ last)
  written_behind =
      let kept : take (gate + 1) file ≡ front ++ closing ∷ [] = ap (λ (l : List ℕ). take (gate + 1) l) shape ∙ take_at (front ++ closing ∷ []) rest (gate + 1) with_gate in
      let left : drop (gate + 1) file ≡ rest = ap (λ (l : List ℕ). drop (gate + 1) l) shape ∙ drop_at (front ++ closing ∷ []) rest (gate + 1) with_gate in
      let end : drop (gate + 1 + length piece) file ≡ last = sym (drop-drop (length piece) (gate + 1) file) ∙ ap (λ (l : List ℕ). drop (length piece) l) left in
      ap (λ (l : List ℕ). l ++ piece ++ drop (gate + 1 + length piece) file) kept ∙ ap (λ (l : List ℕ). (front ++ closing ∷ []) ++ piece ++ l) end
      ∙ append_assoc (front ++ closing ∷ []) piece last ∙ append_assoc front (closing ∷ []) (piece ++ last)

  abbrev pub staged : List ℕ
  staged = front ++ closing ∷ (piece ++ last)

  staged_size : length staged ≡ gate + 1 + length (piece ++ last)
  staged_size = omega (arith, place, length-append front (closing ∷ (piece ++ last)))

  staged_shape : staged ≡ (front ++ closing ∷ []) ++ (piece ++ last)
  staged_shape = sym (append_assoc front (closing ∷ []) (piece ++ last))

  staged_left : drop (gate + 1) staged ≡ piece ++ last
  staged_left = ap (λ (l : List ℕ). drop (gate + 1) l) staged_shape ∙ drop_at (front ++ closing ∷ []) (piece ++ last) (gate + 1) with_gate

  -- the record stands whole in each image of the second write
  pub torn_gate : (image : List ℕ) → Torn gate 1 staged image → IsShut front image ⊎ IsGrown front piece image
  torn_gate image torn =
      let least : min gate (length staged) ≡ gate = omega (arith, staged_size) in
      let fronts : take gate image ≡ take gate staged = ap (λ (k : ℕ). take k image) (sym least) ∙ torn.before in
      let kept : take gate image ≡ front = fronts ∙ take_at front (closing ∷ (piece ++ last)) gate place in
      let now = get_or image gate 0 in
      let left : drop gate image ≡ now ∷ (piece ++ last) = drop_more image gate 0 (omega (arith, torn.no_shorter, staged_size)) ∙ ap (λ (l : List ℕ). now ∷ l) (torn.behind ∙ staged_left) in
      let whole : image ≡ front ++ now ∷ (piece ++ last) = sym (take-append-drop gate image) ∙ ap (λ (l : List ℕ). l ++ drop gate image) kept ∙ ap (λ (l : List ℕ). front ++ l) left in
      parted image now whole (cases_eq now 1)
    where
      parted : (image : List ℕ) (now : ℕ) → image ≡ front ++ now ∷ (piece ++ last) → (now ≡ 1) ⊎ (now ≢ 1) → IsShut front image ⊎ IsGrown front piece image
      parted image now whole (inl is) = inr (last, whole ∙ ap (λ (n : ℕ). front ++ n ∷ (piece ++ last)) is)
      parted image now whole (inr other) = inl (now, piece ++ last, other, whole)

  pub written_gate : written_at gate (1 ∷ []) staged ≡ front ++ 1 ∷ (piece ++ last)
  written_gate =
      let kept : take gate staged ≡ front = take_at front (closing ∷ (piece ++ last)) gate place in
      ap (λ (l : List ℕ). l ++ (1 ∷ []) ++ drop (gate + 1) staged) kept ∙ ap (λ (l : List ℕ). front ++ (1 ∷ []) ++ l) staged_left ∙ append_assoc front (1 ∷ []) (piece ++ last)
