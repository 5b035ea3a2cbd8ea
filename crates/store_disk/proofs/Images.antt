-- The images of a disk in memory, from call to call.
use Rattle.std.proofs.Common.{◌≡◌, ◌⊎◌, inl, inr, ◌≤◌, ◌<◌, ℕ, ◌+◌, ◌-◌, ◌/◌, min, Bool, true, false, List, [], ◌∷◌, ◌++◌, length, take, drop, refl, sym, ◌∙◌, ap, subst, arith, append_assoc, length-append}
use Rattle.std.specs.Prelude.{if◌then◌else◌, not, Option, Result, Ok, Err, Some, OnOk, is_ok}
use Rattle.std.proofs.lemmas.Bool.{cases_lt}
use Rattle.std.proofs.lemmas.List.{take_at, drop_at, take_all, take_min, drop-drop, length-take, length-take-le, length-drop, take-append-le, length_push}
use Rattle.store_disk.specs.declared.call_log.Call.{Call}
use Rattle.store_disk.specs.declared.call_log.Call.TheVariants.{Write, Sync}
use Rattle.store_disk.specs.Disk.{written_at, Torn, Follows, Among, Elapses}
use Rattle.store_disk.specs.Fuse.{FuseState, After, AfterAll, IsImage, IsImageSince, is_blown, passed, behind_call, in_want, unsynced}

abbrev Calls : Type 0
Calls = List (Call × List ℕ)

-- ---- one call more

pub opened : (Images : List ℕ → Type 0) (past : Calls) (call : Call × List ℕ) (image : List ℕ) → AfterAll Images (past ++ call ∷ []) image → After (AfterAll Images past) call image
opened Images [] (Write at count, octets) image h = h
opened Images [] (Sync, octets) image h = h
opened Images (first ∷ past) call image h = opened (After Images first) past call image h

pub closed : (Images : List ℕ → Type 0) (past : Calls) (call : Call × List ℕ) (image : List ℕ) → After (AfterAll Images past) call image → AfterAll Images (past ++ call ∷ []) image
closed Images [] (Write at count, octets) image h = h
closed Images [] (Sync, octets) image h = h
closed Images (first ∷ past) call image h = closed (After Images first) past call image h

pub elapses_same : (past : Calls) → Elapses (length past) (length past) (IsImageSince past) (IsImageSince past) (IsImage past)
elapses_same past = record { later = omega arith; nothing_else = λ t image le since. inl since; keeps = λ t image le since. since }

pub elapses_more : (past : Calls) (call : Call × List ℕ) → Elapses (length past) (length (past ++ call ∷ [])) (IsImageSince past) (IsImageSince (past ++ call ∷ [])) (IsImage (past ++ call ∷ []))
elapses_more past call = record {
  later = omega (arith, length_push past call);
  nothing_else = λ t image le since. parted t image since (cases_lt (length past) since.0);
  keeps = λ t image le since.
      let front : take since.0 (past ++ call ∷ []) ≡ take since.0 past = take-append-le since.0 past (call ∷ []) since.2 in
      (since.0, since.1, omega (arith, since.2, length_push past call), subst (λ (calls : Calls). IsImage calls image) (sym front) since.3);
}
  where
    parted : (t : ℕ) (image : List ℕ) → (since : IsImageSince (past ++ call ∷ []) t image) → (length past < since.0) ⊎ (since.0 ≤ length past) → IsImageSince past t image ⊎ IsImage (past ++ call ∷ []) image
    parted t image since (inl end) =
        let whole : take since.0 (past ++ call ∷ []) ≡ past ++ call ∷ [] = take_all since.0 (past ++ call ∷ []) (omega (arith, end, length_push past call)) in
        inr (subst (λ (calls : Calls). IsImage calls image) whole since.3)
    parted t image since (inr earlier) =
        let front : take since.0 (past ++ call ∷ []) ≡ take since.0 past = take-append-le since.0 past (call ∷ []) earlier in
        inl (since.0, since.1, earlier, subst (λ (calls : Calls). IsImage calls image) front since.3)

-- ---- what a write leaves

-- nothing was written
pub untorn : (at n : ℕ) (octets : List ℕ) → Torn at n octets octets
untorn at n octets = record { before = take_min at octets; behind = refl; no_shorter = omega arith; no_longer = omega arith }

-- all of the range, or its front
pub torn : (at n : ℕ) (piece octets : List ℕ) → at ≤ length octets → length piece ≤ n → Torn at n octets (written_at at piece octets)
torn at n piece octets within few =
    let m = length piece in
    let front : length (take at octets) ≡ at = length-take-le at octets within in
    let least : min at (length octets) ≡ at = omega (arith, within) in
    let shape : written_at at piece octets ≡ take at octets ++ (piece ++ drop (at + m) octets) = append_assoc (take at octets) piece (drop (at + m) octets) in
    let front_piece : length (take at octets ++ piece) ≡ at + m = omega (arith, front, length-append (take at octets) piece) in
    let size : length (written_at at piece octets) ≡ at + m + (length octets - (at + m)) = omega (arith, front_piece, length-append (take at octets ++ piece) (drop (at + m) octets), length-drop (at + m) octets) in
    let sum : at + n ≡ at + m + (n - m) = omega (arith, few) in
    let further : drop (at + m + (n - m)) (written_at at piece octets) ≡ drop (at + m + (n - m)) octets =
    sym (drop-drop (n - m) (at + m) (written_at at piece octets)) ∙ ap (λ (os : List ℕ). drop (n - m) os) (drop_at (take at octets ++ piece) (drop (at + m) octets) (at + m) front_piece) ∙ drop-drop (n - m) (at + m) octets in
    record {
      before = ap (λ (k : ℕ). take k (written_at at piece octets)) least ∙ ap (λ (os : List ℕ). take at os) shape ∙ take_at (take at octets) (piece ++ drop (at + m) octets) at front;
      behind = subst (λ (k : ℕ). drop k (written_at at piece octets) ≡ drop k octets) (sym sum) further;
      no_shorter = omega (arith, size);
      no_longer = omega (arith, size, few);
    }

-- ---- the calls of the disk

pub wrote_images : (old : FuseState) (at n : ℕ) (octets : List ℕ) (starved : Bool) (new : FuseState) → new ≡ (if starved then in_want old else behind_call old (Write at n) octets) → Follows (Torn at n) (IsImage old.past) (IsImage new.past)
wrote_images old at n octets true new state image h = (image, subst (λ (s : FuseState). IsImage s.past image) state h, untorn at n image)
wrote_images old at n octets false new state image h = opened (λ none. ⊥) old.past (Write at n, octets) image (subst (λ (s : FuseState). IsImage s.past image) state h)

pub wrote_time : (old : FuseState) (call : Call) (octets : List ℕ) (starved : Bool) (new : FuseState) → new ≡ (if starved then in_want old else behind_call old call octets) → Elapses (length old.past) (length new.past) (IsImageSince old.past) (IsImageSince new.past) (IsImage new.past)
wrote_time old call octets true new state = subst (λ (s : FuseState). Elapses (length old.past) (length s.past) (IsImageSince old.past) (IsImageSince s.past) (IsImage s.past)) (sym state) (elapses_same old.past)
wrote_time old call octets false new state = subst (λ (s : FuseState). Elapses (length old.past) (length s.past) (IsImageSince old.past) (IsImageSince s.past) (IsImage s.past)) (sym state) (elapses_more old.past (call, octets))

pub synced_time : (old : FuseState) (call : Call) (octets : List ℕ) (blown : Bool) (new : FuseState) → new ≡ (if blown then unsynced old else behind_call old call octets) → Elapses (length old.past) (length new.past) (IsImageSince old.past) (IsImageSince new.past) (IsImage new.past)
synced_time old call octets true new state = subst (λ (s : FuseState). Elapses (length old.past) (length s.past) (IsImageSince old.past) (IsImageSince s.past) (IsImage s.past)) (sym state) (elapses_same old.past)
synced_time old call octets false new state = subst (λ (s : FuseState). Elapses (length old.past) (length s.past) (IsImageSince old.past) (IsImageSince s.past) (IsImage s.past)) (sym state) (elapses_more old.past (call, octets))

-- the octets that reads give are among the images: they were, and the sync keeps them
pub synced_images : (old : FuseState) (blown : Bool) (new : FuseState) → IsImage old.past old.octets → new ≡ (if blown then unsynced old else behind_call old Sync old.octets) → Among (IsImage old.past) (IsImage new.past)
synced_images old true new is state image h = subst (λ (s : FuseState). IsImage s.past image) state h
synced_images old false new is state image h =
    let same : image ≡ old.octets = opened (λ none. ⊥) old.past (Sync, old.octets) image (subst (λ (s : FuseState). IsImage s.past image) state h) in
    subst (λ (os : List ℕ). IsImage old.past os) (sym same) is

-- after a sync that passed, what reads give is the only image
pub synced_durable : {T E : Type 0} (old : FuseState) (result : Result T E) (new : FuseState) → is_ok result ≡ not (is_blown old.fuse) → new ≡ (if is_blown old.fuse then unsynced old else behind_call old Sync old.octets)
    → OnOk result ((image : List ℕ) → IsImage new.past image → Some new.octets ≡ Some image)
synced_durable old (Err e) new cause state = tt
synced_durable old (Ok x) new cause state = λ image h.
    let whole : is_blown old.fuse ≡ false = flipped (is_blown old.fuse) cause in
    let is : new ≡ behind_call old Sync old.octets = state ∙ ap (λ (b : Bool). if b then unsynced old else behind_call old Sync old.octets) whole in
    let same : image ≡ old.octets = opened (λ none. ⊥) old.past (Sync, old.octets) image (subst (λ (s : FuseState). IsImage s.past image) is h) in
    ap (λ (s : FuseState). Some s.octets) is ∙ ap Some (sym same)
  where
    flipped : (b : Bool) → true ≡ not b → b ≡ false
    flipped true is = is
    flipped false is = refl

-- ---- what reads give stays an image

pub wrote_image : (past : Calls) (octets : List ℕ) (at n : ℕ) (piece : List ℕ) (later : Calls) (now : List ℕ) → IsImage past octets → at ≤ length octets → length piece ≤ n → now ≡ written_at at piece octets
    → later ≡ past ++ (Write at n, now) ∷ [] → IsImage later now
wrote_image past octets at n piece later now image place few is noted =
    let t : Torn at n octets now = subst (λ (os : List ℕ). Torn at n octets os) (sym is) (torn at n piece octets place few) in
    subst (λ (calls : Calls). IsImage calls now) (sym noted) (closed (λ none. ⊥) past (Write at n, now) now (octets, image, t))

pub synced_image : (past : Calls) (octets : List ℕ) (later : Calls) → later ≡ past ++ (Sync, octets) ∷ [] → IsImage later octets
synced_image past octets later noted = subst (λ (calls : Calls). IsImage calls octets) (sym noted) (closed (λ none. ⊥) past (Sync, octets) octets refl)

pub passed_few : (fuse : Option ℕ) (piece : List ℕ) → length (passed fuse piece) ≤ length piece
passed_few fuse piece = halved (is_blown fuse)
  where
    halved : (b : Bool) → length (if b then take (length piece / 2) piece else piece) ≤ length piece
    halved true = omega (arith, length-take (length piece / 2) piece)
    halved false = omega arith
