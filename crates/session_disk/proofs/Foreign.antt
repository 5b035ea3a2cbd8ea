-- Files that are foreign, and files that are not.
use Rattle.std.proofs.Common.{◌≡◌, ◌<◌, ◌≤◌, ◌⊎◌, inl, inr, ℕ, zero, suc, true, false, leb, List, [], ◌∷◌, ◌++◌, length, take, Option, Some, refl, sym, ap, ◌∙◌, subst, append-nil}
use Rattle.std.specs.Prelude.{slice_get, option_map, IfSome}
use Rattle.std.proofs.lemmas.Bool.{cases_lt, lt-leb, le-leb}
use Rattle.std.proofs.lemmas.List.{take_at}
use Rattle.std.proofs.lemmas.Option.{same_Some}
use Rattle.disk_log.specs.Record.{LogRecord}
use Rattle.disk_log.specs.Log.{log_of, gate_behind, EndsAt, gated}
use Rattle.session_disk.specs.Fits.{Entries, Fits, AllFit, IsForeign}

-- ---- lists

at_seam : {X : Type 0} (xs ys : List X) (y : X) → slice_get (xs ++ y ∷ ys) (length xs) ≡ Some y
at_seam [] ys y = refl
at_seam (x ∷ xs) ys y = at_seam xs ys y

-- ---- a log that fits and ends is not foreign

pub not_foreign : (devices : ℕ) (entries : Entries) (octets : List ℕ) (gate at : ℕ) → EndsAt gate octets → AllFit devices entries (log_of octets) → IsForeign devices entries octets at → ⊥
not_foreign devices entries octets gate at ends fit foreign = by_rest foreign.behind refl
  where
    by_rest : (behind : List LogRecord) → foreign.behind ≡ behind → ⊥
    by_rest [] none =
        let whole : log_of octets ≡ foreign.before = foreign.parts ∙ ap (λ (rs : List LogRecord). foreign.before ++ rs) none ∙ append-nil foreign.before in
        let same : at ≡ gate = foreign.place ∙ ap gate_behind (sym whole) ∙ sym ends.place in
        let one : Some ends.closing ≡ Some 1 = sym ends.stands ∙ ap (slice_get octets) (sym same) ∙ foreign.is_open in
        ends.shut (same_Some _ _ one)
    by_rest (r ∷ more) some =
        let whole : log_of octets ≡ foreign.before ++ r ∷ more = foreign.parts ∙ ap (λ (rs : List LogRecord). foreign.before ++ rs) some in
        let stands : slice_get (log_of octets) (length foreign.before) ≡ Some r = ap (λ (rs : List LogRecord). slice_get rs (length foreign.before)) whole ∙ at_seam foreign.before more r in
        let front : take (length foreign.before) (log_of octets) ≡ foreign.before = ap (take (length foreign.before)) whole ∙ take_at foreign.before (r ∷ more) (length foreign.before) refl in
        foreign.misfit r more some (subst (λ (rs : List LogRecord). Fits devices entries rs r) front (fit (length foreign.before) r stands))

-- ---- a file that was gated

closed_gate : (n : ℕ) → slice_get {X = ℕ} (0 ∷ []) n ≡ Some 1 → ⊥
closed_gate zero is = absurd (cc)
closed_gate (suc n) is = absurd (cc)

-- a foreign one has more than one octet, and was left as it is
pub foreign_file : (devices : ℕ) (entries : Entries) (octets : List ℕ) (at : ℕ) → IsForeign devices entries (gated octets) at → (1 < length octets) × IsForeign devices entries octets at
foreign_file devices entries octets at foreign = by_length (cases_lt 1 (length octets))
  where
    by_length : (1 < length octets) ⊎ (length octets ≤ 1) → (1 < length octets) × IsForeign devices entries octets at
    by_length (inl long) =
        let large : leb (length octets) 1 ≡ false = lt-leb _ _ long in
        let same : gated octets ≡ octets = rw large refl in
        (long, subst (λ (os : List ℕ). IsForeign devices entries os at) same foreign)
    by_length (inr few) =
        let small : leb (length octets) 1 ≡ true = le-leb _ _ few in
        let same : gated octets ≡ 0 ∷ [] = rw small refl in
        absurd (closed_gate at (subst (λ (os : List ℕ). slice_get os at ≡ Some 1) same foreign.is_open))

-- and so was one that is not
pub file_of_its_own : (devices : ℕ) (entries : Entries) (octets : List ℕ) (at : ℕ) → (IsForeign devices entries (gated octets) at → ⊥) → 1 < length octets → IsForeign devices entries octets at → ⊥
file_of_its_own devices entries octets at not long foreign =
    let large : leb (length octets) 1 ≡ false = lt-leb _ _ long in
    let same : gated octets ≡ octets = rw large refl in
    not (subst (λ (os : List ℕ). IsForeign devices entries os at) (sym same) foreign)

-- what was read is the file as it was gated
pub read_is : (old now : Option (List ℕ)) (octets read : List ℕ) → old ≡ Some octets → now ≡ option_map gated old → IfSome now (λ os. read ≡ os) → read ≡ gated octets
read_is old now octets read was gates told =
    let is : now ≡ Some (gated octets) = gates ∙ ap (option_map gated) was in
    subst (λ (b : Option (List ℕ)). IfSome b (λ os. read ≡ os)) is told
