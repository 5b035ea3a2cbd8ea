-- Disks whose log is opened, and what a crash leaves of them.
use Rattle.std.proofs.Common.{◌≡◌, ◌≤◌, inr, ℕ, List, length, Option, Some, sym, ap, ◌∙◌, subst, arith}
use Rattle.std.specs.Prelude.{IfSome, option_map}
use Rattle.store_disk.specs.Disk.{Torn, Among, Elapses}
use Rattle.store_disk.specs.Moments.{IsDurable, LeavesOnly}
use Rattle.store_disk.proofs.Moments.{started, goes_on, joined, weakened}
use Rattle.store_disk.proofs.Runs.{same_file}
use Rattle.disk_log.specs.Log.{log_of, gated}
use Rattle.disk_log.specs.Opening.{OpensLog}
use Rattle.disk_log.proofs.Logs.{short, log_of_gated}

-- ---- files

pub told_count : (bytes : Option (List ℕ)) (octets : List ℕ) (count : ℕ) → bytes ≡ Some octets → IfSome bytes (λ os. count ≡ length os) → count ≡ length octets
told_count bytes octets count is told = subst (λ (b : Option (List ℕ)). IfSome b (λ os. count ≡ length os)) is told

-- ---- moments

module _ {D : Type 0} (bytes : D → Option (List ℕ)) (moment : D → ℕ) (may_leave : D → List ℕ → Type 0) (left_since : D → ℕ → List ℕ → Type 0) where
  -- ---- of the first gate

  module _ (old mid : D) (octets : List ℕ) (is : bytes old ≡ Some octets) (durable : IsDurable (bytes old) (may_leave old)) (only : (image : List ℕ) → left_since old (moment old) image → may_leave old image)
      (among : Among (may_leave old) (may_leave mid)) (time : Elapses (moment old) (moment mid) (left_since old) (left_since mid) (may_leave mid)) where
    abbrev HasLog : List ℕ → Type 0
    HasLog image = log_of image ≡ log_of octets

    -- its length is told
    pub measured : LeavesOnly moment left_since old mid HasLog
    measured =
        let here : (image : List ℕ) → may_leave old image → HasLog image = λ image now. ap log_of (sym (same_file (bytes old) octets image is (durable image now))) in
        goes_on moment left_since old old mid HasLog (may_leave mid) (started moment left_since old HasLog (λ image left. here image (only image left))) time (λ image now. here image (among image now))

    -- and the gate is written
    pub gate_written : (new : D) (count : ℕ) → IfSome (bytes old) (λ os. count ≡ length os) → count ≤ 1 → bytes mid ≡ bytes old → ((os : List ℕ) → bytes mid ≡ Some os → LeavesOnly moment left_since mid new (Torn 0 1 os))
        → LeavesOnly moment left_since old new HasLog
    gate_written new count told few same torn =
        let size = told_count (bytes old) octets count is told in
        let one : length octets ≤ 1 = omega (arith, size, few) in
        let has_log : (image : List ℕ) → Torn 0 1 octets image → HasLog image = λ image t. short image (omega (arith, one, t.no_longer)) ∙ sym (short octets one) in
        joined moment left_since old mid new HasLog measured (weakened moment left_since mid new (Torn 0 1 octets) HasLog has_log (torn octets (same ∙ is)))

  -- ---- of a log

  -- the first sync
  pub first_sync : (old new : D) → ((image : List ℕ) → left_since old (moment old) image → may_leave old image) → Among (may_leave old) (may_leave new)
      → Elapses (moment old) (moment new) (left_since old) (left_since new) (may_leave new) → LeavesOnly moment left_since old new (may_leave old)
  first_sync old new only among time =
      goes_on moment left_since old old new (may_leave old) (may_leave new) (started moment left_since old (may_leave old) only) time among

  module _ (old synced mid : D) (octets : List ℕ) (only : (image : List ℕ) → left_since old (moment old) image → may_leave old image) (among : Among (may_leave old) (may_leave synced))
      (time : Elapses (moment old) (moment synced) (left_since old) (left_since synced) (may_leave synced)) (so_far : LeavesOnly moment left_since synced mid (λ image. log_of image ≡ log_of octets)) where
    pub opened : OpensLog moment left_since old mid (may_leave old) (log_of octets)
    opened = inr (record { synced = synced; until = first_sync old synced only among time; from_then = so_far })

    -- and read
    pub opened_and_read : (new : D) → bytes synced ≡ Some octets → bytes mid ≡ option_map gated (bytes synced) → IsDurable (bytes mid) (may_leave mid) → Among (may_leave mid) (may_leave new)
        → Elapses (moment mid) (moment new) (left_since mid) (left_since new) (may_leave new) → OpensLog moment left_since old new (may_leave old) (log_of octets)
    opened_and_read new is gates durable same later =
        let file : bytes mid ≡ Some (gated octets) = gates ∙ ap (option_map gated) is in
        let here : (image : List ℕ) → may_leave new image → log_of image ≡ log_of octets =
        λ image now. ap log_of (sym (same_file (bytes mid) (gated octets) image file (durable image (same image now)))) ∙ log_of_gated octets in
        inr (record {
          synced = synced;
          until = first_sync old synced only among time;
          from_then = goes_on moment left_since synced mid new (λ image. log_of image ≡ log_of octets) (may_leave new) so_far later here;
        })
