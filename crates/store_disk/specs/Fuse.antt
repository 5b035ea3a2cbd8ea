-- A disk in memory that fails once.
use Rattle.std.specs.Prelude.{◌≡◌, ◌≤◌, ℕ, ◌+◌, ◌-◌, ◌/◌, ◌^◌, ◌==◌, min, Bool, true, false, List, [], ◌∷◌, ◌++◌, length, take, Option, Some, None, if◌then◌else◌}
use Rattle.store_disk.specs.declared.call_log.Call.{Call}
use Rattle.store_disk.specs.declared.call_log.Call.TheVariants.{Write, Sync}
use Rattle.store_disk.specs.Disk.{Torn}

-- what reads give, how many calls pass before the one that fails, which is none once it has failed, the count of faults, whether
-- the last write or sync wanted memory, and each call that did something, with what reads gave behind it
pub record FuseState : Type 0 where
  pub octets : List ℕ
  pub fuse : Option ℕ
  pub faults : ℕ
  pub starved : Bool
  pub past : List (Call × List ℕ)

-- ---- images

-- the images after a call, from those before it
abbrev pub After : (List ℕ → Type 0) → Call × List ℕ → List ℕ → Type 0
After Images (Write at count, octets) image = (earlier : List ℕ) × Images earlier × Torn at count earlier image
After Images (Sync, octets) image = image ≡ octets

abbrev pub AfterAll : (List ℕ → Type 0) → List (Call × List ℕ) → List ℕ → Type 0
AfterAll Images [] = Images
AfterAll Images (call ∷ calls) = AfterAll (After Images call) calls

-- the images after calls, the first of which is a sync
abbrev pub IsImage : List (Call × List ℕ) → List ℕ → Type 0
IsImage past image = AfterAll (λ none. ⊥) past image

-- the images after so many calls or more
abbrev pub IsImageSince : List (Call × List ℕ) → ℕ → List ℕ → Type 0
IsImageSince past t image = (k : ℕ) × (t ≤ k) × (k ≤ length past) × IsImage (take k past) image

-- ---- calls

-- is this the call that fails?
abbrev pub is_blown : Option ℕ → Bool
is_blown (Some calls) = calls == 0
is_blown None = false

abbrev pub burned : Option ℕ → Option ℕ
burned (Some calls) = if calls == 0 then None else Some (calls - 1)
burned None = None

-- a fault more; the count stands still at the last value of a u64
abbrev pub raised : ℕ → ℕ
raised faults = min (faults + 1) (2 ^ 64 - 1)

-- what a write leaves of its piece: the call that fails leaves the first half
abbrev pub passed : Option ℕ → List ℕ → List ℕ
passed fuse piece = if is_blown fuse then take (length piece / 2) piece else piece

-- a call that did something, and left these octets
abbrev pub behind_call : FuseState → Call → List ℕ → FuseState
behind_call s call octets = record {
  octets = octets;
  fuse = burned s.fuse;
  faults = if is_blown s.fuse then raised s.faults else s.faults;
  starved = false;
  past = s.past ++ (call, octets) ∷ [];
}

-- a call that wanted memory did nothing
abbrev pub in_want : FuseState → FuseState
in_want s = record s { faults = raised s.faults; starved = true }

-- a sync that fails
abbrev pub unsynced : FuseState → FuseState
unsynced s = record s { fuse = None; faults = raised s.faults; starved = false }
