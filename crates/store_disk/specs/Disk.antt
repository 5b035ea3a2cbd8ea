-- What the calls of a disk do to its octets, and what a crash may leave of them. An image is a file that a crash may leave.
use Rattle.std.specs.Prelude.{◌≡◌, ◌⊎◌, ◌≤◌, ℕ, ◌+◌, min, max, List, ◌++◌, length, take, drop}

-- a piece written over octets from a place on
abbrev pub written_at : ℕ → List ℕ → List ℕ → List ℕ
written_at at piece octets = take at octets ++ piece ++ drop (at + length piece) octets

-- an image of a file in which n octets from a place on were being written: these, and the part past the old end, are any octets;
-- the length is any from the old to the new one; all other octets stay
pub record Torn (at n : ℕ) (old new : List ℕ) : Type 0 where
  pub before : take (min at (length old)) new ≡ take at old
  pub behind : drop (at + n) new ≡ drop (at + n) old
  pub no_shorter : length old ≤ length new
  pub no_longer : length new ≤ max (length old) (at + n)

-- each image is one from before, with this change
abbrev pub Follows : (List ℕ → List ℕ → Type 0) → (List ℕ → Type 0) → (List ℕ → Type 0) → Type 0
Follows Change old new = (image : List ℕ) → new image → (earlier : List ℕ) × old earlier × Change earlier image

-- the images are among those before
abbrev pub Among : (List ℕ → Type 0) → (List ℕ → Type 0) → Type 0
Among old new = (image : List ℕ) → new image → old image

-- Time goes on: since an earlier moment there were the images that there had been, and those that there are now
pub record Elapses (before now : ℕ) (past since : ℕ → List ℕ → Type 0) (images : List ℕ → Type 0) : Type 0 where
  pub later : before ≤ now
  pub nothing_else : (t : ℕ) (image : List ℕ) → t ≤ before → since t image → past t image ⊎ images image
  pub keeps : (t : ℕ) (image : List ℕ) → t ≤ before → past t image → since t image
