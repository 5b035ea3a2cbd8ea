-- A store behind a commit.
use Rattle.std.proofs.Common.{◌≡◌, ◌≤◌, ◌↔◌, ℕ, ◌+◌, ◌-◌, ◌*◌, List, [], ◌∷◌, ◌++◌, length, Option, Some, None, refl, sym, ap, ◌∙◌, subst, arith, inl, true}
use Rattle.std.specs.Prelude.{IfSome, IsSome, slice_set}
use Rattle.std.proofs.lemmas.Bool.{false≢true}
use Rattle.device_types.specs.declared.step.Entry.{Entry}
use Rattle.device_types.specs.Journal.{session_of}
use Rattle.disk_log.specs.Log.{log_of, EndsAt, WithOrWithout}
use Rattle.disk_log.specs.Record.{LogRecord, size_of}
use Rattle.session_form.specs.Form.{form_of, IsInRange}
use Rattle.session_row.specs.declared.commit.Commit.{Commit}
use Rattle.session_row.specs.declared.commit.Commit.TheVariants.{Committed}
use Rattle.session_row.specs.Row.{RowState, Commits}
use Rattle.session_store.specs.Law.{IsLawful, CanFollow}
use Rattle.session_store.specs.Rows.{StoreState, IsDevice, AreLawful, row_of, journal_of}
use Rattle.store_disk.specs.Moments.{IsDurable, LeavesOnly}
use Rattle.store_disk.proofs.Moments.{started}
use Rattle.store_disk.proofs.Runs.{same_file}
use Rattle.session_disk.specs.Fits.{IsLogOf}
use Rattle.session_disk.specs.Stored.{DiskState, entry_count, with_entry, record_of, IsAtRest}
use Rattle.session_form.proofs.Sessions.{is_form}
use Rattle.session_disk.proofs.Forms.{form_few}
use Rattle.session_disk.proofs.Logs.{one_entry_more, log_more}
use Rattle.session_disk.proofs.Takes.{Made, made}

-- no call of the disk was made
pub nothing_written : {D : Type 0} (bytes : D → Option (List ℕ)) (moment : D → ℕ) (may_leave : D → List ℕ → Type 0) (left_since : D → ℕ → List ℕ → Type 0) (disk : D) (r : LogRecord) (octets : List ℕ)
    → bytes disk ≡ Some octets → IsDurable (bytes disk) (may_leave disk) → ((image : List ℕ) → left_since disk (moment disk) image → may_leave disk image) → LeavesOnly moment left_since disk disk (WithOrWithout (log_of octets) r)
nothing_written bytes moment may_leave left_since disk r octets is durable only =
    started moment left_since disk (WithOrWithout (log_of octets) r) (λ image left. inl (ap log_of (sym (same_file (bytes disk) octets image is (durable image (only image left))))))

-- each image has what reads give
pub image_has : (bytes : Option (List ℕ)) (P : List ℕ → Type 0) (image : List ℕ) → bytes ≡ Some image → IfSome bytes P → P image
image_has bytes P image is told = subst (λ (b : Option (List ℕ)). IfSome b P) is told

-- ---- inside a store

pub open_inside : {D : Type 0} (inside now : DiskState D) → inside ≡ now → now.is_open ≡ true → inside.is_open ≡ true
open_inside inside now same is_open = ap (λ (s : DiskState _). s.is_open) same ∙ is_open

pub disk_inside : {D : Type 0} (inside now : DiskState D) → inside ≡ now → inside.disk ≡ now.disk
disk_inside inside now same = ap (λ (s : DiskState _). s.disk) same

pub device_inside : {D : Type 0} (inside now : DiskState D) (d : ℕ) → inside ≡ now → IsDevice (length now.store.rows) d → IsDevice (length inside.store.rows) d
device_inside inside now d same is = subst (λ (s : StoreState). IsDevice (length s.rows) d) (sym (ap (λ (s : DiskState _). s.store) same)) is

-- what a crash leaves of the disk inside
pub told_inside : {D : Type 0} (bytes : D → Option (List ℕ)) (moment : D → ℕ) (left_since : D → ℕ → List ℕ → Type 0) (inside now : DiskState D) (new : D) (r told : LogRecord) (octets : List ℕ) → inside ≡ now → r ≡ told → bytes now.disk ≡ Some octets
    → ((os : List ℕ) → bytes inside.disk ≡ Some os → LeavesOnly moment left_since inside.disk new (WithOrWithout (log_of os) r)) → LeavesOnly moment left_since now.disk new (WithOrWithout (log_of octets) told)
told_inside bytes moment left_since inside now new r told octets same recorded is leaves =
    subst (λ (disk : _). LeavesOnly moment left_since disk new (WithOrWithout (log_of octets) told)) (disk_inside inside now same)
    (subst (λ (q : LogRecord). LeavesOnly moment left_since inside.disk new (WithOrWithout (log_of octets) q)) recorded (leaves octets (ap bytes (disk_inside inside now same) ∙ is)))

-- ---- a record of an entry

module _ (follows : ℕ → List Entry → Entry → Type 0) (old new : StoreState) (d read : ℕ) (entry : Entry) (is : IsDevice (length old.rows) d) (others : new ≡ record old { rows = slice_set old.rows (d - 1) (row_of new.rows d) }) where
  -- what was committed, and the octets of its session
  pub record Kept (version : ℕ) (octets : List ℕ) : Type 0 where
    pub made : Made follows old new d read entry is others version
    pub form : octets ≡ form_of entry.step.session

  module _ (can : (J : List Entry) → IsLawful (follows d) J → follows d J entry → CanFollow J entry) (lawful : AreLawful follows new.rows) where
    pub kept : (commit : Commit) (version : ℕ) → commit ≡ Committed version → Commits (row_of old.rows d) (row_of new.rows d) read entry commit → (row : RowState) → row ≡ row_of new.rows d → (octets : List ℕ) → octets ≡ form_of (session_of row.journal) → Kept version octets
    kept commit version same ok row row_is octets form =
        let m = made follows old new d read entry is others can lawful commit version same ok in
        record { made = m; form = form ∙ ap (λ (r : RowState). form_of (session_of r.journal)) row_is ∙ ap form_of m.last }

  module _ (version : ℕ) (octets : List ℕ) (k : Kept version octets) where
    pub few_octets : length octets ≤ 241
    few_octets = omega (arith, ap length k.form, form_few entry.step.session k.made.range)

    pub recorded : (r : LogRecord) → r ≡ record { device = d; version = version; session = octets } → r ≡ record_of d (read + 1) entry
    recorded r r_is = r_is ∙ rw (k.made.next, k.form) refl

-- the record is on the disk
module _ (rows later : List RowState) (d : ℕ) (entry : Entry) (is : IsDevice (length rows) d) (grown : later ≡ with_entry rows d entry) (range : IsInRange entry.step.session) (read : ℕ) (newest : read ≡ length (journal_of rows d)) (r : LogRecord) (recorded : r ≡ record_of d (read + 1) entry) where
  log_later : (records now : List LogRecord) → IsLogOf rows records → now ≡ records ++ r ∷ [] → IsLogOf later now
  log_later records now log more =
      let own : r.device ≡ d = ap (λ (q : LogRecord). q.device) recorded in
      let version : r.version ≡ length (journal_of rows d) + 1 = ap (λ (q : LogRecord). q.version) recorded ∙ ap (λ (n : ℕ). n + 1) newest in
      let session = ap (λ (q : LogRecord). q.session) recorded in
      rw (grown, more) (log_more rows d entry is records r log own version (is_form entry.step.session range r.session session))

  few_later : (gate next : ℕ) → gate ≤ 256 * entry_count rows → next ≡ gate + 1 + size_of r → next ≤ 256 * entry_count later
  few_later gate next few further =
      let size = ap (λ (q : LogRecord). length q.session) recorded in
      omega (arith, few, further, size, form_few entry.step.session range, one_entry_more rows d entry is, ap entry_count grown)

  pub at_rest_later : (gate next : ℕ) (old new : Option (List ℕ)) (images : List ℕ → Type 0) → IfSome old (λ octets. IsLogOf rows (log_of octets)) → gate ≤ 256 * entry_count rows → next ≡ gate + 1 + size_of r
      → ((octets : List ℕ) → old ≡ Some octets → IfSome new (λ now. (log_of now ≡ log_of octets ++ r ∷ []) × EndsAt next now)) → (IsSome new ↔ IsSome old) → IsDurable new images → IsAtRest new images next later
  at_rest_later gate next old None images log few further added tells durable = record { durable = durable; ends = tt; log = tt; few = few_later gate next few further }
  at_rest_later gate next None (Some now) images log few further added tells durable = absurd (false≢true (tells.0 refl))
  at_rest_later gate next (Some octets) (Some now) images log few further added tells durable =
      let there = added octets refl in
      record { durable = durable; ends = there.1; log = log_later (log_of octets) (log_of now) log there.0; few = few_later gate next few further }
