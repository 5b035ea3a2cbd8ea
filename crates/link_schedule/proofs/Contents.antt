-- The content of an effect that was pushed: with its receiver where that has accepted it, else in the row.
use Rattle.std.proofs.Common.{◌≡◌, ℕ, zero, suc, ◌-◌, ◌≤◌, true, cond, List, [], ◌∷◌, length, get_or, Option, Some, None, sym, ap, ◌∙◌, subst, arith}
use Rattle.std.specs.Prelude.{map, All, IsSome, option_map, slice_get}
use Rattle.std.proofs.lemmas.List.{length-map}
use Rattle.std.proofs.lemmas.List.Elements.{All-append, All-get_or, filter_passes}
use Rattle.std.proofs.lemmas.Option.{slice_get-map, slice_get_within, get_or_from_slice_get}
use Rattle.device_types.specs.declared.effect.Effect.{Effect}
use Rattle.device_types.specs.declared.event.Lane.{Lane}
use Rattle.device_types.specs.declared.step.Entry.{Entry}
use Rattle.device_types.specs.Journal.{is_on, effects_on, effects_of}
use Rattle.device_types.specs.Numbers.{IsWithin}
use Rattle.effect_outbox.specs.Outbox.{number_on, unsettled_at}
use Rattle.session_row.specs.Row.{RowState}
use Rattle.schedule_laws.specs.Answer.{Lawful}
use Rattle.schedule_laws.specs.Counts.{Turn, effect_pushed}
use Rattle.schedule_laws.specs.Lists.{has}
use Rattle.schedule_laws.specs.Setting.{Setting, entries_of}
use Rattle.link_schedule.specs.World.{LaneMarks, marks_on, Parts, row_after, accepted_effects, ArePushed, ArePartsOf, effect_at, IsOnLane}
use Rattle.schedule_laws.proofs.Comparisons.{le_true, le_false}
use Rattle.schedule_laws.proofs.Laws.{pushed_bound}
use Rattle.link_schedule.proofs.Links.{effect_content}
use Rattle.schedule_laws.proofs.Promises.{effect_there}

-- ---- where it is

-- with its receiver, whose items are of one kind
pub at_receiver : {C : Type 0} (row : RowState) (into : C → Effect) (items : List C) (l : Lane) (k : ℕ) (x : C) → 1 ≤ k → slice_get items (k - 1) ≡ Some x → effect_at row (map into items) l k ≡ Some (into x)
at_receiver row into items l k x low got =
    let there : slice_get (map into items) (k - 1) ≡ Some (into x) = slice_get-map into items (k - 1) ∙ ap (option_map into) got in
    let within = slice_get_within (map into items) (k - 1) (into x) there in
    ap (λ b. cond b (slice_get (map into items) (k - 1)) (unsettled_at (effects_of l row.journal) (number_on row.settled l) k)) (le_true k (length (map into items)) (omega arith))
    ∙ there

past : {X : Type 0} (xs : List X) (i : ℕ) → slice_get xs i ≡ None → length xs ≤ i
past [] i h = omega arith
past (x ∷ xs) zero h = absurd (cc)
past (x ∷ xs) (suc i) h = let r = past xs i h in omega arith

-- in the row
pub at_row : {C : Type 0} (row : RowState) (into : C → Effect) (items : List C) (l : Lane) (k : ℕ) → 1 ≤ k → slice_get items (k - 1) ≡ None → effect_at row (map into items) l k ≡ unsettled_at (effects_of l row.journal) (number_on row.settled l) k
at_row row into items l k low none =
    let short = past items (k - 1) none in
    let same = length-map items into in
    ap (λ b. cond b (slice_get (map into items) (k - 1)) (unsettled_at (effects_of l row.journal) (number_on row.settled l) k)) (le_false k (length (map into items)) (omega arith))

-- ---- it is that of the machine that never fails

-- an effect is of the kind of its lane
all_on : (l : Lane) (journal : List Entry) → All (λ x. is_on l x ≡ true) (effects_of l journal)
all_on l [] = λ k d low. absurd (omega arith)
all_on l (entry ∷ journal) = All-append (λ x. is_on l x ≡ true) (effects_on l entry.step.effects) (effects_of l journal) (filter_passes (is_on l) entry.step.effects) (all_on l journal)

kind_of : (l : Lane) (journal : List Entry) (i : ℕ) (x : Effect) → slice_get (effects_of l journal) i ≡ Some x → is_on l x ≡ true
kind_of l journal i x got =
    let is = All-get_or (λ x. is_on l x ≡ true) (effects_of l journal) i x (slice_get_within (effects_of l journal) i x got) (all_on l journal) in
    ap (is_on l) (sym (get_or_from_slice_get (effects_of l journal) i x x got)) ∙ is

some_on : (l : Lane) (journal : List Entry) (i : ℕ) (found : Option Effect) → found ≡ slice_get (effects_of l journal) i → IsSome (slice_get (effects_of l journal) i) → IsOnLane l found
some_on l journal i None e there = let none = subst (λ (o : Option Effect). IsSome o) (sym e) there in absurd (cc)
some_on l journal i (Some x) e there = kind_of l journal i x (sym e)

pub content_is : (s : Setting) (H : List Turn) (d : ℕ) (l : Lane) (k : ℕ) (row : RowState) (accepts : List Effect) → Lawful s H → effect_pushed d l k H ≡ true → row ≡ row_after s H d → accepts ≡ accepted_effects s l H d → effect_at row accepts l k ≡ slice_get (effects_of l (entries_of s d)) (k - 1)
content_is s H d l k row accepts L on row_is accepts_is =
    let b = pushed_bound s d l k H L on in
    ap (λ (x : RowState). effect_at x accepts l k) row_is
    ∙ ap (λ (xs : List Effect). effect_at (row_after s H d) xs l k) accepts_is
    ∙ effect_content s H d l k L b.1 b.2

pub content_on : (s : Setting) (H : List Turn) (d : ℕ) (l : Lane) (k : ℕ) (row : RowState) (accepts : List Effect) → Lawful s H → effect_pushed d l k H ≡ true → row ≡ row_after s H d → accepts ≡ accepted_effects s l H d → IsOnLane l (effect_at row accepts l k)
content_on s H d l k row accepts L on row_is accepts_is = some_on l (entries_of s d) (k - 1) (effect_at row accepts l k) (content_is s H d l k row accepts L on row_is accepts_is) (effect_there s d l k H L on)

-- ---- the marks of a device say whether it was pushed

pub marked : (s : Setting) (H : List Turn) (p : Parts) (d : ℕ) (l : Lane) (k : ℕ) (marks : LaneMarks) → marks ≡ get_or p.pushed (d - 1) marks → IsWithin (length s.rows) d → 1 ≤ k → ArePartsOf s H p → has k (marks_on marks l) ≡ effect_pushed d l k H
marked s H p d l k marks at within low m =
    let is : ArePushed H d marks = rw (← at) at (m.pushed.at d marks within) in
    is l k low
