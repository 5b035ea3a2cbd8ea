-- A case text that was read up to some line.
use Rattle.std.proofs.Common.{◌≡◌, ℕ, ◌<◌, Bool, true, false, ◌||◌, List, [], ◌∷◌, ◌++◌, length, Option, Some, None, Result, Err, refl, sym, ap, ◌∙◌, append_assoc, arith}
use Rattle.std.specs.Prelude.{slice_get, map, filter, is_some, if◌then◌else◌}
use Rattle.std.specs.Option.{option_map_or}
use Rattle.std.proofs.lemmas.List.{length-append}
use Rattle.std.proofs.lemmas.List.Elements.{filter-append}
use Rattle.echo_base.specs.declared.reason.Reason.{Reason}
use Rattle.bstr.specs.Text as bstr
use Rattle.bstr.specs.Text.{without_terminator}
use Rattle.case_form.specs.declared.case.CaseBad.{CaseBad}
use Rattle.case_form.specs.declared.case.CaseBad.TheVariants as answer
use Rattle.case_form.specs.declared.section.Section.{Section}
use Rattle.case_form.specs.declared.section.Section.TheVariants.{Subscribers, Trace, Schedule}
use Rattle.case_form.specs.Case.{Placed, placed, placed_behind, is_section, is_counted, counted, refusals, first_bad, MatchFirstBad, IsNumbered, HasCounted}
use Rattle.case_form.specs.Lines.{lines_of}
use Rattle.case_form.specs.Said.{CaseState}
use Rattle.case_form.specs.Section.{is_passed_over, is_heading}
use Rattle.case_form.specs.State.{Seen, unread, next, reason_behind, counts_behind, after, TakesLine}
use Rattle.case_form.proofs.FormLaws.{IsProper, nothing_is_proper, proper_more}
use Rattle.case_form.proofs.LineLaws.{bstr_lines}
use Rattle.case_form.proofs.PlaceLaws.{place, placed-append, first_refusal}
use Rattle.case_form.proofs.StateLaws.{IsSeen, nothing_seen, same_reason, same_number, seen_more}

-- the lines before those that are left were seen, and none of them is refused
pub record IsReadTo (octets : List ℕ) (left : List (List ℕ)) (seen : Seen) : Type 0 where
  pub before : List (List ℕ)
  pub split : lines_of octets ≡ before ++ left
  pub seen_is : IsSeen before seen
  pub proper : IsProper seen

pub read_to_start : (octets : List ℕ) (left : List (List ℕ)) (seen : Seen) → left ≡ map without_terminator (bstr.lines_of octets) → seen ≡ unread → IsReadTo octets left seen
unfolding lines_of
read_to_start octets left seen are is = rw is (record { before = []; split = sym (are ∙ bstr_lines octets); seen_is = nothing_seen; proper = nothing_is_proper })

pub read_to_more : (octets line : List ℕ) (left rest : List (List ℕ)) (seen new : Seen) → IsReadTo octets left seen → left ≡ line ∷ rest → reason_behind (next seen) line ≡ None → new ≡ after (next seen) line → IsReadTo octets rest new
read_to_more octets line left rest seen new r are none is = rw is (record {
  before = r.before ++ line ∷ [];
  split = r.split ∙ ap (λ (l : List (List ℕ)). r.before ++ l) are ∙ sym (append_assoc r.before (line ∷ []) rest);
  seen_is = seen_more r.before line seen r.seen_is none;
  proper = proper_more seen line r.proper none;
})

-- the line that is refused is the first bad one
pub refused_at : (octets line : List ℕ) (left rest : List (List ℕ)) (seen : Seen) (reason : Reason) (number : ℕ) → IsReadTo octets left seen → left ≡ line ∷ rest → reason_behind (next seen) line ≡ Some reason → number ≡ (next seen).number → first_bad octets ≡ Some (number, reason)
unfolding first_bad
refused_at octets line left rest seen reason number r are bad is =
    let split : lines_of octets ≡ r.before ++ line ∷ rest = r.split ∙ ap (λ (l : List (List ℕ)). r.before ++ l) are in
    ap (λ (l : List (List ℕ)). slice_get (refusals l) 0) split
    ∙ first_refusal r.before rest line reason r.seen_is.good (sym (same_reason r.before line seen r.seen_is) ∙ bad)
    ∙ ap (λ (n : ℕ). Some (n, reason)) (sym (is ∙ same_number r.before line seen r.seen_is))

-- what a line that was not taken says of the case
pub refused_by : (octets line : List ℕ) (left rest : List (List ℕ)) (seen : Seen) (bad : CaseBad) (P : Type 0) → IsReadTo octets left seen → left ≡ line ∷ rest → TakesLine (Err bad) (reason_behind (next seen) line) (counts_behind (next seen).section line) (next seen).number P → MatchFirstBad (Err bad) (first_bad octets)
refused_by octets line left rest seen (answer.Refused reason number) P r are takes = refused_at octets line left rest seen reason number r are takes.0 takes.1
refused_by octets line left rest seen answer.OutOfMemory P r are takes = tt

pub numbered_by : (line : List ℕ) (seen : Seen) (bad : CaseBad) (P : Type 0) → TakesLine (Err bad) (reason_behind (next seen) line) (counts_behind (next seen).section line) (next seen).number P → IsNumbered bad
numbered_by line seen (answer.Refused reason number) P takes = omega (arith, takes.1)
numbered_by line seen answer.OutOfMemory P takes = tt

-- ---- a line that takes memory

counted_from : (passed heading : Bool) (section : Option Section) → (if passed then false else if heading then false else is_some section) ≡ true
    → (own : Section) × ((if passed || heading then false else option_map_or (is_section own) section false) ≡ true)
counted_from true heading section e = absurd cc
counted_from false true section e = absurd cc
counted_from false false None e = absurd cc
counted_from false false (Some Subscribers) e = (Subscribers, refl)
counted_from false false (Some Trace) e = (Trace, refl)
counted_from false false (Some Schedule) e = (Schedule, refl)

passes_one : (p : Placed → Bool) (x : Placed) (xs : List Placed) → p x ≡ true → 0 < length (filter p (x ∷ xs))
passes_one p x xs e = rw e (omega arith)

counted_here : (before rest : List (List ℕ)) (line : List ℕ) (section : Section) → is_counted section (place before line) ≡ true → 0 < length (counted section (before ++ line ∷ rest))
counted_here before rest line section is =
    let p = is_counted section in
    let split : counted section (before ++ line ∷ rest) ≡ filter p (placed before) ++ filter p (placed_behind before (line ∷ rest)) = ap (filter p) (placed-append before (line ∷ rest)) ∙ filter-append p (placed before) (placed_behind before (line ∷ rest)) in
    let one = passes_one p (place before line) (placed_behind (before ++ line ∷ []) rest) is in
    rw split (omega (arith, length-append (filter p (placed before)) (filter p (placed_behind before (line ∷ rest))), one))

abbrev pub no_case : CaseBad → Result CaseState CaseBad
no_case bad = Err bad

-- a line that wanted memory is counted
pub counted_by : (octets line : List ℕ) (left rest : List (List ℕ)) (seen : Seen) (bad : CaseBad) (P : Type 0) → IsReadTo octets left seen → left ≡ line ∷ rest → TakesLine (Err bad) (reason_behind (next seen) line) (counts_behind (next seen).section line) (next seen).number P
    → no_case bad ≡ Err answer.OutOfMemory → HasCounted octets
unfolding counts_behind
counted_by octets line left rest seen (answer.Refused reason number) P r are takes e = absurd cc
counted_by octets line left rest seen answer.OutOfMemory P r are takes e =
    let own = counted_from (is_passed_over line) (is_heading line) seen.section takes in
    let split : lines_of octets ≡ r.before ++ line ∷ rest = r.split ∙ ap (λ (l : List (List ℕ)). r.before ++ l) are in
    let here : is_counted own.0 (place r.before line) ≡ true = rw (← r.seen_is.section) own.1 in
    (own.0, rw split (counted_here r.before rest line own.0 here))
