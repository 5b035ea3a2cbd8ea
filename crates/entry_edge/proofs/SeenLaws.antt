-- What is kept of the lines, as a line more is taken.
use Rattle.std.proofs.Common.{◌≡◌, ℕ, ◌+◌, ◌-◌, ◌<◌, ◌≤◌, ◌≢◌, List, [], ◌∷◌, ◌++◌, length, map, take, get_or, suc, zero, Ok, Err, refl, sym, ap, subst, ◌∙◌, inl, inr, arith}
use Rattle.std.specs.List.{range_with_len}
use Rattle.std.proofs.Math.ListN.{set, length-set}
use Rattle.std.proofs.lemmas.Bool.{cases_eq, eq-eqb, ne_eqb}
use Rattle.std.proofs.lemmas.List.{take_all, take_more, get_or-set_same, get_or-set_other}
use Rattle.std.proofs.lemmas.List.Sums.{fold-append}
use Rattle.echo_base.specs.declared.refusal.Refusal.{Refusal}
use Rattle.device_types.specs.declared.subscriber.Subscriber.{Subscriber}
use Rattle.device_types.specs.declared.message.Message.{Message}
use Rattle.case_form.specs.declared.case.TraceLine.{TraceLine}
use Rattle.entry_edge.specs.declared.check.Taken.{Taken}
use Rattle.entry_edge.specs.declared.admission.RefusedLine.{RefusedLine}
use Rattle.entry_edge.specs.declared.admission.Admission.{Admission}
use Rattle.entry_edge.specs.Trace.{Turn, Admitted, Refused, messages_of, and_message, book_of, taken_at, turn, history}
use Rattle.device_types.specs.Numbers.{IsWithin}
use Rattle.entry_edge.specs.Kept.{is_device, AreLines, IsSeen, Keeps}
use Rattle.entry_edge.proofs.StepLaws.{admitted_turn, refused_turn, bound_still}

-- a message more
line_at : (n i d : ℕ) (H : List Turn) (t : Taken) (lines : List (List Message)) → AreLines n H lines → t.device.0 ≡ d → IsWithin n d → i < n → get_or (set lines (d - 1) (and_message (get_or lines (d - 1) []) t)) i [] ≡ messages_of (i + 1) (Admitted t ∷ H)
line_at n i d H t lines are is row lt =
    elim (cases_eq t.device.0 (i + 1)) [
      | inl same ↦
          let here : d - 1 ≡ i = omega arith in
          let room : i < length lines = omega (arith, are.count) in
          rw (here, get_or-set_same lines i (and_message (get_or lines i []) t) [] room, eq-eqb t.device.0 (i + 1) same) (ap (λ (l : List Message). and_message l t) (are.at i lt))
      | inr other ↦
          let apart : i ≢ d - 1 = omega arith in
          rw (get_or-set_other lines (d - 1) i (and_message (get_or lines (d - 1) []) t) [] apart, ne_eqb t.device.0 (i + 1) other) (are.at i lt)
    ]

pub lines_more : (n : ℕ) (H : List Turn) (t : Taken) (lines new : List (List Message)) → AreLines n H lines → IsWithin n t.device.0 → new ≡ set lines (t.device.0 - 1) (and_message (get_or lines (t.device.0 - 1) []) t) → AreLines n (Admitted t ∷ H) new
lines_more n H t lines new are row e = record {
  count = ap length e ∙ length-set lines (t.device.0 - 1) (and_message (get_or lines (t.device.0 - 1) []) t) ∙ are.count;
  at = λ i lt. ap (λ (l : List (List Message)). get_or l i []) e ∙ line_at n i t.device.0 H t lines are refl row lt;
}

pub lines_same : (n : ℕ) (H : List Turn) (r : RefusedLine) (lines : List (List Message)) → AreLines n H lines → AreLines n (Refused r ∷ H) lines
lines_same n H r lines are = record { count = are.count; at = are.at }

-- a line more is taken
pub admitted_seen : (rows : List Subscriber) (H : List Turn) (line : TraceLine) (t : Taken) (s new : Admission) → IsSeen rows H s → taken_at rows H line ≡ Ok t → IsWithin (length rows) t.device.0 → Keeps (length rows) (Admitted t ∷ H) new.bindings → new.lines.items ≡ set s.lines.items (t.device.0 - 1) (and_message (get_or s.lines.items (t.device.0 - 1) []) t) → new.refused.items ≡ s.refused.items → IsSeen rows (turn rows H line) new
admitted_seen rows H line t s new seen is row kept more same =
    let seen_more : IsSeen rows (Admitted t ∷ H) new = record {
      bindings = kept;
      lines = lines_more (length rows) H t s.lines.items new.lines.items seen.lines row more;
      refused = same ∙ seen.refused;
    } in
    subst (λ (turns : List Turn). IsSeen rows turns new) (sym (admitted_turn rows H line t is)) seen_more

pub refused_seen : (rows : List Subscriber) (H : List Turn) (line : TraceLine) (e : Refusal) (s new : Admission) → IsSeen rows H s → taken_at rows H line ≡ Err e → Keeps (length rows) H new.bindings → AreLines (length rows) H new.lines.items → new.refused.items ≡ s.refused.items ++ record { line = line.line; refusal = e } ∷ [] → IsSeen rows (turn rows H line) new
refused_seen rows H line e s new seen is kept lines more =
    let r : RefusedLine = record { line = line.line; refusal = e } in
    let seen_more : IsSeen rows (Refused r ∷ H) new = record {
      bindings = record {
        opened = kept.opened;
        within = kept.within;
        count = kept.count;
        places = λ pair d at. kept.places pair d at ∙ ap (is_device d) (sym (bound_still pair H r));
      };
      lines = lines_same (length rows) H r new.lines.items lines;
      refused = more ∙ ap (λ (before : List RefusedLine). before ++ r ∷ []) seen.refused;
    } in
    subst (λ (turns : List Turn). IsSeen rows turns new) (sym (refused_turn rows H line e is)) seen_more

-- the lines as a book
all_lines : (f : ℕ → List Message) (a n : ℕ) (lines : List (List Message)) → length lines ≡ n → ((i : ℕ) → i < n → get_or lines i [] ≡ f (a + i)) → lines ≡ map f (range_with_len a n)
all_lines f a zero [] len at = refl
all_lines f a zero (x ∷ xs) len at = absurd (omega arith)
all_lines f a (suc n) [] len at = absurd (omega arith)
all_lines f a (suc n) (x ∷ xs) len at =
    let first : x ≡ f a = at 0 (omega arith) ∙ ap f (omega arith) in
    let rest = all_lines f (a + 1) n xs (omega arith) (λ i lt. at (suc i) (omega arith) ∙ ap f (omega arith)) in
    cc

pub whole_book : (n : ℕ) (H : List Turn) (lines : List (List Message)) → AreLines n H lines → lines ≡ book_of n H
whole_book n H lines are = all_lines (λ d. messages_of d H) 1 n lines are.count (λ i lt. are.at i lt ∙ ap (λ d. messages_of d H) (omega arith))

-- one line more of the trace
pub history_more : (rows : List Subscriber) (trace : List TraceLine) (i : ℕ) (line : TraceLine) → i < length trace → get_or trace i line ≡ line → history rows (take (i + 1) trace) ≡ turn rows (history rows (take i trace)) line
history_more rows trace i line lt is =
    ap (history rows) (take_more trace i line lt ∙ ap (λ (x : TraceLine). take i trace ++ x ∷ []) is) ∙ fold-append (turn rows) [] (take i trace) (line ∷ [])

-- the book of all lines
pub book_at_end : (rows : List Subscriber) (trace : List TraceLine) (i : ℕ) (lines : List (List Message)) → length trace ≤ i → AreLines (length rows) (history rows (take i trace)) lines → lines ≡ book_of (length rows) (history rows trace)
book_at_end rows trace i lines past are = whole_book (length rows) (history rows (take i trace)) lines are ∙ ap (λ (t : List TraceLine). book_of (length rows) (history rows t)) (take_all i trace past)
