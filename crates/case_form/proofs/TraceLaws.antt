-- A line is read as one of a trace exactly where its words are a base station and a text, or `data` and 15 digits.
use Rattle.std.proofs.Common.{◌≡◌, ℕ, ◌<◌, false, eqb, List, [], ◌∷◌, length, Option, Some, None, refl, sym, ap, ◌∙◌, subst, arith}
use Rattle.std.specs.Prelude.{codes, if◌then◌else◌}
use Rattle.std.specs.Fmt.{decimal}
use Rattle.std.proofs.lemmas.Bool.Decides.{nat_tests}
use Rattle.std.specs.Str.{bytes_eq}
use Rattle.std.proofs.lemmas.Option.{cond_some, same_Some}
use Rattle.std.proofs.lemmas.Slice.Eq.{bytes_eq-Decides}
use Rattle.device_types.specs.Numbers.{IsWithin}
use Rattle.subs_table.specs.Kinds as kinds
use Rattle.case_form.specs.declared.case.TraceKind.{TraceKind}
use Rattle.case_form.specs.declared.case.TraceKind.TheVariants.{Pdu, Data}
use Rattle.case_form.specs.Number.{number_of}
use Rattle.case_form.specs.Trace.{text_at, sent_at, sent_of, data_at, imsi_at, notice_at, notice_of, kind_from, kind_of, IsSent, IsNotice}
use Rattle.case_form.specs.Words.{number_at}
use Rattle.case_form.proofs.ExactLaws.{IsExact, Next, Ends, next_exact, done_exact, value_exact, known_exact, number_exact, whole_found, whole_only}

abbrev Words : Type 0
Words = List (List ℕ)

abbrev IsText : List ℕ → Type 0
IsText text = 0 < length text

text_of : List ℕ → Option (List ℕ)
text_of word = if eqb (length word) 0 then None else Some word

text_found : (word text : List ℕ) → text_of word ≡ Some text → IsText text × (word ≡ text)
unfolding text_of
text_found [] text e = absurd cc
text_found (octet ∷ word) text e =
    let some : eqb (length (octet ∷ word)) 0 ≡ false = grind (arith, nat_tests) in
    let same : octet ∷ word ≡ text = same_Some (octet ∷ word) text (rw some at e) in
    (omega (arith, ap length same), same)

text_only : (text : List ℕ) → IsText text → text_of text ≡ Some text
unfolding text_of
text_only [] h = absurd (omega arith)
text_only (octet ∷ text) h = let some : eqb (length (octet ∷ text)) 0 ≡ false = grind (arith, nat_tests) in rw some refl

text_exact : IsExact (λ text run. IsText text × (run ≡ text ∷ [])) text_at
unfolding text_at text_of
text_exact = value_exact text_of (λ text. text) IsText text_found text_only

abbrev Run : ℕ × List ℕ → Words → Type 0
Run = Next (IsWithin 65535) decimal (λ station. Next IsText (λ text. text) (λ text. Ends (station, text)))

run_exact : IsExact Run sent_at
unfolding sent_at
run_exact = next_exact (IsWithin 65535) decimal (number_at 65535) _ _ (number_exact 65535 (omega arith)) (λ station. next_exact IsText (λ text. text) text_at _ _ text_exact (λ text. done_exact (station, text)))

pub sent_found : (line : List ℕ) (sent : ℕ × List ℕ) → sent_of line ≡ Some sent → IsSent sent.0 sent.1 line
unfolding sent_of
sent_found line sent e =
    let s = whole_found Run sent_at run_exact line sent e in
    let text = s.3 in
    subst (λ (v : ℕ × List ℕ). IsSent v.0 v.1 line) (sym text.3.0) (s.1, text.1, s.4 ∙ ap (λ (l : Words). decimal s.0 ∷ l) (text.4 ∙ ap (λ (l : Words). text.0 ∷ l) text.3.1))

pub sent_only : (line : List ℕ) (sent : ℕ × List ℕ) → IsSent sent.0 sent.1 line → sent_of line ≡ Some sent
unfolding sent_of
sent_only line sent is =
    whole_only Run sent_at run_exact line sent (subst (Run sent) (sym is.2) (sent.0, is.0, _, (sent.1, is.1, [], (refl, refl), refl), refl))

-- ---- notices

data_of : List ℕ → Option (Unit {0})
data_of word = if bytes_eq word (codes "data") then Some tt else None

data_found : (word : List ℕ) (v : Unit {0}) → data_of word ≡ Some v → Unit {0} × (word ≡ codes "data")
unfolding data_of
data_found word v e = (tt, (bytes_eq-Decides word (codes "data")).0 (cond_some (bytes_eq word (codes "data")) tt v e).0)

data_only : (v : Unit {0}) → Unit {0} → data_of (codes "data") ≡ Some v
unfolding data_of
data_only v u = refl

data_exact : IsExact (λ v run. Unit {0} × (run ≡ codes "data" ∷ [])) data_at
unfolding data_at data_of
data_exact = value_exact data_of (λ v. codes "data") (λ v. Unit {0}) data_found data_only

abbrev IsDigits : Unit {0} → ℕ → Words → Type 0
IsDigits v imsi run = (digits : List ℕ) × (kinds.number_of 15 digits ≡ Some imsi) × (run ≡ digits ∷ [])

abbrev NoticeRun : ℕ → Words → Type 0
NoticeRun = Next (λ (v : Unit {0}). Unit {0}) (λ v. codes "data") IsDigits

notice_exact : IsExact NoticeRun notice_at
unfolding notice_at imsi_at
notice_exact = next_exact (λ (v : Unit {0}). Unit {0}) (λ v. codes "data") data_at IsDigits _ data_exact (λ v. known_exact (kinds.number_of 15))

notice_found : (line : List ℕ) (imsi : ℕ) → notice_of line ≡ Some imsi → IsNotice imsi line
unfolding notice_of
notice_found line imsi e =
    let s = whole_found NoticeRun notice_at notice_exact line imsi e in
    (s.3.0, s.3.1, s.4 ∙ ap (λ (l : Words). codes "data" ∷ l) s.3.2)

notice_only : (line : List ℕ) (imsi : ℕ) → IsNotice imsi line → notice_of line ≡ Some imsi
unfolding notice_of
notice_only line imsi is = whole_only NoticeRun notice_at notice_exact line imsi (tt, tt, is.0 ∷ [], (is.0, is.1, refl), is.2)

-- ---- both

-- `data` is no number
no_sent : (line : List ℕ) (imsi : ℕ) → IsNotice imsi line → sent_of line ≡ None
unfolding sent_of sent_at number_at number_of
no_sent line imsi is = rw is.2 refl

-- what a base station sent, of the two kinds of lines
pdu_of : TraceKind → Option (ℕ × List ℕ)
pdu_of (Pdu station text) = Some (station, text)
pdu_of (Data imsi) = None

as_sent : (sent : Option (ℕ × List ℕ)) (notice : Option ℕ) (station : ℕ) (text : List ℕ) → kind_from sent notice ≡ Some (Pdu station text) → sent ≡ Some (station, text)
unfolding pdu_of
as_sent (Some sent) notice station text e = ap pdu_of (same_Some (Pdu sent.0 sent.1) (Pdu station text) e)
as_sent None None station text e = absurd cc
as_sent None (Some imsi) station text e = absurd cc

as_notice : (sent : Option (ℕ × List ℕ)) (notice : Option ℕ) (imsi : ℕ) → kind_from sent notice ≡ Some (Data imsi) → notice ≡ Some imsi
as_notice (Some sent) notice imsi e = absurd cc
as_notice None None imsi e = absurd cc
as_notice None (Some other) imsi e = cc

pub pdu_found : (line : List ℕ) (station : ℕ) (text : List ℕ) → kind_of line ≡ Some (Pdu station text) → IsSent station text line
unfolding kind_of
pdu_found line station text e = sent_found line (station, text) (as_sent (sent_of line) (notice_of line) station text e)

pub pdu_only : (line : List ℕ) (station : ℕ) (text : List ℕ) → IsSent station text line → kind_of line ≡ Some (Pdu station text)
unfolding kind_of
pdu_only line station text is = rw (sent_only line (station, text) is) refl

pub data_line_found : (line : List ℕ) (imsi : ℕ) → kind_of line ≡ Some (Data imsi) → IsNotice imsi line
unfolding kind_of
data_line_found line imsi e = notice_found line imsi (as_notice (sent_of line) (notice_of line) imsi e)

pub data_line_only : (line : List ℕ) (imsi : ℕ) → IsNotice imsi line → kind_of line ≡ Some (Data imsi)
unfolding kind_of
data_line_only line imsi is = rw (no_sent line imsi is, notice_only line imsi is) refl
