-- What closed peers and the finals come to, once all is whole.
use Rattle.std.proofs.Common.{◌≡◌, ◌-◌, ◌+◌, ℕ, suc, cond, List, [], ◌∷◌, ◌++◌, Some, length, map, refl, sym, ap, ◌∙◌, arith, length-append, ◌≤◌}
use Rattle.std.specs.List.{range_with_len}
use Rattle.std.specs.Prelude.{slice_get}
use Rattle.std.proofs.lemmas.List.{take_all}
use Rattle.std.proofs.lemmas.List.FromFn.{map-range_with_len_more}
use Rattle.std.proofs.lemmas.List.Sums.{sum_by-cons}
use Rattle.std.proofs.lemmas.Option.{slice_get_within}
use Rattle.device_machine.specs.Ends.{end_by, end_of, finals_of}
use Rattle.device_types.specs.declared.effect.Effect.{Effect}
use Rattle.device_types.specs.declared.event.Lane.{Lane}
use Rattle.device_types.specs.declared.finals.DeviceEnd.{DeviceEnd}
use Rattle.device_types.specs.declared.input.Input.{Input}
use Rattle.device_types.specs.declared.input.Input.TheVariants as inputs
use Rattle.device_types.specs.declared.message.Message.{Message}
use Rattle.device_types.specs.declared.step.Entry.{Entry}
use Rattle.device_types.specs.declared.subscriber.Subscriber.{Subscriber}
use Rattle.device_types.specs.Alone.{alone_of, messages_in, messages_of}
use Rattle.device_types.specs.Journal.{effects_of, is_message, taken_count}
use Rattle.device_types.proofs.Courses.{all_taken}
use Rattle.session_store.specs.AloneLaw.{lawful_is_alone}
use Rattle.session_store.specs.Charter.{CharterState, alone_in, follows_alone}
use Rattle.session_store.specs.Law.{IsLawful}
use Rattle.session_store.specs.Rows.{Begins, IsDevice}
use Rattle.store_shared.specs.Legal.{IsAcceptedOf}
use Rattle.pool_ends.specs.Ends.{end_in}
use Rattle.pool_ends.specs.Lanes.{HasWhole}

-- what closed peers have accepted on a lane is that lane of the machine alone, where the seat knew it to be whole
pub lane_is_whole : (charter : CharterState) (d : ℕ) (l : Lane) (known accepted : List Effect) → HasWhole charter d l known → Begins known accepted → IsAcceptedOf charter d l accepted → accepted ≡ effects_of l (alone_in charter d)
lane_is_whole charter d l known accepted whole more lawful =
    let least = whole in
    let longer = ap length more.1 ∙ length-append known more.0 in
    sym lawful ∙ take_all (length accepted) (effects_of l (alone_in charter d)) (omega arith)

-- a lawful journal that is as long as that of the machine alone is that
pub journal_is_whole : (charter : CharterState) (d : ℕ) (journal : List Entry) → IsLawful (follows_alone charter d) journal → length (alone_in charter d) ≤ length journal → journal ≡ alone_in charter d
journal_is_whole charter d journal lawful low = sym (lawful_is_alone charter d journal lawful) ∙ take_all (length journal) (alone_in charter d) low

-- ---- every message of the machine alone is taken

taken_with : (input : Input) (journal : List Entry) (n : ℕ) → length (messages_of journal) ≡ n → length (messages_in input ++ messages_of journal) ≡ cond (is_message input) 1 0 + n
taken_with (inputs.Message message) journal n e = omega arith
taken_with (inputs.Answer l k answer) journal n e = omega arith

count_taken : (journal : List Entry) → length (messages_of journal) ≡ taken_count journal
count_taken [] = refl
count_taken (e ∷ journal) = taken_with e.input journal (taken_count journal) (count_taken journal) ∙ sym (sum_by-cons (λ (x : Entry). cond (is_message x.input) 1 0) e journal)

end_alone : (row : Subscriber) (messages : List Message) → end_in (alone_of row messages) ≡ end_of row messages
end_alone row messages = ap (λ n. end_by n (alone_of row messages)) (sym (count_taken (alone_of row messages)) ∙ ap length (all_taken row messages))

-- ---- of each device

ends_from : (f : ℕ → DeviceEnd) (rows : List Subscriber) (lines : List (List Message)) (a : ℕ) → length lines ≡ length rows → ((i : ℕ) (row : Subscriber) (messages : List Message) → slice_get rows i ≡ Some row → slice_get lines i ≡ Some messages → f (a + i) ≡ end_of row messages) → map f (range_with_len a (length rows)) ≡ finals_of rows lines
ends_from f [] lines a same is = refl
ends_from f (row ∷ rows) [] a same is = absurd (omega arith)
ends_from f (row ∷ rows) (messages ∷ lines) a same is =
    let here : a ≡ a + 0 = omega arith in
    let head = ap f here ∙ is 0 row messages refl refl in
    let tail = ends_from f rows lines (a + 1) (omega arith) (λ i r m gr gm. let on : (a + 1) + i ≡ a + suc i = omega arith in ap f on ∙ is (suc i) r m gr gm) in
    ap (λ e. e ∷ map f (range_with_len (a + 1) (length rows))) head ∙ ap (λ l. end_of row messages ∷ l) tail

-- the finals of whole journals are those of the machine alone
pub finals_are : (charter : CharterState) (n : ℕ) (journal : ℕ → List Entry) → length charter.lines ≡ length charter.rows → n ≡ length charter.rows → ((d : ℕ) → IsDevice n d → journal d ≡ alone_in charter d) → map (λ d. end_in (journal d)) (range_with_len 1 n) ≡ finals_of charter.rows charter.lines
finals_are charter n journal each same whole =
    ap (λ m. map (λ d. end_in (journal d)) (range_with_len 1 m)) same
    ∙ ends_from (λ (d : ℕ). end_in (journal d)) charter.rows charter.lines 1 each
    (λ i row messages gr gm.
    let place : 1 + i - 1 ≡ i = omega arith in
    let alone : alone_in charter (1 + i) ≡ alone_of row messages = rw (place, gr, gm) refl in
    let low = slice_get_within charter.rows i row gr in
    ap end_in (whole (1 + i) (omega arith, omega (arith, low, same)) ∙ alone) ∙ end_alone row messages)

-- with the end of one device more
pub end_more : (journal : ℕ → List Entry) (index : ℕ) (here : List Entry) (end : DeviceEnd) (old new : List DeviceEnd) → here ≡ journal (index + 1) → end ≡ end_in here → old ≡ map (λ d. end_in (journal d)) (range_with_len 1 index) → new ≡ old ++ end ∷ []
    → new ≡ map (λ d. end_in (journal d)) (range_with_len 1 (index + 1))
end_more journal index here end old new of is are more =
    more
    ∙ (ap (λ (es : List DeviceEnd). es ++ end ∷ []) are
    ∙ (ap (λ (e : DeviceEnd). map (λ d. end_in (journal d)) (range_with_len 1 index) ++ e ∷ []) (is ∙ ap end_in of)
    ∙ sym (map-range_with_len_more (λ d. end_in (journal d)) 1 index (index + 1) (omega arith))))
