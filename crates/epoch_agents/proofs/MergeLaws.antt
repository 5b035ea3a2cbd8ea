-- What is promised of a merge holds of that of every list of turns.
use Rattle.std.proofs.Common.{◌≡◌, ◌==◌, ⊎_elim, ℕ, zero, suc, ◌+◌, ◌-◌, ◌≤◌, ◌<◌, Bool, true, false, cond, eqb-true, eq-eqb, List, [], ◌∷◌, ◌++◌, length, length-append, map, take, get_or, Some, refl, sym, ap, ◌∙◌, arith}
use Rattle.std.specs.Prelude.{filter, count_by}
use Rattle.std.specs.List.{AllPairs, filter_map, range_with_len}
use Rattle.std.proofs.Math.Seq.{take-suc}
use Rattle.std.proofs.lemmas.Bool.{and_from, cases_eq, lt-ltb}
use Rattle.std.proofs.lemmas.List.{map-append, length-map, append-nil}
use Rattle.std.proofs.lemmas.List.Elements.{filter-append, filter_map-append}
use Rattle.std.proofs.lemmas.List.Quantifiers.{all_pairs_push}
use Rattle.std.proofs.lemmas.List.Sums.{length-filter, sum_by-append}
use Rattle.std.proofs.lemmas.Option.{slice_get-get_or}
use Rattle.device_types.specs.declared.message.Message.{Message}
use Rattle.agent_order.specs.Order.{message_at}
use Rattle.epoch_agents.specs.declared.event.EpochEvent.TheVariants.{Send, Arrive, Learn}
use Rattle.epoch_agents.specs.declared.stream.Merged.{Merged}
use Rattle.epoch_agents.specs.declared.stream.Stream.{Stream}
use Rattle.epoch_agents.specs.Answer.{Lawful}
use Rattle.epoch_agents.specs.Counts.{Turn, is_committed, agent, merge}
use Rattle.epoch_agents.specs.Merge.{falls, committed_of, IsMerge}
use Rattle.epoch_agents.specs.Row.{is_of, is_named, count_named, count_of, numbers_of, current}
use Rattle.epoch_agents.specs.Streams.{messages_of, name_of}
use Rattle.epoch_agents.proofs.RowLaws.{not_below_itself, rises, not_below}
use Rattle.epoch_agents.proofs.TurnLaws.{Laws, IsCommit, commit_is, commit_stamp, next_of_stream}
use Rattle.epoch_agents.proofs.HistoryLaws.{laws}

-- ---- names

last_at : (merged : List Merged) (i : ℕ) (d : Merged) → i < length merged → current merged ≡ Some (get_or merged (length merged - 1) d)
last_at merged i d low = slice_get-get_or merged (length merged - 1) d (omega arith)

-- no entry falls to the last one
last_rises : (streams : List Stream) (merged : List Merged) (i : ℕ) (d : Merged) → AllPairs (λ x y. falls streams x y ≡ false) merged → i < length merged → falls streams (get_or merged i d) (get_or merged (length merged - 1) d) ≡ false
last_rises streams merged i d rising low = ⊎_elim
    (λ (is : i ≡ length merged - 1). let x = get_or merged (length merged - 1) d in rw is (not_below_itself (name_of streams x.a x.stamp)))
    (λ (ne : i ≡ length merged - 1 → ⊥). rising i (length merged - 1) d (omega arith) (omega arith))
    (cases_eq i (length merged - 1))

rising_push : (streams : List Stream) (turns : List Turn) (entry : Merged) → IsCommit streams turns entry.a entry.stamp entry.n → AllPairs (λ x y. falls streams x y ≡ false) (merge turns) → AllPairs (λ x y. falls streams x y ≡ false) (merge turns ++ entry ∷ [])
rising_push streams turns entry c rising = all_pairs_push (λ x y. falls streams x y ≡ false) (merge turns) entry rising
    (λ i d low.
    let merged = merge turns in
    let x = get_or merged i d in
    let last = get_or merged (length merged - 1) d in
    rises (name_of streams x.a x.stamp) (name_of streams last.a last.stamp) (name_of streams entry.a entry.stamp)
    (last_rises streams merged i d rising low)
    (not_below streams merged last entry (last_at merged i d low) c.row))

count-cons : (p : Merged → Bool) (x : Merged) (merged : List Merged) → count_by p (x ∷ merged) ≡ cond (p x) 1 0 + count_by p merged
count-cons p x merged = let e = sum_by-append (λ y. cond (p y) 1 0) (x ∷ []) merged in omega (arith, e)

one_of : (b : Bool) (n m : ℕ) → b ≡ true → n ≡ cond b 1 0 + m → 0 < n
one_of true n m h e = omega arith
one_of false n m h e = absurd (cc)

-- what passes at a place is counted
counted : (p : Merged → Bool) (merged : List Merged) (i : ℕ) (d : Merged) → i < length merged → p (get_or merged i d) ≡ true → 0 < count_by p merged
counted p [] i d low h = absurd (omega arith)
counted p (x ∷ merged) zero d low h = one_of (p x) (count_by p (x ∷ merged)) (count_by p merged) h (count-cons p x merged)
counted p (x ∷ merged) (suc i) d low h =
    let e = count-cons p x merged in
    let more = counted p merged i d (omega arith) h in
    omega (arith, e, more)

-- an entry has the present name of its stream
some_named : (b : Bool) (c : ℕ) → 0 < cond b c 0 → b ≡ true
some_named true c h = refl
some_named false c h = absurd (omega arith)

present : (streams : List Stream) (turns : List Turn) (i : ℕ) (d : Merged) → Laws streams turns → i < length (merge turns) → (get_or (merge turns) i d).stamp ≡ (agent (get_or (merge turns) i d).a turns).stamp
present streams turns i d k low =
    let x = get_or (merge turns) i d in
    let own = and_from (x.a == x.a) (x.stamp == x.stamp) (eq-eqb x.a x.a refl) (eq-eqb x.stamp x.stamp refl) in
    let some : 0 < count_named x.a x.stamp (merge turns) = counted (is_named x.a x.stamp) (merge turns) i d low own in
    eqb-true x.stamp (agent x.a turns).stamp (some_named (x.stamp == (agent x.a turns).stamp) (count_of x.a (merge turns)) (rw (k.counts x.a x.stamp) at some))

named_push : (streams : List Stream) (turns : List Turn) (entry : Merged) → Laws streams turns → IsCommit streams turns entry.a entry.stamp entry.n → AllPairs (λ x y. x.a ≡ y.a → x.stamp ≡ y.stamp) (merge turns) → AllPairs (λ x y. x.a ≡ y.a → x.stamp ≡ y.stamp) (merge turns ++ entry ∷ [])
named_push streams turns entry k c named = all_pairs_push (λ x y. x.a ≡ y.a → x.stamp ≡ y.stamp) (merge turns) entry named
    (λ i d low same.
    present streams turns i d k low
    ∙ ap (λ a. (agent a turns).stamp) same
    ∙ sym (commit_stamp streams turns entry.a entry.stamp entry.n k c))

-- ---- numbers

pub range-more : (n a : ℕ) → range_with_len a (suc n) ≡ range_with_len a n ++ (a + n) ∷ []
range-more zero a = let e : a ≡ a + 0 = omega arith in ap (λ x. x ∷ []) e
range-more (suc n) a = let e : a + 1 + n ≡ a + suc n = omega arith in ap (λ l. a ∷ l) (range-more n (a + 1) ∙ ap (λ x. range_with_len (a + 1) n ++ x ∷ []) e)

-- how many of its messages are committed
pub count_is : (a : ℕ) (merged : List Merged) → length (numbers_of a merged) ≡ count_of a merged
count_is a merged = length-map (filter (is_of a) merged) (λ (x : Merged). x.n) ∙ length-filter (is_of a) merged

numbers_push : (a : ℕ) (merged : List Merged) (entry : Merged) → numbers_of a (merged ++ entry ∷ []) ≡ numbers_of a merged ++ map (λ (x : Merged). x.n) (filter (is_of a) (entry ∷ []))
numbers_push a merged entry = ap (map (λ (x : Merged). x.n)) (filter-append (is_of a) merged (entry ∷ [])) ∙ map-append (λ (x : Merged). x.n) (filter (is_of a) merged) (filter (is_of a) (entry ∷ []))

numbers_own : (a : ℕ) (merged : List Merged) (entry : Merged) → (a == entry.a) ≡ true → numbers_of a (merged ++ entry ∷ []) ≡ numbers_of a merged ++ entry.n ∷ []
numbers_own a merged entry h = numbers_push a merged entry ∙ rw h refl

numbers_other : (a : ℕ) (merged : List Merged) (entry : Merged) → (a == entry.a) ≡ false → numbers_of a (merged ++ entry ∷ []) ≡ numbers_of a merged
numbers_other a merged entry h = numbers_push a merged entry ∙ rw h (append-nil (numbers_of a merged))

next_number : (streams : List Stream) (turns : List Turn) (entry : Merged) → Laws streams turns → IsCommit streams turns entry.a entry.stamp entry.n → entry.n ≡ length (numbers_of entry.a (merge turns)) + 1
next_number streams turns entry k c = next_of_stream streams turns entry.a entry.stamp entry.n k c ∙ ap (λ t. t + 1) (sym (count_is entry.a (merge turns)))

numbered_push : (streams : List Stream) (turns : List Turn) (entry : Merged) (a : ℕ) → Laws streams turns → IsCommit streams turns entry.a entry.stamp entry.n → numbers_of a (merge turns) ≡ range_with_len 1 (length (numbers_of a (merge turns))) → numbers_of a (merge turns ++ entry ∷ []) ≡ range_with_len 1 (length (numbers_of a (merge turns ++ entry ∷ [])))
numbered_push streams turns entry a k c before = at (a == entry.a) refl
  where
    at : (b : Bool) → (a == entry.a) ≡ b → numbers_of a (merge turns ++ entry ∷ []) ≡ range_with_len 1 (length (numbers_of a (merge turns ++ entry ∷ [])))
    at false h = rw (numbers_other a (merge turns) entry h) before
    at true h =
        let N = numbers_of a (merge turns) in
        let same = eqb-true a entry.a h in
        let next : entry.n ≡ 1 + length N = next_number streams turns entry k c ∙ ap (λ b. length (numbers_of b (merge turns)) + 1) (sym same) ∙ (let e : length N + 1 ≡ 1 + length N = omega arith in e) in
        let long : length (N ++ entry.n ∷ []) ≡ suc (length N) = length-append N (entry.n ∷ []) ∙ (let e : length N + 1 ≡ suc (length N) = omega arith in e) in
        rw (numbers_own a (merge turns) entry h)
        (ap (λ l. l ++ entry.n ∷ []) before ∙ ap (λ x. range_with_len 1 (length N) ++ x ∷ []) next ∙ sym (range-more (length N) 1) ∙ ap (range_with_len 1) (sym long))

-- ---- messages

message_there : (messages : List Message) (t : ℕ) (d : Message) → t < length messages → message_at messages (t + 1) ≡ Some (get_or messages t d)
message_there messages t d low =
    let at : t + 1 - 1 ≡ t = omega arith in
    let some = lt-ltb 0 (t + 1) (omega arith) in
    rw (some, at) (slice_get-get_or messages t d low)

begun_push : (messages : List Message) (numbers : List ℕ) (n : ℕ) → n ≡ length numbers + 1 → n ≤ length messages → filter_map (message_at messages) numbers ≡ take (length numbers) messages → filter_map (message_at messages) (numbers ++ n ∷ []) ≡ take (length (numbers ++ n ∷ [])) messages
begun_push messages numbers n is high before = at messages is high before
  where
    at : (messages : List Message) → n ≡ length numbers + 1 → n ≤ length messages → filter_map (message_at messages) numbers ≡ take (length numbers) messages → filter_map (message_at messages) (numbers ++ n ∷ []) ≡ take (length (numbers ++ n ∷ [])) messages
    at [] is high before = absurd (omega arith)
    at (d ∷ rest) is high before =
        let messages = d ∷ rest in
        let t = length numbers in
        let there : message_at messages n ≡ Some (get_or messages t d) = ap (message_at messages) is ∙ message_there messages t d (omega arith) in
        let long : length (numbers ++ n ∷ []) ≡ suc t = length-append numbers (n ∷ []) ∙ (let e : t + 1 ≡ suc t = omega arith in e) in
        let one : filter_map (message_at messages) (n ∷ []) ≡ get_or messages t d ∷ [] = rw there refl in
        filter_map-append (message_at messages) numbers (n ∷ [])
        ∙ ap (λ l. l ++ filter_map (message_at messages) (n ∷ [])) before
        ∙ ap (λ l. take t messages ++ l) one
        ∙ sym (take-suc messages t d (omega arith))
        ∙ ap (λ k. take k messages) (sym long)

committed_push : (streams : List Stream) (turns : List Turn) (entry : Merged) (a : ℕ) → Laws streams turns → IsCommit streams turns entry.a entry.stamp entry.n → committed_of streams (merge turns) a ≡ take (length (numbers_of a (merge turns))) (messages_of streams a) → committed_of streams (merge turns ++ entry ∷ []) a ≡ take (length (numbers_of a (merge turns ++ entry ∷ []))) (messages_of streams a)
committed_push streams turns entry a k c before = at (a == entry.a) refl
  where
    at : (b : Bool) → (a == entry.a) ≡ b → committed_of streams (merge turns ++ entry ∷ []) a ≡ take (length (numbers_of a (merge turns ++ entry ∷ []))) (messages_of streams a)
    at false h = rw (numbers_other a (merge turns) entry h) before
    at true h =
        let same = eqb-true a entry.a h in
        let next : entry.n ≡ length (numbers_of a (merge turns)) + 1 = rw same (next_number streams turns entry k c) in
        let high : entry.n ≤ length (messages_of streams a) = rw same (k.packets entry.a entry.stamp entry.n c.packet).high in
        rw (numbers_own a (merge turns) entry h) (begun_push (messages_of streams a) (numbers_of a (merge turns)) entry.n next high before)

-- ---- every list

merge_push : (streams : List Stream) (turns : List Turn) (entry : Merged) → Laws streams turns → IsCommit streams turns entry.a entry.stamp entry.n → IsMerge streams (merge turns) → IsMerge streams (merge turns ++ entry ∷ [])
merge_push streams turns entry k c m = record {
  rising = rising_push streams turns entry c m.rising;
  named = named_push streams turns entry k c m.named;
  numbered = λ a. numbered_push streams turns entry a k c (m.numbered a);
  begun = λ a. committed_push streams turns entry a k c (m.begun a);
}

pub merge_is : (streams : List Stream) (turns : List Turn) → Lawful streams turns → IsMerge streams (merge turns)
merge_is streams [] L = record {
  rising = λ i j d lt high. absurd (omega arith);
  named = λ i j d lt high. absurd (omega arith);
  numbered = λ a. refl;
  begun = λ a. refl;
}
merge_is streams ((Arrive b r m, x) ∷ turns) L = at (merge_is streams turns L.2) (is_committed x) refl
  where
    at : IsMerge streams (merge turns) → (c : Bool) → is_committed x ≡ c → IsMerge streams (cond c (merge turns ++ record { a = b; stamp = r; n = m } ∷ []) (merge turns))
    at before false h = before
    at before true h = merge_push streams turns (record { a = b; stamp = r; n = m }) (laws streams turns L.2) (commit_is streams turns b r m x L.1 h) before
merge_is streams ((Send b m, x) ∷ turns) L = merge_is streams turns L.2
merge_is streams ((Learn i, x) ∷ turns) L = merge_is streams turns L.2
