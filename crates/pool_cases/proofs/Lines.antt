-- A line of a book, and one message more.
use Rattle.std.proofs.Common.{◌≡◌, ℕ, ◌+◌, List, [], ◌∷◌, ◌++◌, length, map, refl, sym, ap, ◌∙◌, subst, map-id, arith}
use Rattle.std.specs.List.{range_with_len}
use Rattle.std.proofs.lemmas.List.{length-append, map-append}
use Rattle.std.proofs.lemmas.List.Elements.{All-nil, All-push}
use Rattle.std.proofs.lemmas.List.FromFn.{map-range_with_len_more}
use Rattle.device_types.specs.declared.message.Message.{Message}
use Rattle.device_types.specs.Line.{number_of, IsLine}
use Rattle.device_types.specs.Message.{IsMessage}

pub no_line : IsLine []
no_line = record { numbers = refl; ranges = All-nil IsMessage }

counting_more : (n : ℕ) → range_with_len 1 (n + 1) ≡ range_with_len 1 n ++ (n + 1) ∷ []
counting_more n =
    sym (map-id (range_with_len 1 (n + 1)))
    ∙ map-range_with_len_more (λ (k : ℕ). k) 1 n (n + 1) (omega arith)
    ∙ ap (λ (l : List ℕ). l ++ (n + 1) ∷ []) (map-id (range_with_len 1 n))

line_more : (messages : List Message) (m : Message) → IsLine messages → IsMessage m → m.number ≡ length messages + 1 → IsLine (messages ++ m ∷ [])
line_more messages m line right number =
    let n = length messages in
    let numbers : map number_of messages ++ m.number ∷ [] ≡ range_with_len 1 (n + 1) =
    ap (λ (l : List ℕ). l ++ m.number ∷ []) line.numbers ∙ ap (λ (k : ℕ). range_with_len 1 n ++ k ∷ []) number ∙ sym (counting_more n) in
    record {
      numbers = simp (map-append, length-append) numbers;
      ranges = All-push IsMessage messages m line.ranges right;
    }

pub counted_more : (messages more : List Message) (m : Message) (n : ℕ) → more ≡ messages ++ m ∷ [] → length messages ≡ n → IsLine messages → IsMessage m → m.number ≡ n + 1 → (length more ≡ n + 1) × IsLine more
counted_more messages more m n is count line right number =
    subst (λ (ms : List Message). (length ms ≡ n + 1) × IsLine ms) (sym is)
    (length-append messages (m ∷ []) ∙ ap (λ (k : ℕ). k + 1) count, line_more messages m line right (number ∙ ap (λ (k : ℕ). k + 1) (sym count)))
