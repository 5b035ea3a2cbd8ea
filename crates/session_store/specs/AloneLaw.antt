-- What the law of the machine alone has to show, as lemmas: its journals are beginnings of Alone, and a row takes the entry that
-- comes next.
use Rattle.std.proofs.Common.{◌≡◌, ℕ, suc, ◌-◌, List, [], ◌∷◌, length, take, Option, Some, None, refl, sym, ap, subst, arith}
use Rattle.std.specs.Prelude.{All, slice_get}
use Rattle.std.proofs.lemmas.List.Elements.{All-get_or}
use Rattle.std.proofs.lemmas.List.Sums.{length-filter}
use Rattle.std.proofs.lemmas.List.{length-take-le}
use Rattle.std.proofs.lemmas.Option.{slice_get_within, get_or_from_slice_get}
use Rattle.device_types.specs.declared.input.Input.{Input}
use Rattle.device_types.specs.declared.input.Input.TheVariants as inputs
use Rattle.device_types.specs.declared.look.Look.TheVariants.{Ready}
use Rattle.device_types.specs.declared.message.Message.{Message}
use Rattle.device_types.specs.declared.step.Entry.{Entry}
use Rattle.device_types.specs.declared.subscriber.Subscriber.{Subscriber}
use Rattle.device_types.specs.Alone.{alone_of, alone_to}
use Rattle.device_types.specs.Journal.{is_awaited, session_of}
use Rattle.device_types.specs.Line.{IsLine}
use Rattle.device_types.specs.Ready.{IsReady}
use Rattle.device_types.specs.StepTable.{step_of}
use Rattle.device_types.specs.Subscriber.{IsSubscriber}
use Rattle.device_types.proofs.Calls.{one_call}
use Rattle.device_types.proofs.Courses.{made_at, entry_ready, sound_session}
use Rattle.session_row.specs.Row.{look_at, AwaitsAtMostOne}
use Rattle.session_store.specs.Charter.{CharterState, IsCharter, IsShort, alone_with, alone_in, follows_alone}
use Rattle.session_store.specs.Law.{window, IsLawful, CanFollow}

-- a list whose items are those of another begins it
pub front : {X : Type 0} (all xs : List X) → ((i : ℕ) (x : X) → slice_get xs i ≡ Some x → slice_get all i ≡ Some x) → take (length xs) all ≡ xs
front all [] h = refl
front {X} [] (x ∷ xs) h = let e : None ≡ Some x = h 0 x refl in absurd (cc)
front {X} (y ∷ all) (x ∷ xs) h =
    let head : Some y ≡ Some x = h 0 x refl in
    let same : y ≡ x = cc in
    rw same (ap (λ ys. x ∷ ys) (front all xs (λ i z g. h (suc i) z g)))

-- what holds of each item holds of the one that is got
pub holds_of : {X : Type 0} (P : X → Type 0) (xs : List X) (i : ℕ) (x : X) → All P xs → slice_get xs i ≡ Some x → P x
holds_of P xs i x all g = subst P (get_or_from_slice_get xs i x x g) (All-get_or P xs i x (slice_get_within xs i x g) all)

-- a lawful journal is the beginning of Alone
pub lawful_is_alone : (charter : CharterState) (d : ℕ) (journal : List Entry) → IsLawful (follows_alone charter d) journal → take (length journal) (alone_in charter d) ≡ journal
lawful_is_alone charter d journal l = front (alone_in charter d) journal (λ v entry g.
    let within = slice_get_within journal v entry g in
    let place : length (take v journal) ≡ v = length-take-le v journal (omega arith) in
    subst (λ (n : ℕ). slice_get (alone_in charter d) n ≡ Some entry) place (l v entry g))

look_ready : (journal : List Entry) (input : Input) → IsReady window journal input → look_at window journal input ≡ Ready
look_ready journal (inputs.Message message) h = h
look_ready journal (inputs.Answer lane k answer) h = h

calls_few : (row : Subscriber) (messages : List Message) (v : ℕ) (entry : Entry) → slice_get (alone_of row messages) v ≡ Some entry → AwaitsAtMostOne entry.step.effects
calls_few row messages v entry g =
    let m = made_at row messages v entry g in
    let s = session_of (alone_to row messages v) in
    let count = length-filter is_awaited (step_of row s m.input).effects in
    subst (λ (e : Entry). AwaitsAtMostOne e.step.effects) (sym m.entry_is) (omega (arith, count, one_call row s m.input))

entry_can_follow : (row : Option Subscriber) (line : Option (List Message)) (journal : List Entry) (entry : Entry) → ((r : Subscriber) → row ≡ Some r → IsSubscriber r) → ((ms : List Message) → line ≡ Some ms → IsLine ms × IsShort ms) → take (length journal) (alone_with row line) ≡ journal → slice_get (alone_with row line) (length journal) ≡ Some entry → CanFollow journal entry
entry_can_follow None line journal entry rows lines same g = let e : None ≡ Some entry = g in absurd (cc)
entry_can_follow (Some row) None journal entry rows lines same g = let e : None ≡ Some entry = g in absurd (cc)
entry_can_follow (Some row) (Some ms) journal entry rows lines same g =
    let is = rows row refl in
    let line = lines ms refl in
    let v = length journal in record {
      ready = look_ready journal entry.input (subst (λ (J : List Entry). IsReady window J entry.input) same (entry_ready row ms line.0.numbers window v entry g));
      session = sound_session row ms is line.0.ranges line.1 v entry g;
      calls = calls_few row ms v entry g;
    }

-- the row of a lawful journal takes the entry that comes next in Alone
pub alone_can_follow : (charter : CharterState) (d : ℕ) (journal : List Entry) (entry : Entry) → IsCharter charter → IsLawful (follows_alone charter d) journal → follows_alone charter d journal entry → CanFollow journal entry
alone_can_follow charter d journal entry c l f =
    entry_can_follow (slice_get charter.rows (d - 1)) (slice_get charter.lines (d - 1)) journal entry
    (λ row g. holds_of IsSubscriber charter.rows (d - 1) row c.table.ranges g)
    (λ ms g. (holds_of IsLine charter.lines (d - 1) ms c.lines g, holds_of IsShort charter.lines (d - 1) ms c.short g))
    (lawful_is_alone charter d journal l) f
