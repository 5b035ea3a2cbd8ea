-- The accepted calls behind a turn more of the peers.
use Rattle.std.proofs.Common.{◌≡◌, ℕ, ◌+◌, ◌-◌, ◌==◌, Bool, true, false, cond, ⊎_elim, List, [], ◌∷◌, ◌++◌, length, map, take, Some, refl, sym, ap, ◌∙◌, subst, arith, length-append, eq-eqb, eqb-true, ne_eqb}
use Rattle.std.specs.Prelude.{slice_get}
use Rattle.std.proofs.lemmas.Bool.{cases_eq}
use Rattle.std.proofs.lemmas.List.{map-append, take_more}
use Rattle.std.proofs.lemmas.Option.{slice_get_within, get_or_from_slice_get}
use Rattle.device_types.specs.declared.effect.Effect.{Effect}
use Rattle.device_types.specs.declared.effect.Effect.TheVariants as effects
use Rattle.device_types.specs.declared.event.Lane.{Lane}
use Rattle.device_types.specs.declared.event.Lane.TheVariants as lane
use Rattle.device_types.specs.declared.input.Answer.{Answer}
use Rattle.device_types.specs.declared.input.Offer.TheVariants as offer
use Rattle.device_types.specs.Journal.{is_on, effects_of}
use Rattle.device_types.specs.Numbers.{IsWithin}
use Rattle.peer_calls.specs.declared.arrival.Arrival.{Arrival}
use Rattle.peer_calls.specs.declared.arrival.Arrival.TheVariants.{Next, Repeat, Ahead}
use Rattle.peer_calls.specs.Calls.{calls_of, with_call, arrival_of, offer_at, offer_of, calls_at, after_offer}
use Rattle.peer_calls.proofs.Lists.{more_same, more_other, offer_devices}
use Rattle.session_store.specs.Charter.{CharterState, alone_in}
use Rattle.session_store.specs.Rows.{IsDevice}
use Rattle.shard_parts.proofs.Wraps.{arrival_at}
use Rattle.store_shared.specs.declared.turn.Turn.{Turn}
use Rattle.store_shared.specs.declared.turn.TurnCall.TheVariants as calls
use Rattle.store_shared.specs.declared.turn.TurnAnswer.{TurnAnswer}
use Rattle.store_shared.specs.declared.turn.TurnAnswer.TheVariants as answers
use Rattle.shard_parts.specs.BothPeers.{lane_of}
use Rattle.store_shared.specs.Legal.{accepted_after, accepted_from, accepted_in, ArePeers, IsAcceptedOf, AreAcceptedIn}

pub accepted_from-append : (accepted : List Effect) (d : ℕ) (l : Lane) (h more : List Turn) → accepted_from accepted d l (h ++ more) ≡ accepted_from (accepted_from accepted d l h) d l more
accepted_from-append accepted d l [] more = refl
accepted_from-append accepted d l (t ∷ ts) more = accepted_from-append (cond (t.device.0 == d) (accepted_after accepted l t.call t.answer) accepted) d l ts more

either : (b : Bool) (acc after : List Effect) → after ≡ acc → cond b after acc ≡ acc
either true acc after e = e
either false acc after e = refl

-- a call of another lane is not counted
pub accepted_else : (acc : List Effect) (l : Lane) (k : ℕ) (call : Effect) (answer : TurnAnswer) → is_on l call ≡ false → accepted_after acc l (calls.Offer k call) answer ≡ acc
accepted_else acc l k call (answers.Offer (offer.Accepted answer)) off = rw off refl
accepted_else acc l k call (answers.Offer (offer.Repeat answer)) off = refl
accepted_else acc l k call (answers.Offer (offer.Ahead last)) off = refl
accepted_else acc l k call (answers.Read seen) off = refl
accepted_else acc l k call (answers.Peek seen) off = refl
accepted_else acc l k call (answers.Commit commit) off = refl
accepted_else acc l k call (answers.Push effect) off = refl
accepted_else acc l k call (answers.Settle settled) off = refl

pub accepted_next : (d : ℕ) (l : Lane) (h : List Turn) (x : Turn) → accepted_in d l (h ++ x ∷ []) ≡ cond (x.device.0 == d) (accepted_after (accepted_in d l h) l x.call x.answer) (accepted_in d l h)
accepted_next d l h x = accepted_from-append [] d l h (x ∷ [])

next_here : (b : Bool) (acc after : List Effect) → b ≡ true → cond b after acc ≡ after
next_here true acc after e = refl
next_here false acc after e = absurd (cc)

next_else : (b : Bool) (acc after : List Effect) → b ≡ false → cond b after acc ≡ acc
next_else true acc after e = absurd (cc)
next_else false acc after e = refl

-- ---- one peer, whose calls are effects

module _ {C : Type 0} (wrap : C → Effect) where
  -- the lists behind an offer, by its arrival
  peers_at : (answer : List Effect → Answer) (a : Arrival) (lists : List (List C)) (l : Lane) (devices : ℕ) (h : List Turn) (x : Turn) (k : ℕ) (c : C) → ArePeers wrap lists l devices h → IsDevice devices x.device.0 → x.call ≡ calls.Offer k (wrap c) → x.answer ≡ answers.Offer (offer_at answer (accepted_in x.device.0 l h) k (wrap c) a) → is_on l (wrap c) ≡ true → (d : ℕ) → IsDevice devices d → map wrap (calls_of (calls_at lists x.device.0 c a) d) ≡ accepted_in d l (h ++ x ∷ [])
  peers_at answer Next lists l devices h x k c are is call said on d within =
      let n = x.device.0 in
      let here : IsWithin (length lists) n = subst (λ (m : ℕ). IsWithin m n) (sym are.count) is in
      ⊎_elim
      (λ (e : n ≡ d).
      let calls_now : calls_of (with_call lists n c) d ≡ calls_of lists d ++ c ∷ [] = subst (λ (m : ℕ). calls_of (with_call lists n c) m ≡ calls_of lists m ++ c ∷ []) e (more_same lists n c here) in
      let after : accepted_after (accepted_in d l h) l x.call x.answer ≡ accepted_in d l h ++ wrap c ∷ [] = rw (call, said, on) refl in
      ap (map wrap) calls_now ∙ map-append wrap (calls_of lists d) (c ∷ []) ∙ ap (λ acc. acc ++ wrap c ∷ []) (are.each d within)
      ∙ sym (accepted_next d l h x ∙ next_here (n == d) (accepted_in d l h) (accepted_after (accepted_in d l h) l x.call x.answer) (eq-eqb n d e) ∙ after))
      (λ (ne : n ≡ d → ⊥).
      ap (map wrap) (more_other lists n d c is.0 within.0 (λ e. ne (sym e))) ∙ are.each d within
      ∙ sym (accepted_next d l h x ∙ next_else (n == d) (accepted_in d l h) (accepted_after (accepted_in d l h) l x.call x.answer) (ne_eqb n d ne)))
      (cases_eq n d)
  peers_at answer Repeat lists l devices h x k c are is call said on d within =
      let after : accepted_after (accepted_in d l h) l x.call x.answer ≡ accepted_in d l h = rw (call, said) refl in
      are.each d within ∙ sym (accepted_next d l h x ∙ either (x.device.0 == d) (accepted_in d l h) (accepted_after (accepted_in d l h) l x.call x.answer) after)
  peers_at answer (Ahead last) lists l devices h x k c are is call said on d within =
      let after : accepted_after (accepted_in d l h) l x.call x.answer ≡ accepted_in d l h = rw (call, said) refl in
      are.each d within ∙ sym (accepted_next d l h x ∙ either (x.device.0 == d) (accepted_in d l h) (accepted_after (accepted_in d l h) l x.call x.answer) after)

  pub peers_more : (answer : List Effect → Answer) (lists : List (List C)) (l : Lane) (devices : ℕ) (h : List Turn) (x : Turn) (k : ℕ) (c : C) → ArePeers wrap lists l devices h → IsDevice devices x.device.0 → x.call ≡ calls.Offer k (wrap c) → x.answer ≡ answers.Offer (offer_of answer (accepted_in x.device.0 l h) k (wrap c)) → is_on l (wrap c) ≡ true → ArePeers wrap (after_offer lists x.device.0 k c) l devices (h ++ x ∷ [])
  peers_more answer lists l devices h x k c are is call said on =
      let n = x.device.0 in
      let a = arrival_of (length (calls_of lists n)) k in
      let same : arrival_of (length (accepted_in n l h)) k ≡ a = ap (λ acc. arrival_of (length acc) k) (sym (are.each n is)) ∙ arrival_at wrap (calls_of lists n) k in
      record {
        count = offer_devices lists n k c ∙ are.count;
        each = peers_at answer a lists l devices h x k c are is call (said ∙ ap (λ b. answers.Offer (offer_at answer (accepted_in n l h) k (wrap c) b)) same) on;
      }

  -- a call of the other lane
  pub peers_same : (lists : List (List C)) (l : Lane) (devices : ℕ) (h : List Turn) (x : Turn) (k : ℕ) (call : Effect) → ArePeers wrap lists l devices h → x.call ≡ calls.Offer k call → is_on l call ≡ false → ArePeers wrap lists l devices (h ++ x ∷ [])
  peers_same lists l devices h x k call are is off = record {
    count = are.count;
    each = λ d within.
        let after : accepted_after (accepted_in d l h) l x.call x.answer ≡ accepted_in d l h = rw is (accepted_else (accepted_in d l h) l k call x.answer off) in
        are.each d within ∙ sym (accepted_next d l h x ∙ either (x.device.0 == d) (accepted_in d l h) (accepted_after (accepted_in d l h) l x.call x.answer) after);
  }

-- ---- lawful

pub on_lane : (l : Lane) (call : Effect) → is_on l call ≡ true → l ≡ lane_of call
on_lane lane.Down (effects.Down down) e = refl
on_lane lane.Down (effects.Gateway call) e = absurd (cc)
on_lane lane.Down (effects.Subscriber call) e = absurd (cc)
on_lane lane.Gateway (effects.Down down) e = absurd (cc)
on_lane lane.Gateway (effects.Gateway call) e = refl
on_lane lane.Gateway (effects.Subscriber call) e = absurd (cc)
on_lane lane.Subscriber (effects.Down down) e = absurd (cc)
on_lane lane.Subscriber (effects.Gateway call) e = absurd (cc)
on_lane lane.Subscriber (effects.Subscriber call) e = refl

-- a next call that is the next effect of a lane
next_is : (last k : ℕ) → arrival_of last k ≡ Next → k ≡ last + 1
next_is last k e = grind (arith, e)

next_lawful : (made acc : List Effect) (k : ℕ) (call : Effect) → take (length acc) made ≡ acc → slice_get made (k - 1) ≡ Some call → k ≡ length acc + 1 → take (length (acc ++ call ∷ [])) made ≡ acc ++ call ∷ []
next_lawful made acc k call law found next =
    let place : k - 1 ≡ length acc = omega (arith, next) in
    let there : slice_get made (length acc) ≡ Some call = ap (slice_get made) (sym place) ∙ found in
    let count : length (acc ++ call ∷ []) ≡ length acc + 1 = length-append acc (call ∷ []) in
    ap (λ n. take n made) count ∙ take_more made (length acc) call (slice_get_within made (length acc) call there)
    ∙ ap (λ c. take (length acc) made ++ c ∷ []) (get_or_from_slice_get made (length acc) call call there)
    ∙ ap (λ a. a ++ call ∷ []) law

accepted_at : (answer : List Effect → Answer) (made acc : List Effect) (l : Lane) (k : ℕ) (call : Effect) (a : Arrival) → arrival_of (length acc) k ≡ a → is_on l call ≡ true → take (length acc) made ≡ acc → slice_get made (k - 1) ≡ Some call → take (length (accepted_after acc l (calls.Offer k call) (answers.Offer (offer_at answer acc k call a)))) made ≡ accepted_after acc l (calls.Offer k call) (answers.Offer (offer_at answer acc k call a))
accepted_at answer made acc l k call Next next on law found = rw on (next_lawful made acc k call law found (next_is (length acc) k next))
accepted_at answer made acc l k call Repeat next on law found = law
accepted_at answer made acc l k call (Ahead last) next on law found = law

after_lawful : (charter : CharterState) (answer : List Effect → Answer) (b : Bool) (n d : ℕ) (l : Lane) (acc : List Effect) (k : ℕ) (call : Effect) → (n == d) ≡ b → IsAcceptedOf charter d l acc → slice_get (effects_of (lane_of call) (alone_in charter n)) (k - 1) ≡ Some call → IsAcceptedOf charter d l (cond b (accepted_after acc l (calls.Offer k call) (answers.Offer (offer_of answer acc k call))) acc)
after_lawful charter answer true n d l acc k call e law found = by_lane (is_on l call) refl
  where
    by_lane : (o : Bool) → is_on l call ≡ o → IsAcceptedOf charter d l (accepted_after acc l (calls.Offer k call) (answers.Offer (offer_of answer acc k call)))
    by_lane true on =
        let same : n ≡ d = eqb-true n d e in
        let there : slice_get (effects_of l (alone_in charter d)) (k - 1) ≡ Some call = ap (λ (p : Lane). slice_get (effects_of p (alone_in charter d)) (k - 1)) (on_lane l call on) ∙ ap (λ (m : ℕ). slice_get (effects_of (lane_of call) (alone_in charter m)) (k - 1)) (sym same) ∙ found in
        accepted_at answer (effects_of l (alone_in charter d)) acc l k call (arrival_of (length acc) k) refl on law there
    by_lane false off = subst (λ (a : List Effect). IsAcceptedOf charter d l a) (sym (accepted_else acc l k call (answers.Offer (offer_of answer acc k call)) off)) law
after_lawful charter answer false n d l acc k call e law found = law

-- what was accepted stays the beginning of its lane of Alone
pub accepted_more : (charter : CharterState) (answer : List Effect → Answer) (h : List Turn) (x : Turn) (k : ℕ) (call : Effect) → AreAcceptedIn charter h → x.call ≡ calls.Offer k call → ((l : Lane) → is_on l call ≡ true → x.answer ≡ answers.Offer (offer_of answer (accepted_in x.device.0 l h) k call)) → slice_get (effects_of (lane_of call) (alone_in charter x.device.0)) (k - 1) ≡ Some call → AreAcceptedIn charter (h ++ x ∷ [])
accepted_more charter answer h x k call law is said found d l within = by_place (x.device.0 == d) refl (is_on l call) refl
  where
    acc : List Effect
    acc = accepted_in d l h

    by_place : (b : Bool) → (x.device.0 == d) ≡ b → (o : Bool) → is_on l call ≡ o → IsAcceptedOf charter d l (accepted_in d l (h ++ x ∷ []))
    by_place true e true on =
        let same : x.device.0 ≡ d = eqb-true x.device.0 d e in
        let told : x.answer ≡ answers.Offer (offer_of answer acc k call) = said l on ∙ ap (λ (m : ℕ). answers.Offer (offer_of answer (accepted_in m l h) k call)) same in
        let now : accepted_in d l (h ++ x ∷ []) ≡ cond true (accepted_after acc l (calls.Offer k call) (answers.Offer (offer_of answer acc k call))) acc = accepted_next d l h x ∙ rw (e, is, told) refl in
        subst (λ (a : List Effect). IsAcceptedOf charter d l a) (sym now) (after_lawful charter answer true x.device.0 d l acc k call e (law d l within) found)
    by_place true e false off =
        let now : accepted_in d l (h ++ x ∷ []) ≡ acc = accepted_next d l h x ∙ rw (e, is) (accepted_else acc l k call x.answer off) in
        subst (λ (a : List Effect). IsAcceptedOf charter d l a) (sym now) (law d l within)
    by_place false e o on =
        let now : accepted_in d l (h ++ x ∷ []) ≡ acc = accepted_next d l h x ∙ rw e refl in
        subst (λ (a : List Effect). IsAcceptedOf charter d l a) (sym now) (law d l within)
