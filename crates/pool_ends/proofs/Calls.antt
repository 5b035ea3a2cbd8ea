-- The calls of a lane, and what an offer leaves of how many were accepted.
use Rattle.std.proofs.Common.{◌≡◌, ◌≤◌, ◌+◌, ◌-◌, ℕ, zero, suc, ◌<◌, ◌++◌, true, ⊎_elim, List, [], ◌∷◌, Some, drop, get_or, length, refl, sym, ap, ◌∙◌, subst, arith, length-append}
use Rattle.std.specs.Prelude.{All, slice_get}
use Rattle.std.proofs.lemmas.Bool.{cases_eq}
use Rattle.std.proofs.lemmas.List.Elements.{All-append, All-get_or, filter_passes}
use Rattle.std.proofs.lemmas.List.{drop_more}
use Rattle.std.proofs.lemmas.Option.{get_or_from_slice_get, slice_get_within}
use Rattle.device_types.specs.declared.effect.Effect.{Effect}
use Rattle.device_types.specs.declared.effect.Effect.TheVariants as effects
use Rattle.device_types.specs.declared.event.Lane.{Lane}
use Rattle.device_types.specs.declared.event.Lane.TheVariants as lane
use Rattle.device_types.specs.declared.input.Offer.{Offer}
use Rattle.device_types.specs.declared.input.Offer.TheVariants.{Accepted, Repeat, Ahead}
use Rattle.device_types.specs.declared.step.Entry.{Entry}
use Rattle.device_types.specs.Event.{IsCallLane}
use Rattle.device_types.specs.Journal.{effects_of, effects_on, is_on}
use Rattle.device_types.proofs.Journals.{get_before}
use Rattle.pool_rows.specs.Seats.{IsCall, IsOffer}
use Rattle.pool_ends.specs.Lanes.{HasWhole, told_count}
use Rattle.session_store.specs.Charter.{CharterState, alone_in}
use Rattle.session_store.specs.Rows.{Begins, IsDevice}
use Rattle.shard_parts.specs.BothPeers.{is_call, lane_of}

all_on : (l : Lane) (journal : List Entry) → All (λ x. is_on l x ≡ true) (effects_of l journal)
all_on l [] = λ k d low. absurd (omega arith)
all_on l (entry ∷ journal) = All-append (λ x. is_on l x ≡ true) (effects_on l entry.step.effects) (effects_of l journal) (filter_passes (is_on l) entry.step.effects) (all_on l journal)

-- an effect of a lane is on it
on_lane : (l : Lane) (journal : List Entry) (i : ℕ) (x : Effect) → slice_get (effects_of l journal) i ≡ Some x → is_on l x ≡ true
on_lane l journal i x got =
    let is = All-get_or (λ x. is_on l x ≡ true) (effects_of l journal) i x (slice_get_within (effects_of l journal) i x got) (all_on l journal) in
    ap (is_on l) (sym (get_or_from_slice_get (effects_of l journal) i x x got)) ∙ is

called : (l : Lane) (x : Effect) → IsCallLane l → is_on l x ≡ true → (is_call x ≡ true) × (lane_of x ≡ l)
called lane.Down x is on = absurd is
called lane.Gateway (effects.Down down) is on = absurd (cc)
called lane.Gateway (effects.Gateway call) is on = (refl, refl)
called lane.Gateway (effects.Subscriber call) is on = absurd (cc)
called lane.Subscriber (effects.Down down) is on = absurd (cc)
called lane.Subscriber (effects.Gateway call) is on = absurd (cc)
called lane.Subscriber (effects.Subscriber call) is on = (refl, refl)

module _ (charter : CharterState) (d : ℕ) (l : Lane) (calls : List Effect) (is : calls ≡ effects_of l (alone_in charter d)) (lane_is : IsCallLane l) where
  found_on : (k : ℕ) (x : Effect) → slice_get calls (k - 1) ≡ Some x → (is_call x ≡ true) × (lane_of x ≡ l)
  found_on k x got = called l x lane_is (on_lane l (alone_in charter d) (k - 1) x (ap (λ xs. slice_get xs (k - 1)) (sym is) ∙ got))

  pub lane_is_of : (k : ℕ) (x : Effect) → slice_get calls (k - 1) ≡ Some x → lane_of x ≡ l
  lane_is_of k x got = (found_on k x got).1

  -- call k of the lane may be offered
  pub call_is : (k : ℕ) (x : Effect) → IsDevice (length charter.rows) d → 1 ≤ k → slice_get calls (k - 1) ≡ Some x → IsCall charter d k x
  call_is k x device least got =
      let on = found_on k x got in
      record {
        device = device;
        called = on.0;
        least = least;
        law = ap (λ (m : Lane). slice_get (effects_of m (alone_in charter d)) (k - 1)) on.1 ∙ (ap (λ xs. slice_get xs (k - 1)) (sym is) ∙ got);
      }

-- ---- an effect at its place on a lane of a journal

get_behind : {X : Type 0} (xs ys : List X) (i : ℕ) → length xs ≤ i → slice_get (xs ++ ys) i ≡ slice_get ys (i - length xs)
get_behind [] ys i le = ap (slice_get ys) (omega arith)
get_behind (x ∷ xs) ys zero le = absurd (omega arith)
get_behind (x ∷ xs) ys (suc i) le = get_behind xs ys i (omega arith) ∙ ap (slice_get ys) (omega arith)

module _ (l : Lane) (journal : List Entry) (i : ℕ) (entry : Entry) (low : i < length journal) (is : entry ≡ get_or journal i entry) (effects : List Effect) (of : effects ≡ entry.step.effects) (left : ℕ) where
  from_entry : effects_of l (drop i journal) ≡ effects_on l effects ++ effects_of l (drop (i + 1) journal)
  from_entry =
      ap (effects_of l) (drop_more journal i entry low ∙ ap (λ (e : Entry). e ∷ drop (i + 1) journal) (sym is))
      ∙ ap (λ (es : List Effect). effects_on l es ++ effects_of l (drop (i + 1) journal)) (sym of)

  -- it is among the effects of that entry, or behind them
  pub found_here : left < length (effects_on l effects) → slice_get (effects_on l effects) left ≡ slice_get (effects_of l (drop i journal)) left
  found_here few = sym (get_before (effects_on l effects) (effects_of l (drop (i + 1) journal)) left few) ∙ ap (λ (es : List Effect). slice_get es left) (sym from_entry)

  pub found_behind : (count : ℕ) → count ≡ length (effects_on l effects) → count ≤ left → slice_get (effects_of l (drop (i + 1) journal)) (left - count) ≡ slice_get (effects_of l (drop i journal)) left
  found_behind count all past =
      ap (λ n. slice_get (effects_of l (drop (i + 1) journal)) (left - n)) all
      ∙ (sym (get_behind (effects_on l effects) (effects_of l (drop (i + 1) journal)) left (omega (arith, all, past))) ∙ ap (λ (es : List Effect). slice_get es left) (sym from_entry))

-- ---- what an offer leaves of how many were accepted

-- behind an offer of a call of which all before it were accepted, it is
pub counts : (charter : CharterState) (d k : ℕ) (call : Effect) (old new : List Effect) (o : Offer) → IsOffer charter d k call new o → Begins old new → k ≤ length old + 1 → k ≤ length new
counts charter d k call old new (Accepted answer) is more low = is.0
counts charter d k call old new (Repeat answer) is more low = is.0
counts charter d k call old new (Ahead last) is more low =
    let same = is.0 in
    let ahead = is.1 in
    let longer = ap length more.1 ∙ length-append old more.0 in
    absurd (omega arith)

-- so many were accepted as was told
pub told : (charter : CharterState) (d k : ℕ) (call : Effect) (accepted : List Effect) (o : Offer) → IsOffer charter d k call accepted o → told_count k o ≤ length accepted
told charter d k call accepted (Accepted answer) is = is.0
told charter d k call accepted (Repeat answer) is = is.0
told charter d k call accepted (Ahead last) is = let same = is.0 in omega arith

pub whole_more : (charter : CharterState) (d : ℕ) (l : Lane) (old new : List Effect) → Begins old new → HasWhole charter d l old → HasWhole charter d l new
whole_more charter d l old new more whole = let longer = ap length more.1 ∙ length-append old more.0 in let least = whole in omega arith

-- of both lanes of calls
pub both : (P : Lane → Type 0) → P lane.Gateway → P lane.Subscriber → (l : Lane) → IsCallLane l → P l
both P g s lane.Down is = absurd is
both P g s lane.Gateway is = g
both P g s lane.Subscriber is = s

-- one device more
pub one_more : (P : ℕ → Type 0) (index : ℕ) → ((d : ℕ) → IsDevice index d → P d) → P (index + 1) → (d : ℕ) → IsDevice (index + 1) d → P d
one_more P index before last d within =
    ⊎_elim
    (λ (e : d ≡ index + 1). subst P (sym e) last)
    (λ (ne : d ≡ index + 1 → ⊥). let least = within.0 in let most = within.1 in before d (omega arith, omega (arith, ne)))
    (cases_eq d (index + 1))

pub lanes_more : (charter : CharterState) (index : ℕ) (old new : ℕ → Lane → List Effect) → ((i : ℕ) (l : Lane) → Begins (old i l) (new i l)) → ((d : ℕ) (l : Lane) → IsDevice index d → IsCallLane l → HasWhole charter d l (old d l)) → ((l : Lane) → IsCallLane l → HasWhole charter (index + 1) l (new (index + 1) l))
    → (d : ℕ) (l : Lane) → IsDevice (index + 1) d → IsCallLane l → HasWhole charter d l (new d l)
lanes_more charter index old new more before last d l within is =
    one_more (λ (n : ℕ). (m : Lane) → IsCallLane m → HasWhole charter n m (new n m)) index (λ n here m call. whole_more charter n m (old n m) (new n m) (more n m) (before n m here call)) last d within l is
