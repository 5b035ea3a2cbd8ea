-- What is pushed on a lane of calls is a call of that lane; what its peer says to it.
use Rattle.std.proofs.Common.{◌≡◌, ℕ, zero, suc, ◌-◌, ◌≤◌, Bool, true, false, cond, List, [], ◌∷◌, ◌++◌, filter, Option, Some, refl, sym, subst, arith}
use Rattle.std.specs.Prelude.{slice_get, length}
use Rattle.device_types.specs.declared.effect.Effect.{Effect}
use Rattle.device_types.specs.declared.effect.Effect.TheVariants as effects
use Rattle.device_types.specs.declared.event.Lane.{Lane}
use Rattle.device_types.specs.declared.event.Lane.TheVariants as lanes
use Rattle.device_types.specs.declared.input.Input.TheVariants as inputs
use Rattle.device_types.specs.declared.input.Offer.{Offer}
use Rattle.device_types.specs.declared.input.Offer.TheVariants.{Accepted, Repeat, Ahead}
use Rattle.device_types.specs.declared.step.Entry.{Entry}
use Rattle.device_types.specs.Event.{IsCallLane}
use Rattle.device_types.specs.Journal.{effects_of, effects_on, is_on}
use Rattle.pool_rows.specs.Seats.{IsCall, IsOffer, IsOwnOf}
use Rattle.session_store.specs.Charter.{CharterState, alone_in}
use Rattle.session_store.specs.Rows.{IsDevice}
use Rattle.shard_parts.specs.BothPeers.{is_call, lane_of}
use Rattle.pool_work.specs.Packets.{IsSaid}
use Rattle.pool_work.specs.Stores.{IsPushed}

-- what was pushed by one charter is so by the same one
pub pushed_at : (rows peers : CharterState) (d k : ℕ) (lane : Lane) (o : Option Effect) (effect : Effect) → rows ≡ peers → o ≡ Some effect → IsPushed lane k (alone_in rows d) o → IsPushed lane k (alone_in peers d) (Some effect)
pushed_at rows peers d k lane o effect same is at =
    subst (λ (c : CharterState). IsPushed lane k (alone_in c d) (Some effect)) same (subst (λ (x : Option Effect). IsPushed lane k (alone_in rows d) x) is at)

filtered : {X : Type 0} (p : X → Bool) (ys : List X) (y : X) (b : Bool) → p y ≡ b → ((i : ℕ) (x : X) → slice_get (filter p ys) i ≡ Some x → p x ≡ true) → (i : ℕ) (x : X) → slice_get (cond b (y ∷ filter p ys) (filter p ys)) i ≡ Some x → p x ≡ true
filtered p ys y true h rest zero x at = let same : y ≡ x = cc in subst (λ z. p z ≡ true) same h
filtered p ys y true h rest (suc i) x at = rest i x at
filtered p ys y false h rest i x at = rest i x at

get_filtered : {X : Type 0} (p : X → Bool) (xs : List X) (i : ℕ) (x : X) → slice_get (filter p xs) i ≡ Some x → p x ≡ true
get_filtered p [] i x at = absurd (cc)
get_filtered p (y ∷ ys) i x at = filtered p ys y (p y) refl (get_filtered p ys) i x at

in_both : {X : Type 0} (P : X → Type 0) (xs ys : List X) → ((i : ℕ) (x : X) → slice_get xs i ≡ Some x → P x) → ((i : ℕ) (x : X) → slice_get ys i ≡ Some x → P x) → (i : ℕ) (x : X) → slice_get (xs ++ ys) i ≡ Some x → P x
in_both P [] ys a b i x at = b i x at
in_both P (z ∷ zs) ys a b zero x at = a zero x at
in_both P (z ∷ zs) ys a b (suc i) x at = in_both P zs ys (λ j y g. a (suc j) y g) b i x at

on_lane : (lane : Lane) (journal : List Entry) (i : ℕ) (effect : Effect) → slice_get (effects_of lane journal) i ≡ Some effect → is_on lane effect ≡ true
on_lane lane [] i effect at = absurd (cc)
on_lane lane (e ∷ es) i effect at = in_both (λ x. is_on lane x ≡ true) (effects_on lane e.step.effects) (effects_of lane es) (get_filtered (is_on lane) e.step.effects) (on_lane lane es) i effect at

call_on : (lane : Lane) (effect : Effect) → IsCallLane lane → is_on lane effect ≡ true → (is_call effect ≡ true) × (lane_of effect ≡ lane)
call_on lanes.Down effect c h = absurd c
call_on lanes.Gateway (effects.Down down) c h = absurd (cc)
call_on lanes.Gateway (effects.Gateway call) c h = (refl, refl)
call_on lanes.Gateway (effects.Subscriber call) c h = absurd (cc)
call_on lanes.Subscriber (effects.Down down) c h = absurd (cc)
call_on lanes.Subscriber (effects.Gateway call) c h = absurd (cc)
call_on lanes.Subscriber (effects.Subscriber call) c h = (refl, refl)

pub lane_is : (charter : CharterState) (d k : ℕ) (lane : Lane) (effect : Effect) → IsCallLane lane → IsPushed lane k (alone_in charter d) (Some effect) → (is_call effect ≡ true) × (lane_of effect ≡ lane)
lane_is charter d k lane effect c at = call_on lane effect c (on_lane lane (alone_in charter d) (k - 1) effect at)

pub call_is : (charter : CharterState) (d k : ℕ) (lane : Lane) (effect : Effect) → IsDevice (length charter.rows) d → IsCallLane lane → 1 ≤ k → IsPushed lane k (alone_in charter d) (Some effect) → IsCall charter d k effect
call_is charter d k lane effect device c least at =
    let is = lane_is charter d k lane effect c at in record {
      device = device;
      called = is.0;
      least = least;
      law = subst (λ (l : Lane). slice_get (effects_of l (alone_in charter d)) (k - 1) ≡ Some effect) (sym is.1) at;
    }

pub said : (charter : CharterState) (d k : ℕ) (lane : Lane) (effect : Effect) (accepted : List Effect) (offer : Offer) → lane_of effect ≡ lane → IsOffer charter d k effect accepted offer → IsSaid charter d lane k offer
said charter d k lane effect accepted (Accepted answer) is o = subst (λ (l : Lane). IsOwnOf charter d (inputs.Answer l k answer)) is o.1
said charter d k lane effect accepted (Repeat answer) is o = subst (λ (l : Lane). IsOwnOf charter d (inputs.Answer l k answer)) is o.1
said charter d k lane effect accepted (Ahead last) is o = let low = o.1 in omega arith
