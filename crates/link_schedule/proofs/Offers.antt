-- What a peer says to a call, as the answer to the event, with the parts after it.
use Rattle.std.proofs.Common.{◌≡◌, ◌==◌, ℕ, ◌+◌, ◌-◌, ◌≤◌, ◌<◌, Bool, true, false, List, [], ◌∷◌, ◌++◌, length, get_or, Some, refl, ap, ◌∙◌, arith}
use Rattle.std.specs.Prelude.{nat_le, slice_get}
use Rattle.std.proofs.lemmas.List.{get_or_default}
use Rattle.device_types.specs.declared.effect.Effect.TheVariants as effects
use Rattle.device_types.specs.declared.effect.GwCall.{GwCall}
use Rattle.device_types.specs.declared.effect.SubCall.{SubCall}
use Rattle.device_types.specs.declared.event.Event.TheVariants.{Effect}
use Rattle.device_types.specs.declared.event.EventAnswer.TheVariants as told
use Rattle.device_types.specs.declared.event.Lane.{Lane}
use Rattle.device_types.specs.declared.event.Lane.TheVariants.{Gateway, Subscriber}
use Rattle.device_types.specs.declared.input.Answer.{Answer}
use Rattle.device_types.specs.declared.subscriber.DeviceId.{DeviceId}
use Rattle.device_types.specs.Journal.{effects_of}
use Rattle.device_types.specs.Numbers.{IsWithin}
use Rattle.peer_calls.specs.declared.arrival.Arrival.TheVariants.{Next, Repeat, Ahead}
use Rattle.peer_calls.specs.Calls.{calls_of, with_call, arrival_of, offer_of, after_offer}
use Rattle.schedule_laws.specs.Answer.{answer, Lawful}
use Rattle.schedule_laws.specs.Counts.{Turn, accepted, effect_pushed}
use Rattle.schedule_laws.specs.Setting.{Setting, entries_of}
use Rattle.link_schedule.specs.Told.{offer_answer}
use Rattle.link_schedule.specs.World.{Parts, ArePartsOf}
use Rattle.link_schedule.proofs.Calls.{gateway_count, subscriber_count}
use Rattle.link_schedule.proofs.Events.{stays}
use Rattle.link_schedule.proofs.Lanes.{accepts_gateway, accepts_subscriber}
use Rattle.schedule_laws.proofs.EachAnswer.{effect_next, effect_repeat, effect_ahead}
use Rattle.schedule_laws.proofs.Promises.{quiet_stays}
use Rattle.schedule_laws.proofs.Comparisons.{here, le_of, gt_of, same_number}

-- of any peer, whose calls are these: they are as before unless the call is the next one
offers : {C : Type 0} (s : Setting) (H : List Turn) (e : DeviceId) (l : Lane) (k : ℕ) (call : C) (reply : List C → Answer) (lists : List (List C)) (parts : List (List C) → Parts) → effect_pushed e.0 l k H ≡ true → length (calls_of lists e.0) ≡ accepted e.0 l H → ArePartsOf s H (parts lists) → (k ≡ accepted e.0 l H + 1 → ArePartsOf s ((Effect e l k, told.Accepted k) ∷ H) (parts (with_call lists e.0 call))) → (offer_answer k (offer_of reply (calls_of lists e.0) k call) ≡ answer s H (Effect e l k)) × ArePartsOf s ((Effect e l k, offer_answer k (offer_of reply (calls_of lists e.0) k call)) ∷ H) (parts (after_offer lists e.0 k call))
offers s H e l k call reply lists parts on count m more = first (k == length (calls_of lists e.0) + 1) refl
  where
    second : (k == length (calls_of lists e.0) + 1) ≡ false → (b : Bool) → nat_le k (length (calls_of lists e.0)) ≡ b → (offer_answer k (offer_of reply (calls_of lists e.0) k call) ≡ answer s H (Effect e l k)) × ArePartsOf s ((Effect e l k, offer_answer k (offer_of reply (calls_of lists e.0) k call)) ∷ H) (parts (after_offer lists e.0 k call))
    second no_next true test =
        let says : arrival_of (length (calls_of lists e.0)) k ≡ Repeat = rw (no_next, test) refl in
        let low : k ≤ accepted e.0 l H = let f = le_of k (length (calls_of lists e.0)) test in omega arith in
        rw says (effect_repeat s H e l k on low, stays s H ((Effect e l k, told.Repeat k) ∷ H) (parts lists) (quiet_stays H (Effect e l k) (told.Repeat k) refl) (λ r. refl) m)
    second no_next false test =
        let last = length (calls_of lists e.0) in
        let says : arrival_of last k ≡ Ahead last = rw (no_next, test) refl in
        let apart : k ≡ last + 1 → ⊥ = λ (is : k ≡ last + 1). (let t : (k == last + 1) ≡ true = rw is (here (last + 1)) in cc) in
        let high : accepted e.0 l H + 1 < k = let f = gt_of k last test in omega (arith, apart, f, count) in
        let ahead : told.Ahead last ≡ answer s H (Effect e l k) = ap told.Ahead count ∙ effect_ahead s H e l k on high in
        rw says (ahead, stays s H ((Effect e l k, told.Ahead last) ∷ H) (parts lists) (quiet_stays H (Effect e l k) (told.Ahead last) refl) (λ r. refl) m)

    first : (b : Bool) → (k == length (calls_of lists e.0) + 1) ≡ b → (offer_answer k (offer_of reply (calls_of lists e.0) k call) ≡ answer s H (Effect e l k)) × ArePartsOf s ((Effect e l k, offer_answer k (offer_of reply (calls_of lists e.0) k call)) ∷ H) (parts (after_offer lists e.0 k call))
    first true test =
        let says : arrival_of (length (calls_of lists e.0)) k ≡ Next = rw test refl in
        let is : k ≡ accepted e.0 l H + 1 = same_number k (length (calls_of lists e.0) + 1) test ∙ ap (λ n. n + 1) count in
        rw says (effect_next s H e l k on is, more is)
    first false test = second test (nat_le k (length (calls_of lists e.0))) refl

-- the calls of a device, by whatever default
calls_at : {C : Type 0} (lists : List (List C)) (n d : ℕ) → length lists ≡ n → IsWithin n d → calls_of lists d ≡ get_or lists (d - 1) (calls_of lists d)
calls_at lists n d long within = get_or_default lists (d - 1) [] (calls_of lists d) (omega (arith, long, within.0, within.1))

pub offers_gateway : (s : Setting) (H : List Turn) (p : Parts) (e : DeviceId) (k : ℕ) (call : GwCall) (reply : List GwCall → Answer) → Lawful s H → effect_pushed e.0 Gateway k H ≡ true → slice_get (effects_of Gateway (entries_of s e.0)) (k - 1) ≡ Some (effects.Gateway call) → IsWithin (length s.rows) e.0 → ArePartsOf s H p → (offer_answer k (offer_of reply (calls_of p.gateway e.0) k call) ≡ answer s H (Effect e Gateway k)) × ArePartsOf s ((Effect e Gateway k, offer_answer k (offer_of reply (calls_of p.gateway e.0) k call)) ∷ H) (record p { gateway = after_offer p.gateway e.0 k call })
offers_gateway s H p e k call reply L on got within m =
    let calls = calls_of p.gateway e.0 in
    let at = calls_at p.gateway (length s.rows) e.0 m.gateway.long within in
    offers s H e Gateway k call reply p.gateway (λ lists. record p { gateway = lists }) on
    (gateway_count s H e.0 calls L (m.gateway.at e.0 [] within)) m
    (λ is. accepts_gateway s H p e k k call calls (calls ++ call ∷ []) at refl is got within m)

pub offers_subscriber : (s : Setting) (H : List Turn) (p : Parts) (e : DeviceId) (k : ℕ) (call : SubCall) (reply : List SubCall → Answer) → Lawful s H → effect_pushed e.0 Subscriber k H ≡ true → slice_get (effects_of Subscriber (entries_of s e.0)) (k - 1) ≡ Some (effects.Subscriber call) → IsWithin (length s.rows) e.0 → ArePartsOf s H p → (offer_answer k (offer_of reply (calls_of p.subscriber e.0) k call) ≡ answer s H (Effect e Subscriber k)) × ArePartsOf s ((Effect e Subscriber k, offer_answer k (offer_of reply (calls_of p.subscriber e.0) k call)) ∷ H) (record p { subscriber = after_offer p.subscriber e.0 k call })
offers_subscriber s H p e k call reply L on got within m =
    let calls = calls_of p.subscriber e.0 in
    let at = calls_at p.subscriber (length s.rows) e.0 m.subscriber.long within in
    offers s H e Subscriber k call reply p.subscriber (λ lists. record p { subscriber = lists }) on
    (subscriber_count s H e.0 calls L (m.subscriber.at e.0 [] within)) m
    (λ is. accepts_subscriber s H p e k k call calls (calls ++ call ∷ []) at refl is got within m)
