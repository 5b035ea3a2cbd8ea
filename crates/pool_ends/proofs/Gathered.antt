-- The end of a journal, gathered entry by entry.
use Rattle.std.proofs.Common.{◌≡◌, ◌<◌, ◌≤◌, ◌+◌, ℕ, cond, List, [], ◌∷◌, ◌++◌, drop, get_or, length, refl, sym, ap, ◌∙◌, arith, append-nil, append_assoc}
use Rattle.std.specs.Prelude.{fold}
use Rattle.std.proofs.lemmas.List.{drop_more}
use Rattle.device_machine.specs.declared.ends.Lanes.{Lanes}
use Rattle.device_machine.specs.Ends.{ended, lanes_of}
use Rattle.device_machine.specs.Ends as machine
use Rattle.device_machine.proofs.Gathered.{lanes_more}
use Rattle.device_types.specs.declared.effect.Effect.{Effect}
use Rattle.device_types.specs.declared.effect.Effect.TheVariants as effects
use Rattle.device_types.specs.declared.finals.DeviceEnd.{DeviceEnd}
use Rattle.device_types.specs.declared.input.Input.{Input}
use Rattle.device_types.specs.declared.input.Input.TheVariants as inputs
use Rattle.device_types.specs.declared.session.Session.{Session}
use Rattle.device_types.specs.declared.step.Entry.{Entry}
use Rattle.device_types.specs.Journal.{is_message, session_of, taken_count}
use Rattle.device_types.proofs.Journals.{taken_more}
use Rattle.pool_ends.specs.Ends.{end_in, start_of, with_effect, with_entry, with_input}

-- what an end has on its lanes
abbrev lanes_in : DeviceEnd → Lanes
lanes_in end = record { downs = end.downs; gateway = end.gateway; subscriber = end.subscriber }

effects_put : (end : DeviceEnd) (es : List Effect) → fold with_effect end es ≡ ended end.messages end.steps (fold machine.with_effect (lanes_in end) es) end.session
effects_put end [] = refl
effects_put end (effects.Down down ∷ es) = effects_put (with_effect end (effects.Down down)) es
effects_put end (effects.Gateway call ∷ es) = effects_put (with_effect end (effects.Gateway call)) es
effects_put end (effects.Subscriber call ∷ es) = effects_put (with_effect end (effects.Subscriber call)) es

counted : (messages steps : ℕ) (lanes : Lanes) (session : Session) (input : Input) → with_input (ended messages steps lanes session) input ≡ ended (messages + cond (is_message input) 1 0) steps lanes session
counted messages steps lanes session (inputs.Message message) = refl
counted messages steps lanes session (inputs.Answer lane k answer) = ap (λ n. ended n steps lanes session) (omega arith)

-- one message more at most
pub few_more : (end : DeviceEnd) (entry : Entry) (most : ℕ) → end.messages ≤ most → (with_entry end entry).messages ≤ most + 1
few_more end entry most few =
    let kept = ap (λ (e : DeviceEnd). e.messages) (effects_put (with_input end entry.input) entry.step.effects) in
    let least = few_input end entry.input in
    omega (arith, kept, least, few)
  where
    few_input : (end : DeviceEnd) (input : Input) → (with_input end input).messages ≤ end.messages + 1
    few_input end (inputs.Message message) = omega arith
    few_input end (inputs.Answer lane k answer) = omega arith

-- what was gathered of the first entries of a journal of so many, with its session
abbrev so_far : ℕ → Session → List Entry → DeviceEnd
so_far steps session journal = ended (taken_count journal) steps (lanes_of journal) session

entry_put : (steps : ℕ) (session : Session) (J : List Entry) (entry : Entry) → with_entry (so_far steps session J) entry ≡ so_far steps session (J ++ entry ∷ [])
entry_put steps session J entry =
    let count = taken_count J + cond (is_message entry.input) 1 0 in
    ap (λ (e : DeviceEnd). fold with_effect e entry.step.effects) (counted (taken_count J) steps (lanes_of J) session entry.input)
    ∙ (effects_put (ended count steps (lanes_of J) session) entry.step.effects
    ∙ (ap (λ (l : Lanes). ended count steps l session) (sym (lanes_more J entry))
    ∙ ap (λ n. ended n steps (lanes_of (J ++ entry ∷ [])) session) (sym (taken_more J entry))))

entries_put : (steps : ℕ) (session : Session) (J K : List Entry) → fold with_entry (so_far steps session J) K ≡ so_far steps session (J ++ K)
entries_put steps session J [] = ap (so_far steps session) (sym (append-nil J))
entries_put steps session J (entry ∷ K) =
    ap (λ (e : DeviceEnd). fold with_entry e K) (entry_put steps session J entry)
    ∙ (entries_put steps session (J ++ entry ∷ []) K ∙ ap (so_far steps session) (append_assoc J (entry ∷ []) K))

pub all_put : (journal : List Entry) → fold with_entry (start_of journal) journal ≡ end_in journal
all_put journal = entries_put (length journal) (session_of journal) [] journal

-- behind an entry that was put, those behind it are left
pub left_behind : (journal : List Entry) (i : ℕ) (entry : Entry) (old new : DeviceEnd) → i < length journal → entry ≡ get_or journal i entry → new ≡ with_entry old entry → fold with_entry new (drop (i + 1) journal) ≡ fold with_entry old (drop i journal)
left_behind journal i entry old new low is put =
    ap (λ (e : DeviceEnd). fold with_entry e (drop (i + 1) journal)) put
    ∙ ap (fold with_entry old) (sym (drop_more journal i entry low ∙ ap (λ (e : Entry). e ∷ drop (i + 1) journal) (sym is)))
