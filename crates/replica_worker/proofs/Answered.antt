-- The reply that a replica makes is that of the journal.
use Rattle.std.proofs.Common.{◌≡◌, ℕ, ◌+◌, zero, suc, true, List, [], ◌∷◌, ◌++◌, length, take, Some, refl, sym, ap, ◌∙◌, subst, arith}
use Rattle.std.specs.Prelude.{◌↔◌, slice_get, IsSome}
use Rattle.std.proofs.lemmas.List.{length-take-le}
use Rattle.device_types.specs.declared.input.Input.{Input}
use Rattle.device_types.specs.declared.input.Input.TheVariants as inputs
use Rattle.device_types.specs.declared.message.Message.{Message}
use Rattle.device_types.specs.declared.look.Look.TheVariants.{Ready}
use Rattle.device_types.specs.declared.step.Entry.{Entry}
use Rattle.device_types.specs.Journal.{is_message, taken_count, reply_to, reply_of}
use Rattle.device_types.proofs.Journals.{reply_more}
use Rattle.replica_worker.specs.Replies.{told_by, told_of, reply_when}
use Rattle.replica_worker.specs.Writes.{committed_reply, IsMessageCommitted}
use Rattle.replica_worker.proofs.May.{ready_message}
use Rattle.session_row.specs.declared.commit.Commit.{Commit}
use Rattle.session_row.specs.declared.commit.Commit.TheVariants.{Committed, Stale}
use Rattle.session_row.specs.Row.{look_at}
use Rattle.session_store.specs.AloneLaw.{alone_can_follow}
use Rattle.session_store.specs.Charter.{CharterState, IsCharter, follows_alone}
use Rattle.session_store.specs.Law.{window, IsLawful}
use Rattle.session_store.specs.Rows.{IsKnownAfter}
use Rattle.session_store.proofs.Journals.{lawful_front}

pub last_apart : (xs : List Entry) (n : ℕ) (x : Entry) → length xs ≡ n + 1 → slice_get xs n ≡ Some x → xs ≡ take n xs ++ x ∷ []
last_apart [] n x count g = absurd (omega arith)
last_apart (y ∷ []) zero x count g = let e : y ≡ x = cc in ap (λ z. z ∷ []) e
last_apart (y ∷ z ∷ zs) zero x count g = absurd (omega arith)
last_apart (y ∷ ys) (suc n) x count g = ap (λ zs. y ∷ zs) (last_apart ys n x (omega arith) g)

-- the reply to the message of the last entry
reply_last : (charter : CharterState) (d version : ℕ) (journal : List Entry) (entry : Entry) (message : Message) → IsCharter charter → IsLawful (follows_alone charter d) journal → length journal ≡ version + 1 → slice_get journal version ≡ Some entry → entry.input ≡ inputs.Message message → reply_of journal message.number ≡ Some (reply_to message.number (version + 1) entry)
reply_last charter d version journal entry message in_form l count g m =
    let K = take version journal in
    let can = alone_can_follow charter d K entry in_form (lawful_front (follows_alone charter d) journal version l) (l version entry g) in
    let ready : look_at window K (inputs.Message message) ≡ Ready = subst (λ (i : Input). look_at window K i ≡ Ready) m can.ready in
    let n : taken_count K + 1 ≡ message.number = sym (ready_message K message ready).0 in
    let place : length K + 1 ≡ version + 1 = ap (λ i. i + 1) (length-take-le version journal (omega arith)) in
    let is : is_message entry.input ≡ true = ap is_message m in
    ap (λ J. reply_of J message.number) (last_apart journal version entry count g)
    ∙ ap (reply_of (K ++ entry ∷ [])) (sym n)
    ∙ reply_more K entry is
    ∙ ap (λ i. Some (reply_to i (length K + 1) entry)) n
    ∙ ap (λ i. Some (reply_to message.number i entry)) place

reply_by : (charter : CharterState) (d version : ℕ) (journal : List Entry) (entry : Entry) (input : Input) (commit : Commit) → entry.input ≡ input → IsCharter charter → IsLawful (follows_alone charter d) journal → IsKnownAfter journal version entry commit → reply_when (told_by input entry) commit ≡ committed_reply input journal commit
reply_by charter d version journal entry (inputs.Message message) (Committed now) m in_form l k =
    ap (λ i. Some (reply_to message.number i entry)) k.0
    ∙ sym (reply_last charter d version journal entry message in_form l (k.1 ∙ k.0) k.2 m)
reply_by charter d version journal entry (inputs.Message message) (Stale asked current) m in_form l k = refl
reply_by charter d version journal entry (inputs.Answer lane k answer) commit m in_form l known = refl

pub reply_is : (charter : CharterState) (d version : ℕ) (journal : List Entry) (entry : Entry) (commit : Commit) → IsCharter charter → IsLawful (follows_alone charter d) journal → IsKnownAfter journal version entry commit → reply_when (told_of entry) commit ≡ committed_reply entry.input journal commit
reply_is charter d version journal entry commit in_form l k = reply_by charter d version journal entry entry.input commit refl in_form l k

told_for : (input : Input) (entry : Entry) (commit : Commit) → IsSome (reply_when (told_by input entry) commit) ↔ IsMessageCommitted input commit
told_for (inputs.Message message) entry (Committed version) = (λ s. tt, λ t. refl)
told_for (inputs.Message message) entry (Stale asked current) = (λ s. absurd (cc), λ t. absurd t)
told_for (inputs.Answer lane k answer) entry commit = (λ s. absurd (cc), λ t. absurd t)

pub told_is : (entry : Entry) (commit : Commit) → IsSome (reply_when (told_of entry) commit) ↔ IsMessageCommitted entry.input commit
told_is entry commit = told_for entry.input entry commit
