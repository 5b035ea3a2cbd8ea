-- What closed rows and peers are, where a seat had seen all of the machine alone.
use Rattle.std.proofs.Common.{◌≡◌, ℕ, List, length, ap, ◌∙◌, subst, arith, length-append}
use Rattle.device_types.specs.declared.effect.Effect.{Effect}
use Rattle.device_types.specs.declared.event.Lane.{Lane}
use Rattle.device_types.specs.declared.step.Entry.{Entry}
use Rattle.device_types.specs.Journal.{effects_of}
use Rattle.pool_ends.specs.Ends.{IsWhole}
use Rattle.pool_ends.proofs.Wholes.{journal_is_whole}
use Rattle.session_store.specs.Charter.{CharterState, alone_in, follows_alone}
use Rattle.session_store.specs.Law.{IsLawful}
use Rattle.session_store.specs.Rows.{Begins, IsDevice}

-- the journal of a device
journal_closed : (charter : CharterState) (d : ℕ) (known journal : List Entry) → IsWhole charter d known → Begins known journal → IsLawful (follows_alone charter d) journal → journal ≡ alone_in charter d
journal_closed charter d known journal whole more lawful =
    let longer = ap length more.1 ∙ length-append known more.0 in
    let least = whole in
    journal_is_whole charter d journal lawful (omega (arith, least, longer))

-- those of all devices, by what a seat has seen
pub journals_closed : (charter : CharterState) (n : ℕ) (known journal : ℕ → List Entry) → ((d : ℕ) → IsDevice n d → IsWhole charter d (known d)) → ((d : ℕ) → Begins (known d) (journal d)) → ((d : ℕ) → IsDevice n d → IsLawful (follows_alone charter d) (journal d)) → (d : ℕ) → IsDevice n d → journal d ≡ alone_in charter d
journals_closed charter n known journal whole seen lawful d is = journal_closed charter d (known d) (journal d) (whole d is) (seen d) (lawful d is)

-- a lane of the peers, under the charter of the rows
pub lane_under : (peers rows : CharterState) (d : ℕ) (lane : Lane) (accepted : List Effect) → peers ≡ rows → accepted ≡ effects_of lane (alone_in peers d) → accepted ≡ effects_of lane (alone_in rows d)
lane_under peers rows d lane accepted same is = subst (λ (c : CharterState). accepted ≡ effects_of lane (alone_in c d)) same is
