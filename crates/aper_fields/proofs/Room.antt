-- An open type that was read has room for what is written for the value that it contains, and so an item ends no later than one that was read.
use Rattle.std.proofs.Common.{◌≡◌, ℕ, ◌+◌, ◌*◌, ◌/◌, ◌<◌, ◌≤◌, Bool, List, ◌++◌, length, ap, ◌∙◌, arith}
use Rattle.std.proofs.lemmas.Bool.{eqb-true}
use Rattle.std.proofs.lemmas.List.{length-append, length-replicate}
use Rattle.aper_fields.specs.Bits.{gap}
use Rattle.aper_fields.specs.Reading.{Input}
use Rattle.aper_fields.specs.Run.{Run, ◌▸◌, number_run, fixed_bits_run, open_run, content_of, closing}
use Rattle.aper_fields.specs.Spelling.{Open, Holds}
use Rattle.aper_fields.specs.Format.{Format, ◌>>=◌}
use Rattle.aper_fields.specs.Sequence.{criticality_in, item_in}
use Rattle.aper_fields.specs.Many.{inside}
use Rattle.aper_fields.specs.Asn1.{item_run}
use Rattle.aper_fields.proofs.Packed.{length-filled}
use Rattle.aper_fields.proofs.Periodic.{IsPeriodic}
use Rattle.aper_fields.proofs.Ends.{EndsBy, then_ends, front_ends, number_ends, fixed_bits_ends, open_ends}
use Rattle.aper_fields.proofs.Opens.{open_offset, content_some, closing_some}

-- the content of an open type is as long as a body, and as what an open type contains of it
abbrev pub HasRoom : Input → List Bool → Type 0
HasRoom content body = (length body ≤ length content.left) × (length (content_of body) ≤ length content.left)

-- a run is something, depends on its offset within an octet alone, and ends no later than what spells the value
pub record IsLeast {A : Type 0} (F : Format A) (v : A) (f : Run) : Type 0 where
  pub some : 0 < length (f 0)
  pub periodic : IsPeriodic f
  pub ends : (at : ℕ) (run : List Bool) → F.Spells at v run → EndsBy f at run

pub open_room : {A : Type 0} (F : Format A) (v : A) (f : Run) (at : ℕ) (content : Input) (run : List Bool) → IsLeast F v f → Open at content run → Holds F.Spells content v → HasRoom content (f 0)
open_room F v f at content run least opened held =
    let offset = content.offset in
    let k = offset / 8 in
    let whole : offset ≡ 8 * k + 0 = open_offset at content run opened ∙ omega arith in
    let same : f offset ≡ f 0 = ap f whole ∙ least.periodic k 0 in
    let short : offset + length (f offset) ≤ offset + length held.0 = least.ends offset held.0 held.1 offset (omega arith) in
    let few : length (f 0) ≤ length held.0 = omega (arith, short, ap length same) in
    let ends : closing offset (offset + length held.0) ≡ gap (offset + length held.0) = closing_some offset held.0 (omega (arith, few, least.some)) in
    let size : length content.left ≡ length held.0 + gap (offset + length held.0) = ap length held.2 ∙ length-append held.0 _ ∙ ap (λ n. length held.0 + n) (length-replicate (closing offset (offset + length held.0)) _ ∙ ends) in
    (omega (arith, few, size), omega (arith, few, size, whole, ap length (content_some (f 0) least.some), length-filled (f 0)))

-- an id, a criticality and an open type, with more behind it
pub head_ends : (id criticality c : ℕ) (body : List Bool) (at : ℕ) (first second run back more : List Bool) → run ≡ first ++ back → first ≡ number_run 0 65535 id at → back ≡ second ++ more → criticality_in.Spells (at + length first) c second → EndsBy (open_run body) (at + length first + length second) more → EndsBy (item_run id criticality body) at run
unfolding item_run criticality_in
head_ends id criticality c body at first second run back more e is f s ends =
    then_ends (number_run 0 65535 id) (fixed_bits_run 2 criticality ▸ open_run body) at first back run e (number_ends 0 65535 id at first is)
    (then_ends (fixed_bits_run 2 criticality) (open_run body) _ second more back f (fixed_bits_ends 2 criticality c _ second s.1.1) ends)

-- an item whose container holds a value: what holds of what is spelled in it, and where the item that is written ends
pub item_least : {A : Type 0} (id criticality : ℕ) (F : Format A) (v : A) (f : Run) (at : ℕ) (bits : List Bool) (In : Type 0) → ((offset : ℕ) (held : List Bool) → F.Spells offset v held → In) → IsLeast F v f → (item_in id >>= λ content. inside content F).Spells at v bits → In × EndsBy (item_run id criticality (f 0)) at bits
unfolding item_in
item_least id criticality F v f at bits In step least s =
    let content = s.0 in
    let item = s.4 in
    let whole : item.0 ≡ id = eqb-true item.0 id item.4.0 in
    let first : item.1 ≡ number_run 0 65535 id at = item.4.1.1 ∙ ap (λ n. number_run 0 65535 n at) whole in
    let opened = item.5 in
    let held = s.5.0 in
    let room = open_room F v f _ content opened.2 least opened.5 held in
    (step _ held.0 held.1, front_ends (item_run id criticality (f 0)) at s.1 s.2 bits s.3 (head_ends id criticality opened.0 (f 0) at item.1 opened.1 s.1 item.2 opened.2 item.3 first opened.3 opened.4 (open_ends (f 0) _ content opened.2 opened.5 room.1)))
