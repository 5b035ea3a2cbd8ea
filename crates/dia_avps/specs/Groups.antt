-- AVPs whose values are groups (3GPP TS 29.272, 7.3): the members of each in their order, as they are read and written, and what the program checks of one.
use Rattle.std.specs.Prelude.{ℕ, true, List, Result}
use Rattle.echo_base.specs.declared.refusal.Refusal.{Refusal}
use Rattle.tlv_elements.specs.Element.{Element}
use Rattle.tlv_elements.specs.Grammar.{value, group, Rows, last, ◌▸◌, check_value, check_group, rules}
use Rattle.dia_avps.specs.declared.groups.Part.{Part}
use Rattle.dia_avps.specs.declared.groups.Part.TheVariants as part
use Rattle.dia_avps.specs.declared.groups.Member.{Member}
use Rattle.dia_avps.specs.declared.groups.Member.TheVariants as member
use Rattle.dia_avps.specs.Frame.{frame_in, dia, tgpp}
use Rattle.dia_avps.specs.Values.{sized, unsigned}

abbrev pub Nothing : Type 0
Nothing = Unit {0}

abbrev pub VectorFields : Type 0
VectorFields = List ℕ × (List ℕ × (List ℕ × (List ℕ × Nothing)))

-- E-UTRAN-Vector (7.3.18): RAND, XRES, AUTN, KASME
abbrev pub vector : Rows VectorFields
vector =
    value true 1447 tgpp (sized 16 16) ▸
    value true 1448 tgpp (sized 4 16) ▸
    value true 1449 tgpp (sized 16 16) ▸
    value true 1450 tgpp (sized 32 32) ▸
    last

-- Authentication-Info (7.3.17)
abbrev pub authentication_info : Rows (VectorFields × Nothing)
authentication_info =
    group true 1414 tgpp vector ▸
    last

-- AMBR (7.3.41): Max-Requested-Bandwidth-UL, and -DL
abbrev pub ambr : Rows (ℕ × (ℕ × Nothing))
ambr =
    value true 516 tgpp unsigned ▸
    value true 515 tgpp unsigned ▸
    last

-- Subscription-Data (7.3.2)
abbrev pub subscription_data : Rows ((ℕ × (ℕ × Nothing)) × Nothing)
subscription_data =
    group true 1435 tgpp ambr ▸
    last

-- ---- what is checked: that each is of the form of its row

abbrev pub member_check : Member → Element → Result (Unit {0}) Refusal
member_check (member.Sized least most) = check_value dia (sized least most)
member_check member.Unsigned = check_value dia unsigned

abbrev pub part_check : Part → Element → Result (Unit {0}) Refusal
part_check part.Vector = check_group dia (rules frame_in dia vector)
part_check part.Ambr = check_group dia (rules frame_in dia ambr)
