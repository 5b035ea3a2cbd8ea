-- The messages and their bearer contexts: information elements in their order (3GPP TS 29.274, 7.2), as they are read and written. Where all is
-- false, of an answer that rejects, its cause alone is needed.
use Rattle.std.specs.Prelude.{ℕ, Bool, true, List}
use Rattle.tlv_elements.specs.Grammar.{value, group, Rows, last, ◌▸◌}
use Rattle.gtp2_ies.specs.Values.{exactly, cause, ebi, fteid, address, no_address, rates, qos, apn, imsi}

abbrev pub Nothing : Type 0
Nothing = Unit {0}

-- ---- Bearer Context (8.28)

-- a bearer of a Create Session Request (table 7.2.1-2)
abbrev pub create_bearer : Rows (ℕ × (Nothing × Nothing))
create_bearer =
    value true 73 0 ebi ▸
    value true 80 0 qos ▸
    last

-- a bearer of its response (table 7.2.2-2)
abbrev pub created_bearer : Bool → Rows (ℕ × (ℕ × ((ℕ × ℕ) × Nothing)))
created_bearer all =
    value all 73 0 ebi ▸
    value all 2 0 cause ▸
    value all 87 0 (fteid 0x81) ▸
    last

-- a bearer of a Modify Bearer Request (table 7.2.7-2)
abbrev pub modify_bearer : Rows (ℕ × ((ℕ × ℕ) × Nothing))
modify_bearer =
    value true 73 0 ebi ▸
    value true 87 0 (fteid 0x80) ▸
    last

-- a bearer of its response (table 7.2.8-2)
abbrev pub modified_bearer : Bool → Rows (ℕ × (ℕ × Nothing))
modified_bearer all =
    value all 73 0 ebi ▸
    value all 2 0 cause ▸
    last

-- ---- messages

abbrev pub CreateRest : Type 0
CreateRest = Nothing × (ℕ × ((ℕ × ℕ) × ((ℕ × (Nothing × Nothing)) × Nothing)))

-- the second half of a Create Session Request
abbrev pub create_rest : Rows CreateRest
create_rest =
    value true 99 0 (exactly 1) ▸
    value true 79 0 no_address ▸
    value true 72 0 rates ▸
    group true 93 0 create_bearer ▸
    last

abbrev pub CreateFields : Type 0
CreateFields = ℕ × (Nothing × ((ℕ × ℕ) × (List ℕ × CreateRest)))

-- Create Session Request (7.2.1)
abbrev pub create : Rows CreateFields
create =
    value true 1 0 imsi ▸
    value true 82 0 (exactly 6) ▸
    value true 87 0 (fteid 0x8a) ▸
    value true 71 0 apn ▸
    create_rest

abbrev pub CreatedFields : Type 0
CreatedFields = ℕ × ((ℕ × ℕ) × (ℕ × ((ℕ × (ℕ × ((ℕ × ℕ) × Nothing))) × Nothing)))

-- Create Session Response (7.2.2)
abbrev pub created : Bool → Rows CreatedFields
created all =
    value true 2 0 cause ▸
    value all 87 0 (fteid 0x8b) ▸
    value all 79 0 address ▸
    group all 93 0 (created_bearer all) ▸
    last

abbrev pub ModifyFields : Type 0
ModifyFields = (ℕ × ((ℕ × ℕ) × Nothing)) × Nothing

-- Modify Bearer Request (7.2.7)
abbrev pub modify : Rows ModifyFields
modify =
    group true 93 0 modify_bearer ▸
    last

abbrev pub ModifiedFields : Type 0
ModifiedFields = ℕ × ((ℕ × (ℕ × Nothing)) × Nothing)

-- Modify Bearer Response (7.2.8)
abbrev pub modified : Bool → Rows ModifiedFields
modified all =
    value true 2 0 cause ▸
    group all 93 0 (modified_bearer all) ▸
    last

-- Delete Session Request (7.2.9.1)
abbrev pub delete : Rows (ℕ × Nothing)
delete =
    value true 73 0 ebi ▸
    last

-- Release Access Bearers Request (7.2.21)
abbrev pub release : Rows Nothing
release = last

-- Delete Session Response (7.2.10.1), Release Access Bearers Response (7.2.22)
abbrev pub cause_alone : Rows (ℕ × Nothing)
cause_alone =
    value true 2 0 cause ▸
    last
