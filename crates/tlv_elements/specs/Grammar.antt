-- Tables of elements: which octets they spell, and which refusal is due. How an element is framed is a parameter, F.
use Rattle.std.specs.Prelude.{◌≡◌, ◌⊎◌, ℕ, ◌&&◌, ◌||◌, not, Bool, true, false, List, [], ◌∷◌, ◌++◌, Option, Some, None, Result, Ok, Err, is_some, if◌then◌else◌, ◌==◌}
use Rattle.echo_base.specs.declared.reason.Reason.TheVariants as reasons
use Rattle.echo_base.specs.declared.refusal.Refusal.{Refusal}
use Rattle.echo_base.specs.Field.{Field}
use Rattle.tlv_elements.specs.Element.{Element, Protocol, Rule, refusal_at}
use Rattle.tlv_elements.specs.Reading.{is_of, whole_at, find_at}

-- ---- values

-- a value: which octets stand for it, and how they are read; which values can be written, and how
pub record Form (V : Type 0) : Type 1 where
  pub Means : List ℕ → V → Type 0
  pub decode : List ℕ → Option V
  pub IsValue : V → Type 0
  pub run : V → List ℕ

-- ---- one table

-- a row of a message or a group, with what is said of an element that it names: what is right, and which refusal is due
pub record Law : Type 1 where
  pub rule : Rule
  pub Is : Element → Type 0
  pub Refuses : Element → Refusal → Type 0

-- elements that stand one behind another in octets that end at a place, and what is behind them
abbrev pub Framed : (ℕ → Field Refusal Element) → ℕ → List ℕ → List Element → List ℕ → Type 0
Framed F end s [] t = s ≡ t
Framed F end s (e ∷ es) t = (u : List ℕ) × (F end).Stands s e u × Framed F end u es t

-- whether one of them is of a row
abbrev pub is_there : Rule → List Element → Bool
is_there rule [] = false
is_there rule (e ∷ es) = is_of rule e.tag e.mark || is_there rule es

-- a row, or none
pub data Named : Type 1 where
  unnamed : Named
  named : Law → Named

abbrev pub or_later : Bool → Law → Named → Named
or_later true l later = named l
or_later false l later = later

-- the row of a tag and a mark
abbrev pub law_of : List Law → ℕ → ℕ → Named
law_of [] tag mark = unnamed
law_of (l ∷ ls) tag mark = or_later (is_of l.rule tag mark) l (law_of ls tag mark)

-- an element without a row may stand anywhere; one of a row once, and of the row's form
abbrev pub RightBy : Named → List Element → Element → Type 0
RightBy unnamed before e = Unit {0}
RightBy (named l) before e = (is_there l.rule before ≡ false) × l.Is e

abbrev pub IsRight : List Law → List Element → Element → Type 0
IsRight ls before e = RightBy (law_of ls e.tag e.mark) before e

abbrev pub WrongBy : Protocol → Named → List Element → Element → Refusal → Type 0
WrongBy p unnamed before e x = ⊥
WrongBy p (named l) before e x = ((is_there l.rule before ≡ true) × (x ≡ refusal_at (p.repeated e.tag) e.place)) ⊎ ((is_there l.rule before ≡ false) × l.Refuses e x)

abbrev pub IsWrong : Protocol → List Law → List Element → Element → Refusal → Type 0
IsWrong p ls before e x = WrongBy p (law_of ls e.tag e.mark) before e x

-- each is right behind those before it
abbrev pub AreRight : List Law → List Element → List Element → Type 0
AreRight ls before [] = Unit {0}
AreRight ls before (e ∷ es) = IsRight ls before e × AreRight ls (before ++ e ∷ []) es

-- the first needed row of which there is none
abbrev pub lacks : List Law → List Element → Option ℕ
lacks [] es = None
lacks (l ∷ ls) es = if l.rule.needed && not (is_there l.rule es) then Some l.rule.tag else lacks ls es

-- the octets are these elements, and all are right
abbrev pub SpellsElements : (ℕ → Field Refusal Element) → List Law → ℕ → List ℕ → List Element → Type 0
SpellsElements F ls end octets es = Framed F end octets es [] × AreRight ls [] es

-- right elements, and behind them what is no whole one, or one that is wrong
abbrev pub RefusesElements : (ℕ → Field Refusal Element) → Protocol → List Law → ℕ → List ℕ → Refusal → Type 0
RefusesElements F p ls end octets x = (es : List Element) × ((t : List ℕ) × (Framed F end octets es t × AreRight ls [] es × (t ≡ [] → ⊥) × (((F end).Refuses t x) ⊎ ((e : Element) × ((u : List ℕ) × (F end).Stands t e u × IsWrong p ls es e x)))))

-- with no octets behind them, and none missing
abbrev pub SpellsWhole : (ℕ → Field Refusal Element) → List Law → ℕ → Bool → List ℕ → List Element → Type 0
SpellsWhole F ls end behind octets es = SpellsElements F ls end octets es × (behind ≡ false) × (lacks ls es ≡ None)

abbrev pub RefusesEnd : Protocol → List Law → ℕ → Bool → List Element → Refusal → Type 0
RefusesEnd p ls end behind es x = ((behind ≡ true) × (x ≡ refusal_at reasons.TrailingBytes end)) ⊎ ((behind ≡ false) × ((tag : ℕ) × (lacks ls es ≡ Some tag) × (x ≡ refusal_at (p.missing tag) end)))

abbrev pub RefusesWhole : (ℕ → Field Refusal Element) → Protocol → List Law → ℕ → Bool → List ℕ → Refusal → Type 0
RefusesWhole F p ls end behind octets x = RefusesElements F p ls end octets x ⊎ ((es : List Element) × SpellsElements F ls end octets es × RefusesEnd p ls end behind es x)

-- ---- typed tables: one definition of what is read and written

-- an element that is written, and passed over when it is read: no row names it
pub record Aside : Type 0 where
  pub tag : ℕ
  pub mark : ℕ
  pub octets : List ℕ

mutual
  -- a row: a value, or a group that is a table of its own; the type is that of what it holds
  pub data Row : Type 0 → Type 1 where
    value : {V : Type 0} (needed : Bool) (tag mark : ℕ) → Form V → Row V
    group : {A : Type 0} (needed : Bool) (tag mark : ℕ) → Rows A → Row A

  -- the rows in the order of writing, with what stands aside of them
  infixr 10 ◌▸◌
  infixr 10 ◌▹◌
  pub data Rows : Type 0 → Type 1 where
    last : Rows (Unit {0})
    ◌▸◌ : {A B : Type 0} → Row A → Rows B → Rows (A × B)
    ◌▹◌ : {A : Type 0} → Aside → Rows A → Rows A

abbrev pub wrong_at : Protocol → Element → Refusal
wrong_at p e = refusal_at (p.wrong e.tag) e.place

abbrev pub check_value : {V : Type 0} → Protocol → Form V → Element → Result (Unit {0}) Refusal
check_value p form e = if is_some (form.decode e.value) then Ok tt else Err (wrong_at p e)

abbrev pub is_empty : List ℕ → Bool
is_empty [] = true
is_empty (o ∷ os) = false

-- whether a group with these octets is of wrong form by itself
abbrev pub is_bare : Protocol → List ℕ → Bool
is_bare p octets = not p.takes_empty && is_empty octets

abbrev pub check_group : Protocol → List Rule → Element → Result (Unit {0}) Refusal
check_group p rules e = if is_bare p e.value then Err (wrong_at p e) else whole_at p rules e.stop false e.value

abbrev pub rules_of_laws : List Law → List Rule
rules_of_laws [] = []
rules_of_laws (l ∷ ls) = l.rule ∷ rules_of_laws ls

abbrev pub value_law : {V : Type 0} → Protocol → Bool → ℕ → ℕ → Form V → Law
value_law {V} p needed tag mark form = record {
  rule = record { tag = tag; mark = mark; needed = needed; check = check_value p form };
  Is = λ e. (v : V) × form.Means e.value v;
  Refuses = λ e x. ((v : V) → form.Means e.value v → ⊥) × (x ≡ wrong_at p e);
}

abbrev pub group_law : (ℕ → Field Refusal Element) → Protocol → Bool → ℕ → ℕ → List Law → Law
group_law F p needed tag mark ls = record {
  rule = record { tag = tag; mark = mark; needed = needed; check = check_group p (rules_of_laws ls) };
  Is = λ e. (is_bare p e.value ≡ false) × ((es : List Element) × SpellsWhole F ls e.stop false e.value es);
  Refuses = λ e x. ((is_bare p e.value ≡ true) × (x ≡ wrong_at p e)) ⊎ ((is_bare p e.value ≡ false) × RefusesWhole F p ls e.stop false e.value x);
}

abbrev mutual
  pub law : {A : Type 0} → (ℕ → Field Refusal Element) → Protocol → Row A → Law
  law F p (value needed tag mark form) = value_law p needed tag mark form
  law F p (group needed tag mark rows) = group_law F p needed tag mark (laws F p rows)

  pub laws : {A : Type 0} → (ℕ → Field Refusal Element) → Protocol → Rows A → List Law
  laws F p last = []
  laws F p (row ▸ rest) = law F p row ∷ laws F p rest
  laws F p (aside ▹ rest) = laws F p rest

-- ---- what the elements hold

abbrev pub first : ℕ → ℕ → List Element → Option Element
first tag mark [] = None
first tag mark (e ∷ es) = if tag == e.tag && mark == e.mark then Some e else first tag mark es

abbrev mutual
  pub Holds : {A : Type 0} → (ℕ → Field Refusal Element) → Row A → List Element → A → Type 0
  Holds F (value needed tag mark form) es a = (e : Element) × (first tag mark es ≡ Some e) × form.Means e.value a
  Holds F (group needed tag mark rows) es a = (e : Element) × (first tag mark es ≡ Some e) × ((inner : List Element) × Framed F e.stop e.value inner [] × HoldsAll F rows inner a)

  pub HoldsAll : {A : Type 0} → (ℕ → Field Refusal Element) → Rows A → List Element → A → Type 0
  HoldsAll F last es a = Unit {0}
  HoldsAll F (row ▸ rest) es a = Holds F row es a.0 × HoldsAll F rest es a.1
  HoldsAll F (aside ▹ rest) es a = HoldsAll F rest es a

-- the same as a reader finds it
abbrev pub and_then : {A B : Type 0} → Option A → (A → Option B) → Option B
and_then None f = None
and_then (Some a) f = f a

abbrev pub both : {A B : Type 0} → Option A → Option B → Option (A × B)
both (Some a) (Some b) = Some (a, b)
both (Some a) None = None
both None b = None

abbrev mutual
  pub field_at : {A : Type 0} → Protocol → Row A → ℕ → List ℕ → Option A
  field_at p (value needed tag mark form) end octets = and_then (find_at p end tag mark octets) (λ e. form.decode e.value)
  field_at p (group needed tag mark rows) end octets = and_then (find_at p end tag mark octets) (λ e. fields_at p rows e.stop e.value)

  pub fields_at : {A : Type 0} → Protocol → Rows A → ℕ → List ℕ → Option A
  fields_at p last end octets = Some tt
  fields_at p (row ▸ rest) end octets = both (field_at p row end octets) (fields_at p rest end octets)
  fields_at p (aside ▹ rest) end octets = fields_at p rest end octets

-- the octets spell, by a table, what make makes of its fields
abbrev pub SpellsTable : {A B : Type 0} → (ℕ → Field Refusal Element) → Protocol → Rows A → (A → B) → ℕ → Bool → List ℕ → B → Type 0
SpellsTable {A} F p rows make end behind octets b = (es : List Element) × SpellsWhole F (laws F p rows) end behind octets es × ((a : A) × HoldsAll F rows es a × (b ≡ make a))

abbrev pub rules : {A : Type 0} → (ℕ → Field Refusal Element) → Protocol → Rows A → List Rule
rules F p rows = rules_of_laws (laws F p rows)

-- ---- what is written

abbrev mutual
  pub row_run : {A : Type 0} → (ℕ → ℕ → List ℕ → List ℕ) → Row A → A → List ℕ
  row_run frame (value needed tag mark form) a = frame tag mark (form.run a)
  row_run frame (group needed tag mark rows) a = frame tag mark (rows_run frame rows a)

  pub rows_run : {A : Type 0} → (ℕ → ℕ → List ℕ → List ℕ) → Rows A → A → List ℕ
  rows_run frame last a = []
  rows_run frame (row ▸ rest) a = row_run frame row a.0 ++ rows_run frame rest a.1
  rows_run frame (aside ▹ rest) a = frame aside.tag aside.mark aside.octets ++ rows_run frame rest a
