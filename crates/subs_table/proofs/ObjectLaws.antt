-- The object of a line.
use Rattle.std.proofs.Common.{◌≡◌, true, false, Bool, List, ℕ, Some, None, refl}
use Rattle.std.specs.Prelude.{is_some}
use Rattle.std.specs.Str.{IsUtf8, is_utf8}
use Rattle.std.proofs.lemmas.Str.{IsUtf8-from_is_utf8, is_utf8-from_IsUtf8}
use Rattle.serde_json.specs.Data as json
use Rattle.serde_json.specs.Data.{Data}
use Rattle.serde_json.specs.Read.{read}
use Rattle.serde_json.specs.Find.{as_object}
use Rattle.subs_table.specs.Row.{as_row, object_of}

-- a value that is an object is its own row
row_is : (d : Data) → is_some (as_object d) ≡ true → as_row d ≡ Some d
row_is json.null h = cc
row_is (json.boolean b) h = cc
row_is (json.number n) h = cc
row_is (json.string s) h = cc
row_is (json.array ds) h = cc
row_is (json.object ms) h = refl

no_row : (d : Data) → is_some (as_object d) ≡ false → as_row d ≡ None
no_row json.null h = refl
no_row (json.boolean b) h = refl
no_row (json.number n) h = refl
no_row (json.string s) h = refl
no_row (json.array ds) h = refl
no_row (json.object ms) h = cc

-- a line that was read, and whose value is an object
pub object_read : (line : List ℕ) (d : Data) → IsUtf8 line → read line ≡ Some d → is_some (as_object d) ≡ true → object_of line ≡ Some d
unfolding object_of
object_read line d text e h = rw (is_utf8-from_IsUtf8 line text, e) (row_is d h)

-- and whose value is none
pub no_object_read : (line : List ℕ) (d : Data) → IsUtf8 line → read line ≡ Some d → is_some (as_object d) ≡ false → object_of line ≡ None
unfolding object_of
no_object_read line d text e h = rw (is_utf8-from_IsUtf8 line text, e) (no_row d h)

not_read : (line : List ℕ) (b : Bool) → is_utf8 line ≡ b → (IsUtf8 line → read line ≡ None) → object_of line ≡ None
unfolding object_of
not_read line true e h = rw (e, h (IsUtf8-from_is_utf8 line e)) refl
not_read line false e h = rw e refl

-- a line that was refused
pub line_not_read : (line : List ℕ) → (IsUtf8 line → read line ≡ None) → object_of line ≡ None
line_not_read line h = not_read line (is_utf8 line) refl h
