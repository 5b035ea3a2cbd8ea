-- The types of messages (3GPP TS 29.274, 6.1).
use Rattle.std.specs.Prelude.{ℕ, ◌==◌, Bool, true, false, Option, Some, None, if◌then◌else◌}
use Rattle.gtp2_wire.specs.declared.kind.Kind.{Kind}
use Rattle.gtp2_wire.specs.declared.kind.Kind.TheVariants.{Create, Created, Modify, Modified, Delete, Deleted, Release, Released}

abbrev pub type_of : Kind → ℕ
type_of Create = 32
type_of Created = 33
type_of Modify = 34
type_of Modified = 35
type_of Delete = 36
type_of Deleted = 37
type_of Release = 170
type_of Released = 171

abbrev pub kind_of : ℕ → Option Kind
kind_of octet = if octet == 32 then Some Create else (if octet == 33 then Some Created else (if octet == 34 then Some Modify else (if octet == 35 then Some Modified else (if octet == 36 then Some Delete else (if octet == 37 then Some Deleted else (if octet == 170 then Some Release else (if octet == 171 then Some Released else None)))))))

-- an answer begins with a cause
abbrev pub is_answer : Kind → Bool
is_answer Create = false
is_answer Created = true
is_answer Modify = false
is_answer Modified = true
is_answer Delete = false
is_answer Deleted = true
is_answer Release = false
is_answer Released = true
