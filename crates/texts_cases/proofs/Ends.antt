-- Ends of devices whose downs can be written.
use Rattle.std.proofs.Common.{◌≡◌, List, [], ◌∷◌, length, refl, arith}
use Rattle.std.proofs.lemmas.List.Elements.{All-nil}
use Rattle.device_types.specs.declared.finals.DeviceEnd.{DeviceEnd}
use Rattle.device_types.specs.declared.subscriber.Subscriber.{Subscriber}
use Rattle.device_types.specs.Down.{IsDown}
use Rattle.device_types.specs.Finals.{IsEndOf}
use Rattle.report_text.specs.Final.{AreEnds}

quiet_end : (row : Subscriber) (end : DeviceEnd) → end.downs ≡ [] → IsEndOf row end
quiet_end row end none = rw none (All-nil (IsDown row))

-- that of the one device of a table, to which nothing goes
pub one_end : (rows : List Subscriber) (finals : List DeviceEnd) (end : DeviceEnd) → length rows ≡ 1 → finals ≡ end ∷ [] → end.downs ≡ [] → AreEnds rows finals
one_end [] finals end one is none = absurd (omega (arith, one))
one_end (row ∷ []) finals end one is none = rw is (record { count = refl; downs = (quiet_end row end none, tt) })
one_end (row ∷ other ∷ rows) finals end one is none = absurd (omega (arith, one))

-- those of two devices
pub two_ends : (rows : List Subscriber) (finals : List DeviceEnd) (one two : Subscriber) (first second : DeviceEnd) → rows ≡ one ∷ two ∷ [] → finals ≡ first ∷ second ∷ [] → IsEndOf one first → IsEndOf two second → AreEnds rows finals
two_ends rows finals one two first second are is f s = rw (are, is) (record { count = refl; downs = (f, (s, tt)) })
