-- Worked logs, computed: the cheapest test of their definitions.
use Rattle.std.proofs.Common.{◌≡◌, [], ◌∷◌, ◌++◌, refl}
use Rattle.disk_log.specs.Record.{LogRecord, head_of, octets_of, record_behind, first_record}
use Rattle.disk_log.specs.Log.{records_behind, log_of, gate_behind, gated}

-- version 3 of device 2, with a session of two octets
one : LogRecord
one = record { device = 2; version = 3; session = 7 ∷ 8 ∷ [] }

octets-of-a-record : octets_of one ≡ 0 ∷ 0 ∷ 0 ∷ 2 ∷ 0 ∷ 0 ∷ 0 ∷ 0 ∷ 0 ∷ 0 ∷ 0 ∷ 3 ∷ 0 ∷ 2 ∷ 7 ∷ 8 ∷ []
unfolding one head_of
octets-of-a-record = refl

empty-file-has-no-record : log_of [] ≡ []
unfolding records_behind
empty-file-has-no-record = refl

open-gate-alone-has-no-record : log_of (1 ∷ []) ≡ []
unfolding first_record records_behind
open-gate-alone-has-no-record = refl

closed-gate-has-no-record : log_of (0 ∷ octets_of one ++ 0 ∷ []) ≡ []
unfolding records_behind
closed-gate-has-no-record = refl

open-gate-has-its-record : log_of (1 ∷ octets_of one ++ 0 ∷ []) ≡ one ∷ []
unfolding one head_of first_record record_behind records_behind
open-gate-has-its-record = refl

record-with-no-next-gate-does-not-count : log_of (1 ∷ octets_of one) ≡ []
unfolding one head_of first_record record_behind records_behind
record-with-no-next-gate-does-not-count = refl

two-open-gates-have-two : log_of (1 ∷ octets_of one ++ 1 ∷ octets_of one ++ 2 ∷ 9 ∷ []) ≡ one ∷ one ∷ []
unfolding one head_of first_record record_behind records_behind
two-open-gates-have-two = refl

third-gate-is-behind-two : gate_behind (one ∷ one ∷ []) ≡ 34
unfolding one
third-gate-is-behind-two = refl

one-octet-becomes-a-closed-gate : gated (1 ∷ []) ≡ 0 ∷ []
one-octet-becomes-a-closed-gate = refl

a-file-of-two-octets-stays : gated (0 ∷ 0 ∷ []) ≡ 0 ∷ 0 ∷ []
a-file-of-two-octets-stays = refl
