-- Whether octets are a form of a session, by the session that is read from them.
use Rattle.std.proofs.Common.{◌≡◌, ℕ, Bool, false, List, sym, ap, ◌∙◌, subst}
use Rattle.std.specs.Bool.{Decides}
use Rattle.std.proofs.lemmas.Bool.{true≢false}
use Rattle.device_types.specs.declared.session.Session.{Session}
use Rattle.device_types.specs.Octets.{AreOctets}
use Rattle.device_types.specs.Session.{IsSession}
use Rattle.session_form.specs.Form.{form_of, IsFormOf}
use Rattle.session_form.proofs.Sessions.{in_range, is_form, one_session, read_in_range}

-- octets that a session is read from, by what is written for it again
pub read_again : (os written own : List ℕ) (read s : Session) (eq : Bool) → IsFormOf os read → ((t : Session) → IsFormOf os t → read ≡ t) → AreOctets written → written ≡ form_of read → IsSession s → own ≡ form_of s → Decides eq (written ≡ own) → Decides eq (IsFormOf os s)
read_again os written own read s eq form only are is_written range is_own decides = (
  (λ yes.
      let of_read = is_form read (read_in_range os read form) written is_written in
      let of_own = is_form s (in_range s range) written (decides.0 yes ∙ is_own) in
      subst (IsFormOf os) (one_session written read s are of_read of_own) form),
  (λ has. decides.1 (is_written ∙ ap form_of (only s has) ∙ sym is_own)),
)

-- octets that none is read from
pub none_read : (os : List ℕ) (s : Session) → ((t : Session) → IsFormOf os t → ⊥) → Decides false (IsFormOf os s)
none_read os s none = (λ yes. absurd (true≢false (sym yes)), λ has. absurd (none s has))
