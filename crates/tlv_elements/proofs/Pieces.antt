-- Each piece is read as what its octets mean, and what is written for a value means it.
use Rattle.std.proofs.Common.{◌≡◌, ℕ, ◌≤◌, ◌&&◌, eqb, leb, Bool, true, false, List, [], ◌∷◌, ◌++◌, length, Some, Ok, Err, refl, sym, ap, ◌∙◌, subst, eq-eqb}
use Rattle.std.proofs.lemmas.Bool.{eqb-true, leb-true, le-leb}
use Rattle.std.proofs.lemmas.List.{append-nil, append_assoc}
use Rattle.std.proofs.lemmas.Option.{same_Some}
use Rattle.echo_base.specs.declared.refusal.Refusal.{Refusal}
use Rattle.echo_base.specs.Format as formats
use Rattle.echo_base.specs.Format.{IsExactly, Decides, just}
use Rattle.echo_base.specs.Field.{Field, FieldReader}
use Rattle.echo_base.specs.Reading.{Read}
use Rattle.echo_base.proofs.Answers.{ok_of, err_of, ok_err, ok_parts, err_is}
use Rattle.echo_base.proofs.Formats.{just_exactly, known_exactly}
use Rattle.echo_base.proofs.Formats as laws
use Rattle.echo_base.proofs.Fields.{octet_exactly, octets_exactly, number_exactly, counted_exactly, number_back, counted_back}
use Rattle.tlv_elements.specs.Piece.{Piece, given, unread, octet, number, counted, among, behind, before, also, due, Passes, passing, given_in, given_at, piece_in, piece_at, IsPiece, piece_run, value_read, leading, alone, end_in, end_at}

-- ---- tests

pub passing_decides : {V : Type 0} (b : Bool) (v : V) (P : Type 0) → (b ≡ true → P) → (P → b ≡ true) → Decides (passing b v) (Passes P v)
passing_decides {V} true v P to from = record {
  found = λ w h. (sym (same_Some v w h), to refl);
  only = λ w p. ap (λ x. Some x) (sym p.0);
}
passing_decides {V} false v P to from = record {
  found = λ w h. absurd cc;
  only = λ w p. absurd (let t = from p.1 in cc);
}

pub both_true : (a b : Bool) (P Q : Type 0) → (a ≡ true → P) → (b ≡ true → Q) → (a && b) ≡ true → P × Q
both_true true true P Q p q h = (p refl, q refl)
both_true true false P Q p q h = absurd cc
both_true false b P Q p q h = absurd cc

-- a number from least to most, of any value
pub between : {V : Type 0} (least most n : ℕ) (v : V) → Decides (passing (leb least n && leb n most) v) (Passes ((least ≤ n) × (n ≤ most)) v)
between least most n v = passing_decides (leb least n && leb n most) v ((least ≤ n) × (n ≤ most)) (λ h. both_true (leb least n) (leb n most) (least ≤ n) (n ≤ most) (λ h. leb-true _ _ h) (λ h. leb-true _ _ h) h) (λ p. rw (le-leb least n p.0, le-leb n most p.1) refl)

-- ---- pieces

given_exactly : {E : Type 0} (short : E) (wanted : ℕ) → IsExactly (given_in short wanted) (given_at short wanted)
unfolding given_in given_at
given_exactly short wanted = laws.behind _ _ _ _ (octet_exactly short) (λ octet. known_exactly (passing (eqb octet wanted) tt) (Passes (octet ≡ wanted) tt) short (passing_decides (eqb octet wanted) tt (octet ≡ wanted) (λ h. eqb-true octet wanted h) (λ e. eq-eqb octet wanted e)))

pub piece_exactly : {A : Type 0} (p : Piece A) → IsExactly (piece_in p) (piece_at p)
unfolding piece_in piece_at
piece_exactly (given wanted) = given_exactly due wanted
piece_exactly (unread octets) = laws.behind _ _ _ _ (octets_exactly due (length octets)) (λ octets. just_exactly _)
piece_exactly octet = octet_exactly due
piece_exactly (number n) = number_exactly due n
piece_exactly (counted least most) = laws.behind _ _ _ _ (counted_exactly due) (λ v. known_exactly _ _ due (between least most (length v) v))
piece_exactly (among least most p) = laws.behind _ _ _ _ (piece_exactly p) (λ v. known_exactly _ _ due (between least most v v))
piece_exactly (behind wanted p) = laws.behind _ _ _ _ (given_exactly due wanted) (λ front. piece_exactly p)
piece_exactly (before p wanted) = laws.behind _ _ _ _ (piece_exactly p) (λ v. laws.behind _ _ _ _ (given_exactly due wanted) (λ back. just_exactly _))
piece_exactly (also p q) = laws.behind _ _ _ _ (piece_exactly p) (λ v. laws.behind _ _ _ _ (piece_exactly q) (λ w. just_exactly _))

end_exactly : {E : Type 0} (e : E) → IsExactly (end_in e) (end_at e)
end_exactly {E} e = record {
  found = found;
  only = λ s v t h. rw (h.0, h.1) refl;
  wrong = wrong;
  refused = refused;
}
  where
    found : (s : List ℕ) (v : Unit {0}) (t : List ℕ) → end_at e s ≡ Ok (v, t) → (s ≡ []) × (t ≡ [])
    found [] v t h = (refl, sym (ok_parts {E = E} tt v [] t h).1)
    found (o ∷ os) v t h = absurd (ok_err (v, t) e (sym h))

    wrong : (s : List ℕ) (x : E) → end_at e s ≡ Err x → (s ≡ [] → ⊥) × (x ≡ e)
    wrong [] x h = absurd (ok_err (tt, []) x h)
    wrong (o ∷ os) x h = ((λ n. cc), sym (err_is {A = Unit {0} × List ℕ} e x h))

    refused : (s : List ℕ) (x : E) → (s ≡ [] → ⊥) × (x ≡ e) → end_at e s ≡ Err x
    refused [] x h = absurd (h.0 refl)
    refused (o ∷ os) x h = ap err_of (sym h.1)

-- ---- the values of elements

read_decides : {V : Type 0} (F : Field Refusal V) (f : FieldReader Refusal V) → IsExactly F f → (octets : List ℕ) → Decides (value_read (f octets)) (λ v. (rest : List ℕ) × F.Stands octets v rest)
read_decides {V} F f is octets = record {
  found = λ v h. found (f octets) refl v h;
  only = λ v m. rw (is.only octets v m.0 m.1) refl;
}
  where
    found : (r : Read (List ℕ) Refusal V) → f octets ≡ r → (v : V) → value_read r ≡ Some v → (rest : List ℕ) × F.Stands octets v rest
    found (Ok x) e v h = (x.1, is.found octets v x.1 (e ∙ ap (λ w. ok_of (w, x.1)) (same_Some x.0 v h)))
    found (Err x) e v h = absurd cc

pub leading_decides : {V : Type 0} (p : Piece V) (octets : List ℕ) → Decides ((leading p).decode octets) ((leading p).Means octets)
leading_decides p octets = read_decides (piece_in p) (piece_at p) (piece_exactly p) octets

abbrev ended_in : {V : Type 0} → Piece V → Field Refusal V
ended_in p = formats.◌>>=◌ (piece_in p) (λ v. formats.◌>>=◌ (end_in due) (λ end. just v))

pub alone_decides : {V : Type 0} (p : Piece V) (octets : List ℕ) → Decides ((alone p).decode octets) ((alone p).Means octets)
alone_decides {V} p octets =
    let d = read_decides (ended_in p) _ (laws.behind _ _ _ _ (piece_exactly p) (λ v. laws.behind _ _ _ _ (end_exactly due) (λ end. just_exactly _))) octets in
    record {
      found = λ v h. (let m = d.found v h in subst (λ w. (piece_in p).Stands octets w []) (sym m.1.3.3.0) (subst (λ t. (piece_in p).Stands octets m.1.0 t) m.1.3.2.0 m.1.2));
      only = λ v m. d.only v ([], (v, [], m, (tt, [], (refl, refl), (refl, refl))));
    }

-- ---- what is written

pub piece_back : {A : Type 0} (p : Piece A) (v : A) → IsPiece p v → (rest : List ℕ) → (piece_in p).Stands (piece_run p v ++ rest) v rest
unfolding piece_in given_in
piece_back (given wanted) v is rest = (wanted, rest, refl, ((refl, refl), refl))
piece_back (unread octets) v is rest = (octets, rest, (refl, refl), (refl, refl))
piece_back octet v is rest = refl
piece_back (number n) v is rest = number_back due n v is rest
piece_back (counted least most) v is rest = (v, rest, counted_back due v rest, ((refl, is), refl))
piece_back (among least most p) v is rest = (v, rest, piece_back p v is.0 rest, ((refl, (is.1, is.2)), refl))
piece_back (behind wanted p) v is rest = (tt, piece_run p v ++ rest, (wanted, piece_run p v ++ rest, refl, ((refl, refl), refl)), piece_back p v is rest)
piece_back (before p wanted) v is rest = (v, wanted ∷ rest, rw (append_assoc (piece_run p v) (wanted ∷ []) rest) (piece_back p v is (wanted ∷ rest)), (tt, rest, (wanted, rest, refl, ((refl, refl), refl)), (refl, refl)))
piece_back (also p q) v is rest = (v.0, piece_run q v.1 ++ rest, rw (append_assoc (piece_run p v.0) (piece_run q v.1) rest) (piece_back p v.0 is.0 (piece_run q v.1 ++ rest)), (v.1, rest, piece_back q v.1 is.1 rest, (refl, refl)))

pub leading_written : {V : Type 0} (p : Piece V) (v : V) → IsPiece p v → (leading p).Means ((leading p).run v) v
leading_written p v is = ([], subst (λ s. (piece_in p).Stands s v []) (append-nil (piece_run p v)) (piece_back p v is []))

pub alone_written : {V : Type 0} (p : Piece V) (v : V) → IsPiece p v → (alone p).Means ((alone p).run v) v
alone_written p v is = subst (λ s. (piece_in p).Stands s v []) (append-nil (piece_run p v)) (piece_back p v is [])
