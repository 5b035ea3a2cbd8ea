-- Fields of octets are read exactly, and the runs that are written for them are read back.
use Rattle.std.proofs.Common.{◌≡◌, ℕ, ◌+◌, ◌*◌, ◌^◌, ◌/◌, ◌%◌, ◌<◌, ◌≤◌, false, ltb, List, [], ◌∷◌, ◌++◌, length, take, drop, Ok, Err, refl, sym, ap, ◌∙◌, arith}
use Rattle.std.proofs.lemmas.Bool.{ltb-true, ltb-false, lt-ltb, le-ltb}
use Rattle.std.proofs.lemmas.List.{append-nil, take_at, drop_at, take-append-drop, length-append, length-take}
use Rattle.byteorder.specs.Endian.{big_number}
use Rattle.byteorder.specs.Numbers.{length-bytes_high_first, big_number-reads_back}
use Rattle.echo_base.specs.Format.{IsExactly, IsReadBack}
use Rattle.echo_base.specs.Field.{octet_in, octets_in, number_in, counted_in, long_counted_in, octet_at, octets_at, number_at, counted_at, long_counted_at, number_run, counted_run, long_counted_run}
use Rattle.echo_base.proofs.Answers.{ok_err, ok_parts, err_is, refused_ok, refused_err}
use Rattle.echo_base.proofs.Formats.{just_exactly, behind}

octet_found : {E : Type 0} (short : E) (octets : List ℕ) (v : ℕ) (rest : List ℕ) → octet_at short octets ≡ Ok (v, rest) → octets ≡ v ∷ rest
unfolding octet_at
octet_found short [] v rest h = absurd (ok_err (v, rest) short (sym h))
octet_found short (o ∷ os) v rest h = (let e = ok_parts o v os rest h in rw (e.0, e.1) refl)

octet_wrong : {E : Type 0} (short : E) (octets : List ℕ) (e : E) → octet_at short octets ≡ Err e → (octets ≡ []) × (e ≡ short)
unfolding octet_at
octet_wrong short [] e h = (refl, sym (err_is short e h))
octet_wrong short (o ∷ os) e h = absurd (ok_err (o, os) e h)

pub octet_exactly : {E : Type 0} (short : E) → IsExactly (octet_in short) (octet_at short)
unfolding octet_at
octet_exactly short = record {
  found = octet_found short;
  only = λ octets v rest s. rw s refl;
  wrong = octet_wrong short;
  refused = λ octets e h. rw (h.0, h.1) refl;
}

pub octets_exactly : {E : Type 0} (short : E) (n : ℕ) → IsExactly (octets_in short n) (octets_at short n)
unfolding octets_at
octets_exactly short n = record {
  found = λ octets v rest h.
      let t = refused_ok (ltb (length octets) n) short (take n octets, drop n octets) (v, rest) h in
      let long : n ≤ length octets = ltb-false _ _ t.0 in
      let taken : take n octets ≡ v = ap (λ (x : List ℕ × List ℕ). x.0) t.1 in
      let dropped : drop n octets ≡ rest = ap (λ (x : List ℕ × List ℕ). x.1) t.1 in
      (rw (← taken, ← dropped) (sym (take-append-drop n octets)), omega (arith, ap length taken, length-take n octets));
  only = λ octets v rest s.
      let long : ltb (length (v ++ rest)) n ≡ false = le-ltb _ _ (omega (arith, s.1, length-append v rest)) in
      rw (s.0, long, take_at v rest n s.1, drop_at v rest n s.1) refl;
  wrong = λ octets e h.
      let t = refused_err (ltb (length octets) n) short e (take n octets, drop n octets) h in
      (ltb-true _ _ t.0, t.1);
  refused = λ octets e h. rw (lt-ltb (length octets) n h.0, h.1) refl;
}

pub number_exactly : {E : Type 0} (short : E) (n : ℕ) → IsExactly (number_in short n) (number_at short n)
unfolding number_in number_at
number_exactly short n = behind _ _ _ _ (octets_exactly short n) (λ octets. just_exactly _)

pub counted_exactly : {E : Type 0} (short : E) → IsExactly (counted_in short) (counted_at short)
unfolding counted_in counted_at
counted_exactly short = behind _ _ _ _ (octet_exactly short) (octets_exactly short)

pub long_counted_exactly : {E : Type 0} (short : E) → IsExactly (long_counted_in short) (long_counted_at short)
unfolding long_counted_in long_counted_at
long_counted_exactly short = behind _ _ _ _ (octet_exactly short) (λ high. behind _ _ _ _ (octet_exactly short) (λ low. octets_exactly short (256 * high + low)))

-- ---- what is written is read back

pub number_back : {E : Type 0} (short : E) (n v : ℕ) → v < 256 ^ n → IsReadBack (number_in short n) (λ rest. number_run n v ++ rest) v
unfolding number_in
number_back short n v fits rest =
    let octets = number_run n v in
    let value : v ≡ big_number n octets = sym (big_number-reads_back n v [] fits) ∙ ap (big_number n) (append-nil octets) in
    (octets, rest, (refl, length-bytes_high_first n v), (value, refl))

pub counted_back : {E : Type 0} (short : E) (octets : List ℕ) → IsReadBack (counted_in short) (λ rest. counted_run octets ++ rest) octets
unfolding counted_in
counted_back short octets rest = (length octets, octets ++ rest, refl, (refl, refl))

pub long_counted_back : {E : Type 0} (short : E) (octets : List ℕ) → length octets < 65536 → IsReadBack (long_counted_in short) (λ rest. long_counted_run octets ++ rest) octets
unfolding long_counted_in
long_counted_back short octets few rest =
    let n = length octets in
    (n / 256 % 256, n % 256 ∷ octets ++ rest, refl, (n % 256, octets ++ rest, refl, (refl, omega arith)))
