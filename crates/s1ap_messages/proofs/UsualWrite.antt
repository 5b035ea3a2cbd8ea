-- Octets that are put one behind another, as those of a message.
use Rattle.std.proofs.Common.{◌≡◌, ℕ, ◌+◌, ◌*◌, List, [], ◌∷◌, ◌++◌, length, sym, ap, ◌∙◌, append_assoc, arith}
use Rattle.std.proofs.lemmas.List.{append-nil, length-append}
use Rattle.s1ap_ies.specs.declared.erab_to_setup.ErabToSetup.{ErabToSetup}
use Rattle.aper_octets.specs.Octets.{count_octets, counted, four_octets, least_octets, number_octets, ie_octets}
use Rattle.s1ap_messages.specs.Usual.{nas_octets, setup_octets, items_octets, erabs_octets}
use Rattle.aper_octets.proofs.Lengths.{counted_length}

-- a content behind the head of an IE
pub ie_put : (front head all content : List ℕ) (id criticality len : ℕ) → head ≡ front ++ 0 ∷ id ∷ 64 * criticality ∷ count_octets len → all ≡ head ++ content → len ≡ length content → all ≡ front ++ ie_octets id criticality content
unfolding ie_octets counted
ie_put front head all content id criticality len h a l =
    a ∙ rw (h, l) (append_assoc front (0 ∷ id ∷ 64 * criticality ∷ count_octets (length content)) content)

pub number_length : (before unit n : ℕ) → length (number_octets before unit n) ≡ length (least_octets n) + 1
unfolding number_octets
number_length before unit n = omega arith

-- two numbers behind the head of an IE
pub two_put : (front head one all a b : List ℕ) (id criticality len : ℕ) → head ≡ front ++ 0 ∷ id ∷ 64 * criticality ∷ count_octets len → one ≡ head ++ a → all ≡ one ++ b → len ≡ length a + length b → all ≡ front ++ ie_octets id criticality (a ++ b)
two_put front head one all a b id criticality len h o e l =
    ie_put front head all (a ++ b) id criticality len h (e ∙ rw o (append_assoc head a b)) (l ∙ sym (length-append a b))

setup_length : (erab : ErabToSetup) (more : ℕ) → more ≡ length (nas_octets erab.nas) → more + 14 ≡ length (setup_octets erab)
unfolding setup_octets four_octets
setup_length erab more m = omega (arith, m)

ie_length : (id criticality : ℕ) (content : List ℕ) → length (ie_octets id criticality content) ≡ 3 + (length (count_octets (length content)) + length content)
unfolding ie_octets
ie_length id criticality content = omega (arith, counted_length content)

-- a list of one item
pub setups_put : (out head count item all : List ℕ) (erab : ErabToSetup) (id criticality k more : ℕ) → more ≡ length (nas_octets erab.nas) → k ≡ length (count_octets (more + 14)) → head ≡ out ++ 0 ∷ id ∷ 64 * criticality ∷ count_octets (k + (more + 14) + 4) → count ≡ head ++ 0 ∷ [] → item ≡ count ++ 0 ∷ 52 ∷ 0 ∷ count_octets (more + 14) → all ≡ item ++ setup_octets erab → all ≡ out ++ ie_octets id criticality (erabs_octets 52 0 setup_octets (erab ∷ []))
unfolding erabs_octets items_octets
setups_put out head count item all erab id criticality k more m l h c i a =
    let n : more + 14 ≡ length (setup_octets erab) = setup_length erab more m in
    let one : all ≡ count ++ ie_octets 52 0 (setup_octets erab) = ie_put count item all (setup_octets erab) 52 0 (more + 14) i a n in
    let e : ie_octets 52 0 (setup_octets erab) ++ [] ≡ ie_octets 52 0 (setup_octets erab) = append-nil (ie_octets 52 0 (setup_octets erab)) in
    let whole : k + (more + 14) + 4 ≡ length (0 ∷ ie_octets 52 0 (setup_octets erab)) = omega (arith, l, ie_length 52 0 (setup_octets erab), ap (λ (x : ℕ). length (count_octets x)) n, n) in
    rw e (ie_put out head all (0 ∷ ie_octets 52 0 (setup_octets erab)) id criticality (k + (more + 14) + 4) h (one ∙ rw c (append_assoc head (0 ∷ []) (ie_octets 52 0 (setup_octets erab)))) whole)
