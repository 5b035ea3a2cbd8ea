-- The octets of lists of E-RABs.
use Rattle.std.proofs.Common.{◌≡◌, ℕ, ◌+◌, ◌-◌, ◌*◌, ◌^◌, ◌<◌, ◌≤◌, Bool, cond, List, [], ◌∷◌, ◌++◌, length, Option, Some, None, is_some, IfSome, refl, ap, ◌∙◌, append_assoc, arith}
use Rattle.std.specs.List.{AllByRecursion}
use Rattle.std.proofs.lemmas.List.{length-append}
use Rattle.aper_fields.specs.Bits.{bits, bits_of, zeros}
use Rattle.aper_fields.specs.Run.{Run, fixed_bits_run, number_run, octet_string_run}
use Rattle.aper_fields.specs.Spelling.{IsOctets}
use Rattle.aper_fields.proofs.BitLaws.{bits_of-append}
use Rattle.aper_fields.proofs.Periodic.{octet_string_periodic}
use Rattle.s1ap_ies.specs.declared.erab_done.ErabDone.{ErabDone}
use Rattle.s1ap_ies.specs.declared.erab_to_setup.ErabToSetup.{ErabToSetup}
use Rattle.s1ap_ies.specs.Run.{IsErabDone, IsErabToSetup, IsNas}
use Rattle.aper_fields.specs.Asn1.{run, flags_run, fields_run, part_run, present_run, each_run, list_run, item_run}
use Rattle.s1ap_ies.specs.Values as types
use Rattle.aper_octets.specs.Octets.{count_octets, counted, four_octets, ie_octets}
use Rattle.s1ap_messages.specs.Usual.{done_octets, nas_octets, setup_octets, items_octets, erabs_octets}
use Rattle.s1ap_messages.proofs.UsualBits.{AreOctets, octets_then, octets_at_start, four_is, join, framed, Contains, contains_octets, item_is}
use Rattle.s1ap_messages.proofs.UsualValues.{count_few, text_is}

-- ---- E-RABs that were set up

done_parts : (v : ErabDone) → run types.erab_done v 0 ≡ bits 3 0 ++ (bits 4 (v.id - 0) ++ (zeros 1 ++ (bits 8 31 ++ (bits 32 v.address ++ bits 32 v.teid))))
unfolding run flags_run fields_run types.erab_done fixed_bits_run number_run bits lib.Count.count_leading_zeros
done_parts v = refl

done_first : (id : ℕ) → id < 16 → bits 3 0 ++ (bits 4 id ++ zeros 1) ≡ bits 8 (2 * id)
done_first id small =
    let e : 0 * 2 ^ 5 + (id * 2 ^ 1 + 0) ≡ 2 * id = omega arith in
    framed 3 4 1 0 id (omega (arith, small)) ∙ ap (bits 8) e

pub done_is : (v : ErabDone) → IsErabDone v → Contains (run types.erab_done v 0) (done_octets v)
unfolding bits_of done_octets
done_is v right =
    let m : v.id - 0 ≡ v.id = omega arith in
    contains_octets (run types.erab_done v 0) (done_octets v) (omega arith) (rw (done_parts v, m, bits_of-append (four_octets v.address) (four_octets v.teid), four_is v.address, four_is v.teid, ← done_first v.id right.0) (simp append_assoc))

-- ---- E-RABs that are to be set up

nas_are : (nas : Option (List ℕ)) → IfSome nas IsNas → AreOctets (part_run octet_string_run nas) (nas_octets nas)
unfolding nas_octets bits_of
nas_are None right = λ k. refl
nas_are (Some nas) right = octets_at_start _ _ (octet_string_periodic nas) (text_is nas (omega (arith, right)))

setup_parts : (v : ErabToSetup) → run types.erab_to_setup v 0 ≡ bits 1 0 ++ (bits 1 (cond (is_some v.nas) 1 0) ++ (bits 2 0 ++ (bits 4 (v.id - 0) ++ (bits 8 0 ++ (bits 8 (v.qci - 0) ++ (bits 2 0 ++ (bits 6 v.arp ++ (bits 8 15 ++ (bits 8 128 ++ (bits 32 v.address ++ (bits 32 v.teid ++ part_run octet_string_run v.nas 112)))))))))))
unfolding run flags_run fields_run types.erab_to_setup present_run fixed_bits_run number_run bits lib.Count.count_leading_zeros
setup_parts v = refl

setup_first : (b id : ℕ) → b ≤ 1 → id < 16 → bits 1 0 ++ (bits 1 b ++ (bits 2 0 ++ bits 4 id)) ≡ bits 8 (64 * b + id)
setup_first b id one small =
    let low = 0 * 2 ^ 4 + id in
    let all = b * 2 ^ 6 + low in
    let e : 0 * 2 ^ 7 + all ≡ 64 * b + id = omega arith in
    rw (join 2 4 0 id (omega (arith, small)), join 1 6 b low (omega (arith, small)), join 1 7 0 all (omega (arith, one, small)), e) refl

setup_arp : (arp : ℕ) → arp < 64 → bits 2 0 ++ bits 6 arp ≡ bits 8 arp
setup_arp arp small =
    let e : 0 * 2 ^ 6 + arp ≡ arp = omega arith in
    join 2 6 0 arp small ∙ ap (bits 8) e

present_is : (nas : Option (List ℕ)) → (64 * cond (is_some nas) 1 0 ≡ cond (is_some nas) 64 0) × (cond (is_some nas) 1 0 ≤ 1)
present_is None = (refl, omega arith)
present_is (Some nas) = (refl, omega arith)

pub setup_is : (v : ErabToSetup) → IsErabToSetup v → Contains (run types.erab_to_setup v 0) (setup_octets v)
unfolding bits_of setup_octets
setup_is v right =
    let i : v.id - 0 ≡ v.id = omega arith in
    let q : v.qci - 0 ≡ v.qci = omega arith in
    let p = present_is v.nas in
    let n : part_run octet_string_run v.nas 112 ≡ bits_of (nas_octets v.nas) = nas_are v.nas right.5 14 in
    contains_octets (run types.erab_to_setup v 0) (setup_octets v) (omega arith)
    (rw (setup_parts v, i, q, n, ← p.0, bits_of-append (four_octets v.address) (four_octets v.teid ++ nas_octets v.nas), bits_of-append (four_octets v.teid) (nas_octets v.nas), four_is v.address, four_is v.teid, ← setup_first (cond (is_some v.nas) 1 0) v.id p.1 right.0, ← setup_arp v.arp right.2) (simp append_assoc))

nas_few : (nas : Option (List ℕ)) → IfSome nas IsNas → length (nas_octets nas) ≤ 2050
unfolding nas_octets counted
nas_few None right = omega arith
nas_few (Some nas) right = omega (arith, right, count_few (length nas), length-append (count_octets (length nas)) nas)

pub setup_few : (v : ErabToSetup) → IsErabToSetup v → length (setup_octets v) < 16384
unfolding setup_octets four_octets
setup_few v right = omega (arith, nas_few v.nas right.5)

pub done_few : (v : ErabDone) → length (done_octets v) < 16384
unfolding done_octets four_octets
done_few v = omega arith

-- ---- lists

-- what each item contains
abbrev AreContained : {A : Type 0} → (A → Run) → (A → List ℕ) → List A → Type 0
AreContained run octets xs = AllByRecursion (λ x. Contains (run x 0) (octets x) × (length (octets x) < 16384)) xs

items_are : {A : Type 0} (id criticality : ℕ) (run : A → Run) (octets : A → List ℕ) (xs : List A) → id < 256 → AreContained run octets xs → AreOctets (each_run (λ x. item_run id criticality (run x 0)) xs) (items_octets id criticality octets xs)
unfolding each_run items_octets bits_of
items_are id criticality run octets [] small all = λ k. refl
items_are id criticality run octets (x ∷ xs) small all =
    octets_then (item_run id criticality (run x 0)) (each_run (λ x. item_run id criticality (run x 0)) xs) (ie_octets id criticality (octets x)) (items_octets id criticality octets xs) (item_is id criticality (run x 0) (octets x) small all.0.0 all.0.1) (items_are id criticality run octets xs small all.1)

erabs_parts : {A : Type 0} (id criticality : ℕ) (run : A → Run) (xs : List A) → list_run 1 256 (λ x. item_run id criticality (run x 0)) xs 0 ≡ bits 8 (length xs - 1) ++ each_run (λ x. item_run id criticality (run x 0)) xs 8
unfolding list_run number_run bits
erabs_parts id criticality run xs = refl

erabs_are : {A : Type 0} (id criticality : ℕ) (run : A → Run) (octets : A → List ℕ) (xs : List A) → id < 256 → AreContained run octets xs → Contains (list_run 1 256 (λ x. item_run id criticality (run x 0)) xs 0) (erabs_octets id criticality octets xs)
unfolding bits_of erabs_octets
erabs_are id criticality run octets xs small all =
    contains_octets _ ((length xs - 1) ∷ items_octets id criticality octets xs) (omega arith) (erabs_parts id criticality run xs ∙ ap (λ (y : List Bool). bits 8 (length xs - 1) ++ y) (items_are id criticality run octets xs small all 1))

each_done : (xs : List ErabDone) → AllByRecursion IsErabDone xs → AreContained (run types.erab_done) done_octets xs
each_done [] right = tt
each_done (x ∷ xs) right = ((done_is x right.0, done_few x), each_done xs right.1)

each_setup : (xs : List ErabToSetup) → AllByRecursion IsErabToSetup xs → AreContained (run types.erab_to_setup) setup_octets xs
each_setup [] right = tt
each_setup (x ∷ xs) right = ((setup_is x right.0, setup_few x right.0), each_setup xs right.1)

pub dones_are : (xs : List ErabDone) → AllByRecursion IsErabDone xs → Contains (run types.erabs_done xs 0) (erabs_octets 50 1 done_octets xs)
unfolding run
dones_are xs right = erabs_are 50 1 (run types.erab_done) done_octets xs (omega arith) (each_done xs right)

pub setups_are : (xs : List ErabToSetup) → AllByRecursion IsErabToSetup xs → Contains (run types.erabs_to_setup xs 0) (erabs_octets 52 0 setup_octets xs)
unfolding run
setups_are xs right = erabs_are 52 0 (run types.erab_to_setup) setup_octets xs (omega arith) (each_setup xs right)

-- ---- their strings are octets

pub octets_behind : (a b : List ℕ) → IsOctets (a ++ b) → IsOctets a × IsOctets b
octets_behind [] b h = (tt, h)
octets_behind (x ∷ a) b h = let r = octets_behind a b h.1 in ((h.0, r.0), r.1)

pub counted_behind : (octets : List ℕ) → IsOctets (counted octets) → IsOctets octets
unfolding counted
counted_behind octets h = (octets_behind (count_octets (length octets)) octets h).1

nas_behind : (nas : Option (List ℕ)) → IsOctets (nas_octets nas) → IfSome nas IsOctets
unfolding nas_octets
nas_behind None h = tt
nas_behind (Some nas) h = counted_behind nas h

setup_behind : (v : ErabToSetup) → IsOctets (setup_octets v) → IfSome v.nas IsOctets
unfolding setup_octets
setup_behind v h =
    let fixed = (cond (is_some v.nas) 64 0 + v.id) ∷ 0 ∷ v.qci ∷ v.arp ∷ 15 ∷ 128 ∷ [] in
    let behind = octets_behind fixed (four_octets v.address ++ (four_octets v.teid ++ nas_octets v.nas)) h in
    let teid_on = octets_behind (four_octets v.address) (four_octets v.teid ++ nas_octets v.nas) behind.1 in
    nas_behind v.nas (octets_behind (four_octets v.teid) (nas_octets v.nas) teid_on.1).1

pub id_behind : (id criticality : ℕ) (content rest : List ℕ) → IsOctets (ie_octets id criticality content ++ rest) → id < 256
unfolding ie_octets
id_behind id criticality content rest h = h.1.0

pub item_behind : (id criticality : ℕ) (content rest : List ℕ) → IsOctets (ie_octets id criticality content ++ rest) → IsOctets content × IsOctets rest
unfolding ie_octets
item_behind id criticality content rest h =
    let r = octets_behind (counted content) rest h.1.1.1 in
    (counted_behind content r.0, r.1)

setups_each : (xs : List ErabToSetup) → IsOctets (items_octets 52 0 setup_octets xs) → AllByRecursion (λ (b : ErabToSetup). IfSome b.nas IsOctets) xs
unfolding items_octets
setups_each [] h = tt
setups_each (x ∷ xs) h =
    let r = item_behind 52 0 (setup_octets x) (items_octets 52 0 setup_octets xs) h in
    (setup_behind x r.0, setups_each xs r.1)

pub setups_behind : (xs : List ErabToSetup) → IsOctets (erabs_octets 52 0 setup_octets xs) → AllByRecursion (λ (b : ErabToSetup). IfSome b.nas IsOctets) xs
unfolding erabs_octets
setups_behind xs h = setups_each xs h.1
