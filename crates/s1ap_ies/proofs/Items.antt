-- The items of lists in their ranges, as their types and as their callers say it.
use Rattle.std.proofs.Common.{ℕ, ◌≤◌, List, [], ◌∷◌, length, Option, Some, None, IfSome, arith}
use Rattle.s1ap_ies.specs.declared.erab_to_setup.ErabToSetup.{ErabToSetup}
use Rattle.s1ap_ies.specs.declared.erab_done.ErabDone.{ErabDone}
use Rattle.std.specs.List.{AllByRecursion}
use Rattle.aper_fields.specs.Asn1.{Fits}
use Rattle.s1ap_ies.specs.Values.{erab_done, erab_to_setup, erabs_done, erabs_to_setup}
use Rattle.s1ap_ies.specs.Run.{IsNas, IsErabDone, IsErabToSetup}
use Rattle.aper_fields.proofs.Types.{each_of}

-- ---- one item

pub done_fits : (S : List ℕ → Type 0) (v : ErabDone) → IsErabDone v → Fits S erab_done v
unfolding erab_done
done_fits S v right = (omega (arith, right.0), ((tt, right.1), right.2))

pub done_right : (S : List ℕ → Type 0) (v : ErabDone) → Fits S erab_done v → IsErabDone v
unfolding erab_done
done_right S v fits = (omega (arith, fits.0), fits.1.0.1, fits.1.1)

both_of : (S : List ℕ → Type 0) (nas : Option (List ℕ)) → IfSome nas IsNas → IfSome nas S → IfSome nas (λ octets. (length octets ≤ 2048) × S octets)
both_of S None few strings = tt
both_of S (Some nas) few strings = (few, strings)

few_of : (S : List ℕ → Type 0) (nas : Option (List ℕ)) → IfSome nas (λ octets. (length octets ≤ 2048) × S octets) → IfSome nas IsNas
few_of S None both = tt
few_of S (Some nas) both = both.0

pub setup_fits : (S : List ℕ → Type 0) (v : ErabToSetup) → IsErabToSetup v → IfSome v.nas S → Fits S erab_to_setup v
unfolding erab_to_setup
setup_fits S v right strings = ((omega (arith, right.0), ((omega (arith, right.1), (right.2, tt)), ((tt, right.3), right.4))), both_of S v.nas right.5 strings)

pub setup_right : (S : List ℕ → Type 0) (v : ErabToSetup) → Fits S erab_to_setup v → IsErabToSetup v
unfolding erab_to_setup
setup_right S v fits =
    let bearer = fits.0 in
    let quality = bearer.1.0 in
    let endpoint = bearer.1.1 in
    (omega (arith, bearer.0), omega (arith, quality.0), quality.1.0, endpoint.0.1, endpoint.1, few_of S v.nas fits.1)

-- ---- lists

each_setup_fits : (S : List ℕ → Type 0) (xs : List ErabToSetup) → AllByRecursion IsErabToSetup xs → AllByRecursion (λ (b : ErabToSetup). IfSome b.nas S) xs → AllByRecursion (λ a. Fits S erab_to_setup a) xs
each_setup_fits S [] all strings = tt
each_setup_fits S (x ∷ xs) all strings = (setup_fits S x all.0 strings.0, each_setup_fits S xs all.1 strings.1)

-- 1 to 256 of them, each in its range
abbrev AreMany : {A : Type 0} → (A → Type 0) → List A → Type 0
AreMany In xs = (1 ≤ length xs) × (length xs ≤ 256) × AllByRecursion In xs

pub dones_fit : (S : List ℕ → Type 0) (xs : List ErabDone) → AreMany IsErabDone xs → Fits S erabs_done xs
dones_fit S xs right = (right.0, right.1, each_of IsErabDone (λ a. Fits S erab_done a) (done_fits S) xs right.2)

pub dones_right : (S : List ℕ → Type 0) (xs : List ErabDone) → Fits S erabs_done xs → AreMany IsErabDone xs
dones_right S xs fits = (fits.0, fits.1, each_of (λ a. Fits S erab_done a) IsErabDone (done_right S) xs fits.2)

pub setups_fit : (S : List ℕ → Type 0) (xs : List ErabToSetup) → AreMany IsErabToSetup xs → AllByRecursion (λ (b : ErabToSetup). IfSome b.nas S) xs → Fits S erabs_to_setup xs
setups_fit S xs right strings = (right.0, right.1, each_setup_fits S xs right.2 strings)

pub setups_right : (S : List ℕ → Type 0) (xs : List ErabToSetup) → Fits S erabs_to_setup xs → AreMany IsErabToSetup xs
setups_right S xs fits = (fits.0, fits.1, each_of (λ a. Fits S erab_to_setup a) IsErabToSetup (setup_right S) xs fits.2)
