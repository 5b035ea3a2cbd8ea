-- Values that are made of octets.
use Rattle.std.proofs.Common.{◌≡◌, ℕ, ◌+◌, ◌*◌, ◌/◌, ◌%◌, ◌<◌, [], ◌∷◌, refl, arith}
use Rattle.aper_octets.specs.Octets.{four_octets}
use Rattle.aper_octets.specs.Values.{tai_octets, cgi_octets, caps_octets}

pub tai_read : (a b c d e : ℕ) → a < 256 → b < 256 → c < 256 → d < 256 → e < 256 → tai_octets (record { plmn = a * 65536 + b * 256 + c; tac = d * 256 + e }) ≡ 0 ∷ a ∷ b ∷ c ∷ d ∷ e ∷ []
unfolding tai_octets
tai_read a b c d e ha hb hc hd he =
    let p = a * 65536 + b * 256 + c in
    let q = d * 256 + e in
    let ea : p / 65536 ≡ a = omega arith in
    let eb : p / 256 % 256 ≡ b = omega arith in
    let ec : p % 256 ≡ c = omega arith in
    let ed : q / 256 ≡ d = omega arith in
    let ee : q % 256 ≡ e = omega arith in
    rw (ea, eb, ec, ed, ee) refl

pub cgi_read : (a b c d e f g : ℕ) → a < 256 → b < 256 → c < 256 → d < 256 → e < 256 → f < 256 → g < 256 → g % 16 ≡ 0 → cgi_octets (record { plmn = a * 65536 + b * 256 + c; cell = d * 1048576 + e * 4096 + f * 16 + g / 16 }) ≡ 0 ∷ a ∷ b ∷ c ∷ d ∷ e ∷ f ∷ g ∷ []
unfolding cgi_octets
cgi_read a b c d e f g ha hb hc hd he hf hg low =
    let p = a * 65536 + b * 256 + c in
    let q = d * 1048576 + e * 4096 + f * 16 + g / 16 in
    let ea : p / 65536 ≡ a = omega arith in
    let eb : p / 256 % 256 ≡ b = omega arith in
    let ec : p % 256 ≡ c = omega arith in
    let ed : q / 1048576 ≡ d = omega arith in
    let ee : q / 4096 % 256 ≡ e = omega arith in
    let ef : q / 16 % 256 ≡ f = omega arith in
    let eg : q % 16 * 16 ≡ g = omega arith in
    rw (ea, eb, ec, ed, ee, ef, eg) refl

pub four_read : (a b c d : ℕ) → a < 256 → b < 256 → c < 256 → d < 256 → four_octets (a * 16777216 + b * 65536 + c * 256 + d) ≡ a ∷ b ∷ c ∷ d ∷ []
unfolding four_octets
four_read a b c d ha hb hc hd =
    let n = a * 16777216 + b * 65536 + c * 256 + d in
    let ea : n / 16777216 ≡ a = omega arith in
    let eb : n / 65536 % 256 ≡ b = omega arith in
    let ec : n / 256 % 256 ≡ c = omega arith in
    let ed : n % 256 ≡ d = omega arith in
    rw (ea, eb, ec, ed) refl

pub caps_read : (a b c d e : ℕ) → a < 32 → b < 256 → c < 256 → d < 256 → e < 256 → c % 32 < 16 → e % 16 ≡ 0 → caps_octets (record { eea = a * 2048 + b * 8 + c / 32; eia = c % 16 * 4096 + d * 16 + e / 16 }) ≡ a ∷ b ∷ c ∷ d ∷ e ∷ []
unfolding caps_octets
caps_read a b c d e ha hb hc hd he third last =
    let p = a * 2048 + b * 8 + c / 32 in
    let q = c % 16 * 4096 + d * 16 + e / 16 in
    let ea : p / 2048 ≡ a = omega arith in
    let eb : p / 8 % 256 ≡ b = omega arith in
    let ec : p % 8 * 32 + q / 4096 ≡ c = omega arith in
    let ed : q / 16 % 256 ≡ d = omega arith in
    let ee : q % 16 * 16 ≡ e = omega arith in
    rw (ea, eb, ec, ed, ee) refl
