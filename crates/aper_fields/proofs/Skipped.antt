-- Passing over a list of items is reading it, without its items.
use Rattle.std.proofs.Common.{◌≡◌, ℕ, ◌-◌, zero, suc, List, [], ◌∷◌, ◌++◌, Result, Ok, Err, IsOk, IsErrAnd, refl, sym, ap, ◌∙◌}
use Rattle.echo_base.specs.declared.refusal.Refusal.{Refusal}
use Rattle.echo_base.specs.Reading.{Gives}
use Rattle.aper_fields.specs.Reading.{Input, Read, number_at, close_at, whole_at}
use Rattle.echo_base.proofs.Answers.{bind, ok_of, ok_err, err_is}
use Rattle.aper_fields.specs.SequenceReading.{Reader, skipping, skipped_at, item_at}
use Rattle.aper_fields.specs.Asn1.{contained_item_at, list_at, list_skipped_at}
use Rattle.aper_fields.specs.Many.{many_at, inside_at, listed}

-- what is read, with its value left out
abbrev passed : {A : Type 0} → Read A → Read (Unit {0})
passed r = bind r (λ x. Ok (tt, x.1))

closed : {A : Type 0} (v : A) (k : Input) (r : Result (Unit {0}) Refusal) → bind (bind r (λ e. ok_of tt)) (λ u. Ok (u, k)) ≡ passed (bind (bind r (λ e. ok_of v)) (λ u. Ok (u, k)))
closed v k (Ok e) = refl
closed v k (Err e) = refl

inner : {A : Type 0} (c k : Input) (r : Read A) → bind (bind (passed r) (λ v. bind (close_at c v.1) (λ e. Ok v.0))) (λ u. Ok (u, k)) ≡ passed (bind (bind r (λ v. bind (close_at c v.1) (λ e. Ok v.0))) (λ u. Ok (u, k)))
inner c k (Ok x) = closed x.0 k (close_at c x.1)
inner c k (Err e) = refl

opened : {A : Type 0} (read : Reader A) (r : Read Input) → bind r (λ x. inside_at x.0 (skipping read) x.1) ≡ passed (bind r (λ x. inside_at x.0 read x.1))
unfolding whole_at
opened read (Ok x) = inner x.0 x.1 (read x.0)
opened read (Err e) = refl

one : {A : Type 0} (id : ℕ) (read : Reader A) (i : Input) → contained_item_at id (skipping read) i ≡ passed (contained_item_at id read i)
unfolding contained_item_at
one id read i = opened read (item_at id i)

next : {A : Type 0} (g : Reader (Unit {0})) (f : Reader A) (n : ℕ) (before : List A) (r : Read A) → ((later : List A) (j : Input) → skipped_at g n j ≡ passed (many_at (λ b. f) n later j)) → bind (passed r) (λ x. skipped_at g n x.1) ≡ passed (bind r (λ x. many_at (λ b. f) n (before ++ x.0 ∷ []) x.1))
next g f n before (Ok x) rest = rest (before ++ x.0 ∷ []) x.1
next g f n before (Err e) rest = refl

many : {A : Type 0} (g : Reader (Unit {0})) (f : Reader A) → ((i : Input) → g i ≡ passed (f i)) → (n : ℕ) (before : List A) (i : Input) → skipped_at g n i ≡ passed (many_at (λ b. f) n before i)
unfolding skipped_at many_at
many g f same zero before i = refl
many g f same (suc n) before i = ap (λ r. bind r (λ x. skipped_at g n x.1)) (same i) ∙ next g f n before (f i) (λ later j. many g f same n later j)

counted : {A : Type 0} (id : ℕ) (read : Reader A) (r : Read ℕ) → bind r (λ x. skipped_at (contained_item_at id (skipping read)) x.0 x.1) ≡ passed (bind r (λ x. many_at (λ b. contained_item_at id read) x.0 [] x.1))
counted id read (Ok x) = many (contained_item_at id (skipping read)) (contained_item_at id read) (one id read) x.0 [] x.1
counted id read (Err e) = refl

skipped : {A : Type 0} (low high id : ℕ) (read : Reader A) (i : Input) → list_skipped_at low high (contained_item_at id (skipping read)) i ≡ passed (list_at low high (contained_item_at id read) i)
unfolding list_skipped_at list_at
skipped low high id read i = counted id read (number_at low (high - low) i)

-- where a reading ends
abbrev behind : Read (Unit {0}) → Input → Input
behind (Ok x) i = x.1
behind (Err e) i = i

there : {A : Type 0} (r : Read (List A)) (j : Input) → passed r ≡ Ok (tt, j) → (r ≡ Ok (listed r, j)) × IsOk r
there (Ok x) j e =
    let same : x.1 ≡ j = ap (λ (r : Read (Unit {0})). behind r j) e in
    (ap (λ k. ok_of (x.0, k)) same, refl)
there (Err d) j e = absurd (ok_err _ _ (sym e))

not_there : {A : Type 0} (r : Read (List A)) (e : Refusal) → passed r ≡ Err e → r ≡ Err e
not_there (Ok x) e h = absurd (ok_err _ _ h)
not_there (Err d) e h = ap (λ (x : Refusal). Err x) (err_is {A = Unit {0} × Input} d e h)

-- what was refused where it was passed over is refused
pub refused_gives : {A : Type 0} (low high id : ℕ) (read : Reader A) (old new : Input) (r : Result (List A) Refusal) → IsErrAnd r (λ e. (list_skipped_at low high (contained_item_at id (skipping read)) old ≡ Err e) × (new ≡ old)) → Gives r old new (list_at low high (contained_item_at id read) old)
refused_gives low high id read old new (Ok v) h = absurd h
refused_gives low high id read old new (Err e) h = (not_there (list_at low high (contained_item_at id read) old) e (sym (skipped low high id read old) ∙ h.0), h.1)

-- a list that was passed over is one that is read
pub passed_over : {A : Type 0} (low high id : ℕ) (read : Reader A) (i j : Input) → list_skipped_at low high (contained_item_at id (skipping read)) i ≡ Ok (tt, j) → (list_at low high (contained_item_at id read) i ≡ Ok (listed (list_at low high (contained_item_at id read) i), j)) × IsOk (list_at low high (contained_item_at id read) i)
passed_over low high id read i j e = there (list_at low high (contained_item_at id read) i) j (sym (skipped low high id read i) ∙ e)
