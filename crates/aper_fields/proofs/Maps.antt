-- One reading is another, with its value changed.
use Rattle.std.proofs.Common.{◌≡◌, Ok, sym, ap, ◌∙◌}
use Rattle.echo_base.proofs.Answers.{bind, bind_same, bind_assoc}
use Rattle.aper_fields.specs.Reading.{Input, open_at, close_at, whole_at, contained_at}
use Rattle.aper_fields.specs.SequenceReading.{Reader, ◌>>=◌}

abbrev pub Maps : {A B : Type 0} → (A → B) → Reader A → Reader B → Type 0
Maps h f g = (i : Input) → g i ≡ bind (f i) (λ x. Ok (h x.0, x.1))

-- behind the same piece
pub behind_maps : {A B C : Type 0} (h : B → C) (f : Reader A) (g : A → Reader B) (k : A → Reader C) → ((a : A) → Maps h (g a) (k a)) → Maps h (f >>= g) (f >>= k)
behind_maps h f g k same i =
    bind_same (f i) (λ x. k x.0 x.1) _ (λ x. same x.0 x.1)
    ∙ sym (bind_assoc (f i) (λ x. g x.0 x.1) (λ y. Ok (h y.0, y.1)))

pub whole_maps : {A B : Type 0} (h : A → B) (f : Reader A) (g : Reader B) → Maps h f g → (c : Input) → whole_at g c ≡ bind (whole_at f c) (λ v. Ok (h v))
unfolding whole_at
whole_maps h f g same c =
    ap (λ r. bind r (λ v. bind (close_at c v.1) (λ e. Ok v.0))) (same c)
    ∙ bind_assoc (f c) (λ x. Ok (h x.0, x.1)) (λ v. bind (close_at c v.1) (λ e. Ok v.0))
    ∙ bind_same (f c) _ _ (λ x. sym (bind_assoc (close_at c x.1) (λ e. Ok x.0) (λ v. Ok (h v))))
    ∙ sym (bind_assoc (f c) (λ v. bind (close_at c v.1) (λ e. Ok v.0)) (λ v. Ok (h v)))

pub contained_maps : {A B : Type 0} (h : A → B) (f : Reader A) (g : Reader B) → Maps h f g → Maps h (contained_at f) (contained_at g)
unfolding contained_at
contained_maps h f g same i =
    bind_same (open_at i) _ _ (λ c.
    ap (λ r. bind r (λ v. Ok (v, c.1))) (whole_maps h f g same c.0)
    ∙ bind_assoc (whole_at f c.0) (λ v. Ok (h v)) (λ v. Ok (v, c.1))
    ∙ sym (bind_assoc (whole_at f c.0) (λ v. Ok (v, c.1)) (λ x. Ok (h x.0, x.1))))
    ∙ sym (bind_assoc (open_at i) (λ c. bind (whole_at f c.0) (λ v. Ok (v, c.1))) (λ x. Ok (h x.0, x.1)))
