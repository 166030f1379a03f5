-- Groups of characters that a form treats alike: its derivative by a character is that by the sample of the group.
use Rattle.std.proofs.Common.{◌≡◌, ℕ, Bool, true, false, cond, List, [], ◌∷◌, refl, ap, ◌∙◌}
use Rattle.regular_forms.specs.Regular.{Regular, none, empty, one, seq, alt, star}
use Rattle.regular_forms.proofs.Derivatives.{nullable, seq_of, alt_with, alt_of, derive, after}

-- the class has all of a group or none
abbrev pub Fits : {G : Type 0} → (ℕ → G) → (G → ℕ) → (ℕ → Bool) → Type 0
Fits group sample p = (c : ℕ) → p c ≡ p (sample (group c))

-- each class of the form does
abbrev pub AllFit : {G : Type 0} → (ℕ → G) → (G → ℕ) → Regular → Type 0
AllFit group sample none = Unit {0}
AllFit group sample empty = Unit {0}
AllFit group sample (one p) = Fits group sample p
AllFit group sample (seq r s) = AllFit group sample r × AllFit group sample s
AllFit group sample (alt r s) = AllFit group sample r × AllFit group sample s
AllFit group sample (star r) = AllFit group sample r

pub derive-sample : {G : Type 0} (group : ℕ → G) (sample : G → ℕ) (r : Regular) → AllFit group sample r → (c : ℕ) → derive r c ≡ derive r (sample (group c))
derive-sample group sample none h c = refl
derive-sample group sample empty h c = refl
derive-sample group sample (one p) h c = ap (λ (b : Bool). cond b empty none) (h c)
derive-sample group sample (seq r s) h c =
    ap (λ (x : Regular). cond (nullable r) (alt_of (seq_of x s) (derive s c)) (seq_of x s)) (derive-sample group sample r h.0 c)
    ∙ ap (λ (y : Regular). cond (nullable r) (alt_of (seq_of (derive r (sample (group c))) s) y) (seq_of (derive r (sample (group c))) s)) (derive-sample group sample s h.1 c)
derive-sample group sample (alt r s) h c = ap (λ (x : Regular). alt_of x (derive s c)) (derive-sample group sample r h.0 c) ∙ ap (λ (y : Regular). alt_of (derive r (sample (group c))) y) (derive-sample group sample s h.1 c)
derive-sample group sample (star r) h c = ap (λ (x : Regular). seq_of x (star r)) (derive-sample group sample r h c)

-- ---- and of what is left after some characters each class does too

fit_one : {G : Type 0} (group : ℕ → G) (sample : G → ℕ) (b : Bool) → AllFit group sample (cond b empty none)
fit_one group sample true = tt
fit_one group sample false = tt

fit_seq_of : {G : Type 0} (group : ℕ → G) (sample : G → ℕ) (r s : Regular) → AllFit group sample r → AllFit group sample s → AllFit group sample (seq_of r s)
fit_seq_of group sample none s h k = tt
fit_seq_of group sample empty s h k = k
fit_seq_of group sample (one p) s h k = (h, k)
fit_seq_of group sample (seq a b) s h k = (h, k)
fit_seq_of group sample (alt a b) s h k = (h, k)
fit_seq_of group sample (star a) s h k = (h, k)

fit_alt_with : {G : Type 0} (group : ℕ → G) (sample : G → ℕ) (r s : Regular) → AllFit group sample r → AllFit group sample s → AllFit group sample (alt_with r s)
fit_alt_with group sample r none h k = h
fit_alt_with group sample r empty h k = (h, k)
fit_alt_with group sample r (one p) h k = (h, k)
fit_alt_with group sample r (seq a b) h k = (h, k)
fit_alt_with group sample r (alt a b) h k = (h, k)
fit_alt_with group sample r (star a) h k = (h, k)

fit_alt_of : {G : Type 0} (group : ℕ → G) (sample : G → ℕ) (r s : Regular) → AllFit group sample r → AllFit group sample s → AllFit group sample (alt_of r s)
fit_alt_of group sample none s h k = k
fit_alt_of group sample empty s h k = fit_alt_with group sample empty s h k
fit_alt_of group sample (one p) s h k = fit_alt_with group sample (one p) s h k
fit_alt_of group sample (seq a b) s h k = fit_alt_with group sample (seq a b) s h k
fit_alt_of group sample (alt a b) s h k = fit_alt_with group sample (alt a b) s h k
fit_alt_of group sample (star a) s h k = fit_alt_with group sample (star a) s h k

fit_cond : {G : Type 0} (group : ℕ → G) (sample : G → ℕ) (b : Bool) (r s : Regular) → AllFit group sample r → AllFit group sample s → AllFit group sample (cond b r s)
fit_cond group sample true r s h k = h
fit_cond group sample false r s h k = k

fit_derive : {G : Type 0} (group : ℕ → G) (sample : G → ℕ) (r : Regular) → AllFit group sample r → (c : ℕ) → AllFit group sample (derive r c)
fit_derive group sample none h c = tt
fit_derive group sample empty h c = tt
fit_derive group sample (one p) h c = fit_one group sample (p c)
fit_derive group sample (seq r s) h c =
    let front = fit_seq_of group sample (derive r c) s (fit_derive group sample r h.0 c) h.1 in
    fit_cond group sample (nullable r) (alt_of (seq_of (derive r c) s) (derive s c)) (seq_of (derive r c) s) (fit_alt_of group sample (seq_of (derive r c) s) (derive s c) front (fit_derive group sample s h.1 c)) front
fit_derive group sample (alt r s) h c = fit_alt_of group sample (derive r c) (derive s c) (fit_derive group sample r h.0 c) (fit_derive group sample s h.1 c)
fit_derive group sample (star r) h c = fit_seq_of group sample (derive r c) (star r) (fit_derive group sample r h c) h

pub fit_after : {G : Type 0} (group : ℕ → G) (sample : G → ℕ) (cs : List ℕ) (r : Regular) → AllFit group sample r → AllFit group sample (after cs r)
fit_after group sample [] r h = h
fit_after group sample (c ∷ cs) r h = fit_after group sample cs (derive r c) (fit_derive group sample r h c)
