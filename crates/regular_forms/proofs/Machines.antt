-- A machine in whose states certain forms are left reads the longest text of the forms that are left where it starts.
use Rattle.std.proofs.Common.{◌≡◌, ℕ, ◌≤◌, true, List, [], ◌∷◌, ◌++◌, length, Option, Some, None, refl, sym, ap, subst, ◌∙◌, arith, length-append}
use Rattle.std.specs.Prelude.{option_and_then}
use Rattle.regular_forms.specs.Regular.{Regular, none, Has}
use Rattle.regular_forms.specs.Longest.{IsLongest, or_here, munch}
use Rattle.regular_forms.proofs.Derivatives.{nullable, nullable-sound, nullable-full, derive, derive-sound, derive-full}

-- the state after all of a text, and the kind that it has
abbrev pub run : {Q : Type 0} → (Q → ℕ → Option Q) → Q → List ℕ → Option Q
run step q [] = Some q
run step q (c ∷ cs) = option_and_then (λ r. run step r cs) (step q c)

abbrev pub Accepts : {Q K : Type 0} → (Q → ℕ → Option Q) → (Q → Option K) → Q → List ℕ → K → Type 0
Accepts step out q text k = option_and_then out (run step q text) ≡ Some k

-- ---- what is read is accepted, and what is accepted is read

use_here : {K : Type 0} (k : K) (cs : List ℕ) (x : K × List ℕ) → or_here None (Some k) cs ≡ Some x → (k, cs) ≡ x
use_here k cs x e = cc

here_sound : {Q K : Type 0} (step : Q → ℕ → Option Q) (out : Q → Option K) (q : Q) (cs : List ℕ) (x : K × List ℕ) (o : Option K) → out q ≡ o → or_here None o cs ≡ Some x
    → (a : List ℕ) × Accepts step out q a x.0 × (cs ≡ a ++ x.1)
here_sound step out q cs x None e h = absurd cc
here_sound {Q} {K} step out q cs x (Some k) e h = subst (λ (y : K × List ℕ). (a : List ℕ) × Accepts step out q a y.0 × (cs ≡ a ++ y.1)) (use_here k cs x h) ([], e, refl)

further_sound : {Q K : Type 0} (step : Q → ℕ → Option Q) (out : Q → Option K) (q : Q) (c : ℕ) (cs : List ℕ) (x : K × List ℕ)
    → ((r : Q) (y : K × List ℕ) → munch step out r cs ≡ Some y → (a : List ℕ) × Accepts step out r a y.0 × (cs ≡ a ++ y.1))
    → (o : Option Q) → step q c ≡ o → (m : Option (K × List ℕ)) → option_and_then (λ r. munch step out r cs) o ≡ m → or_here m (out q) (c ∷ cs) ≡ Some x
    → (a : List ℕ) × Accepts step out q a x.0 × (c ∷ cs ≡ a ++ x.1)
further_sound step out q c cs x ih o e None f h = here_sound step out q (c ∷ cs) x (out q) refl h
further_sound step out q c cs x ih None e (Some y) f h = absurd cc
further_sound step out q c cs x ih (Some r) e (Some y) f h = let k = ih r x (f ∙ h) in (c ∷ k.0, rw e k.1, ap (λ (t : List ℕ). c ∷ t) k.2)

munch-sound : {Q K : Type 0} (step : Q → ℕ → Option Q) (out : Q → Option K) (q : Q) (cs : List ℕ) (x : K × List ℕ) → munch step out q cs ≡ Some x
    → (a : List ℕ) × Accepts step out q a x.0 × (cs ≡ a ++ x.1)
munch-sound step out q [] x h = here_sound step out q [] x (out q) refl h
munch-sound {Q} {K} step out q (c ∷ cs) x h = further_sound step out q c cs x (λ (r : Q) (y : K × List ℕ). munch-sound step out r cs y) (step q c) refl (option_and_then (λ r. munch step out r cs) (step q c)) refl h

here_greedy : {K : Type 0} (o : Option K) (rest : List ℕ) (k : K) → o ≡ Some k → (x : K × List ℕ) × (or_here None o rest ≡ Some x) × (length x.1 ≤ length rest)
here_greedy (Some j) rest k h = ((j, rest), refl, omega arith)
here_greedy None rest k h = absurd cc

munch-shorter : {Q K : Type 0} (step : Q → ℕ → Option Q) (out : Q → Option K) (q : Q) (cs : List ℕ) (x : K × List ℕ) → munch step out q cs ≡ Some x → length x.1 ≤ length cs
munch-shorter step out q cs x e = let h = munch-sound step out q cs x e in omega (arith, ap length h.2, length-append h.0 x.1)

-- where a state has a kind something is read, further on or here
end_greedy : {K : Type 0} (m : Option (K × List ℕ)) (o : Option K) (rest : List ℕ) (k : K) → o ≡ Some k → ((x : K × List ℕ) → m ≡ Some x → length x.1 ≤ length rest)
    → (x : K × List ℕ) × (or_here m o rest ≡ Some x) × (length x.1 ≤ length rest)
end_greedy None o rest k h le = here_greedy o rest k h
end_greedy (Some x) o rest k h le = (x, refl, le x refl)

tail_shorter : {Q K : Type 0} (step : Q → ℕ → Option Q) (out : Q → Option K) (c : ℕ) (cs : List ℕ) (o : Option Q) (x : K × List ℕ) → option_and_then (λ r. munch step out r cs) o ≡ Some x → length x.1 ≤ length (c ∷ cs)
tail_shorter step out c cs None x e = absurd cc
tail_shorter step out c cs (Some r) x e = let h = munch-shorter step out r cs x e in omega (arith, h)

rest_greedy : {Q K : Type 0} (step : Q → ℕ → Option Q) (out : Q → Option K) (q : Q) (rest : List ℕ) (k : K) → out q ≡ Some k
    → (x : K × List ℕ) × (munch step out q rest ≡ Some x) × (length x.1 ≤ length rest)
rest_greedy step out q [] k h = here_greedy (out q) [] k h
rest_greedy {Q} {K} step out q (c ∷ cs) k h = end_greedy (option_and_then (λ r. munch step out r cs) (step q c)) (out q) (c ∷ cs) k h (λ x e. tail_shorter step out c cs (step q c) x e)

further_greedy : {Q K : Type 0} (step : Q → ℕ → Option Q) (out : Q → Option K) (q : Q) (a rest : List ℕ) (k : K) (c : ℕ) (o : Option Q)
    → ((r : Q) → Accepts step out r a k → (x : K × List ℕ) × (munch step out r (a ++ rest) ≡ Some x) × (length x.1 ≤ length rest))
    → option_and_then out (option_and_then (λ r. run step r a) o) ≡ Some k
    → (x : K × List ℕ) × (or_here (option_and_then (λ r. munch step out r (a ++ rest)) o) (out q) (c ∷ (a ++ rest)) ≡ Some x) × (length x.1 ≤ length rest)
further_greedy step out q a rest k c None ih h = absurd cc
further_greedy step out q a rest k c (Some r) ih h = let g = ih r h in (g.0, rw g.1 refl, g.2)

munch-greedy : {Q K : Type 0} (step : Q → ℕ → Option Q) (out : Q → Option K) (q : Q) (a rest : List ℕ) (k : K) → Accepts step out q a k
    → (x : K × List ℕ) × (munch step out q (a ++ rest) ≡ Some x) × (length x.1 ≤ length rest)
munch-greedy step out q [] rest k h = rest_greedy step out q rest k h
munch-greedy {Q} {K} step out q (c ∷ a) rest k h = further_greedy step out q a rest k c (step q c) (λ (r : Q). munch-greedy step out r a rest k) h

-- ---- what is left of the forms in each state

abbrev pub residual : {Q K : Type 0} → (Q → K → Regular) → Option Q → K → Regular
residual left None k = none
residual left (Some q) k = left q k

-- a step leaves of each form its derivative, and the kind of a state is that whose form is done
pub record Follows {Q K : Type 0} (step : Q → ℕ → Option Q) (out : Q → Option K) (left : Q → K → Regular) : Type 0 where
  pub steps : (q : Q) (k : K) (c : ℕ) → derive (left q k) c ≡ residual left (step q c) k
  pub ends : (q : Q) (k : K) → out q ≡ Some k → nullable (left q k) ≡ true
  pub only : (q : Q) (k : K) → nullable (left q k) ≡ true → out q ≡ Some k

sound_step : {Q K : Type 0} (step : Q → ℕ → Option Q) (out : Q → Option K) (left : Q → K → Regular) → Follows step out left → (q : Q) (c : ℕ) (cs : List ℕ) (k : K) (o : Option Q) → step q c ≡ o
    → ((r : Q) → Accepts step out r cs k → Has (left r k) cs) → option_and_then out (option_and_then (λ r. run step r cs) o) ≡ Some k → Has (left q k) (c ∷ cs)
sound_step step out left f q c cs k None e ih h = absurd cc
sound_step {Q} {K} step out left f q c cs k (Some r) e ih h =
    let same : derive (left q k) c ≡ left r k = f.steps q k c ∙ ap (λ (o : Option Q). residual left o k) e in
    derive-sound (left q k) c cs (subst (λ (x : Regular). Has x cs) (sym same) (ih r h))

full_step : {Q K : Type 0} (step : Q → ℕ → Option Q) (out : Q → Option K) (left : Q → K → Regular) (cs : List ℕ) (k : K) (o : Option Q)
    → ((r : Q) → Has (left r k) cs → Accepts step out r cs k) → Has (residual left o k) cs → option_and_then out (option_and_then (λ r. run step r cs) o) ≡ Some k
full_step step out left cs k None ih h = absurd h
full_step step out left cs k (Some r) ih h = ih r h

accepts-sound : {Q K : Type 0} (step : Q → ℕ → Option Q) (out : Q → Option K) (left : Q → K → Regular) → Follows step out left → (q : Q) (text : List ℕ) (k : K) → Accepts step out q text k → Has (left q k) text
accepts-sound {Q} {K} step out left f q [] k h = nullable-sound (left q k) (f.ends q k h)
accepts-sound {Q} {K} step out left f q (c ∷ cs) k h = sound_step step out left f q c cs k (step q c) refl (λ (r : Q). accepts-sound step out left f r cs k) h

accepts-full : {Q K : Type 0} (step : Q → ℕ → Option Q) (out : Q → Option K) (left : Q → K → Regular) → Follows step out left → (q : Q) (text : List ℕ) (k : K) → Has (left q k) text → Accepts step out q text k
accepts-full {Q} {K} step out left f q [] k h = f.only q k (nullable-full (left q k) h)
accepts-full {Q} {K} step out left f q (c ∷ cs) k h =
    full_step step out left cs k (step q c) (λ (r : Q). accepts-full step out left f r cs k) (subst (λ (r : Regular). Has r cs) (f.steps q k c) (derive-full (left q k) c cs h))

-- a text is of one kind
pub one_kind : {Q K : Type 0} (step : Q → ℕ → Option Q) (out : Q → Option K) (left : Q → K → Regular) → Follows step out left → (q : Q) (text : List ℕ) (j k : K) → Has (left q j) text → Has (left q k) text → j ≡ k
one_kind step out left f q text j k h i = let a = accepts-full step out left f q text j h in let b = accepts-full step out left f q text k i in cc

-- ---- so the longest text is read

some_same : {A : Type 0} (x y : A) → Some x ≡ Some y → x ≡ y
some_same x y e = cc

-- the less is left, the more is in front
front_longer : (cs a rest b after : List ℕ) → cs ≡ a ++ rest → cs ≡ b ++ after → length rest ≤ length after → length b ≤ length a
front_longer cs a rest b after e f le = omega (arith, ap length e, ap length f, length-append a rest, length-append b after)

found_longer : {Q K : Type 0} (step : Q → ℕ → Option Q) (out : Q → Option K) (q : Q) (cs a : List ℕ) (x : K × List ℕ) → munch step out q cs ≡ Some x → cs ≡ a ++ x.1
    → (other after : List ℕ) (k : K) → cs ≡ other ++ after → Accepts step out q other k → length other ≤ length a
found_longer {Q} {K} step out q cs a x e whole other after k parts h =
    let w = munch-greedy step out q other after k h in
    let same : Some x ≡ Some w.0 = sym e ∙ ap (munch step out q) parts ∙ w.1 in
    let rests : x.1 ≡ w.0.1 = ap (λ (y : K × List ℕ). y.1) (some_same x w.0 same) in
    front_longer cs a x.1 other after whole parts (omega (arith, w.2, ap length rests))

never : {K : Type 0} (x : Option (K × List ℕ)) (y : K × List ℕ) → x ≡ None → x ≡ Some y → ⊥
never x y e f = absurd cc

longest_by : {Q K : Type 0} (step : Q → ℕ → Option Q) (out : Q → Option K) (left : Q → K → Regular) → Follows step out left → (q : Q) (cs : List ℕ) (o : Option (K × List ℕ)) → munch step out q cs ≡ o → IsLongest (left q) cs o
longest_by {Q} {K} step out left f q cs None e = λ k other after parts h.
    let w = munch-greedy step out q other after k (accepts-full step out left f q other k h) in
    never (munch step out q cs) w.0 e (ap (munch step out q) parts ∙ w.1)
longest_by {Q} {K} step out left f q cs (Some x) e =
    let h = munch-sound step out q cs x e in
    record {
      front = h.0;
      parts = h.2;
      has = accepts-sound step out left f q h.0 x.0 h.1;
      one_kind = λ k g. one_kind step out left f q h.0 k x.0 g (accepts-sound step out left f q h.0 x.0 h.1);
      longest = λ k other after parts g. found_longer step out q cs h.0 x e h.2 other after k parts (accepts-full step out left f q other k g);
    }

pub munch-is_longest : {Q K : Type 0} (step : Q → ℕ → Option Q) (out : Q → Option K) (left : Q → K → Regular) → Follows step out left → (q : Q) (cs : List ℕ) → IsLongest (left q) cs (munch step out q cs)
munch-is_longest step out left f q cs = longest_by step out left f q cs (munch step out q cs) refl
