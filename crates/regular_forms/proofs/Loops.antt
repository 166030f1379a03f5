-- A loop that goes through a machine's states and keeps the best so far.
use Rattle.std.proofs.Common.{◌≡◌, ℕ, ◌<◌, List, [], ◌∷◌, length, Option, Some, None, refl, sym, ap, subst, ◌∙◌, arith}
use Rattle.std.specs.Prelude.{option_and_then}
use Rattle.grammar_forms.specs.Reading.{char_at}
use Rattle.regular_forms.specs.Longest.{munch, or_here}

-- ---- the first character

same_pair : (x y : ℕ × List ℕ) → Some x ≡ Some y → x ≡ y
same_pair x y e = cc

is_first : (c d : ℕ) (cs ds : List ℕ) → char_at (d ∷ ds) ≡ Some (c, cs) → d ∷ ds ≡ c ∷ cs
is_first c d cs ds e = ap (λ (y : ℕ × List ℕ). y.0 ∷ y.1) (same_pair (d, ds) (c, cs) e)

pub first_is : (c : ℕ) (text cs : List ℕ) → char_at text ≡ Some (c, cs) → text ≡ c ∷ cs
first_is c [] cs e = absurd cc
first_is c (d ∷ ds) cs e = is_first c d cs ds e

pub first_shorter : (c : ℕ) (text cs : List ℕ) → char_at text ≡ Some (c, cs) → length cs < length text
first_shorter c text cs e = omega (arith, ap length (first_is c text cs e))

-- ---- what the loop keeps

abbrev pub or_best : {K : Type 0} → Option (K × List ℕ) → Option (K × List ℕ) → Option (K × List ℕ)
or_best (Some x) b = Some x
or_best None b = b

-- in state q before cs, with b the best so far, `all` will be read
pub record Goes {Q K : Type 0} (step : Q → ℕ → Option Q) (out : Q → Option K) (all : Option (K × List ℕ)) (q : Q) (cs : List ℕ) (b : Option (K × List ℕ)) : Type 0 where
  pub so_far : all ≡ or_best (munch step out q cs) b
  pub kept : (k : K) → out q ≡ Some k → b ≡ Some (k, cs)

best_none : {K : Type 0} (o : Option (K × List ℕ)) → o ≡ or_best o None
best_none None = refl
best_none (Some x) = refl

none_is_some : {K : Type 0} (k : K) (o : Option K) (P : Type 0) → o ≡ None → o ≡ Some k → P
none_is_some k o P e f = absurd cc

-- at a start that has no kind
pub goes_begin : {Q K : Type 0} (step : Q → ℕ → Option Q) (out : Q → Option K) (q : Q) (cs : List ℕ) → out q ≡ None → Goes step out (munch step out q cs) q cs None
goes_begin step out q cs e = record { so_far = best_none (munch step out q cs); kept = λ k f. none_is_some k (out q) (None ≡ Some (k, cs)) e f }

best_or : {K : Type 0} (m : Option (K × List ℕ)) (o : Option K) (k : K) (cs : List ℕ) → o ≡ Some k → or_here m o cs ≡ or_best (or_here m o cs) (Some (k, cs))
best_or (Some x) o k cs e = refl
best_or None (Some j) k cs e = refl
best_or None None k cs e = absurd cc

munch_or : {Q K : Type 0} (step : Q → ℕ → Option Q) (out : Q → Option K) (q : Q) (cs : List ℕ) (k : K) → out q ≡ Some k → munch step out q cs ≡ or_best (munch step out q cs) (Some (k, cs))
munch_or step out q [] k e = best_or None (out q) k [] e
munch_or step out q (c ∷ cs) k e = best_or (option_and_then (λ r. munch step out r cs) (step q c)) (out q) k (c ∷ cs) e

same_best : {K : Type 0} (j k : K) (cs : List ℕ) (o : Option K) → o ≡ Some k → o ≡ Some j → ◌≡◌ {A = Option (K × List ℕ)} (Some (k, cs)) (Some (j, cs))
same_best j k cs o e f = cc

-- at a start that has one
pub goes_begin_with : {Q K : Type 0} (step : Q → ℕ → Option Q) (out : Q → Option K) (q : Q) (cs : List ℕ) (k : K) → out q ≡ Some k → Goes step out (munch step out q cs) q cs (Some (k, cs))
goes_begin_with step out q cs k e = record { so_far = munch_or step out q cs k e; kept = λ j f. same_best j k cs (out q) e f }

here_best : {K : Type 0} (m : Option (K × List ℕ)) (o : Option K) (cs : List ℕ) (b : Option (K × List ℕ)) → ((k : K) → o ≡ Some k → b ≡ Some (k, cs)) → or_best (or_here m o cs) b ≡ or_best m b
here_best (Some x) o cs b f = refl
here_best None None cs b f = refl
here_best None (Some k) cs b f = sym (f k refl)

-- at the end of the text
pub goes_done : {Q K : Type 0} (step : Q → ℕ → Option Q) (out : Q → Option K) (all : Option (K × List ℕ)) (q : Q) (b : Option (K × List ℕ)) (cs : List ℕ) → char_at cs ≡ None → Goes step out all q cs b → all ≡ b
goes_done step out all q b [] e h = h.so_far ∙ here_best None (out q) [] b h.kept
goes_done step out all q b (c ∷ cs) e h = absurd cc

at_first : {Q K : Type 0} (step : Q → ℕ → Option Q) (out : Q → Option K) (all : Option (K × List ℕ)) (q : Q) (b : Option (K × List ℕ)) (c : ℕ) (cs text : List ℕ) → char_at text ≡ Some (c, cs) → Goes step out all q text b → Goes step out all q (c ∷ cs) b
at_first step out all q b c cs text e h = subst (λ (t : List ℕ). Goes step out all q t b) (first_is c text cs e) h

step_best : {Q K : Type 0} (step : Q → ℕ → Option Q) (out : Q → Option K) (all : Option (K × List ℕ)) (q : Q) (b : Option (K × List ℕ)) (c : ℕ) (cs : List ℕ) (o : Option Q) → step q c ≡ o → Goes step out all q (c ∷ cs) b
    → all ≡ or_best (option_and_then (λ r. munch step out r cs) o) b
step_best step out all q b c cs o e h = rw (sym e) (h.so_far ∙ here_best (option_and_then (λ r. munch step out r cs) (step q c)) (out q) (c ∷ cs) b h.kept)

-- no further state: what was found last
pub goes_stop : {Q K : Type 0} (step : Q → ℕ → Option Q) (out : Q → Option K) (all : Option (K × List ℕ)) (q : Q) (b : Option (K × List ℕ)) (c : ℕ) (cs text : List ℕ) → char_at text ≡ Some (c, cs) → step q c ≡ None → Goes step out all q text b → all ≡ b
goes_stop step out all q b c cs text e s h = step_best step out all q b c cs None s (at_first step out all q b c cs text e h)

-- a state with no kind
pub goes_on : {Q K : Type 0} (step : Q → ℕ → Option Q) (out : Q → Option K) (all : Option (K × List ℕ)) (q : Q) (b : Option (K × List ℕ)) (c : ℕ) (cs text : List ℕ) (r : Q) → char_at text ≡ Some (c, cs) → step q c ≡ Some r → out r ≡ None → Goes step out all q text b → Goes step out all r cs b
goes_on step out all q b c cs text r e s n h = record { so_far = step_best step out all q b c cs (Some r) s (at_first step out all q b c cs text e h); kept = λ k f. none_is_some k (out r) (b ≡ Some (k, cs)) n f }

found_best : {K : Type 0} (m : Option (K × List ℕ)) (k : K) (cs : List ℕ) (a b : Option (K × List ℕ)) → or_best (or_here m (Some k) cs) a ≡ or_best (or_here m (Some k) cs) b
found_best (Some x) k cs a b = refl
found_best None k cs a b = refl

munch_best : {Q K : Type 0} (step : Q → ℕ → Option Q) (out : Q → Option K) (r : Q) (k : K) (cs : List ℕ) (a b : Option (K × List ℕ)) → out r ≡ Some k → or_best (munch step out r cs) a ≡ or_best (munch step out r cs) b
munch_best step out r k [] a b e = rw e refl
munch_best step out r k (c ∷ cs) a b e = rw e (found_best (option_and_then (λ t. munch step out t cs) (step r c)) k (c ∷ cs) a b)

-- a state with a kind
pub goes_found : {Q K : Type 0} (step : Q → ℕ → Option Q) (out : Q → Option K) (all : Option (K × List ℕ)) (q : Q) (b : Option (K × List ℕ)) (c : ℕ) (cs text : List ℕ) (r : Q) (k : K) → char_at text ≡ Some (c, cs) → step q c ≡ Some r → out r ≡ Some k → Goes step out all q text b → Goes step out all r cs (Some (k, cs))
goes_found step out all q b c cs text r k e s n h = record {
  so_far = step_best step out all q b c cs (Some r) s (at_first step out all q b c cs text e h) ∙ munch_best step out r k cs b (Some (k, cs)) n;
  kept = λ j f. same_best j k cs (out r) n f;
}
