-- What the tests of an order say of it, and that terms and triples which tie are equal.
use Rattle.std.proofs.Common.{◌≡◌, ◌↔◌, ℕ, ◌<◌, ◌≤◌, ◌⊎◌, true, false, ◌&&◌, IsTrue, refl, sym, ap, ◌∙◌, arith}
use Rattle.std.specs.declared.cmp.Ordering.{Ordering}
use Rattle.std.specs.declared.cmp.Ordering.TheVariants.{Less, Equal, Greater}
use Rattle.std.specs.Ordering.{is_lt, is_le, is_eq, ordering_then, ordering_index, eq_by_cmp}
use Rattle.std.specs.Cmp.{tied_itself}
use Rattle.rdf_terms.specs.declared.term.Term.{Term}
use Rattle.rdf_terms.specs.Term.{term_cmp}
use Rattle.rdf_terms.specs.Statement.{Statement, statement_cmp}
use Rattle.rdf_terms.specs.TermOrder.{term_cmp_total, term_cmp-IsAntisymmetric, statement_cmp_total, statement_cmp-IsAntisymmetric}

pub lt_or_le : (k i : ℕ) → (k < i) ⊎ (i ≤ k)
lt_or_le k i = grind arith

pub less_of : (o : Ordering) → is_lt o ≡ true → o ≡ Less
less_of Less e = refl
less_of Equal e = cc
less_of Greater e = cc

pub equal_of : (o : Ordering) → is_eq o ≡ true → o ≡ Equal
equal_of Less e = cc
equal_of Equal e = refl
equal_of Greater e = cc

-- below and above at once
pub not_both : (o : Ordering) → is_lt o ≡ true → is_le o ≡ false → ⊥
not_both Less e f = cc
not_both Equal e f = cc
not_both Greater e f = cc

pub equal_not_less : (o : Ordering) → is_lt o ≡ true → is_eq o ≡ false
equal_not_less Less e = refl
equal_not_less Equal e = cc
equal_not_less Greater e = cc

pub equal_not_greater : (o : Ordering) → is_le o ≡ false → is_eq o ≡ false
equal_not_greater Less e = refl
equal_not_greater Equal e = cc
equal_not_greater Greater e = refl

pub equal_between : (o : Ordering) → is_lt o ≡ false → is_le o ≡ true → is_eq o ≡ true
equal_between Less e f = cc
equal_between Equal e f = refl
equal_between Greater e f = cc

-- an order of two parts ties where both do
pub both_equal : (a b : Ordering) → is_eq (ordering_then a b) ≡ (is_eq a && is_eq b)
both_equal Less b = refl
both_equal Equal b = refl
both_equal Greater b = refl

pub both_ties : (a b : Ordering) → ordering_then a b ≡ Equal → (a ≡ Equal) × (b ≡ Equal)
both_ties Less b e = cc
both_ties Equal b e = (refl, e)
both_ties Greater b e = cc

-- a first part that isn't below, where the whole isn't
pub first_not_below : (a b : Ordering) → is_lt (ordering_then a b) ≡ false → is_lt a ≡ false
first_not_below Less b e = e
first_not_below Equal b e = refl
first_not_below Greater b e = refl

-- what is below stays below where the other is no higher
pub lt_down : (a b : Ordering) → ordering_index a ≤ ordering_index b → is_lt b ≡ true → is_lt a ≡ true
lt_down Less b h e = refl
lt_down Equal Less h e = absurd (omega arith)
lt_down Equal Equal h e = e
lt_down Equal Greater h e = e
lt_down Greater Less h e = absurd (omega arith)
lt_down Greater Equal h e = e
lt_down Greater Greater h e = e

pub le_down : (a b : Ordering) → ordering_index a ≤ ordering_index b → is_le b ≡ true → is_le a ≡ true
le_down Less b h e = refl
le_down Equal b h e = refl
le_down Greater Less h e = absurd (omega arith)
le_down Greater Equal h e = absurd (omega arith)
le_down Greater Greater h e = e

-- terms
pub term_tied : (x : Term) → is_eq (term_cmp x x) ≡ true
term_tied x = ap is_eq (tied_itself term_cmp_total x)

pub same_term : (x y : Term) → is_eq (term_cmp x y) ≡ true → x ≡ y
same_term x y e = term_cmp-IsAntisymmetric x y (equal_of _ e)

pub term_test : (x y : Term) → IsTrue (is_eq (term_cmp x y)) ↔ (x ≡ y)
term_test x y = (same_term x y, λ e. ap (λ z. is_eq (term_cmp x z)) (sym e) ∙ term_tied x)

-- triples
pub statement_tied : (t : Statement) → eq_by_cmp statement_cmp t t ≡ true
statement_tied t = ap is_eq (tied_itself statement_cmp_total t)

pub same_statement : (t u : Statement) → eq_by_cmp statement_cmp t u ≡ true → t ≡ u
same_statement t u e = statement_cmp-IsAntisymmetric t u (equal_of _ e)
