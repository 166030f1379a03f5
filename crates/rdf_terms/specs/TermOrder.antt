-- The order of terms and that of triples are total, and tie equal values alone.
use Rattle.std.specs.Prelude.{◌≡◌, ℕ, List, [], ◌∷◌, Option, None, Some, refl}
use Rattle.std.proofs.Common.{ap, subst}
use Rattle.std.proofs.Math.Path.{fun_ext}
use Rattle.std.specs.declared.cmp.Ordering.{Ordering}
use Rattle.std.specs.declared.cmp.Ordering.TheVariants.{Less, Equal, Greater}
use Rattle.std.specs.Ordering.{ordering_then, nat_cmp, on, then_cmp}
use Rattle.std.specs.Cmp.{IsTotalOrder, nat_cmp_total}
use Rattle.std.proofs.lemmas.Cmp.{on_total, then_total, nat_list_cmp_total}
use Rattle.std.specs.FinMap.{IsAntisymmetric, nat_cmp-IsAntisymmetric, slice_cmp-IsAntisymmetric}
use Rattle.rdf_terms.specs.Term.{term_cmp, text_cmp, tag_cmp}
use Rattle.rdf_terms.specs.Statement.{Statement, statement_cmp}
use Rattle.rdf_terms.specs.declared.term.Scope.TheVariants.{Data, Shapes}
use Rattle.rdf_terms.specs.declared.term.Term.{Term}
use Rattle.rdf_terms.specs.declared.term.Term.TheVariants.{Iri, Blank, Literal}

-- a term by four keys, each compared on its own
abbrev rank : Term → ℕ
rank (Iri a) = 0
rank (Blank Data l) = 1
rank (Blank Shapes l) = 2
rank (Literal l d t) = 3

abbrev first : Term → List ℕ
first (Iri a) = a
first (Blank s l) = l
first (Literal l d t) = l

abbrev second : Term → List ℕ
second (Iri a) = []
second (Blank s l) = []
second (Literal l d t) = d

abbrev third : Term → List ℕ
third (Iri a) = []
third (Blank s l) = []
third (Literal l d None) = []
third (Literal l d (Some t)) = 0 ∷ t

abbrev by_keys : Term → Term → Ordering
by_keys = then_cmp (on rank nat_cmp) (then_cmp (on first text_cmp) (then_cmp (on second text_cmp) (on third text_cmp)))

by_keys_total : IsTotalOrder by_keys
by_keys_total =
    then_total (on_total rank nat_cmp_total)
    (then_total (on_total first nat_list_cmp_total)
    (then_total (on_total second nat_list_cmp_total) (on_total third nat_list_cmp_total)))

then-Equal : (o : Ordering) → ordering_then o Equal ≡ o
then-Equal Less = refl
then-Equal Equal = refl
then-Equal Greater = refl

by_keys_is : (x y : Term) → by_keys x y ≡ term_cmp x y
by_keys_is (Iri a) (Iri b) = then-Equal (text_cmp a b)
by_keys_is (Iri a) (Blank Data b) = refl
by_keys_is (Iri a) (Blank Shapes b) = refl
by_keys_is (Iri a) (Literal l d t) = refl
by_keys_is (Blank Data a) (Iri b) = refl
by_keys_is (Blank Shapes a) (Iri b) = refl
by_keys_is (Blank Data a) (Blank Data b) = then-Equal (text_cmp a b)
by_keys_is (Blank Data a) (Blank Shapes b) = refl
by_keys_is (Blank Shapes a) (Blank Data b) = refl
by_keys_is (Blank Shapes a) (Blank Shapes b) = then-Equal (text_cmp a b)
by_keys_is (Blank Data a) (Literal l d t) = refl
by_keys_is (Blank Shapes a) (Literal l d t) = refl
by_keys_is (Literal k c s) (Iri b) = refl
by_keys_is (Literal k c s) (Blank Data b) = refl
by_keys_is (Literal k c s) (Blank Shapes b) = refl
by_keys_is (Literal k c None) (Literal l d None) = refl
by_keys_is (Literal k c None) (Literal l d (Some t)) = refl
by_keys_is (Literal k c (Some s)) (Literal l d None) = refl
by_keys_is (Literal k c (Some s)) (Literal l d (Some t)) = refl

pub term_cmp_total : IsTotalOrder term_cmp
term_cmp_total = subst IsTotalOrder (fun_ext (λ x. fun_ext (λ y. by_keys_is x y))) by_keys_total

pub statement_cmp_total : IsTotalOrder statement_cmp
statement_cmp_total =
    then_total (on_total (λ (t : Statement). t.subject) term_cmp_total)
    (then_total (on_total (λ (t : Statement). t.predicate) term_cmp_total)
    (on_total (λ (t : Statement). t.object) term_cmp_total))

then_equal : (a b : Ordering) → ordering_then a b ≡ Equal → (a ≡ Equal) × (b ≡ Equal)
then_equal Less b e = cc
then_equal Equal b e = (refl, e)
then_equal Greater b e = cc

text_ties : (a b : List ℕ) → text_cmp a b ≡ Equal → a ≡ b
text_ties = slice_cmp-IsAntisymmetric nat_cmp-IsAntisymmetric

pub term_cmp-IsAntisymmetric : IsAntisymmetric term_cmp
term_cmp-IsAntisymmetric (Iri a) (Iri b) e = ap Iri (text_ties a b e)
term_cmp-IsAntisymmetric (Iri a) (Blank s b) e = cc
term_cmp-IsAntisymmetric (Iri a) (Literal l d t) e = cc
term_cmp-IsAntisymmetric (Blank r a) (Iri b) e = cc
term_cmp-IsAntisymmetric (Blank Data a) (Blank Data b) e = ap (Blank Data) (text_ties a b e)
term_cmp-IsAntisymmetric (Blank Data a) (Blank Shapes b) e = cc
term_cmp-IsAntisymmetric (Blank Shapes a) (Blank Data b) e = cc
term_cmp-IsAntisymmetric (Blank Shapes a) (Blank Shapes b) e = ap (Blank Shapes) (text_ties a b e)
term_cmp-IsAntisymmetric (Blank r a) (Literal l d t) e = cc
term_cmp-IsAntisymmetric (Literal k c s) (Iri b) e = cc
term_cmp-IsAntisymmetric (Literal k c s) (Blank r b) e = cc
term_cmp-IsAntisymmetric (Literal k c s) (Literal l d t) e =
    let h = then_equal _ _ e in
    let g = then_equal _ _ h.1 in
    let kl = text_ties k l h.0 in
    let cd = text_ties c d g.0 in
    let st = tag_ties s t g.1 in
    λ i. Literal (kl i) (cd i) (st i)
  where
    tag_ties : (s t : Option (List ℕ)) → tag_cmp s t ≡ Equal → s ≡ t
    tag_ties None None e = refl
    tag_ties None (Some t) e = cc
    tag_ties (Some s) None e = cc
    tag_ties (Some s) (Some t) e = ap Some (text_ties s t e)

pub statement_cmp-IsAntisymmetric : IsAntisymmetric statement_cmp
statement_cmp-IsAntisymmetric x y e =
    let h = then_equal _ _ e in
    let g = then_equal _ _ h.1 in
    let s = term_cmp-IsAntisymmetric x.subject y.subject h.0 in
    let p = term_cmp-IsAntisymmetric x.predicate y.predicate g.0 in
    let o = term_cmp-IsAntisymmetric x.object y.object g.1 in
    λ i. record { subject = s i; predicate = p i; object = o i }
