-- What is in a graph that was made from others, and that a graph is the set of its triples.
use Rattle.std.proofs.Common.{◌≡◌, ℕ, ◌+◌, ◌<◌, Some, slice_get, true, false, not, ◌&&◌, ◌||◌, IsTrue, List, [], ◌∷◌, length, Contains, ◌↔◌, refl, sym, ap, ◌∙◌, subst}
use Rattle.std.specs.List.Sorted.{IsPermutation}
use Rattle.std.proofs.lemmas.List.Sorted.{Contains-permutation, IsPermutation-sym}
use Rattle.rdf_terms.proofs.Sets.{items-of_rising}
use Rattle.std.specs.declared.cmp.Ordering.TheVariants.{Less}
use Rattle.std.specs.Ordering.{eq_by_cmp}
use Rattle.std.specs.List.{list_any}
use Rattle.std.specs.Cmp.Lexicographic.{pointwise}
use Rattle.rdf_terms.specs.Statement.{Statement, statement_cmp}
use Rattle.rdf_terms.specs.Graph.{Graph, triples, has, with, empty, including, of_list, without, edited, is_rising, graph_of, same_triples}
use Rattle.rdf_terms.specs.TermOrder.{statement_cmp_total, statement_cmp-IsAntisymmetric}
use Rattle.rdf_terms.proofs.Bools.{both_left, both_right, both_true}
use Rattle.rdf_terms.proofs.Orders.{statement_tied, same_statement}
use Rattle.rdf_terms.proofs.Membership as sets

pub has-empty : (t : Statement) → has empty t ≡ false
has-empty t = sets.has-empty statement_cmp t

pub has-with : (g : Graph) (s t : Statement) → has (with g s) t ≡ (eq_by_cmp statement_cmp t s || has g t)
has-with g s t = sets.has-with statement_cmp_total g s t

pub has_with_same : (g : Graph) (t : Statement) → has (with g t) t ≡ true
has_with_same g t = sets.has_with_same statement_cmp_total g t

pub has_with_kept : (g : Graph) (s t : Statement) → has g t ≡ true → has (with g s) t ≡ true
has_with_kept g s t h = sets.has_with_kept statement_cmp_total g s t h

pub has-including : (g : Graph) (ts : List Statement) (t : Statement) → has (including g ts) t ≡ (has g t || list_any (eq_by_cmp statement_cmp t) ts)
has-including g ts t = sets.has-including statement_cmp_total g ts t

pub has-of_list : (ts : List Statement) (t : Statement) → has (of_list ts) t ≡ list_any (eq_by_cmp statement_cmp t) ts
has-of_list ts t = sets.has-of_list statement_cmp_total ts t

pub has-without : (g d : Graph) (t : Statement) → has (without g d) t ≡ (has g t && not (has d t))
has-without g d t = sets.has-without statement_cmp_total statement_cmp-IsAntisymmetric g d t

pub has-edited : (g a d : Graph) (t : Statement) → has (edited g a d) t ≡ ((has g t && not (has d t)) || has a t)
has-edited g a d t = sets.has-edited statement_cmp_total statement_cmp-IsAntisymmetric g a d t

-- two graphs are equal where they have the same triples
pub same_graph : (a b : Graph) → ((t : Statement) → has a t ≡ has b t) → a ≡ b
same_graph a b is = sets.same_set statement_cmp_total statement_cmp-IsAntisymmetric a b is

pub same_within : (a b : Graph) → ((t : Statement) → IsTrue (has a t) → IsTrue (has b t)) → ((t : Statement) → IsTrue (has b t) → IsTrue (has a t)) → a ≡ b
same_within a b there back = sets.same_within statement_cmp_total statement_cmp-IsAntisymmetric a b there back

-- a graph lists its triples in order, each once
pub triples_rise : (g : Graph) → is_rising (triples g) ≡ true
triples_rise g = sets.items_rise g

pub graph_of-triples : (g : Graph) → graph_of (triples g) ≡ g
graph_of-triples g = sets.of_rising-items statement_cmp_total statement_cmp-IsAntisymmetric g

pub has-triples : (g : Graph) (t : Statement) → has g t ≡ list_any (eq_by_cmp statement_cmp t) (triples g)
has-triples g t = sets.has-items g t

pub has_listed : (g : Graph) (t : Statement) → Contains (triples g) t → has g t ≡ true
has_listed g t h = sets.has_item statement_cmp_total statement_cmp-IsAntisymmetric g t h

pub listed_of_has : (g : Graph) (t : Statement) → has g t ≡ true → Contains (triples g) t
listed_of_has g t h = sets.item_of_has statement_cmp_total statement_cmp-IsAntisymmetric g t h

pub triples_is : (g : Graph) (t : Statement) → IsTrue (has g t) ↔ Contains (triples g) t
triples_is g t = (listed_of_has g t, has_listed g t)

pub has_at : (g : Graph) (t : Statement) (i : ℕ) → slice_get (triples g) i ≡ Some t → has g t ≡ true
has_at g t i h = sets.has_at statement_cmp_total statement_cmp-IsAntisymmetric g t i h

pub place_of_has : (g : Graph) (t : Statement) → has g t ≡ true → (i : ℕ) × (slice_get (triples g) i ≡ Some t)
place_of_has g t h = sets.place_of_has statement_cmp_total statement_cmp-IsAntisymmetric g t h

-- the triples at two places are in order, so no triple has two places
pub rises_at : (g : Graph) (s t : Statement) (i j : ℕ) → slice_get (triples g) i ≡ Some s → slice_get (triples g) j ≡ Some t → i < j → statement_cmp s t ≡ Less
rises_at g s t i j h k lt = sets.rises_at statement_cmp_total statement_cmp-IsAntisymmetric g s t i j h k lt

pub one_place : (g : Graph) (t : Statement) (i j : ℕ) → slice_get (triples g) i ≡ Some t → slice_get (triples g) j ≡ Some t → i ≡ j
one_place g t i j h k = sets.one_place statement_cmp_total statement_cmp-IsAntisymmetric g t i j h k

pub has_of_list_item : (ts : List Statement) (t : Statement) → Contains ts t → has (of_list ts) t ≡ true
has_of_list_item ts t h = sets.has_of_list_item statement_cmp_total ts t h

pub item_of_has_list : (ts : List Statement) (t : Statement) → has (of_list ts) t ≡ true → Contains ts t
item_of_has_list ts t h = sets.item_of_has_list statement_cmp_total statement_cmp-IsAntisymmetric ts t h

-- the graph of a list has exactly its triples
pub of_list_is : (ts : List Statement) (t : Statement) → IsTrue (has (of_list ts) t) ↔ Contains ts t
of_list_is ts t = (item_of_has_list ts t, has_of_list_item ts t)

-- graphs that list the same triples are equal
pub same_triples_is : (g h : Graph) → IsTrue (same_triples g h) ↔ (g ≡ h)
same_triples_is g h = (λ e. sym (graph_of-triples g) ∙ ap graph_of (lists (triples g) (triples h) e) ∙ graph_of-triples h, λ e. ap (same_triples g) (sym e) ∙ itself (triples g))
  where
    itself : (ts : List Statement) → pointwise (eq_by_cmp statement_cmp) ts ts ≡ true
    itself [] = refl
    itself (t ∷ ts) = both_true _ _ (statement_tied t) (itself ts)

    lists : (ts us : List Statement) → pointwise (eq_by_cmp statement_cmp) ts us ≡ true → ts ≡ us
    lists [] [] e = refl
    lists [] (u ∷ us) e = cc
    lists (t ∷ ts) [] e = cc
    lists (t ∷ ts) (u ∷ us) e = let same = same_statement t u (both_left _ _ e) in let rest = lists ts us (both_right _ _ e) in (λ i. same i ∷ rest i)

pub equal_has : (g h : Graph) → (g ≡ h) ↔ ((t : Statement) → has g t ≡ has h t)
equal_has g h = (λ e t. ap (λ k. has k t) e, same_graph g h)

pub with_present : (g : Graph) (t : Statement) → has g t ≡ true → with g t ≡ g
with_present g t h = sets.with_present statement_cmp_total statement_cmp-IsAntisymmetric g t h

-- a triple that is new makes the graph longer by one
pub length-with : (g : Graph) (t : Statement) → has g t ≡ false → length (triples (with g t)) ≡ length (triples g) + 1
length-with g t h = sets.length-with statement_cmp_total g t h

-- a list that rises, whatever order its triples had before
pub graph_of-permuted : (ts us : List Statement) → IsPermutation ts us → is_rising us ≡ true → graph_of us ≡ of_list ts
graph_of-permuted ts us moved rises = same_within (graph_of us) (of_list ts) there back
  where
    listed : triples (graph_of us) ≡ us
    listed = items-of_rising statement_cmp us rises

    there : (t : Statement) → IsTrue (has (graph_of us) t) → IsTrue (has (of_list ts) t)
    there t h = has_of_list_item ts t (Contains-permutation us ts t (IsPermutation-sym ts us moved) (subst (λ vs. Contains vs t) listed (listed_of_has (graph_of us) t h)))

    back : (t : Statement) → IsTrue (has (of_list ts) t) → IsTrue (has (graph_of us) t)
    back t h = has_listed (graph_of us) t (subst (λ vs. Contains vs t) (sym listed) (Contains-permutation ts us t moved (item_of_has_list ts t h)))
