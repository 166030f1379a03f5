-- What a search over the numbers of the full graph finds are the possible nodes.
use Rattle.std.proofs.Common.{◌≡◌, ◌↔◌, ◌⊎◌, inl, inr, ℕ, ◌<◌, List, [], ◌∷◌, length, Contains, Some, slice_get, sym, ap, ◌∙◌, subst}
use Rattle.rdf_terms.specs.declared.term.Term.{Term}
use Rattle.rdf_terms.specs.Graph.{Graph}
use Rattle.rdf_terms.specs.Nodes.{Nodes, terms}
use Rattle.rdf_terms.proofs.Members.{in_cases, in_none}
use Rattle.rdf_navigation.specs.Numbers.{term_at}
use Rattle.shapes_graph.specs.declared.paths.PathForm.{PathForm}
use Rattle.shapes_graph.specs.PathForms.{paths}
use Rattle.shapes_graph.specs.Reach.{ReachIn, Reaches, path_levels}
use Rattle.path_eval.specs.Numbered.{AreReached, AreNumbers, terms_at}
use Rattle.path_eval.proofs.ReachedLaws.{reached_one}
use Rattle.repair_problem.specs.Setting.{Setting, nodes, node, full}
use Rattle.path_levels.specs.PossibleNodes.{node_count, possible}
use Rattle.path_levels.proofs.Possibility.{possible_rises, possible_exact}
use Rattle.path_levels.proofs.SameNumbers.{same_numbers, place_is, number_listed}

-- what the search from one node finds
pub found_possible : (s : Setting) (p x : ℕ) (found : List ℕ) → x < node_count s → AreReached (λ a b. ReachIn path_levels (paths s.shapes) (full s) p a b) (nodes s) (x ∷ []) found → found ≡ possible s p x
unfolding Reaches
found_possible s p x found l r = same_numbers found (possible s p x) r.rises (possible_rises s p x) (λ k. (to k, from k))
  where
    R : Term → Term → Type 0
    R a b = ReachIn path_levels (paths s.shapes) (full s) p a b

    one : (y : Term) → Contains (terms_at (nodes s) found) y ↔ R (node s x) y
    one y = reached_one R (nodes s) x (node s x) found (place_is (nodes s) x l) r y

    to : (k : ℕ) → Contains found k → Contains (possible s p x) k
    to k c =
        let m = r.within k c in
        (possible_exact s p x k).1 (l, m, (one (node s k)).0 ((number_listed (nodes s) found r.within k m).0 c))

    from : (k : ℕ) → Contains (possible s p x) k → Contains found k
    from k c =
        let h = (possible_exact s p x k).0 c in
        (number_listed (nodes s) found r.within k h.1).1 ((one (node s k)).1 h.2)

-- a list of one number of a node
pub one_number_listed : (s : Setting) (x : ℕ) → x < node_count s → AreNumbers (nodes s) (x ∷ [])
one_number_listed s x l i c = at (in_cases x [] i c)
  where
    at : (x ≡ i) ⊎ Contains [] i → i < node_count s
    at (inl e) = subst (λ k. k < node_count s) e l
    at (inr d) = absurd (in_none i d)

-- the same of the tables that a search is given
pub search_possible : (s : Setting) (p x : ℕ) (ps : List PathForm) (g : Graph) (n : Nodes) (found : List ℕ) → ps ≡ paths s.shapes → g ≡ full s → n ≡ nodes s → x < node_count s
    → AreReached (λ a b. ReachIn path_levels ps g p a b) n (x ∷ []) found → found ≡ possible s p x
search_possible s p x ps g n found forms graph numbers l r =
    found_possible s p x found l
    (subst (λ m. AreReached (λ a b. ReachIn path_levels (paths s.shapes) (full s) p a b) m (x ∷ []) found) numbers
    (subst (λ h. AreReached (λ a b. ReachIn path_levels (paths s.shapes) h p a b) n (x ∷ []) found) graph
    (subst (λ qs. AreReached (λ a b. ReachIn path_levels qs g p a b) n (x ∷ []) found) forms r)))
