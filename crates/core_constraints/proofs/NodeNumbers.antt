-- Terms of a set by their numbers, what paths reach by them, and the triples of a subject.
use Rattle.std.proofs.Common.{◌≡◌, ℕ, suc, ◌+◌, ◌-◌, ◌<◌, ◌≤◌, ◌↔◌, IsTrue, false, List, length, take, drop, get_or, Contains, Some, Option, slice_get, sym, ap, ◌∙◌, subst, arith}
use Rattle.std.proofs.lemmas.Bool.{false≢true}
use Rattle.std.proofs.lemmas.List.{length-take-le, length-drop, get_or-take, get_or-drop}
use Rattle.std.proofs.lemmas.Option.{slice_get-get_or, slice_get_within, get_or_from_slice_get}
use Rattle.rdf_terms.specs.declared.term.Term.{Term}
use Rattle.rdf_terms.specs.declared.term.Term.TheVariants.{Iri}
use Rattle.rdf_terms.specs.Statement.{Statement}
use Rattle.rdf_terms.specs.Graph.{Graph, triples, has, ArePlacesOf}
use Rattle.rdf_terms.specs.Members.{InGraph}
use Rattle.rdf_terms.specs.Nodes.{Nodes, terms, has_term}
use Rattle.rdf_terms.proofs.GraphLaws.{has_listed, listed_of_has}
use Rattle.rdf_terms.proofs.Members.{in_map, map_in}
use Rattle.rdf_terms.proofs.NodesLaws.{has_term_at, one_place_of_term}
use Rattle.rdf_navigation.specs.Numbers.{term_at}
use Rattle.rdf_navigation.proofs.NumberLaws.{at_place}
use Rattle.shapes_graph.specs.declared.paths.PathForm.{PathForm}
use Rattle.shapes_graph.specs.Reach.{ReachBy, ReachIn}
use Rattle.path_eval.specs.declared.direction.Direction.{Direction}
use Rattle.path_eval.specs.declared.direction.Direction.TheVariants.{Forward, Backward}
use Rattle.path_eval.specs.Directions.{Towards}
use Rattle.path_eval.specs.Numbered.{terms_at, AreNumbers}
use Rattle.path_eval.proofs.LinkLaws.{list_same}
use Rattle.path_eval.proofs.Searches.{place_of}
use Rattle.core_constraints.specs.NumberLists.{AreNumbersOf, IsStep}
use Rattle.core_constraints.proofs.Decided.{same}
use Rattle.core_constraints.proofs.ListedNumbers.{term_place}

-- a number is listed exactly where its term is
pub number_listed_is : (n : Nodes) (is : List ℕ) → AreNumbers n is → (k : ℕ) (y : Term) → slice_get (terms n) k ≡ Some y → Contains is k ↔ Contains (terms_at n is) y
number_listed_is n is within k y at = (to, from)
  where
    to : Contains is k → Contains (terms_at n is) y
    to c = subst (Contains (terms_at n is)) (at_place n k y at) (in_map (term_at n) is k c)

    from : Contains (terms_at n is) y → Contains is k
    from c =
        let m = map_in (term_at n) is y c in
        let own : slice_get (terms n) m.0 ≡ Some y = term_place n m.0 (within m.0 m.1) ∙ ap Some m.2 in
        subst (Contains is) (one_place_of_term n y m.0 k own at) m.1

-- a term that the set has not, isn't listed
pub not_listed : (n : Nodes) (is : List ℕ) → AreNumbers n is → (y : Term) → has_term n y ≡ false → ¬ (Contains (terms_at n is) y)
not_listed n is within y out c =
    let m = map_in (term_at n) is y c in
    false≢true (sym out ∙ has_term_at n y m.0 (term_place n m.0 (within m.0 m.1) ∙ ap Some m.2))

pub numbers_iff : (n : Nodes) (P Q : Term → Type 0) (is : List ℕ) → ((y : Term) → P y ↔ Q y) → AreNumbersOf n P is → AreNumbersOf n Q is
numbers_iff n P Q is e a = record { within = a.within; rises = a.rises; exact = list_same P Q (terms_at n is) e a.exact }

-- a path of a single triple
pub step_is : (ps : List PathForm) (g : Graph) (p : ℕ) (i : List ℕ) (d : Direction) → IsStep ps p i d → (k : ℕ) (x y : Term) → Towards d (λ a b. InGraph g a (Iri i) b) x y ↔ ReachIn (suc (suc k)) ps g p x y
unfolding ReachIn
step_is ps g p i Forward s k x y = subst (λ (o : Option PathForm). InGraph g x (Iri i) y ↔ ReachBy (λ q a b. ReachIn (suc k) ps g q a b) o g x y) (sym s) same
step_is ps g p i Backward s k x y =
    let inner = subst (λ (o : Option PathForm). InGraph g y (Iri i) x ↔ ReachBy (λ q a b. ReachIn k ps g q a b) o g y x) (sym s.2) same in
    subst (λ (o : Option PathForm). InGraph g y (Iri i) x ↔ ReachBy (λ q a b. ReachIn (suc k) ps g q a b) o g x y) (sym s.1) inner

-- the items from one place up to another
pub in_part : {X : Type 0} (xs : List X) (first after : ℕ) → first ≤ after → after ≤ length xs → (x : X) → Contains (take (after - first) (drop first xs)) x ↔ ((i : ℕ) × (first ≤ i) × (i < after) × (slice_get xs i ≡ Some x))
in_part {X} xs first after o w x = (to, from)
  where
    size : length (take (after - first) (drop first xs)) ≡ after - first
    size = let m = length-drop first xs in length-take-le (after - first) (drop first xs) (omega (arith, m, o, w))

    to : Contains (take (after - first) (drop first xs)) x → (i : ℕ) × (first ≤ i) × (i < after) × (slice_get xs i ≡ Some x)
    to c =
        let l = c.1 in
        let k : c.0 < after - first = omega (arith, size, l) in
        let e : get_or xs (first + c.0) x ≡ x = sym (get_or-drop first xs c.0 x) ∙ (sym (get_or-take (after - first) (drop first xs) c.0 x k) ∙ c.2) in
        (first + c.0, omega arith, omega (arith, k, o), slice_get-get_or xs (first + c.0) x (omega (arith, k, o, w)) ∙ ap Some e)

    from : (i : ℕ) × (first ≤ i) × (i < after) × (slice_get xs i ≡ Some x) → Contains (take (after - first) (drop first xs)) x
    from h =
        let a = h.1 in
        let b = h.2 in
        let k : h.0 - first < after - first = omega (arith, a, b) in
        let is : first + (h.0 - first) ≡ h.0 = omega (arith, a) in
        (h.0 - first, omega (arith, size, k), get_or-take (after - first) (drop first xs) (h.0 - first) x k ∙ (get_or-drop first xs (h.0 - first) x ∙ (ap (λ j. get_or xs j x) is ∙ get_or_from_slice_get xs h.0 x x h.3)))

-- the triples at the places of a subject are those with this subject
pub part_of_subject : (g : Graph) (x : Term) (first after : ℕ) → ArePlacesOf (triples g) x first after → (t : Statement) → Contains (take (after - first) (drop first (triples g))) t ↔ (IsTrue (has g t) × (t.subject ≡ x))
part_of_subject g x first after a t = (to, from)
  where
    is : Contains (take (after - first) (drop first (triples g))) t ↔ ((i : ℕ) × (first ≤ i) × (i < after) × (slice_get (triples g) i ≡ Some t))
    is = in_part (triples g) first after a.ordered a.within t

    to : Contains (take (after - first) (drop first (triples g))) t → IsTrue (has g t) × (t.subject ≡ x)
    to c =
        let h = is.0 c in
        (has_listed g t (h.0, slice_get_within (triples g) h.0 t h.3, get_or_from_slice_get (triples g) h.0 t t h.3), (a.exact h.0 t h.3).1 (h.1, h.2))

    from : IsTrue (has g t) × (t.subject ≡ x) → Contains (take (after - first) (drop first (triples g))) t
    from h =
        let s = place_of (triples g) t (listed_of_has g t h.0) in
        let r = (a.exact s.0 t s.2).0 h.1 in
        is.1 (s.0, r.0, r.1, s.2)
