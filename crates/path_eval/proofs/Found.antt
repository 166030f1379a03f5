-- What a look-up in a set tells, and which nodes are instances.
use Rattle.std.proofs.Common.{◌≡◌, ◌↔◌, ◌⊎◌, inl, inr, ℕ, ◌<◌, Bool, true, false, IsTrue, List, [], ◌∷◌, ◌++◌, ◌+◌, map, take, Contains, IfSome, IfNone, Option, Some, None, option_map, is_some, slice_get, length, get_or, refl, sym, ap, ◌∙◌, subst, arith}
use Rattle.std.specs.declared.cmp.Ordering.{Ordering}
use Rattle.std.specs.declared.cmp.Ordering.TheVariants.{Less, Equal, Greater}
use Rattle.std.specs.Ordering.{is_eq, is_ne}
use Rattle.std.specs.List.{list_any}
use Rattle.std.proofs.lemmas.Bool.{false≢true}
use Rattle.std.proofs.lemmas.List.{get_or_default, length-map, map-append}
use Rattle.std.proofs.lemmas.Option.{slice_get-map, slice_get_read, slice_get-get_or}
use Rattle.rdf_terms.specs.declared.term.Term.{Term}
use Rattle.rdf_terms.specs.declared.term.Term.TheVariants.{Literal}
use Rattle.rdf_terms.specs.Term.{term_cmp}
use Rattle.rdf_terms.specs.Statement.{Statement}
use Rattle.rdf_terms.specs.Graph.{Graph, triples}
use Rattle.rdf_terms.specs.Nodes.{Nodes, terms, has_term, IsNodeOf}
use Rattle.rdf_terms.specs.Members.{IsSetOf}
use Rattle.rdf_terms.specs.Vocab.Rdf as rdf
use Rattle.rdf_terms.proofs.Bools.{alike}
use Rattle.rdf_terms.proofs.Orders.{same_term, term_tied}
use Rattle.rdf_terms.proofs.GraphLaws.{listed_of_has}
use Rattle.rdf_terms.proofs.Members.{take_next, in_map, map_in}
use Rattle.rdf_terms.proofs.NodesLaws.{has_term_at}
use Rattle.rdf_terms.proofs.Values.{IsListOf-objects}
use Rattle.rdf_navigation.specs.Numbers.{term_at}
use Rattle.rdf_navigation.specs.Values.{values}
use Rattle.rdf_navigation.specs.Instances.{IsSubclass, IsInstance, is_instance}
use Rattle.rdf_navigation.proofs.InstanceLaws.{is_instance_is}
use Rattle.rdf_navigation.proofs.NumberLaws.{at_place as at_place_of}
use Rattle.rdf_navigation.proofs.PropertyLaws.{any_in, in_any}
use Rattle.path_eval.specs.Numbered.{terms_at, AreNumbers, AreNumbered}

pub found_is : (n : Nodes) (t : Term) (o : Option ℕ) → IfSome o (λ i. slice_get (terms n) i ≡ Some t) → IfNone o (has_term n t ≡ false) → is_some o ≡ has_term n t
found_is n t None s m = sym m
found_is n t (Some i) s m = sym (has_term_at n t i s)

pub at_place : {X : Type 0} (xs : List X) (i : ℕ) (d : X) → i < length xs → Contains xs (get_or xs i d)
at_place xs i d l = (i, l, get_or_default xs i (get_or xs i d) d l)

-- terms that are told apart, and those that aren't
pub other_term : (x y : Term) (b : Bool) → b ≡ is_ne (term_cmp x y) → b ≡ true → x ≡ y → ⊥
other_term x y b is e same = at (term_cmp x y) (sym is ∙ e) (ap (λ z. is_eq (term_cmp x z)) (sym same) ∙ term_tied x)
  where
    at : (o : Ordering) → is_ne o ≡ true → is_eq o ≡ true → ⊥
    at Less h k = false≢true k
    at Equal h k = false≢true h
    at Greater h k = false≢true k

pub equal_terms : (x y : Term) (b : Bool) → b ≡ is_ne (term_cmp x y) → b ≡ false → x ≡ y
equal_terms x y b is e = same_term x y (at (term_cmp x y) (sym is ∙ e))
  where
    at : (o : Ordering) → is_ne o ≡ false → is_eq o ≡ true
    at Less h = absurd (false≢true (sym h))
    at Equal h = refl
    at Greater h = absurd (false≢true (sym h))

-- some type is a subclass
pub types_are : (g : Graph) (n : Nodes) (x c : Term) → IsSetOf (λ b. IsSubclass g b c) n → IsTrue (list_any (has_term n) (values g x rdf.type_)) ↔ IsInstance g x c
types_are g n x c all = (
  λ h. let r = any_in (has_term n) (values g x rdf.type_) h in (r.0, (IsListOf-objects g x rdf.type_ r.0).0 r.1, (all r.0).0 r.2),
  λ h. in_any (has_term n) (values g x rdf.type_) h.0 ((IsListOf-objects g x rdf.type_ h.0).1 h.1) ((all h.0).1 h.2),
)

pub types_test : (g : Graph) (n : Nodes) (x c : Term) → IsSetOf (λ b. IsSubclass g b c) n → list_any (has_term n) (values g x rdf.type_) ≡ is_instance g x c
types_test g n x c all = alike _ _ (λ h. (is_instance_is g x c).1 ((types_are g n x c all).0 h)) (λ h. (types_are g n x c all).1 ((is_instance_is g x c).0 h))

-- what a table of the ends of triples has at a place
pub table_at : (g : Graph) (n : Nodes) (f : Statement → Term) (table : List ℕ) (i r : ℕ) → terms_at n table ≡ map f (triples g) → AreNumbers n table → i < length (triples g) → r ≡ get_or table i r
    → (r < length (terms n)) × ((t : Statement) → slice_get (triples g) i ≡ Some t → f t ≡ term_at n r)
table_at g n f table i r all within l is = (within r (subst (Contains table) (sym is) (at_place table i r k)), far)
  where
    k : i < length table
    k = let a = length-map table (term_at n) in let b = length-map (triples g) f in let e = ap length all in omega (arith, a, b, e, l)

    far : (t : Statement) → slice_get (triples g) i ≡ Some t → f t ≡ term_at n r
    far t s =
        let own : slice_get table i ≡ Some r = slice_get_read table (length table) i r refl k is in
        let z : Some (term_at n r) ≡ Some (f t) = sym (ap (option_map (term_at n)) own) ∙ (sym (slice_get-map (term_at n) table i) ∙ (ap (λ us. slice_get us i) all ∙ (slice_get-map f (triples g) i ∙ ap (option_map f) s))) in
        cc

-- a list of terms with that of one number more
pub terms_more : (n : Nodes) (is : List ℕ) (k : ℕ) (ts new : List Term) (x : Term) → k < length is → ts ≡ terms_at n (take k is) → new ≡ ts ++ x ∷ [] → slice_get (terms n) (get_or is k 0) ≡ Some x → new ≡ terms_at n (take (k + 1) is)
terms_more n is k ts new x l all pushed place =
    pushed
    ∙ ((λ j. all j ++ sym (at_place_of n (get_or is k 0) x place) j ∷ [])
    ∙ (sym (map-append (term_at n) (take k is) (get_or is k 0 ∷ []))
    ∙ sym (ap (terms_at n) (take_next is k (get_or is k 0) l (get_or_default is k 0 (get_or is k 0) l)))))

-- a term of a table of ends is in the set
in_table : (n : Nodes) (table : List ℕ) (x : Term) → AreNumbers n table → Contains (terms_at n table) x → IsTrue (has_term n x)
in_table n table x within c =
    let m = map_in (term_at n) table x c in
    subst (λ (y : Term). IsTrue (has_term n y)) m.2 (has_term_at n (term_at n m.0) m.0 (slice_get-get_or (terms n) m.0 (Literal [] [] None) (within m.0 m.1)))

-- the set of a numbered graph has the nodes of the graph
pub numbered_whole : (g : Graph) (n : Nodes) (subjects objects : List ℕ) → AreNumbered g n subjects objects → (x : Term) → IsNodeOf g x → IsTrue (has_term n x)
numbered_whole g n subjects objects a x h = at h.2
  where
    listed : Contains (triples g) h.0
    listed = listed_of_has g h.0 h.1

    at : (x ≡ h.0.subject) ⊎ (x ≡ h.0.object) → IsTrue (has_term n x)
    at (inl e) = in_table n subjects x a.subjects_within (subst (λ us. Contains us x) (sym a.subject) (subst (Contains (map (λ (t : Statement). t.subject) (triples g))) (sym e) (in_map (λ (t : Statement). t.subject) (triples g) h.0 listed)))
    at (inr e) = in_table n objects x a.objects_within (subst (λ us. Contains us x) (sym a.object) (subst (Contains (map (λ (t : Statement). t.object) (triples g))) (sym e) (in_map (λ (t : Statement). t.object) (triples g) h.0 listed)))
