-- The triples with a subject and a predicate: where they stand, and what they are.
use Rattle.std.proofs.Common.{◌≡◌, Bool, true, false, cond, List, [], ◌∷◌, map, get_or, ◌+◌, Contains, IsTrue, refl, sym, ap, ◌∙◌, subst, arith}
use Rattle.std.proofs.lemmas.Bool.{false≢true}
use Rattle.std.specs.declared.cmp.Ordering.{Ordering}
use Rattle.std.specs.declared.cmp.Ordering.TheVariants.{Less, Equal, Greater}
use Rattle.std.specs.Ordering.{is_lt, is_eq, ordering_then, ordering_index, on, then_cmp}
use Rattle.std.specs.Cmp.{IsTotalOrder, tied_itself}
use Rattle.std.specs.List.{filter}
use Rattle.std.specs.List.Sorted.{IsNonDecreasingBy, IsSortedBy}
use Rattle.std.specs.FinMap.Entries.{below_all}
use Rattle.std.proofs.lemmas.Cmp.{on_total, then_total}
use Rattle.std.proofs.lemmas.List.Elements.{filter_agree}
use Rattle.std.proofs.lemmas.List.Sorted.{searchable_from_sorted}
use Rattle.rdf_terms.specs.declared.term.Term.{Term}
use Rattle.rdf_terms.specs.Term.{term_cmp}
use Rattle.rdf_terms.specs.TermOrder.{term_cmp_total, statement_cmp_total}
use Rattle.rdf_terms.specs.Statement.{Statement, statement_cmp}
use Rattle.rdf_terms.specs.Set.{marked}
use Rattle.rdf_terms.specs.Set as set
use Rattle.rdf_terms.specs.Graph.{Graph, triples, has, is_rising, is_of, triples_of}
use Rattle.rdf_terms.proofs.Bools.{both_left, both_right, both_true}
use Rattle.rdf_terms.proofs.Orders.{both_equal, same_term, term_tied}
use Rattle.rdf_terms.proofs.Members.{in_filter, filter_in}
use Rattle.rdf_terms.proofs.GraphLaws.{has_listed, listed_of_has, triples_rise}
use Rattle.rdf_terms.proofs.Sets.{rising_sorted}

-- how the subject and the predicate of a triple are ordered against s and p
abbrev pub key_cmp : Term → Term → Statement → Ordering
key_cmp s p t = ordering_then (term_cmp t.subject s) (term_cmp t.predicate p)

abbrev pair_cmp : Statement → Statement → Ordering
pair_cmp = then_cmp (on (λ (t : Statement). t.subject) term_cmp) (on (λ (t : Statement). t.predicate) term_cmp)

pair_cmp_total : IsTotalOrder pair_cmp
pair_cmp_total = then_total (on_total (λ (t : Statement). t.subject) term_cmp_total) (on_total (λ (t : Statement). t.predicate) term_cmp_total)

pairs_sorted : (ts : List Statement) → is_rising ts ≡ true → IsSortedBy (λ a b. is_lt (pair_cmp a b)) ts
pairs_sorted ts h k d low high =
    let t = get_or ts k d in
    let u = get_or ts (k + 1) d in
    weaker (term_cmp u.subject t.subject) (term_cmp u.predicate t.predicate) (term_cmp u.object t.object) (rising_sorted statement_cmp_total ts h k d low high)
  where
    weaker : (a b c : Ordering) → is_lt (ordering_then a (ordering_then b c)) ≡ false → is_lt (ordering_then a b) ≡ false
    weaker Less b c e = e
    weaker Equal Less c e = e
    weaker Equal Equal c e = refl
    weaker Equal Greater c e = refl
    weaker Greater b c e = refl

-- triples in order have their subjects and predicates in order
pub keys_rise : (ts : List Statement) (s p : Term) → is_rising ts ≡ true → IsNonDecreasingBy (λ t. ordering_index (key_cmp s p t)) ts
keys_rise ts s p h = searchable_from_sorted pair_cmp_total (λ (t : Statement). t) ts (record { subject = s; predicate = p; object = s }) (pairs_sorted ts h)

pub tied_keys : (s p : Term) (ts : List Statement) → filter (λ t. is_eq (key_cmp s p t)) ts ≡ filter (is_of s p) ts
tied_keys s p ts = filter_agree (λ t. is_eq (key_cmp s p t)) (is_of s p) (λ t. both_equal (term_cmp t.subject s) (term_cmp t.predicate p)) ts

-- the test says what it is to say
pub is_of_terms : (s p : Term) (t : Statement) → is_of s p t ≡ true → (t.subject ≡ s) × (t.predicate ≡ p)
is_of_terms s p t e = (same_term _ _ (both_left _ _ e), same_term _ _ (both_right _ _ e))

pub is_of_itself : (s p o : Term) → is_of s p (record { subject = s; predicate = p; object = o }) ≡ true
is_of_itself s p o = both_true _ _ (term_tied s) (term_tied p)

pub terms_is_of : (s p : Term) (t : Statement) → t.subject ≡ s → t.predicate ≡ p → is_of s p t ≡ true
terms_is_of s p t e f = sym (λ i. is_of (e i) (f i) t) ∙ both_true _ _ (term_tied t.subject) (term_tied t.predicate)

-- a triple of the graph with the two terms is listed, and each that is listed is one
pub in_triples_of : (g : Graph) (s p o : Term) → has g (record { subject = s; predicate = p; object = o }) ≡ true → Contains (triples_of g s p) (record { subject = s; predicate = p; object = o })
in_triples_of g s p o h = in_filter (is_of s p) (triples g) _ (listed_of_has g _ h) (is_of_itself s p o)

pub triples_of_listed : (g : Graph) (s p : Term) (t : Statement) → has g t ≡ true → t.subject ≡ s → t.predicate ≡ p → Contains (triples_of g s p) t
triples_of_listed g s p t h e f = in_filter (is_of s p) (triples g) t (listed_of_has g t h) (terms_is_of s p t e f)

pub triples_of_terms : (g : Graph) (s p : Term) (t : Statement) → Contains (triples_of g s p) t → IsTrue (has g t) × (t.subject ≡ s) × (t.predicate ≡ p)
triples_of_terms g s p t h =
    let k = filter_in (is_of s p) (triples g) t h in
    let e = is_of_terms s p t k.1 in
    (has_listed g t k.0, e.0, e.1)

pub triples_of_in : (g : Graph) (s p : Term) (t : Statement) → Contains (triples_of g s p) t → has g (record { subject = s; predicate = p; object = t.object }) ≡ true
triples_of_in g s p t h =
    let k = triples_of_terms g s p t h in
    sym (λ i. has g (record { subject = k.1 i; predicate = k.2 i; object = t.object })) ∙ k.0

-- the objects of triples with one subject and one predicate rise
abbrev pub objects : List Statement → List Term
objects ts = map (λ t. t.object) ts

-- of two triples with one key, the lower one has the lower object
lower_object : (s p : Term) (t u : Statement) → is_of s p t ≡ true → is_of s p u ≡ true → is_lt (statement_cmp t u) ≡ true → is_lt (term_cmp t.object u.object) ≡ true
lower_object s p t u e f lt =
    let a = is_of_terms s p t e in
    let b = is_of_terms s p u f in
    let x : term_cmp t.subject u.subject ≡ Equal = (λ i. term_cmp (a.0 i) (b.0 i)) ∙ tied_itself term_cmp_total s in
    let y : term_cmp t.predicate u.predicate ≡ Equal = (λ i. term_cmp (a.1 i) (b.1 i)) ∙ tied_itself term_cmp_total p in
    sym (λ i. is_lt (ordering_then (x i) (ordering_then (y i) (term_cmp t.object u.object)))) ∙ lt

objects_above : (s p : Term) (t : Statement) (ts : List Statement) → is_of s p t ≡ true → below_all statement_cmp t (marked ts) ≡ true → below_all term_cmp t.object (marked (objects (filter (is_of s p) ts))) ≡ true
objects_above s p t [] e h = refl
objects_above s p t (u ∷ us) e h = by (objects_above s p t us e (both_right (is_lt (statement_cmp t u)) _ h)) (is_of s p u) refl
  where
    by : below_all term_cmp t.object (marked (objects (filter (is_of s p) us))) ≡ true → (b : Bool) → is_of s p u ≡ b → below_all term_cmp t.object (marked (objects (cond b (u ∷ filter (is_of s p) us) (filter (is_of s p) us)))) ≡ true
    by rest true f = both_true (is_lt (term_cmp t.object u.object)) _ (lower_object s p t u e f (both_left _ _ h)) rest
    by rest false f = rest

pub objects_rise : (s p : Term) (ts : List Statement) → is_rising ts ≡ true → set.is_rising term_cmp (objects (filter (is_of s p) ts)) ≡ true
objects_rise s p [] h = refl
objects_rise s p (t ∷ ts) h = by (objects_rise s p ts (both_right (below_all statement_cmp t (marked ts)) _ h)) (is_of s p t) refl
  where
    by : set.is_rising term_cmp (objects (filter (is_of s p) ts)) ≡ true → (b : Bool) → is_of s p t ≡ b → set.is_rising term_cmp (objects (cond b (t ∷ filter (is_of s p) ts) (filter (is_of s p) ts))) ≡ true
    by rest true e = both_true (below_all term_cmp t.object (marked (objects (filter (is_of s p) ts)))) _ (objects_above s p t ts e (both_left _ _ h)) rest
    by rest false e = rest

pub objects_of_rise : (g : Graph) (s p : Term) → set.is_rising term_cmp (objects (triples_of g s p)) ≡ true
objects_of_rise g s p = objects_rise s p (triples g) (triples_rise g)

-- no two triples with one subject and one predicate have one object
pub objects_differ : (g : Graph) (s p : Term) (t u : Statement) (us : List Statement) → triples_of g s p ≡ t ∷ u ∷ us → t.object ≡ u.object → ⊥
objects_differ g s p t u us is same =
    let rises = subst (λ ts. set.is_rising term_cmp (objects ts) ≡ true) is (objects_of_rise g s p) in
    let lt : is_lt (term_cmp t.object u.object) ≡ true = both_left _ _ (both_left _ _ rises) in
    let tied : term_cmp t.object u.object ≡ Equal = (λ i. term_cmp (same i) u.object) ∙ tied_itself term_cmp_total u.object in
    false≢true (sym (ap is_lt tied) ∙ lt)

pub none_in : (g : Graph) (s p o : Term) → triples_of g s p ≡ [] → ¬ IsTrue (has g (record { subject = s; predicate = p; object = o }))
none_in g s p o e h = let c = subst (λ ts. Contains ts (record { subject = s; predicate = p; object = o })) e (in_triples_of g s p o h) in let l = c.1 in absurd (omega arith)
