-- Triples of value nodes whose predicates aren't allowed.
use Rattle.std.proofs.Common.{◌≡◌, ◌↔◌, ◌⊎◌, inl, inr, ℕ, ◌+◌, ◌<◌, ◌≤◌, Bool, true, false, not, IsTrue, List, [], ◌∷◌, ◌++◌, take, take_all, length, get_or, Contains, refl, sym, ap, ◌∙◌, subst}
use Rattle.std.specs.List.{list_any}
use Rattle.std.proofs.lemmas.Bool.{false≢true}
use Rattle.std.proofs.lemmas.List.{get_or_default}
use Rattle.rdf_terms.specs.declared.term.Term.{Term}
use Rattle.rdf_terms.specs.Statement.{Statement}
use Rattle.rdf_terms.specs.Graph.{Graph, has}
use Rattle.rdf_terms.specs.Nodes.{Nodes}
use Rattle.rdf_terms.proofs.Members.{in_map, map_in, in_none, take_next}
use Rattle.rdf_navigation.specs.Numbers.{term_at}
use Rattle.rdf_navigation.specs.Values.{among}
use Rattle.rdf_navigation.proofs.PropertyLaws.{any_in, in_any}
use Rattle.shapes_graph.specs.Conformance.{IsOpen}
use Rattle.path_eval.specs.Numbered.{terms_at}
use Rattle.path_eval.proofs.Found.{at_place}
use Rattle.path_eval.proofs.LinkLaws.{in_push}

true_not : (b : Bool) → not b ≡ true → b ≡ false
true_not true h = sym h
true_not false h = refl

false_not : (b : Bool) → b ≡ false → not b ≡ true
false_not true h = sym h
false_not false h = refl

module _ (allowed : List Term) (g : Graph) (n : Nodes) where
  -- no triple of these nodes has a predicate that isn't allowed
  abbrev pub AreClosed : List ℕ → Type 0
  AreClosed is = (t : Statement) → ¬ (IsOpen allowed g (Contains (terms_at n is)) t)

  pub none_open : AreClosed []
  none_open t o = in_none t.subject o.subject

  module _ (is : List ℕ) (i : ℕ) (l : i < length is) (ts : List Statement) (own : (t : Statement) → Contains ts t ↔ (IsTrue (has g t) × (t.subject ≡ term_at n (get_or is i 0)))) where
    pub open_found : list_any (λ (t : Statement). not (among allowed t.predicate)) ts ≡ true → (t : Statement) × IsOpen allowed g (Contains (terms_at n is)) t
    open_found h =
        let r = any_in (λ (t : Statement). not (among allowed t.predicate)) ts h in
        let q = (own r.0).0 r.1 in
        (r.0, record { there = q.0; subject = subst (Contains (terms_at n is)) (sym q.1) (in_map (term_at n) is (get_or is i 0) (at_place is i 0 l)); other = true_not (among allowed r.0.predicate) r.2 })

    pub closed_more : list_any (λ (t : Statement). not (among allowed t.predicate)) ts ≡ false → AreClosed (take i is) → AreClosed (take (i + 1) is)
    closed_more h all t o = at ((in_push (take i is) (get_or is i 0) m.0).0 (subst (λ us. Contains us m.0) next m.1))
      where
        m : (k : ℕ) × Contains (take (i + 1) is) k × (term_at n k ≡ t.subject)
        m = map_in (term_at n) (take (i + 1) is) t.subject o.subject

        next : take (i + 1) is ≡ take i is ++ get_or is i 0 ∷ []
        next = take_next is i (get_or is i 0) l (get_or_default is i 0 (get_or is i 0) l)

        at : Contains (take i is) m.0 ⊎ (get_or is i 0 ≡ m.0) → ⊥
        at (inl c) = all t (record { there = o.there; subject = subst (Contains (terms_at n (take i is))) m.2 (in_map (term_at n) (take i is) m.0 c); other = o.other })
        at (inr e) =
            let here : t.subject ≡ term_at n (get_or is i 0) = sym m.2 ∙ ap (term_at n) (sym e) in
            false≢true (sym h ∙ in_any (λ (u : Statement). not (among allowed u.predicate)) ts t ((own t).1 (o.there, here)) (false_not (among allowed t.predicate) o.other))

  pub all_closed : (is : List ℕ) (i : ℕ) → length is ≤ i → AreClosed (take i is) → ¬ ((t : Statement) × IsOpen allowed g (Contains (terms_at n is)) t)
  all_closed is i end all h = all h.0 (subst (λ us. IsOpen allowed g (Contains (terms_at n us)) h.0) (sym (take_all i is end)) h.1)
