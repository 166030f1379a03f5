-- The table of the lengths of lists, and how a list is read.
use Rattle.std.proofs.Common.{◌≡◌, ℕ, ◌+◌, ◌<◌, min, ◌⊎◌, inl, inr, Bool, true, false, cond, List, [], ◌∷◌, length, Contains, Option, Some, None, option_map, refl, sym, ap, ◌∙◌, subst, arith}
use Rattle.std.proofs.lemmas.Bool.{false≢true}
use Rattle.rdf_terms.specs.declared.term.Term.{Term}
use Rattle.rdf_terms.specs.Graph.{Graph, triples}
use Rattle.rdf_terms.specs.Nodes.{Nodes, terms, has_term}
use Rattle.rdf_terms.specs.Members.{InGraph, IsSetOf}
use Rattle.rdf_terms.specs.Vocab.Rdf as rdf
use Rattle.rdf_terms.proofs.Members.{in_none, in_cases}
use Rattle.digraph.specs.Digraph.{Digraph, successors_at, look}
use Rattle.digraph.specs.Depth.{depth_in}
use Rattle.digraph.proofs.DepthLaws.{depth_along_within}
use Rattle.rdf_navigation.specs.Values.{only_value}
use Rattle.rdf_navigation.specs.Lists.{is_nil, IsListOf, members_in, members_of}
use Rattle.rdf_navigation.specs.Numbers.{term_at, IsNumbered, IsEndOf}
use Rattle.rdf_navigation.specs.ListTable.{rest_by, rests, capped_length, AreLengths}
use Rattle.rdf_navigation.proofs.ListLaws.{only_is, nil_is, members_is, members_list, depth_members}

module _ (test : Term → Bool) (s : Graph) where
  -- what follows is a rest
  pub rests_in : (x : Term) (ts : List Term) → rests test s x ≡ Some ts → (t : Term) → Contains ts t → InGraph s x rdf.rest t
  rests_in x ts e t c = at (is_nil s x) (test x) (only_value s x rdf.first) (only_value s x rdf.rest) refl e
    where
      at : (b d : Bool) (f g : Option Term) → only_value s x rdf.rest ≡ g → cond b (Some []) (cond d (rest_by f g) None) ≡ Some ts → InGraph s x rdf.rest t
      at true d f g q e = let same : [] ≡ ts = cc in absurd (in_none t (subst (λ us. Contains us t) (sym same) c))
      at false false f g q e = absurd (let z : None ≡ Some ts = e in cc)
      at false true None g q e = absurd (let z : None ≡ Some ts = e in cc)
      at false true (Some m) None q e = absurd (let z : None ≡ Some ts = e in cc)
      at false true (Some m) (Some r) q e =
          let same : r ∷ [] ≡ ts = cc in
          one (in_cases r [] t (subst (λ us. Contains us t) (sym same) c))
        where
          one : (r ≡ t) ⊎ Contains [] t → InGraph s x rdf.rest t
          one (inl h) = only_is s x rdf.rest t (q ∙ ap (λ u. Some u) h)
          one (inr d) = absurd (in_none t d)

  -- the capped depths of the nodes are the capped lengths of their lists
  pub lengths_right : (n : Nodes) (g : Digraph) (v : List (Option ℕ)) → length g ≡ length (terms n) → IsNumbered (rests test s) n g
      → ((x : ℕ) → look v x ≡ option_map (min 2) (depth_in (successors_at g) (length g) x))
      → ((k x d : ℕ) → depth_in (successors_at g) k x ≡ Some d → look v x ≡ Some (min 2 d))
      → IsSetOf (λ x. IsEndOf s rdf.rest x ⊎ (x ≡ rdf.nil)) n → AreLengths test s n v
  unfolding members_of
  lengths_right n g v len w value any all = record { listed = listed; others = others }
    where
      depth_is : (k i : ℕ) → i < length (terms n) → option_map length (members_in test k s (term_at n i)) ≡ depth_in (successors_at g) k i
      depth_is k i l =
          depth_members test s k (term_at n i)
          ∙ depth_along_within (term_at n) (successors_at g) (rests test s) (λ j. j < length (terms n)) (λ j m. w.same j (omega (arith, len, m))) (λ j u m q. w.closed j u q) k i l

      found : (i : ℕ) → i < length (terms n) → (ms : List Term) → members_of test s (term_at n i) ≡ Some ms → look v i ≡ Some (capped_length ms)
      found i l ms e = any (length (triples s) + 1) i (length ms) (sym (depth_is (length (triples s) + 1) i l) ∙ ap (option_map length) e)

      missing : (i : ℕ) → i < length (terms n) → members_of test s (term_at n i) ≡ None → (o : Option (List Term)) → members_in test (length g) s (term_at n i) ≡ o → look v i ≡ None
      missing i l e None q = value i ∙ ap (option_map (min 2)) (sym (depth_is (length g) i l) ∙ ap (option_map length) q)
      missing i l e (Some ms) q = absurd (let z : None ≡ Some ms = sym e ∙ (members_is test s (term_at n i) ms).1 (members_list test s (length g) (term_at n i) ms q) in cc)

      listed : (i : ℕ) → i < length (terms n) → look v i ≡ option_map capped_length (members_of test s (term_at n i))
      listed i l = at (members_of test s (term_at n i)) refl
        where
          at : (o : Option (List Term)) → members_of test s (term_at n i) ≡ o → look v i ≡ option_map capped_length o
          at None e = missing i l e (members_in test (length g) s (term_at n i)) refl
          at (Some ms) e = found i l ms e

      others : (x : Term) → has_term n x ≡ false → members_of test s x ≡ None
      others x h = at (members_of test s x) refl
        where
          there : (cs ms : List Term) → IsListOf test s x cs ms → IsEndOf s rdf.rest x ⊎ (x ≡ rdf.nil)
          there [] [] i = inr (nil_is s x i)
          there [] (m ∷ ms) i = absurd i
          there (c ∷ cs) [] i = absurd i
          there (c ∷ cs) (m ∷ ms) i = inl (i.4.0, inl (only_is s x rdf.rest i.4.0 i.4.1))

          at : (o : Option (List Term)) → members_of test s x ≡ o → members_of test s x ≡ None
          at None e = e
          at (Some ms) e = let l = (members_is test s x ms).0 e in absurd (false≢true (sym h ∙ (all x).1 (there l.0 ms l.1)))

  -- at nil nothing is left to be read
  pub nil_members : (x : Term) (ms : List Term) → is_nil s x ≡ true → members_of test s x ≡ Some ms → ms ≡ []
  nil_members x ms n e = let l = (members_is test s x ms).0 e in at l.0 ms l.1
    where
      at : (cs us : List Term) → IsListOf test s x cs us → us ≡ []
      at [] [] i = refl
      at [] (u ∷ us) i = absurd i
      at (c ∷ cs) [] i = absurd i
      at (c ∷ cs) (u ∷ us) i = absurd (false≢true (sym i.1 ∙ n))

  -- elsewhere a cell with its first member, and the rest
  pub record IsCell (x : Term) (ms : List Term) : Type 0 where
    pub member : Term
    pub others : List Term
    pub rest : Term
    pub all : ms ≡ member ∷ others
    pub first : only_value s x rdf.first ≡ Some member
    pub next : only_value s x rdf.rest ≡ Some rest
    pub after : members_of test s rest ≡ Some others

  pub cell_members : (x : Term) (ms : List Term) → is_nil s x ≡ false → members_of test s x ≡ Some ms → IsCell x ms
  cell_members x ms n e = let l = (members_is test s x ms).0 e in at l.0 ms l.1
    where
      at : (cs us : List Term) → IsListOf test s x cs us → IsCell x us
      at [] [] i = absurd (false≢true (sym n ∙ i))
      at [] (u ∷ us) i = absurd i
      at (c ∷ cs) [] i = absurd i
      at (c ∷ cs) (u ∷ us) i = record { member = u; others = us; rest = i.4.0; all = refl; first = i.3; next = i.4.1; after = (members_is test s i.4.0 us).1 (cs, i.4.2) }
