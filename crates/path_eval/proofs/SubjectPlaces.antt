-- The places of the triples with one subject, by its number.
use Rattle.std.proofs.Common.{◌≡◌, ◌⊎◌, inl, inr, ℕ, ◌<◌, ◌≤◌, true, false, nat_lt, nat_le, List, [], None, length, get_or, Some, slice_get, sym, ap, ◌∙◌, arith, ltb-true, ltb-false, lt-ltb, leb-true, leb-false, le-leb}
use Rattle.std.specs.declared.cmp.Ordering.TheVariants.{Less, Equal}
use Rattle.std.specs.Ordering.{ordering_index}
use Rattle.std.specs.Cmp.{tied_itself}
use Rattle.std.specs.List.Sorted.{IsPartitionPoint, IsPartitionedBy}
use Rattle.std.proofs.lemmas.Bool.{cases_lt}
use Rattle.std.proofs.lemmas.List.{get_or_default, length-map}
use Rattle.std.proofs.lemmas.Option.{slice_get_within, slice_get-get_or}
use Rattle.rdf_terms.specs.declared.term.Term.{Term}
use Rattle.rdf_terms.specs.declared.term.Term.TheVariants.{Literal}
use Rattle.rdf_terms.specs.Term.{term_cmp}
use Rattle.rdf_terms.specs.TermOrder.{term_cmp_total}
use Rattle.rdf_terms.specs.Statement.{Statement}
use Rattle.rdf_terms.specs.Graph.{Graph, triples, ArePlacesOf}
use Rattle.rdf_terms.specs.Nodes.{Nodes, terms}
use Rattle.rdf_terms.proofs.GraphLaws.{triples_rise}
use Rattle.rdf_terms.proofs.NodesLaws.{terms_rise_at, one_place_of_term}
use Rattle.rdf_terms.proofs.Ranges as ranges
use Rattle.rdf_navigation.specs.Numbers.{term_at}
use Rattle.path_eval.specs.Numbered.{AreNumbered}
use Rattle.path_eval.proofs.Found.{table_at}

nowhere : Term
nowhere = Literal [] [] None

nothing : Statement
nothing = record { subject = nowhere; predicate = nowhere; object = nowhere }

place_of_number : (n : Nodes) (k : ℕ) → k < length (terms n) → slice_get (terms n) k ≡ Some (term_at n k)
place_of_number n k l = slice_get-get_or (terms n) k (Literal [] [] None) l

one_number : (n : Nodes) (m k : ℕ) → m < length (terms n) → k < length (terms n) → term_at n m ≡ term_at n k → m ≡ k
one_number n m k lm lk e = one_place_of_term n (term_at n k) m k (place_of_number n m lm ∙ ap Some e) (place_of_number n k lk)

module _ (g : Graph) (n : Nodes) (subjects objects : List ℕ) (a : AreNumbered g n subjects objects) where
  as_many : length subjects ≡ length (triples g)
  as_many = let s = length-map subjects (term_at n) in let t = length-map (triples g) (λ (t : Statement). t.subject) in let e = ap length a.subject in omega (arith, s, t, e)

  subject_at : (i : ℕ) (t : Statement) (d : ℕ) → slice_get (triples g) i ≡ Some t → (get_or subjects i d < length (terms n)) × (t.subject ≡ term_at n (get_or subjects i d))
  subject_at i t d e = (at.0, at.1 t e)
    where
      l : i < length (triples g)
      l = slice_get_within (triples g) i t e

      k : i < length subjects
      k = omega (arith, l, as_many)

      at : (get_or subjects i d < length (terms n)) × ((t : Statement) → slice_get (triples g) i ≡ Some t → t.subject ≡ term_at n (get_or subjects i d))
      at = table_at g n (λ (t : Statement). t.subject) subjects i (get_or subjects i d) a.subject a.subjects_within l (sym (get_or_default subjects i (get_or subjects i d) d k))

  rise : (i j d : ℕ) → i ≤ j → j < length subjects → get_or subjects i d ≤ get_or subjects j d
  rise i j d low l = at (cases_lt (get_or subjects j d) (get_or subjects i d))
    where
      t : Statement
      t = get_or (triples g) i nothing

      u : Statement
      u = get_or (triples g) j nothing

      lj : j < length (triples g)
      lj = omega (arith, l, as_many)

      li : i < length (triples g)
      li = omega (arith, low, lj)

      here : (get_or subjects i d < length (terms n)) × (t.subject ≡ term_at n (get_or subjects i d))
      here = subject_at i t d (slice_get-get_or (triples g) i nothing li)

      there : (get_or subjects j d < length (terms n)) × (u.subject ≡ term_at n (get_or subjects j d))
      there = subject_at j u d (slice_get-get_or (triples g) j nothing lj)

      rises : ordering_index (term_cmp t.subject t.subject) ≤ ordering_index (term_cmp u.subject t.subject)
      rises = ranges.subjects_rise (triples g) t.subject (triples_rise g) i j nothing low lj

      tied : ordering_index (term_cmp t.subject t.subject) ≡ 1
      tied = ap ordering_index (tied_itself term_cmp_total t.subject)

      at : (get_or subjects j d < get_or subjects i d) ⊎ (get_or subjects i d ≤ get_or subjects j d) → get_or subjects i d ≤ get_or subjects j d
      at (inl lt) =
          let less : ordering_index (term_cmp u.subject t.subject) ≡ 0 = ap ordering_index (terms_rise_at n u.subject t.subject (get_or subjects j d) (get_or subjects i d)
          (place_of_number n (get_or subjects j d) there.0 ∙ ap Some (sym there.1)) (place_of_number n (get_or subjects i d) here.0 ∙ ap Some (sym here.1)) lt) in
          absurd (omega (arith, rises, tied, less))
      at (inr le) = le

  pub below_parts : (k : ℕ) → IsPartitionedBy (λ m. nat_lt m k) subjects
  below_parts k i j d low l h = let r = rise i j d low l in let b = ltb-true (get_or subjects j d) k h in lt-ltb (get_or subjects i d) k (omega (arith, r, b))

  pub up_to_parts : (k : ℕ) → IsPartitionedBy (λ m. nat_le m k) subjects
  up_to_parts k i j d low l h = let r = rise i j d low l in let b = leb-true (get_or subjects j d) k h in le-leb (get_or subjects i d) k (omega (arith, r, b))

  pub places : (k first after : ℕ) → k < length (terms n) → IsPartitionPoint (λ m. nat_lt m k ≡ true) (λ m. nat_lt m k ≡ false) subjects first
      → IsPartitionPoint (λ m. nat_le m k ≡ true) (λ m. nat_le m k ≡ false) subjects after → first ≤ length subjects → after ≤ length subjects → ArePlacesOf (triples g) (term_at n k) first after
  places k first after lk low high first_within after_within = record {
    ordered = ordered (cases_lt after first);
    within = omega (arith, as_many, after_within);
    exact = λ i t e. (λ s. (from i t e s (cases_lt i first), up_to i t e s (cases_lt i after)), λ r. back i t e r.0 r.1);
  }
    where
      number : ℕ → ℕ
      number i = get_or subjects i 0

      within : (i : ℕ) (t : Statement) → slice_get (triples g) i ≡ Some t → i < length subjects
      within i t e = let l = slice_get_within (triples g) i t e in omega (arith, l, as_many)

      ordered : (after < first) ⊎ (first ≤ after) → first ≤ after
      ordered (inl lt) =
          let b = ltb-true (number after) k (low.0 after 0 (omega arith) lt) in
          let u = leb-false (number after) k (high.1 after 0 (omega arith) (omega (arith, lt, first_within))) in
          absurd (omega (arith, b, u))
      ordered (inr le) = le

      same : (i : ℕ) (t : Statement) → slice_get (triples g) i ≡ Some t → t.subject ≡ term_at n k → number i ≡ k
      same i t e s = let h = subject_at i t 0 e in one_number n (number i) k h.0 lk (sym h.1 ∙ s)

      from : (i : ℕ) (t : Statement) → slice_get (triples g) i ≡ Some t → t.subject ≡ term_at n k → (i < first) ⊎ (first ≤ i) → first ≤ i
      from i t e s (inl lt) = let b = ltb-true (number i) k (low.0 i 0 (omega arith) lt) in let z = same i t e s in absurd (omega (arith, b, z))
      from i t e s (inr le) = le

      up_to : (i : ℕ) (t : Statement) → slice_get (triples g) i ≡ Some t → t.subject ≡ term_at n k → (i < after) ⊎ (after ≤ i) → i < after
      up_to i t e s (inl lt) = lt
      up_to i t e s (inr le) = let u = leb-false (number i) k (high.1 i 0 le (within i t e)) in let z = same i t e s in absurd (omega (arith, u, z))

      back : (i : ℕ) (t : Statement) → slice_get (triples g) i ≡ Some t → first ≤ i → i < after → t.subject ≡ term_at n k
      back i t e l h =
          let b = ltb-false (number i) k (low.1 i 0 l (within i t e)) in
          let u = leb-true (number i) k (high.0 i 0 (omega arith) h) in
          let z : number i ≡ k = omega (arith, b, u) in
          (subject_at i t 0 e).1 ∙ ap (term_at n) z
