-- Pairs of additions and deletions, and that each of them is one set of triples: its change.
use Rattle.std.proofs.Common.{◌≡◌, Bool, true, false, not, ◌&&◌, ◌||◌, refl, sym, ap, ◌∙◌, subst}
use Rattle.std.proofs.lemmas.Bool.{false≢true}
use Rattle.rdf_terms.specs.Statement.{Statement}
use Rattle.rdf_terms.specs.Graph.{Graph, has, empty, without, edited}
use Rattle.rdf_terms.proofs.GraphLaws.{has-empty, has-without, has-edited, same_graph, same_within}
use Rattle.repair_problem.specs.Repair.{Within, Below, Minimal}
pub use Rattle.repair_problem.specs.Repair.{Apart}

pub edited_by_none : (g : Graph) → edited g empty empty ≡ g
edited_by_none g = same_graph _ _ (λ t. has-edited g empty empty t ∙ (λ i. (has g t && not (has-empty t i)) || has-empty t i) ∙ plain (has g t))
  where
    plain : (a : Bool) → ((a && not false) || false) ≡ a
    plain true = refl
    plain false = refl

pub empty_within : (g : Graph) → Within empty g
empty_within g t e = absurd (false≢true (sym (has-empty t) ∙ e))

-- nothing is below the pair that changes nothing
pub none_below : (adds deletes : Graph) → ¬ (Below adds deletes empty empty)
none_below adds deletes below =
    below.differs (same_within adds empty below.added (empty_within adds), same_within deletes empty below.deleted (empty_within deletes))

-- where the data conforms, the pair that changes nothing is minimal
pub empty_minimal : (Conforming : Graph → Type 0) (g h : Graph) → Conforming g → Minimal Conforming g h empty empty
empty_minimal Conforming g h conforms =
    record {
      explains = record { added = empty_within h; deleted = empty_within g; conforms = subst Conforming (sym (edited_by_none g)) conforms };
      least = λ adds deletes below _. none_below adds deletes below;
    }

-- the triples of both graphs
abbrev pub whole : Graph → Graph → Graph
whole g h = edited g h empty

pub has-whole : (g h : Graph) (t : Statement) → has (whole g h) t ≡ (has g t || has h t)
has-whole g h t = has-edited g h empty t ∙ (λ i. (has g t && not (has-empty t i)) || has h t) ∙ ap (λ b. b || has h t) (plain (has g t))
  where
    plain : (a : Bool) → (a && not false) ≡ a
    plain true = refl
    plain false = refl

pub without_apart : (o g : Graph) → Apart g (without o g)
without_apart o g t h = by (has o t) (has g t) (sym (has-without o g t) ∙ h)
  where
    by : (a b : Bool) → (a && not b) ≡ true → b ≡ false
    by true true e = cc
    by true false e = refl
    by false b e = cc

-- the change of a pair: its triples
abbrev pub both : Graph → Graph → Graph
both adds deletes = whole deletes adds

-- where the offers h are apart from the data g, a pair is what its change has beside each
module _ (g h : Graph) (apart : Apart g h) where
  pub both_adds : (a d : Graph) → Within a h → Within d g → without (both a d) g ≡ a
  both_adds a d added deleted = same_graph _ _ (λ t. has-without (both a d) g t ∙ ap (λ b. b && not (has g t)) (has-whole d a t) ∙ by (has a t) (has d t) (has g t) (has h t) (added t) (deleted t) (apart t))
    where
      by : (a d g h : Bool) → (a ≡ true → h ≡ true) → (d ≡ true → g ≡ true) → (h ≡ true → g ≡ false) → ((d || a) && not g) ≡ a
      by true d true h p q r = absurd (false≢true (sym (r (p refl))))
      by true true false h p q r = refl
      by true false false h p q r = refl
      by false true true h p q r = refl
      by false true false h p q r = absurd (false≢true (q refl))
      by false false true h p q r = refl
      by false false false h p q r = refl

  pub both_deletes : (a d : Graph) → Within a h → Within d g → without (both a d) h ≡ d
  both_deletes a d added deleted = same_graph _ _ (λ t. has-without (both a d) h t ∙ ap (λ b. b && not (has h t)) (has-whole d a t) ∙ by (has a t) (has d t) (has g t) (has h t) (added t) (deleted t) (apart t))
    where
      by : (a d g h : Bool) → (a ≡ true → h ≡ true) → (d ≡ true → g ≡ true) → (h ≡ true → g ≡ false) → ((d || a) && not h) ≡ d
      by true true true true p q r = absurd (false≢true (sym (r refl)))
      by true true false true p q r = absurd (false≢true (q refl))
      by true false g true p q r = refl
      by true d g false p q r = absurd (false≢true (p refl))
      by false true true true p q r = absurd (false≢true (sym (r refl)))
      by false true false true p q r = absurd (false≢true (q refl))
      by false true g false p q r = refl
      by false false g true p q r = refl
      by false false g false p q r = refl

  -- a smaller pair is a smaller change
  pub both_within : (c a d : Graph) → Within a (without c g) → Within d (without c h) → Within (both a d) c
  both_within c a d less_adds less_deletes t e = by (has a t) (has d t) (has c t) (has g t) (has h t) (sym (has-whole d a t) ∙ e) (λ k. sym (has-without c g t) ∙ less_adds t k) (λ k. sym (has-without c h t) ∙ less_deletes t k)
    where
      by : (a d c g h : Bool) → (d || a) ≡ true → (a ≡ true → (c && not g) ≡ true) → (d ≡ true → (c && not h) ≡ true) → c ≡ true
      by a d true g h e p q = refl
      by true d false g h e p q = absurd (false≢true (p refl))
      by false true false g h e p q = absurd (false≢true (q refl))
      by false false false g h e p q = absurd (false≢true e)
