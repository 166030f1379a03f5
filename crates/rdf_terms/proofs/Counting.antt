-- The set of the terms with a property, and their number.
use Rattle.std.proofs.Common.{◌≡◌, ◌↔◌, ℕ, true, List, length, Contains, sym, ap, ◌∙◌, subst}
use Rattle.rdf_terms.specs.declared.term.Term.{Term}
use Rattle.rdf_terms.specs.Term.{term_cmp}
use Rattle.rdf_terms.specs.TermOrder.{term_cmp_total, term_cmp-IsAntisymmetric}
use Rattle.rdf_terms.specs.Nodes.{Nodes, terms, nodes_of_rising, nodes_of_list, is_rising}
use Rattle.rdf_terms.specs.Members.{IsListOf, IsSetOf, IsCount}
use Rattle.rdf_terms.proofs.Membership as sets
use Rattle.rdf_terms.proofs.Sets.{items-of_rising}
use Rattle.rdf_terms.proofs.NodesLaws.{same_nodes_within, term_listed, has_term_listed}

-- of two properties that the same terms have
pub IsSetOf-same : (P Q : Term → Type 0) (n : Nodes) → ((y : Term) → P y ↔ Q y) → IsSetOf P n → IsSetOf Q n
IsSetOf-same P Q n is all y = (λ h. (is y).0 ((all y).0 h), λ q. (all y).1 ((is y).1 q))

pub IsCount-same : (P Q : Term → Type 0) (n : ℕ) → ((y : Term) → P y ↔ Q y) → IsCount P n → IsCount Q n
IsCount-same P Q n is c = record { nodes = c.nodes; all = IsSetOf-same P Q c.nodes is c.all; size = c.size }

-- there is one such set, and one such number
pub IsSetOf-unique : (P : Term → Type 0) (m n : Nodes) → IsSetOf P m → IsSetOf P n → m ≡ n
IsSetOf-unique P m n a b = same_nodes_within m n (λ y h. (b y).1 ((a y).0 h)) (λ y h. (a y).1 ((b y).0 h))

pub IsCount-unique : (P : Term → Type 0) (m n : ℕ) → IsCount P m → IsCount P n → m ≡ n
IsCount-unique P m n a b = sym a.size ∙ ap (λ v. length (terms v)) (IsSetOf-unique P a.nodes b.nodes a.all b.all) ∙ b.size

-- what a set lists is what is in it
pub IsListOf-terms : (P : Term → Type 0) (n : Nodes) → IsSetOf P n → IsListOf P (terms n)
IsListOf-terms P n all y = (λ h. (all y).0 (has_term_listed n y h), λ p. term_listed n y ((all y).1 p))

-- the set of a list
pub IsSetOf-list : (P : Term → Type 0) (ts : List Term) → IsListOf P ts → IsSetOf P (nodes_of_list ts)
IsSetOf-list P ts all y = (
  λ h. (all y).0 (sets.item_of_has_list term_cmp_total term_cmp-IsAntisymmetric ts y h),
  λ p. sets.has_of_list_item term_cmp_total ts y ((all y).1 p),
)

-- a list that rises has as many items as terms
pub IsCount-rising : (P : Term → Type 0) (ts : List Term) → is_rising ts ≡ true → IsListOf P ts → IsCount P (length ts)
IsCount-rising P ts rises all =
    record {
      nodes = nodes_of_rising ts;
      all = λ y. (
        λ h. (all y).0 (subst (λ us. Contains us y) listed (term_listed (nodes_of_rising ts) y h)),
        λ p. has_term_listed (nodes_of_rising ts) y (subst (λ us. Contains us y) (sym listed) ((all y).1 p)),
      );
      size = ap length listed;
    }
  where
    listed : terms (nodes_of_rising ts) ≡ ts
    listed = items-of_rising term_cmp ts rises
