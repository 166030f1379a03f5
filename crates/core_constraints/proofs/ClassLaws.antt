-- What types say of instances.
use Rattle.std.proofs.Common.{◌≡◌, ◌↔◌, Bool, IsTrue, sym, ap, ◌∙◌, subst}
use Rattle.std.specs.List.{list_any}
use Rattle.rdf_terms.specs.declared.term.Term.{Term}
use Rattle.rdf_terms.specs.Statement.{Statement}
use Rattle.rdf_terms.specs.Graph.{Graph, triples_of}
use Rattle.rdf_terms.specs.Members.{IsSetOf}
use Rattle.rdf_terms.specs.Nodes.{Nodes, has_term}
use Rattle.rdf_terms.specs.Vocab.Rdf as rdf
use Rattle.rdf_navigation.specs.Values.{values}
use Rattle.rdf_navigation.specs.Instances.{IsSubclass, IsInstance}
use Rattle.rdf_navigation.proofs.PropertyLaws.{any_map}
use Rattle.path_eval.proofs.Found.{types_are}
use Rattle.core_constraints.specs.Decisions.{Says}
use Rattle.core_constraints.proofs.Decided.{says_is}

-- whether a type is among the subclasses
pub type_says : (g h : Graph) (n : Nodes) (x c : Term) (b : Bool) → h ≡ g → IsSetOf (λ d. IsSubclass g d c) n → b ≡ list_any (λ (t : Statement). has_term n t.object) (triples_of h x rdf.type_) → Says b (IsInstance g x c)
type_says g h n x c b same all is = says_is b (IsInstance g x c) (subst (λ (d : Bool). IsTrue d ↔ IsInstance g x c) (sym own) (types_are g n x c all))
  where
    own : b ≡ list_any (has_term n) (values g x rdf.type_)
    own = is ∙ (ap (λ (k : Graph). list_any (λ (t : Statement). has_term n t.object) (triples_of k x rdf.type_)) same ∙ any_map (has_term n) (λ (t : Statement). t.object) (triples_of g x rdf.type_))
