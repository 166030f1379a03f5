-- The part of a triple between two nodes.
use Rattle.std.proofs.Common.{◌≡◌, ℕ, List, Option, Some, slice_get, sym, ap, ◌∙◌, subst}
use Rattle.rdf_terms.specs.declared.term.Term.{Term}
use Rattle.rdf_terms.specs.declared.term.Term.TheVariants.{Iri}
use Rattle.rdf_terms.specs.Nodes.{Nodes, terms}
use Rattle.repair_problem.specs.Setting.{Setting, node, nodes}
use Rattle.repair_problem.specs.Candidates.{candidate_number}
use Rattle.path_levels.specs.PathParts.{triple_part, triple_part_at}
use Rattle.path_levels.proofs.NodeLaws.{node_is}

pub triple_part_is : (s : Setting) (x y : ℕ) (i : List ℕ) (a b : Term) (n : Nodes) (m : Option ℕ) → n ≡ nodes s → slice_get (terms n) x ≡ Some a → slice_get (terms n) y ≡ Some b
    → m ≡ candidate_number s (record { subject = a; predicate = Iri i; object = b }) → triple_part_at s m ≡ triple_part s (record { subject = node s x; predicate = Iri i; object = node s y })
triple_part_is s x y i a b n m same at_x at_y own =
    let e : node s x ≡ a = node_is s x a (subst (λ (k : Nodes). slice_get (terms k) x ≡ Some a) same at_x) in
    let f : node s y ≡ b = node_is s y b (subst (λ (k : Nodes). slice_get (terms k) y ≡ Some b) same at_y) in
    ap (triple_part_at s) (own ∙ (λ j. candidate_number s (record { subject = sym e j; predicate = Iri i; object = sym f j })))
