use Rattle.std.proofs.Common.{IsTrue, subst}
use Rattle.rdf_terms.specs.declared.term.Term.{Term}
use Rattle.rdf_terms.specs.Nodes.{has_term, IsNodeOf}
use Rattle.path_eval.specs.Numbered.{Numbered}
use Rattle.path_eval.proofs.Found.{numbered_whole}
use Rattle.path_eval.proofs.numbered.NumberedGraph.nodes.Goals as goal

pub returns-clause-whole : goal.returns-clause-whole
returns-clause-whole c =
    let v = c.self.inside in
    subst (λ (u : Numbered). (x : Term) → IsNodeOf u.graph x → IsTrue (has_term u.nodes x)) c.self.view_is (numbered_whole v.graph.now v.nodes v.subjects.items v.objects.items c.self.invariant)
