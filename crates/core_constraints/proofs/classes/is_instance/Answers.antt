use Rattle.std.proofs.Common.{sym, ap, ◌∙◌}
use Rattle.std.proofs.lemmas.Bool.{false≢true}
use Rattle.rdf_terms.specs.Nodes.{Nodes, has_term}
use Rattle.targets.proofs.TargetLaws.{class_node}
use Rattle.core_constraints.specs.Findings.{data_of, term_of}
use Rattle.core_constraints.proofs.classes.is_instance.Goals as goal

pub returns-in-None-clause-says : goal.returns-in-None-clause-says
returns-in-None-clause-says c =
    let i = c.args.input.now in
    let class = c.args.class.now in
    λ h. false≢true (sym c.in-None.ensures.none ∙ (ap (λ (m : Nodes). has_term m class) c.nodes.ensures.nodes ∙ c.nodes.ensures.whole class (class_node (data_of i) (term_of i c.args.node) class h)))
