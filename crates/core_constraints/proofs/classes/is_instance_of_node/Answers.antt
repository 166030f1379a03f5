use Rattle.std.proofs.Common.{sym, subst}
use Rattle.rdf_terms.specs.declared.term.Term.{Term}
use Rattle.rdf_terms.specs.Graph.{Graph}
use Rattle.rdf_terms.specs.Members.{IsSetOf}
use Rattle.rdf_navigation.specs.Instances.{IsSubclass}
use Rattle.core_constraints.specs.Findings.{data_of, term_of}
use Rattle.core_constraints.proofs.ClassLaws.{type_says}
use Rattle.core_constraints.proofs.classes.is_instance_of_node.Goals as goal

pub returns-in-Some-clause-says : goal.returns-in-Some-clause-says
returns-in-Some-clause-says c =
    let i = c.args.input.now in
    let class = c.args.class in
    let classes = c.in-Some.classes.now in
    type_says (data_of i) c.graph-graph.result.now classes c.args.node.now (term_of i class) c.has_type_among.result c.graph-graph.ensures
    (c.requires.truthful.subclasses class classes (sym c.in-Some.ensures)) c.has_type_among.ensures

pub returns-clause-says : goal.returns-clause-says
returns-clause-says c =
    let i = c.args.input.now in
    let class = c.args.class in
    let classes = c.in_ok-classes.classes in
    let all = subst (λ (t : Term). IsSetOf (λ d. IsSubclass c.graph-graph.result.now d t) classes) c.term.ensures c.in_ok-classes.ensures in
    type_says (data_of i) c.graph-graph.result.now classes c.args.node.now (term_of i class) c.has_type_among-is_one.result c.graph-graph.ensures
    (subst (λ (g : Graph). IsSetOf (λ d. IsSubclass g d (term_of i class)) classes) c.graph-graph.ensures all) c.has_type_among-is_one.ensures
