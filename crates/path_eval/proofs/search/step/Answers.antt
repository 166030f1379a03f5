use Rattle.std.proofs.Common.{slice_get, List, ℕ, Contains, sym, subst}
use Rattle.rdf_terms.specs.declared.term.Term.TheVariants.{Iri}
use Rattle.rdf_terms.specs.Members.{InGraph, IsListOf}
use Rattle.rdf_terms.proofs.Members.{in_none}
use Rattle.rdf_navigation.specs.Numbers.{term_at}
use Rattle.path_eval.specs.Directions.{Towards}
use Rattle.path_eval.specs.Automaton.{StepBy}
use Rattle.path_eval.specs.Numbered.{terms_at}
use Rattle.path_eval.proofs.Automata.{no_step}
use Rattle.path_eval.proofs.GrowthLaws.{if_ok}
use Rattle.path_eval.proofs.search.step.Goals as goal

pub returns-in-Some-clause-exact : goal.returns-in-Some-clause-exact
returns-in-Some-clause-exact c =
    let g = c.args.graph.now.graph in
    let n = c.args.graph.now.nodes in
    let x = term_at n c.args.node in
    let d = c.args.direction in
    if_ok c.neighbours.result _ c.neighbours.ensures.exact
    (λ v h. subst (λ o. IsListOf (StepBy o d g x) (terms_at n v.items)) (sym c.in-Some.ensures.some) (subst (λ (i : List ℕ). IsListOf (Towards d (λ a b. InGraph g a (Iri i) b) x) (terms_at n v.items)) c.as_str.ensures h))

pub returns-in-None-clause-exact : goal.returns-in-None-clause-exact
returns-in-None-clause-exact c =
    let g = c.args.graph.now.graph in
    let n = c.args.graph.now.nodes in
    let x = term_at n c.args.node in
    let never = no_step (slice_get c.args.forms.now c.args.path) c.in-None.ensures.none c.args.direction g x in
    λ y. (λ h. absurd (in_none y (subst (λ (is : List ℕ). Contains (terms_at n is) y) c.new.ensures.items h)), λ s. absurd (never y s))
