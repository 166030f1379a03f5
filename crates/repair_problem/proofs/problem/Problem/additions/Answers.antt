use Rattle.std.proofs.Common.{◌≡◌, ◌<◌, ◌++◌, [], ℕ, List, length, get_or, All, IfOk, sym, ap, ◌∙◌, subst, take_all}
use Rattle.std.specs.Prelude.{filter_map}
use Rattle.std.specs.List.{cons_option}
use Rattle.std.proofs.lemmas.List.Elements.{All-get_or}
use Rattle.rdf_terms.specs.Statement.{Statement}
use Rattle.rdf_terms.specs.Graph.{of_list}
use Rattle.rdf_navigation.proofs.PropertyLaws.{filter_map_next}
use Rattle.repair_problem.specs.Candidates.{candidates, addition_at}
use Rattle.repair_problem.proofs.problem.Problem.additions.Goals as goal

pub push_addition-requires : goal.push_addition-requires
push_addition-requires c =
    let n = length (candidates c.args.self.now) in
    let items = c.as_slice-t-items.result.now in
    All-get_or (λ r. r < n) items c.candidates.t-index 0 c.candidates-test.true (subst (λ (ts : List ℕ). All (λ r. r < n) ts) (sym c.as_slice-t-items.ensures) c.requires)

pub candidates-preserved : goal.candidates-preserved
candidates-preserved c =
    let s = c.args.self.now in
    let items = c.as_slice-t-items.result.now in
    let i = c.candidates.t-index in
    c.in_ok-push_addition.ensures ∙ (ap (λ (ts : List Statement). ts ++ cons_option (addition_at s (get_or items i 0)) []) c.candidates.invariant ∙ sym (filter_map_next (addition_at s) items i 0 c.candidates-test.true))

pub returns : goal.returns
returns c =
    let s = c.args.self.now in
    let items = c.as_slice-t-items.result.now in
    subst (λ (ts : List Statement). IfOk c.from_triples.result (λ g. g ≡ of_list ts)) (c.candidates.invariant ∙ ap (filter_map (addition_at s)) (take_all c.candidates.t-index items c.candidates-test.false ∙ c.as_slice-t-items.ensures)) c.from_triples.ensures.value
