use Rattle.std.proofs.Common.{◌≡◌, ◌∷◌, [], ℕ, map, sym, ap, ◌∙◌, subst, rules}
use Rattle.std.specs.List.Sorted.{IsStrictlyIncreasing}
use Rattle.std.proofs.lemmas.Iterator.{items_from_collect, YieldsList-from_map, YieldsList-from_slice}
use Rattle.std.proofs.lemmas.List.{map-id}
use Rattle.std.proofs.lemmas.Result.{IfOk-weaker, IfOk-at_ok}
use Rattle.rdf_terms.specs.Nodes.{Nodes}
use Rattle.shapes_graph.specs.PathForms.{paths}
use Rattle.path_eval.specs.Numbered.{AreNumbers}
use Rattle.path_levels.specs.PossibleNodes.{possible}
use Rattle.path_levels.proofs.Searched.{search_possible, one_number_listed}
use Rattle.path_levels.proofs.lists.search.Goals as goal

pub reached_from-requires : goal.reached_from-requires
reached_from-requires c = subst (λ (n : Nodes). AreNumbers n (c.args.start.node ∷ [])) (sym c.requires.graph.all_nodes) (one_number_listed c.args.problem.now c.args.start.node c.requires.node)

pub from_vec-requires : goal.from_vec-requires
from_vec-requires c =
    let found = c.in_ok-found.found.items in
    let kept : c.in_ok-numbers.numbers.items ≡ map (λ (x : ℕ). x) found = IfOk-at_ok _ c.in_ok-numbers.was (items_from_collect _ c.collect.ensures.ran (YieldsList-from_map _ (λ (x : ℕ). x) (YieldsList-from_slice found cc) c.map.ensures.closure (λ x r q k. search rules))) in
    subst IsStrictlyIncreasing (sym (kept ∙ map-id found)) c.in_ok-found.ensures.rises

pub returns : goal.returns
returns c =
    let s = c.args.problem.now in
    let found = c.in_ok-found.found.items in
    let kept : c.in_ok-numbers.numbers.items ≡ map (λ (x : ℕ). x) found = IfOk-at_ok _ c.in_ok-numbers.was (items_from_collect _ c.collect.ensures.ran (YieldsList-from_map _ (λ (x : ℕ). x) (YieldsList-from_slice found cc) c.map.ensures.closure (λ x r q k. search rules))) in
    let same : found ≡ possible s c.args.start.path c.args.start.node =
    search_possible s c.args.start.path c.args.start.node c.paths.result.now c.args.graph.now.graph c.args.graph.now.nodes found (c.paths.ensures ∙ ap paths c.shapes.ensures) c.requires.graph.all_triples c.requires.graph.all_nodes c.requires.node c.in_ok-found.ensures in
    IfOk-weaker c.from_vec.result _ _ (λ n e. e ∙ ((kept ∙ map-id found) ∙ same)) c.from_vec.ensures
