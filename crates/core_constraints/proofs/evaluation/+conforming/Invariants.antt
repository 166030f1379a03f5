use Rattle.std.proofs.Common.{◌+◌, ◌*◌, ◌≤◌, take}
use Rattle.std.specs.Ordering.{nat_cmp}
use Rattle.rdf_terms.specs.Term.{term_cmp}
use Rattle.shapes_profile.specs.Logic.{EachOf}
use Rattle.shapes_graph.specs.Conformance.{HoldsIn}
use Rattle.path_eval.specs.Numbered.{terms_at}
use Rattle.core_constraints.specs.Decisions.{Exactly}
use Rattle.core_constraints.specs.Levels.{level}
use Rattle.core_constraints.specs.Findings.{shapes_of, data_of, term_of, IsConforming, IsTruthful}
use Rattle.core_constraints.specs.Tests.{IsGoodNode}
use Rattle.core_constraints.proofs.CountLaws.{First}
use Rattle.core_constraints.proofs.evaluation.+conforming.Given as goal

abbrev pub decreases-conforms_to : goal.decreases-conforms_to
decreases-conforms_to l = 10 * level (shapes_of l.input.now) l.shape + 9

abbrev pub decreases-meets_shape : goal.decreases-meets_shape
decreases-meets_shape l = 10 * level (shapes_of l.input.now) l.shape + 8

abbrev pub decreases-holds_at : goal.decreases-holds_at
decreases-holds_at l = 10 * level (shapes_of l.input.now) l.shape + 7

abbrev pub decreases-holds : goal.decreases-holds
decreases-holds l = 10 * level (shapes_of l.input.now) l.constraint.now.shape + 6

abbrev pub decreases-are_all_good : goal.decreases-are_all_good
decreases-are_all_good l = 10 * level (shapes_of l.input.now) l.constraint.now.shape + 4

abbrev pub decreases-count_good : goal.decreases-count_good
decreases-count_good l = 10 * level (shapes_of l.input.now) l.constraint.now.shape + 4

abbrev pub decreases-is_good : goal.decreases-is_good
decreases-is_good l = 10 * level (shapes_of l.input.now) l.constraint.now.shape + 3

abbrev pub decreases-is_qualified : goal.decreases-is_qualified
decreases-is_qualified l = 10 * level (shapes_of l.input.now) l.owner + 2

abbrev pub decreases-conforms_to_all : goal.decreases-conforms_to_all
decreases-conforms_to_all l = 10 * level (shapes_of l.input.now) l.owner + 1

abbrev pub decreases-conforms_to_any : goal.decreases-conforms_to_any
decreases-conforms_to_any l = 10 * level (shapes_of l.input.now) l.owner + 1

abbrev pub decreases-count_conforming : goal.decreases-count_conforming
decreases-count_conforming l = 10 * level (shapes_of l.input.now) l.owner + 1

abbrev pub invariant-conforms_to_all-shapes : goal.invariant-conforms_to_all-shapes
invariant-conforms_to_all-shapes l = IsTruthful l.input l.memo × EachOf (λ u. IsConforming l.input u (term_of l.input l.node)) (take l.shape-index l.shapes)

abbrev pub invariant-conforms_to_any-shapes : goal.invariant-conforms_to_any-shapes
invariant-conforms_to_any-shapes l = IsTruthful l.input l.memo × EachOf (λ u. ¬ (IsConforming l.input u (term_of l.input l.node))) (take l.shape-index l.shapes)

abbrev pub invariant-count_conforming-shapes : goal.invariant-count_conforming-shapes
invariant-count_conforming-shapes l = IsTruthful l.input l.memo × Exactly nat_cmp (First l.shapes (λ u. IsConforming l.input u (term_of l.input l.node)) l.shape-index) l.count × (l.count ≤ l.shape-index)

abbrev pub invariant-are_all_good-values : goal.invariant-are_all_good-values
invariant-are_all_good-values l = IsTruthful l.input l.memo × EachOf (IsGoodNode l.input l.constraint.kind) (terms_at l.input.graph.nodes (take l.value-index l.values))

abbrev pub invariant-count_good-values : goal.invariant-count_good-values
invariant-count_good-values l = IsTruthful l.input l.memo × Exactly term_cmp (First (terms_at l.input.graph.nodes l.values) (IsGoodNode l.input l.constraint.kind) l.value-index) l.count × (l.count ≤ l.value-index)

abbrev pub invariant-meets_shape-places : goal.invariant-meets_shape-places
invariant-meets_shape-places l = IsTruthful l.input l.memo × EachOf (HoldsIn (shapes_of l.input) (data_of l.input) (IsConforming l.input) (term_of l.input l.node)) (take l.place-index l.place-items)
