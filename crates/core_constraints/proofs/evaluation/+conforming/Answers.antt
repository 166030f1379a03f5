use Rattle.std.proofs.Common.{◌≡◌, ◌↔◌, ℕ, ◌+◌, ◌*◌, ◌<◌, ◌≤◌, true, false, not, length, map, leb, get_or, Contains, refl, sym, ap, ◌∙◌, subst, Bor, arith, ◌==◌, [], ◌∷◌, Some, slice_get, IfOk}
use Rattle.std.specs.Prelude.{IsTrue, option_map}
use Rattle.std.specs.List.Sorted.{IsStrictlyIncreasing}
use Rattle.std.proofs.lemmas.Bool.Decides.{Decides-eqb}
use Rattle.std.proofs.lemmas.Option.{slice_get-get_or, slice_get-map}
use Rattle.std.proofs.lemmas.Slice.Eq.{slice_eq-Decides}
use Rattle.rdf_terms.specs.Term.{term_cmp}
use Rattle.rdf_terms.specs.declared.term.Term.{Term}
use Rattle.rdf_terms.specs.declared.term.Term.TheVariants.{Iri}
use Rattle.rdf_terms.specs.declared.text.Text.{Text}
use Rattle.rdf_terms.specs.Members.{InGraph}
use Rattle.shapes_profile.specs.Logic.{EachOf, NoneFails, SomeOf}
use Rattle.shapes_graph.specs.declared.constraints.Constraint.{Constraint}
use Rattle.shapes_graph.specs.Constraints.{constraint_at}
use Rattle.shapes_graph.specs.Forms.{form_of, Same, Every, NotObject, Closing, Counted}
use Rattle.shapes_graph.specs.Conformance.{IsGood, HoldsBy, HoldsIn}
use Rattle.shapes_graph.specs.Reach.{IsValue}
use Rattle.path_eval.specs.Numbered.{terms_at}
use Rattle.core_constraints.specs.Decisions.{Says, Exactly}
use Rattle.core_constraints.specs.Levels.{level, AreLower, AreDistinct}
use Rattle.core_constraints.specs.Findings.{shapes_of, data_of, term_of, IsConforming, IsValueNode, AreValueNodes}
use Rattle.core_constraints.specs.Tests.{is_tested, IsGoodNode}
use Rattle.core_constraints.proofs.Decided.{says_true, says_false, says_iff, no_false, take_whole, in_at, each_at, if_ok_more, some_at, none_some, says_not}
use Rattle.core_constraints.proofs.Opened.{conforms_off, conforms_says}
use Rattle.core_constraints.proofs.Ranked.{ranked, lower_of, qualified_lower_least, qualified_lower_most, constraint_place}
use Rattle.core_constraints.proofs.Stated.{places_there, place_within, own_stated, of_constraint, no_constraint, each_start, each_next, noted_truthful}
use Rattle.core_constraints.proofs.Tested.{IsOfNodes, asks_of_nodes, asks_tested, holds_alone}
use Rattle.core_constraints.proofs.ValueLaws.{mapped_empty, having_says, counted_of, counted_all, least_says, most_says, same_says, common_says, none_says, closing_says, unique_says}
use Rattle.std.specs.Ordering.{nat_cmp}
use Rattle.std.specs.FinMap.{nat_cmp-IsAntisymmetric}
use Rattle.std.proofs.lemmas.Cmp.{nat_cmp_total}
use Rattle.std.proofs.lemmas.List.{length-map}
use Rattle.rdf_terms.specs.TermOrder.{term_cmp_total, term_cmp-IsAntisymmetric}
use Rattle.rdf_terms.proofs.Members.{in_first, in_rest, in_map}
use Rattle.rdf_navigation.specs.Numbers.{term_at}
use Rattle.core_constraints.proofs.CountLaws.{First, exactly_none}
use Rattle.core_constraints.proofs.FirstItems.{each_more, each_whole, mapped_more, mapped_whole, none_fails, exactly_step, exactly_whole, count_bound, one_says, qualified_says}
use Rattle.core_constraints.proofs.GoodNodes.{node_test, stated_test, stated_says}
use Rattle.core_constraints.proofs.ListedNumbers.{distinct_terms}
use Rattle.shapes_graph.specs.declared.constraints.Kind.TheVariants as kind
use Rattle.core_constraints.proofs.evaluation.+conforming.Goals as goal

-- conforms_to
pub conforms_to-returns-in-Some-clause-says : goal.conforms_to-returns-in-Some-clause-says
conforms_to-returns-in-Some-clause-says t c = c.requires.truthful.verdict (record { shape = c.args.shape; node = c.args.node }) c.in-Some.verdict (sym c.verdict.ensures ∙ c.in-Some.is)

pub conforms_to-returns-in-Some-clause-truthful : goal.conforms_to-returns-in-Some-clause-truthful
conforms_to-returns-in-Some-clause-truthful t c = c.requires.truthful

pub conforms_to-meets_shape-requires : goal.conforms_to-meets_shape-requires
conforms_to-meets_shape-requires t c =
    let f : 10 * level (shapes_of c.args.input.now) c.args.shape + 8 < t = omega (arith, c.decreases) in
    (f, (c.requires.shape, (c.requires.node, c.requires.truthful)))

pub conforms_to-returns-in_err-verdict-clause-truthful : goal.conforms_to-returns-in_err-verdict-clause-truthful
conforms_to-returns-in_err-verdict-clause-truthful t c = c.meets_shape.ensures.truthful

pub conforms_to-returns-in_err-note_verdict-clause-truthful : goal.conforms_to-returns-in_err-note_verdict-clause-truthful
conforms_to-returns-in_err-note_verdict-clause-truthful t c =
    noted_truthful c.args.input.now c.meets_shape.new.memo c.note_verdict.new.self (record { shape = c.args.shape; node = c.args.node }) c.in_ok-verdict.verdict c.meets_shape.ensures.truthful c.note_verdict.ensures.verdicts c.note_verdict.ensures.classes c.in_ok-verdict.ensures.says

pub conforms_to-returns-clause-says : goal.conforms_to-returns-clause-says
conforms_to-returns-clause-says t c = c.in_ok-verdict.ensures.says

pub conforms_to-returns-clause-truthful : goal.conforms_to-returns-clause-truthful
conforms_to-returns-clause-truthful t c =
    noted_truthful c.args.input.now c.meets_shape.new.memo c.note_verdict.new.self (record { shape = c.args.shape; node = c.args.node }) c.in_ok-verdict.verdict c.meets_shape.ensures.truthful c.note_verdict.ensures.verdicts c.note_verdict.ensures.classes c.in_ok-verdict.ensures.says

-- meets_shape
pub meets_shape-deactivated-requires : goal.meets_shape-deactivated-requires
meets_shape-deactivated-requires t c = c.requires.shape

pub meets_shape-returns-then-deactivated-clause-says : goal.meets_shape-returns-then-deactivated-clause-says
meets_shape-returns-then-deactivated-clause-says t c =
    let s = shapes_of c.args.input.now in
    let p = places_there s c.args.shape c.requires.shape in
    conforms_off s (data_of c.args.input.now) (ranked s c.triples-triples.ensures.profile) c.args.shape (term_of c.args.input.now c.args.node) p.0 p.1 (sym c.deactivated.ensures ∙ c.if-deactivated.true)

pub meets_shape-returns-then-deactivated-clause-truthful : goal.meets_shape-returns-then-deactivated-clause-truthful
meets_shape-returns-then-deactivated-clause-truthful t c = c.requires.truthful

pub meets_shape-value_nodes-requires-clause-shape : goal.meets_shape-value_nodes-requires-clause-shape
meets_shape-value_nodes-requires-clause-shape t c = c.requires.shape

pub meets_shape-value_nodes-requires-clause-node : goal.meets_shape-value_nodes-requires-clause-node
meets_shape-value_nodes-requires-clause-node t c = c.requires.node

pub meets_shape-returns-in_err-values-clause-truthful : goal.meets_shape-returns-in_err-values-clause-truthful
meets_shape-returns-in_err-values-clause-truthful t c = c.requires.truthful

pub meets_shape-constraints_of-place-items-requires : goal.meets_shape-constraints_of-place-items-requires
meets_shape-constraints_of-place-items-requires t c = c.requires.shape

pub meets_shape-places-init : goal.meets_shape-places-init
meets_shape-places-init t c =
    let i = c.args.input.now in
    (c.requires.truthful, each_start (HoldsIn (shapes_of i) (data_of i) (IsConforming i) (term_of i c.args.node)) c.constraints_of-place-items.result.now)

pub meets_shape-holds_at-requires : goal.meets_shape-holds_at-requires
meets_shape-holds_at-requires t c =
    let i = c.args.input.now in
    let ps = c.constraints_of-place-items.result.now in
    let j = c.places.place-index in
    let p = get_or ps j 0 in
    let f : 10 * level (shapes_of i) c.args.shape + 7 < t = omega (arith, c.decreases) in
    (f, (c.requires.shape, ((ps, c.constraints_of-place-items.ensures.places, in_at ps j p (slice_get-get_or ps j 0 c.places-test.true)), (c.requires.node, (subst (λ vs. AreValueNodes i c.args.shape c.args.node vs) (sym c.as_slice.ensures.value) c.in_ok-values.ensures, c.places.invariant.0)))))

pub meets_shape-returns-in_err-holds_at-clause-truthful : goal.meets_shape-returns-in_err-holds_at-clause-truthful
meets_shape-returns-in_err-holds_at-clause-truthful t c = c.holds_at.ensures.truthful

pub meets_shape-returns-then-not-branch-clause-says : goal.meets_shape-returns-then-not-branch-clause-says
meets_shape-returns-then-not-branch-clause-says t c =
    let i = c.args.input.now in
    let s = shapes_of i in
    let P = HoldsIn s (data_of i) (IsConforming i) (term_of i c.args.node) in
    let ps = c.constraints_of-place-items.result.now in
    let j = c.places.place-index in
    let p = get_or ps j 0 in
    let bad = says_false c.in_ok-holds_at.field-0 (P p) c.in_ok-holds_at.ensures.says c.if-not-branch.true in
    conforms_says s (data_of i) (ranked s c.triples-triples.ensures.profile) c.args.shape (term_of i c.args.node) ps c.constraints_of-place-items.ensures.places (sym c.deactivated.ensures ∙ c.if-deactivated.false) false
    (λ all. bad (each_at P ps p all (in_at ps j p (slice_get-get_or ps j 0 c.places-test.true))))

pub meets_shape-returns-then-not-branch-clause-truthful : goal.meets_shape-returns-then-not-branch-clause-truthful
meets_shape-returns-then-not-branch-clause-truthful t c = c.holds_at.ensures.truthful

pub meets_shape-places-preserved : goal.meets_shape-places-preserved
meets_shape-places-preserved t c =
    let i = c.args.input.now in
    let P = HoldsIn (shapes_of i) (data_of i) (IsConforming i) (term_of i c.args.node) in
    let ps = c.constraints_of-place-items.result.now in
    let j = c.places.place-index in
    let p = get_or ps j 0 in
    (c.holds_at.ensures.truthful, each_next P ps j p (slice_get-get_or ps j 0 c.places-test.true) (says_true c.in_ok-holds_at.field-0 (P p) c.in_ok-holds_at.ensures.says c.if-not-branch.false) c.places.invariant.1)

pub meets_shape-returns-clause-says : goal.meets_shape-returns-clause-says
meets_shape-returns-clause-says t c =
    let i = c.args.input.now in
    let s = shapes_of i in
    let P = HoldsIn s (data_of i) (IsConforming i) (term_of i c.args.node) in
    let ps = c.constraints_of-place-items.result.now in
    conforms_says s (data_of i) (ranked s c.triples-triples.ensures.profile) c.args.shape (term_of i c.args.node) ps c.constraints_of-place-items.ensures.places (sym c.deactivated.ensures ∙ c.if-deactivated.false) true
    (subst (EachOf P) (take_whole ps c.places.place-index c.places-test.false) c.places.invariant.1)

pub meets_shape-returns-clause-truthful : goal.meets_shape-returns-clause-truthful
meets_shape-returns-clause-truthful t c = c.places.invariant.0

-- holds_at
pub holds_at-constraint-requires : goal.holds_at-constraint-requires
holds_at-constraint-requires t c = place_within (shapes_of c.args.input.now) c.args.shape c.args.place c.requires.place

pub holds_at-holds-requires : goal.holds_at-holds-requires
holds_at-holds-requires t c =
    let i = c.args.input.now in
    let s = shapes_of i in
    let own = own_stated s c.args.shape c.args.place c.in-Some.constraint.now (ranked s c.triples-triples.ensures.profile) c.requires.place (sym c.in-Some.ensures.value) in
    let f : 10 * level s c.in-Some.constraint.now.shape + 6 < t = subst (λ m. 10 * level s m + 6 < t) (sym own.1) (omega (arith, c.decreases)) in
    (f, (own.0, (c.requires.node, (subst (λ m. AreValueNodes i m c.args.node c.args.values.now) (sym own.1) c.requires.values, c.requires.truthful))))

pub holds_at-returns-in-Some-clause-says : goal.holds_at-returns-in-Some-clause-says
holds_at-returns-in-Some-clause-says t c =
    let i = c.args.input.now in
    let s = shapes_of i in
    let g = data_of i in
    let x = term_of i c.args.node in
    let k = c.in-Some.constraint.now in
    let P = λ (c : Constraint). HoldsBy g (IsConforming i) (IsValue s c.shape g x) x (form_of c.kind) in
    if_ok_more (λ b. Says b (P k)) (λ b. Says b (HoldsIn s g (IsConforming i) x c.args.place)) (λ b h. of_constraint (constraint_at s c.args.place) k P b (sym c.in-Some.ensures.value) h) c.holds.result c.holds.ensures.says

pub holds_at-returns-in-Some-clause-truthful : goal.holds_at-returns-in-Some-clause-truthful
holds_at-returns-in-Some-clause-truthful t c = c.holds.ensures.truthful

pub holds_at-returns-in-None-clause-says : goal.holds_at-returns-in-None-clause-says
holds_at-returns-in-None-clause-says t c =
    let i = c.args.input.now in
    let s = shapes_of i in
    let g = data_of i in
    let x = term_of i c.args.node in
    no_constraint (constraint_at s c.args.place) (λ (c : Constraint). HoldsBy g (IsConforming i) (IsValue s c.shape g x) x (form_of c.kind)) (sym c.in-None.ensures.value)

pub holds_at-returns-in-None-clause-truthful : goal.holds_at-returns-in-None-clause-truthful
holds_at-returns-in-None-clause-truthful t c = c.requires.truthful

-- holds
leb_is : (m n : ℕ) → (leb m n ≡ true) ↔ (m ≤ n)
leb_is m n = (λ h. grind arith, λ h. grind arith)

pub holds-contains_term-requires-clause-rises : goal.holds-contains_term-requires-clause-rises
holds-contains_term-requires-clause-rises t c = c.requires.values.rises

pub holds-contains_term-requires-clause-within : goal.holds-contains_term-requires-clause-within
holds-contains_term-requires-clause-within t c = c.requires.values.within

pub holds-returns-in-HasValue-clause-says : goal.holds-returns-in-HasValue-clause-says
holds-returns-in-HasValue-clause-says t c =
    let i = c.args.input.now in
    let V = IsValueNode i c.args.constraint.now.shape c.args.node in
    let r = c.contains_term.result in
    subst (λ k. Says r (HoldsBy (data_of i) (IsConforming i) V (term_of i c.args.node) (form_of k))) (sym c.in-HasValue.is)
    (having_says i.graph.nodes V c.args.values.now c.requires.values c.in-HasValue.term r c.contains_term.ensures)

pub holds-returns-in-HasValue-clause-truthful : goal.holds-returns-in-HasValue-clause-truthful
holds-returns-in-HasValue-clause-truthful t c = c.requires.truthful

pub holds-returns-in-MinCount-clause-says : goal.holds-returns-in-MinCount-clause-says
holds-returns-in-MinCount-clause-says t c =
    let i = c.args.input.now in
    let V = IsValueNode i c.args.constraint.now.shape c.args.node in
    let n = c.in-MinCount.count in
    let m = length c.args.values.now in
    subst (λ k. Says (leb n m) (HoldsBy (data_of i) (IsConforming i) V (term_of i c.args.node) (form_of k))) (sym c.in-MinCount.is)
    (least_says (λ y. V y × Unit {0}) m n (leb n m) (leb_is n m) (counted_all i.graph.nodes V c.args.values.now c.requires.values))

pub holds-returns-in-MinCount-clause-truthful : goal.holds-returns-in-MinCount-clause-truthful
holds-returns-in-MinCount-clause-truthful t c = c.requires.truthful

pub holds-returns-in-MaxCount-clause-says : goal.holds-returns-in-MaxCount-clause-says
holds-returns-in-MaxCount-clause-says t c =
    let i = c.args.input.now in
    let V = IsValueNode i c.args.constraint.now.shape c.args.node in
    let n = c.in-MaxCount.count in
    let m = length c.args.values.now in
    subst (λ k. Says (leb m n) (HoldsBy (data_of i) (IsConforming i) V (term_of i c.args.node) (form_of k))) (sym c.in-MaxCount.is)
    (most_says (λ y. V y × Unit {0}) m n (leb m n) (leb_is m n) (counted_all i.graph.nodes V c.args.values.now c.requires.values))

pub holds-returns-in-MaxCount-clause-truthful : goal.holds-returns-in-MaxCount-clause-truthful
holds-returns-in-MaxCount-clause-truthful t c = c.requires.truthful

pub holds-objects_of-requires : goal.holds-objects_of-requires
holds-objects_of-requires t c = c.requires.node

pub holds-objects_of-requires-in-Disjoint : goal.holds-objects_of-requires-in-Disjoint
holds-objects_of-requires-in-Disjoint t c = c.requires.node

pub holds-returns-in_err-objects-in-Equals-clause-truthful : goal.holds-returns-in_err-objects-in-Equals-clause-truthful
holds-returns-in_err-objects-in-Equals-clause-truthful t c = c.requires.truthful

pub holds-returns-in_err-objects-in-Disjoint-clause-truthful : goal.holds-returns-in_err-objects-in-Disjoint-clause-truthful
holds-returns-in_err-objects-in-Disjoint-clause-truthful t c = c.requires.truthful

pub holds-have_common-requires : goal.holds-have_common-requires
holds-have_common-requires t c = subst (λ os. IsStrictlyIncreasing os) (sym c.as_slice-in-Disjoint.ensures.value) c.in_ok-objects-in-Disjoint.ensures.rises

pub holds-repeated_tags-requires-clause-within : goal.holds-repeated_tags-requires-clause-within
holds-repeated_tags-requires-clause-within t c = c.requires.values.within

pub holds-repeated_tags-requires-clause-rises : goal.holds-repeated_tags-requires-clause-rises
holds-repeated_tags-requires-clause-rises t c = c.requires.values.rises

pub holds-returns-in_err-repeated_tags-in-UniqueLang-clause-truthful : goal.holds-returns-in_err-repeated_tags-in-UniqueLang-clause-truthful
holds-returns-in_err-repeated_tags-in-UniqueLang-clause-truthful t c = c.requires.truthful

pub holds-is_any_open-requires : goal.holds-is_any_open-requires
holds-is_any_open-requires t c = c.requires.values.within

pub holds-count_good-requires : goal.holds-count_good-requires
holds-count_good-requires t c =
    let f : 10 * level (shapes_of c.args.input.now) c.args.constraint.now.shape + 4 < t = omega (arith, c.decreases) in
    (f, (c.requires.stated, (c.requires.values.within, (c.requires.values.rises, (subst (λ k. IsTrue (is_tested k)) (sym c.in-QualifiedMinCount.is) refl, c.requires.truthful)))))

pub holds-count_good-requires-in-QualifiedMaxCount : goal.holds-count_good-requires-in-QualifiedMaxCount
holds-count_good-requires-in-QualifiedMaxCount t c =
    let f : 10 * level (shapes_of c.args.input.now) c.args.constraint.now.shape + 4 < t = omega (arith, c.decreases) in
    (f, (c.requires.stated, (c.requires.values.within, (c.requires.values.rises, (subst (λ k. IsTrue (is_tested k)) (sym c.in-QualifiedMaxCount.is) refl, c.requires.truthful)))))

pub holds-returns-in_err-count_good-in-QualifiedMinCount-clause-truthful : goal.holds-returns-in_err-count_good-in-QualifiedMinCount-clause-truthful
holds-returns-in_err-count_good-in-QualifiedMinCount-clause-truthful t c = c.count_good.ensures.truthful

pub holds-returns-in_err-count_good-in-QualifiedMaxCount-clause-truthful : goal.holds-returns-in_err-count_good-in-QualifiedMaxCount-clause-truthful
holds-returns-in_err-count_good-in-QualifiedMaxCount-clause-truthful t c = c.count_good-in-QualifiedMaxCount.ensures.truthful

pub holds-are_all_good-requires : goal.holds-are_all_good-requires
holds-are_all_good-requires t c =
    let k = c.args.constraint.now.kind in
    let f : 10 * level (shapes_of c.args.input.now) c.args.constraint.now.shape + 4 < t = omega (arith, c.decreases) in
    let d : IsOfNodes k = record { not_value = c.in_default.not-HasValue; not_min = c.in_default.not-MinCount; not_max = c.in_default.not-MaxCount; not_equals = c.in_default.not-Equals; not_disjoint = c.in_default.not-Disjoint; not_unique = c.in_default.not-UniqueLang; not_closed = c.in_default.not-Closed; not_least = c.in_default.not-QualifiedMinCount; not_most = c.in_default.not-QualifiedMaxCount } in
    (f, (c.requires.stated, (c.requires.values.within, (asks_tested (form_of k) (asks_of_nodes k d), c.requires.truthful))))

pub holds-returns-in_default : goal.holds-returns-in_default
holds-returns-in_default t c =
    let i = c.args.input.now in
    let g = data_of i in
    let C = IsConforming i in
    let k = c.args.constraint.now.kind in
    let V = IsValueNode i c.args.constraint.now.shape c.args.node in
    let vs = c.args.values.now in
    let x = term_of i c.args.node in
    let d : IsOfNodes k = record { not_value = c.in_default.not-HasValue; not_min = c.in_default.not-MinCount; not_max = c.in_default.not-MaxCount; not_equals = c.in_default.not-Equals; not_disjoint = c.in_default.not-Disjoint; not_unique = c.in_default.not-UniqueLang; not_closed = c.in_default.not-Closed; not_least = c.in_default.not-QualifiedMinCount; not_most = c.in_default.not-QualifiedMaxCount } in
    record {
      says = if_ok_more (λ b. Says b (NoneFails (Contains (terms_at i.graph.nodes vs)) (IsGoodNode i k))) (λ b. Says b (HoldsBy g C V x (form_of k)))
          (λ b h. says_iff b (NoneFails V (IsGoodNode i k)) (HoldsBy g C V x (form_of k)) (holds_alone g C V x (form_of k) (asks_of_nodes k d)) (none_says i.graph.nodes V vs c.requires.values (IsGoodNode i k) b h)) c.are_all_good.result c.are_all_good.ensures.says;
      truthful = c.are_all_good.ensures.truthful;
    }

pub holds-returns-in_ok-objects-in-Equals-clause-says : goal.holds-returns-in_ok-objects-in-Equals-clause-says
holds-returns-in_ok-objects-in-Equals-clause-says t c =
    let i = c.args.input.now in
    let V = IsValueNode i c.args.constraint.now.shape c.args.node in
    let x = term_of i c.args.node in
    let vs = c.args.values.now in
    let b = c.eq.result in
    let same_numbers : (b ≡ true) ↔ (vs ≡ c.in_ok-objects-in-Equals.objects.items) = subst (λ os. (b ≡ true) ↔ (vs ≡ os)) c.as_slice.ensures.value (slice_eq-Decides Decides-eqb vs c.as_slice.result.now b c.eq.ensures) in
    subst (λ k. Says b (HoldsBy (data_of i) (IsConforming i) V x (form_of k))) (sym c.in-Equals.is)
    (subst (λ q. Says b (HoldsBy (data_of i) (IsConforming i) V x (Same q))) c.as_str.ensures
    (same_says i.graph.nodes V vs c.requires.values (InGraph (data_of i) x (Iri c.as_str.result.now)) c.in_ok-objects-in-Equals.objects.items c.in_ok-objects-in-Equals.ensures b same_numbers))

pub holds-returns-in_ok-objects-in-Equals-clause-truthful : goal.holds-returns-in_ok-objects-in-Equals-clause-truthful
holds-returns-in_ok-objects-in-Equals-clause-truthful t c = c.requires.truthful

pub holds-returns-in_ok-objects-in-Disjoint-clause-says : goal.holds-returns-in_ok-objects-in-Disjoint-clause-says
holds-returns-in_ok-objects-in-Disjoint-clause-says t c =
    let i = c.args.input.now in
    let V = IsValueNode i c.args.constraint.now.shape c.args.node in
    let x = term_of i c.args.node in
    let b = c.have_common.result in
    let vs = c.args.values.now in
    subst (λ k. Says (not b) (HoldsBy (data_of i) (IsConforming i) V x (form_of k))) (sym c.in-Disjoint.is)
    (subst (λ q. Says (not b) (HoldsBy (data_of i) (IsConforming i) V x (Every (NotObject q)))) c.as_str-in-Disjoint.ensures
    (common_says i.graph.nodes V vs c.requires.values (InGraph (data_of i) x (Iri c.as_str-in-Disjoint.result.now)) c.in_ok-objects-in-Disjoint.objects.items c.in_ok-objects-in-Disjoint.ensures b
    (subst (λ os. Says b ((a : ℕ) × Contains vs a × Contains os a)) c.as_slice-in-Disjoint.ensures.value c.have_common.ensures)))

pub holds-returns-in_ok-objects-in-Disjoint-clause-truthful : goal.holds-returns-in_ok-objects-in-Disjoint-clause-truthful
holds-returns-in_ok-objects-in-Disjoint-clause-truthful t c = c.requires.truthful

pub holds-returns-then-not-on-clause-says : goal.holds-returns-then-not-on-clause-says
holds-returns-then-not-on-clause-says t c =
    let i = c.args.input.now in
    let H = HoldsBy (data_of i) (IsConforming i) (IsValueNode i c.args.constraint.now.shape c.args.node) (term_of i c.args.node) in
    subst (λ b. Says b (H (form_of c.args.constraint.now.kind))) (sym (ap not c.if-not-on.true)) (subst (λ k. H (form_of k)) (sym c.in-UniqueLang.is) (λ h bad. no_false c.in-UniqueLang.on h c.if-not-on.true))

pub holds-returns-then-not-on-clause-truthful : goal.holds-returns-then-not-on-clause-truthful
holds-returns-then-not-on-clause-truthful t c = c.requires.truthful

pub holds-returns-in_ok-repeated_tags-in-UniqueLang-clause-says : goal.holds-returns-in_ok-repeated_tags-in-UniqueLang-clause-says
holds-returns-in_ok-repeated_tags-in-UniqueLang-clause-says t c =
    let i = c.args.input.now in
    let V = IsValueNode i c.args.constraint.now.shape c.args.node in
    let v = c.in_ok-repeated_tags-in-UniqueLang.field-0 in
    let b = c.is_empty.result in
    subst (λ k. Says b (HoldsBy (data_of i) (IsConforming i) V (term_of i c.args.node) (form_of k))) (sym c.in-UniqueLang.is)
    (unique_says i.graph.nodes V c.args.values.now c.requires.values c.in-UniqueLang.on b (map (λ (t : Bor Text). t.now) v.items) c.in_ok-repeated_tags-in-UniqueLang.ensures
    (mapped_empty (λ (t : Bor Text). t.now) v.items v.len b v.ok.0 c.is_empty.ensures) c.if-not-on.false)

pub holds-returns-in_ok-repeated_tags-in-UniqueLang-clause-truthful : goal.holds-returns-in_ok-repeated_tags-in-UniqueLang-clause-truthful
holds-returns-in_ok-repeated_tags-in-UniqueLang-clause-truthful t c = c.requires.truthful

pub holds-returns-then-not-on-2-clause-says : goal.holds-returns-then-not-on-2-clause-says
holds-returns-then-not-on-2-clause-says t c =
    let i = c.args.input.now in
    let H = HoldsBy (data_of i) (IsConforming i) (IsValueNode i c.args.constraint.now.shape c.args.node) (term_of i c.args.node) in
    subst (λ b. Says b (H (form_of c.args.constraint.now.kind))) (sym (ap not c.if-not-on-2.true)) (subst (λ k. H (form_of k)) (sym c.in-Closed.is) (λ h bad. no_false c.in-Closed.on h c.if-not-on-2.true))

pub holds-returns-then-not-on-2-clause-truthful : goal.holds-returns-then-not-on-2-clause-truthful
holds-returns-then-not-on-2-clause-truthful t c = c.requires.truthful

pub holds-returns-else-not-on-2-clause-says : goal.holds-returns-else-not-on-2-clause-says
holds-returns-else-not-on-2-clause-says t c =
    let i = c.args.input.now in
    let V = IsValueNode i c.args.constraint.now.shape c.args.node in
    let x = term_of i c.args.node in
    let b = c.is_any_open.result in
    subst (λ k. Says (not b) (HoldsBy (data_of i) (IsConforming i) V x (form_of k))) (sym c.in-Closed.is)
    (subst (λ ts. Says (not b) (HoldsBy (data_of i) (IsConforming i) V x (Closing c.in-Closed.on ts))) c.as_slice-else-not-on-2.ensures
    (closing_says i.graph.nodes V c.args.values.now c.requires.values (data_of i) c.as_slice-else-not-on-2.result.now c.in-Closed.on b c.if-not-on-2.false c.is_any_open.ensures))

pub holds-returns-else-not-on-2-clause-truthful : goal.holds-returns-else-not-on-2-clause-truthful
holds-returns-else-not-on-2-clause-truthful t c = c.requires.truthful

pub holds-returns-in_ok-count_good-in-QualifiedMinCount-clause-says : goal.holds-returns-in_ok-count_good-in-QualifiedMinCount-clause-says
holds-returns-in_ok-count_good-in-QualifiedMinCount-clause-says t c =
    let i = c.args.input.now in
    let g = data_of i in
    let C = IsConforming i in
    let V = IsValueNode i c.args.constraint.now.shape c.args.node in
    let vs = c.args.values.now in
    let a = c.in-QualifiedMinCount.count in
    let m = c.in_ok-count_good-in-QualifiedMinCount.field-0 in
    let F = λ (y : Term). IsGood g C y (Counted c.in-QualifiedMinCount.shape c.in-QualifiedMinCount.siblings) y in
    subst (λ k. Says (leb a m) (HoldsBy g C V (term_of i c.args.node) (form_of k))) (sym c.in-QualifiedMinCount.is)
    (least_says (λ y. V y × F y) m a (leb a m) (leb_is a m) (counted_of i.graph.nodes V vs c.requires.values F m
    (subst (λ k. Exactly term_cmp (λ y. Contains (terms_at i.graph.nodes vs) y × IsGoodNode i k y) m) c.in-QualifiedMinCount.is c.in_ok-count_good-in-QualifiedMinCount.ensures.says)))

pub holds-returns-in_ok-count_good-in-QualifiedMinCount-clause-truthful : goal.holds-returns-in_ok-count_good-in-QualifiedMinCount-clause-truthful
holds-returns-in_ok-count_good-in-QualifiedMinCount-clause-truthful t c = c.count_good.ensures.truthful

pub holds-returns-in_ok-count_good-in-QualifiedMaxCount-clause-says : goal.holds-returns-in_ok-count_good-in-QualifiedMaxCount-clause-says
holds-returns-in_ok-count_good-in-QualifiedMaxCount-clause-says t c =
    let i = c.args.input.now in
    let g = data_of i in
    let C = IsConforming i in
    let V = IsValueNode i c.args.constraint.now.shape c.args.node in
    let vs = c.args.values.now in
    let a = c.in-QualifiedMaxCount.count in
    let m = c.in_ok-count_good-in-QualifiedMaxCount.field-0 in
    let F = λ (y : Term). IsGood g C y (Counted c.in-QualifiedMaxCount.shape c.in-QualifiedMaxCount.siblings) y in
    subst (λ k. Says (leb m a) (HoldsBy g C V (term_of i c.args.node) (form_of k))) (sym c.in-QualifiedMaxCount.is)
    (most_says (λ y. V y × F y) m a (leb m a) (leb_is m a) (counted_of i.graph.nodes V vs c.requires.values F m
    (subst (λ k. Exactly term_cmp (λ y. Contains (terms_at i.graph.nodes vs) y × IsGoodNode i k y) m) c.in-QualifiedMaxCount.is c.in_ok-count_good-in-QualifiedMaxCount.ensures.says)))

pub holds-returns-in_ok-count_good-in-QualifiedMaxCount-clause-truthful : goal.holds-returns-in_ok-count_good-in-QualifiedMaxCount-clause-truthful
holds-returns-in_ok-count_good-in-QualifiedMaxCount-clause-truthful t c = c.count_good-in-QualifiedMaxCount.ensures.truthful

pub conforms_to_all-shapes-init : goal.conforms_to_all-shapes-init
conforms_to_all-shapes-init t c = (c.requires.truthful, tt)

pub conforms_to_all-conforms_to-requires : goal.conforms_to_all-conforms_to-requires
conforms_to_all-conforms_to-requires t c =
    let us = c.args.shapes.now in
    let i = c.shapes.shape-index in
    let low = c.requires.lower (get_or us i 0) (in_at us i (get_or us i 0) (slice_get-get_or us i 0 c.shapes-test.true)) in
    let less = low.1 in
    let f : 10 * level (shapes_of c.args.input.now) (get_or us i 0) + 9 < t = omega (arith, less, c.decreases) in
    (f, (low.0, (c.requires.node, c.shapes.invariant.0)))

pub conforms_to_any-shapes-init : goal.conforms_to_any-shapes-init
conforms_to_any-shapes-init t c = (c.requires.truthful, tt)

pub conforms_to_any-conforms_to-requires : goal.conforms_to_any-conforms_to-requires
conforms_to_any-conforms_to-requires t c =
    let us = c.args.shapes.now in
    let i = c.shapes.shape-index in
    let low = c.requires.lower (get_or us i 0) (in_at us i (get_or us i 0) (slice_get-get_or us i 0 c.shapes-test.true)) in
    let less = low.1 in
    let f : 10 * level (shapes_of c.args.input.now) (get_or us i 0) + 9 < t = omega (arith, less, c.decreases) in
    (f, (low.0, (c.requires.node, c.shapes.invariant.0)))

pub count_conforming-shapes-init : goal.count_conforming-shapes-init
count_conforming-shapes-init t c = (c.requires.truthful, exactly_none nat_cmp_total nat_cmp-IsAntisymmetric c.args.shapes.now (λ u. IsConforming c.args.input.now u (term_of c.args.input.now c.args.node)), omega arith)

pub count_conforming-conforms_to-requires : goal.count_conforming-conforms_to-requires
count_conforming-conforms_to-requires t c =
    let us = c.args.shapes.now in
    let i = c.shapes.shape-index in
    let low = c.requires.lower (get_or us i 0) (in_at us i (get_or us i 0) (slice_get-get_or us i 0 c.shapes-test.true)) in
    let less = low.1 in
    let f : 10 * level (shapes_of c.args.input.now) (get_or us i 0) + 9 < t = omega (arith, less, c.decreases) in
    (f, (low.0, (c.requires.node, c.shapes.invariant.0)))

pub conforms_to_all-returns-then-not-branch-clause-says : goal.conforms_to_all-returns-then-not-branch-clause-says
conforms_to_all-returns-then-not-branch-clause-says t c =
    let P = λ (u : ℕ). IsConforming c.args.input.now u (term_of c.args.input.now c.args.node) in
    let us = c.args.shapes.now in
    let i = c.shapes.shape-index in
    λ all. says_false c.in_ok-conforms_to.field-0 (P (get_or us i 0)) c.in_ok-conforms_to.ensures.says c.if-not-branch.true (each_at P us (get_or us i 0) all (in_at us i (get_or us i 0) (slice_get-get_or us i 0 c.shapes-test.true)))

pub conforms_to_all-shapes-preserved : goal.conforms_to_all-shapes-preserved
conforms_to_all-shapes-preserved t c =
    let P = λ (u : ℕ). IsConforming c.args.input.now u (term_of c.args.input.now c.args.node) in
    let us = c.args.shapes.now in
    let i = c.shapes.shape-index in
    (c.in_ok-conforms_to.ensures.truthful, each_more P us i (get_or us i 0) (slice_get-get_or us i 0 c.shapes-test.true) (says_true c.in_ok-conforms_to.field-0 (P (get_or us i 0)) c.in_ok-conforms_to.ensures.says c.if-not-branch.false) c.shapes.invariant.1)

pub conforms_to_all-returns-clause-says : goal.conforms_to_all-returns-clause-says
conforms_to_all-returns-clause-says t c =
    let P = λ (u : ℕ). IsConforming c.args.input.now u (term_of c.args.input.now c.args.node) in
    let us = c.args.shapes.now in
    let i = c.shapes.shape-index in
    each_whole P us i c.shapes-test.false c.shapes.invariant.1

pub conforms_to_any-returns-then-branch-clause-says : goal.conforms_to_any-returns-then-branch-clause-says
conforms_to_any-returns-then-branch-clause-says t c =
    let P = λ (u : ℕ). IsConforming c.args.input.now u (term_of c.args.input.now c.args.node) in
    let us = c.args.shapes.now in
    let i = c.shapes.shape-index in
    some_at P us (get_or us i 0) (in_at us i (get_or us i 0) (slice_get-get_or us i 0 c.shapes-test.true)) (says_true c.in_ok-conforms_to.field-0 (P (get_or us i 0)) c.in_ok-conforms_to.ensures.says c.if-branch.true)

pub conforms_to_any-shapes-preserved : goal.conforms_to_any-shapes-preserved
conforms_to_any-shapes-preserved t c =
    let P = λ (u : ℕ). IsConforming c.args.input.now u (term_of c.args.input.now c.args.node) in
    let us = c.args.shapes.now in
    let i = c.shapes.shape-index in
    (c.in_ok-conforms_to.ensures.truthful, each_more (λ u. ¬ (P u)) us i (get_or us i 0) (slice_get-get_or us i 0 c.shapes-test.true) (says_false c.in_ok-conforms_to.field-0 (P (get_or us i 0)) c.in_ok-conforms_to.ensures.says c.if-branch.false) c.shapes.invariant.1)

pub conforms_to_any-returns-clause-says : goal.conforms_to_any-returns-clause-says
conforms_to_any-returns-clause-says t c =
    let P = λ (u : ℕ). IsConforming c.args.input.now u (term_of c.args.input.now c.args.node) in
    let us = c.args.shapes.now in
    let i = c.shapes.shape-index in
    none_some P us (each_whole (λ u. ¬ (P u)) us i c.shapes-test.false c.shapes.invariant.1)

pub count_conforming-shapes-preserved : goal.count_conforming-shapes-preserved
count_conforming-shapes-preserved t c =
    let P = λ (u : ℕ). IsConforming c.args.input.now u (term_of c.args.input.now c.args.node) in
    let us = c.args.shapes.now in
    let i = c.shapes.shape-index in
    let at = slice_get-get_or us i 0 c.shapes-test.true in
    let step = exactly_step nat_cmp_total nat_cmp-IsAntisymmetric us P i c.shapes.count (get_or us i 0) c.in_ok-is_one.is_one c.requires.once at c.in_ok-is_one.ensures.says c.shapes.invariant.1 in
    let le = c.shapes.invariant.2 in
    let r = c.counted-count.ensures in
    (c.in_ok-is_one.ensures.truthful, subst (λ n. Exactly nat_cmp (First us P (i + 1)) n) (sym r) step, subst (λ n. n ≤ i + 1) (sym r) (count_bound c.in_ok-is_one.is_one c.shapes.count i le))

pub count_conforming-returns-clause-says : goal.count_conforming-returns-clause-says
count_conforming-returns-clause-says t c =
    let P = λ (u : ℕ). IsConforming c.args.input.now u (term_of c.args.input.now c.args.node) in
    let us = c.args.shapes.now in
    let i = c.shapes.shape-index in
    exactly_whole us P i c.shapes.count c.shapes-test.false c.shapes.invariant.1

pub is_qualified-conforms_to-requires : goal.is_qualified-conforms_to-requires
is_qualified-conforms_to-requires t c =
    let low = c.requires.lower c.args.shape (in_first c.args.shape c.args.siblings.now) in
    let less = low.1 in
    let f : 10 * level (shapes_of c.args.input.now) c.args.shape + 9 < t = omega (arith, less, c.decreases) in
    (f, (low.0, (c.requires.node, c.requires.truthful)))

pub is_qualified-conforms_to_any-requires : goal.is_qualified-conforms_to_any-requires
is_qualified-conforms_to_any-requires t c =
    let f : 10 * level (shapes_of c.args.input.now) c.args.owner + 1 < t = omega (arith, c.decreases) in
    (f, (λ u h. c.requires.lower u (in_rest c.args.shape c.args.siblings.now u h), (c.requires.node, c.in_ok-conforms_to.ensures.truthful)))

pub is_qualified-returns-then-not-branch-clause-says : goal.is_qualified-returns-then-not-branch-clause-says
is_qualified-returns-then-not-branch-clause-says t c =
    let P = λ (u : ℕ). IsConforming c.args.input.now u (term_of c.args.input.now c.args.node) in
    λ both. says_false c.in_ok-conforms_to.field-0 (P c.args.shape) c.in_ok-conforms_to.ensures.says c.if-not-branch.true both.0

pub is_qualified-returns-clause-says : goal.is_qualified-returns-clause-says
is_qualified-returns-clause-says t c =
    let P = λ (u : ℕ). IsConforming c.args.input.now u (term_of c.args.input.now c.args.node) in
    qualified_says P c.args.shape c.args.siblings.now (says_true c.in_ok-conforms_to.field-0 (P c.args.shape) c.in_ok-conforms_to.ensures.says c.if-not-branch.false) c.in_ok-conforms_to_any.field-0 c.in_ok-conforms_to_any.ensures.says

pub are_all_good-is_good-requires : goal.are_all_good-is_good-requires
are_all_good-is_good-requires t c =
    let is = c.args.values.now in
    let i = c.values.value-index in
    let at = slice_get-get_or is i 0 c.values-test.true in
    let f : 10 * level (shapes_of c.args.input.now) c.args.constraint.now.shape + 3 < t = omega (arith, c.decreases) in
    (f, (c.requires.stated, (c.requires.within (get_or is i 0) (in_at is i (get_or is i 0) at), (c.requires.alone, c.values.invariant.0))))

pub count_good-is_good-requires : goal.count_good-is_good-requires
count_good-is_good-requires t c =
    let is = c.args.values.now in
    let i = c.values.value-index in
    let at = slice_get-get_or is i 0 c.values-test.true in
    let f : 10 * level (shapes_of c.args.input.now) c.args.constraint.now.shape + 3 < t = omega (arith, c.decreases) in
    (f, (c.requires.stated, (c.requires.within (get_or is i 0) (in_at is i (get_or is i 0) at), (c.requires.alone, c.values.invariant.0))))

pub are_all_good-values-init : goal.are_all_good-values-init
are_all_good-values-init t c = (c.requires.truthful, tt)

pub are_all_good-returns-then-not-branch-clause-says : goal.are_all_good-returns-then-not-branch-clause-says
are_all_good-returns-then-not-branch-clause-says t c =
    let G = IsGoodNode c.args.input.now c.args.constraint.now.kind in
    let ns = c.args.input.now.graph.nodes in
    let is = c.args.values.now in
    let i = c.values.value-index in
    let at = slice_get-get_or is i 0 c.values-test.true in
    λ all. all (term_at ns (get_or is i 0), in_map (term_at ns) is (get_or is i 0) (in_at is i (get_or is i 0) at), says_false c.in_ok-is_good.field-0 (G (term_at ns (get_or is i 0))) c.in_ok-is_good.ensures.says c.if-not-branch.true)

pub are_all_good-values-preserved : goal.are_all_good-values-preserved
are_all_good-values-preserved t c =
    let G = IsGoodNode c.args.input.now c.args.constraint.now.kind in
    let ns = c.args.input.now.graph.nodes in
    let is = c.args.values.now in
    let i = c.values.value-index in
    let at = slice_get-get_or is i 0 c.values-test.true in
    (c.in_ok-is_good.ensures.truthful, mapped_more (term_at ns) G is i (get_or is i 0) at (says_true c.in_ok-is_good.field-0 (G (term_at ns (get_or is i 0))) c.in_ok-is_good.ensures.says c.if-not-branch.false) c.values.invariant.1)

pub are_all_good-returns-clause-says : goal.are_all_good-returns-clause-says
are_all_good-returns-clause-says t c =
    let G = IsGoodNode c.args.input.now c.args.constraint.now.kind in
    let ns = c.args.input.now.graph.nodes in
    let is = c.args.values.now in
    let i = c.values.value-index in
    none_fails G (terms_at ns is) (mapped_whole (term_at ns) G is i c.values-test.false c.values.invariant.1)

pub count_good-values-init : goal.count_good-values-init
count_good-values-init t c = (c.requires.truthful, exactly_none term_cmp_total term_cmp-IsAntisymmetric (terms_at c.args.input.now.graph.nodes c.args.values.now) (IsGoodNode c.args.input.now c.args.constraint.now.kind), omega arith)

pub count_good-values-preserved : goal.count_good-values-preserved
count_good-values-preserved t c =
    let G = IsGoodNode c.args.input.now c.args.constraint.now.kind in
    let ns = c.args.input.now.graph.nodes in
    let is = c.args.values.now in
    let i = c.values.value-index in
    let at = slice_get-get_or is i 0 c.values-test.true in
    let y = term_at ns (get_or is i 0) in
    let there : slice_get (terms_at ns is) i ≡ Some y = slice_get-map (term_at ns) is i ∙ ap (option_map (term_at ns)) at in
    let step = exactly_step term_cmp_total term_cmp-IsAntisymmetric (terms_at ns is) G i c.values.count y c.in_ok-is_one.is_one (distinct_terms ns is c.requires.within c.requires.rises) there c.in_ok-is_one.ensures.says c.values.invariant.1 in
    let le = c.values.invariant.2 in
    let r = c.counted-count.ensures in
    (c.in_ok-is_one.ensures.truthful, subst (λ n. Exactly term_cmp (First (terms_at ns is) G (i + 1)) n) (sym r) step, subst (λ n. n ≤ i + 1) (sym r) (count_bound c.in_ok-is_one.is_one c.values.count i le))

pub count_good-returns-clause-says : goal.count_good-returns-clause-says
count_good-returns-clause-says t c =
    let G = IsGoodNode c.args.input.now c.args.constraint.now.kind in
    let ns = c.args.input.now.graph.nodes in
    let is = c.args.values.now in
    let i = c.values.value-index in
    exactly_whole (terms_at ns is) G i c.values.count (subst (λ n. n ≤ i) (sym (length-map is (term_at ns))) c.values-test.false) c.values.invariant.1

pub is_good-conforms_to-requires : goal.is_good-conforms_to-requires
is_good-conforms_to-requires t c =
    let u = c.in-Not.shape in
    let low = lower_of (shapes_of c.args.input.now) c.args.constraint.now c.requires.stated (kind.Not u) c.in-Not.is u (in_first u []) in
    let less = low.1 in
    let f : 10 * level (shapes_of c.args.input.now) u + 9 < t = omega (arith, less, c.decreases) in
    (f, (low.0, (c.requires.value, c.requires.truthful)))

pub is_good-conforms_to-requires-in-Node : goal.is_good-conforms_to-requires-in-Node
is_good-conforms_to-requires-in-Node t c =
    let u = c.in-Node.shape in
    let low = lower_of (shapes_of c.args.input.now) c.args.constraint.now c.requires.stated (kind.Node u) c.in-Node.is u (in_first u []) in
    let less = low.1 in
    let f : 10 * level (shapes_of c.args.input.now) u + 9 < t = omega (arith, less, c.decreases) in
    (f, (low.0, (c.requires.value, c.requires.truthful)))

pub is_good-conforms_to-requires-in-Property : goal.is_good-conforms_to-requires-in-Property
is_good-conforms_to-requires-in-Property t c =
    let u = c.in-Property.shape in
    let low = lower_of (shapes_of c.args.input.now) c.args.constraint.now c.requires.stated (kind.Property u) c.in-Property.is u (in_first u []) in
    let less = low.1 in
    let f : 10 * level (shapes_of c.args.input.now) u + 9 < t = omega (arith, less, c.decreases) in
    (f, (low.0, (c.requires.value, c.requires.truthful)))

pub is_good-conforms_to_all-requires : goal.is_good-conforms_to_all-requires
is_good-conforms_to_all-requires t c =
    let low = lower_of (shapes_of c.args.input.now) c.args.constraint.now c.requires.stated (kind.And c.in-And.shapes) c.in-And.is in
    let f : 10 * level (shapes_of c.args.input.now) c.args.constraint.now.shape + 1 < t = omega (arith, c.decreases) in
    (f, (subst (AreLower (shapes_of c.args.input.now) c.args.constraint.now.shape) (sym c.as_slice.ensures) low, (c.requires.value, c.requires.truthful)))

pub is_good-conforms_to_any-requires : goal.is_good-conforms_to_any-requires
is_good-conforms_to_any-requires t c =
    let low = lower_of (shapes_of c.args.input.now) c.args.constraint.now c.requires.stated (kind.Or c.in-Or.shapes) c.in-Or.is in
    let f : 10 * level (shapes_of c.args.input.now) c.args.constraint.now.shape + 1 < t = omega (arith, c.decreases) in
    (f, (subst (AreLower (shapes_of c.args.input.now) c.args.constraint.now.shape) (sym c.as_slice-in-Or.ensures) low, (c.requires.value, c.requires.truthful)))

pub is_good-count_conforming-requires : goal.is_good-count_conforming-requires
is_good-count_conforming-requires t c =
    let us = c.in-Xone.shapes in
    let low = lower_of (shapes_of c.args.input.now) c.args.constraint.now c.requires.stated (kind.Xone us) c.in-Xone.is in
    let f : 10 * level (shapes_of c.args.input.now) c.args.constraint.now.shape + 1 < t = omega (arith, c.decreases) in
    let e = sym c.as_slice-in-Xone.ensures in
    (f, (subst (AreLower (shapes_of c.args.input.now) c.args.constraint.now.shape) e low, (subst AreDistinct e (c.requires.stated.once us c.in-Xone.is), (c.requires.value, c.requires.truthful))))

pub is_good-is_qualified-requires : goal.is_good-is_qualified-requires
is_good-is_qualified-requires t c =
    let low = qualified_lower_least (shapes_of c.args.input.now) c.args.constraint.now c.requires.stated c.in-QualifiedMinCount.shape c.in-QualifiedMinCount.siblings c.in-QualifiedMinCount.is in
    let f : 10 * level (shapes_of c.args.input.now) c.args.constraint.now.shape + 2 < t = omega (arith, c.decreases) in
    (f, (subst (λ us. AreLower (shapes_of c.args.input.now) c.args.constraint.now.shape (c.in-QualifiedMinCount.shape ∷ us)) (sym c.as_slice-in-QualifiedMinCount.ensures) low, (c.requires.value, c.requires.truthful)))

pub is_good-is_qualified-requires-in-QualifiedMaxCount : goal.is_good-is_qualified-requires-in-QualifiedMaxCount
is_good-is_qualified-requires-in-QualifiedMaxCount t c =
    let low = qualified_lower_most (shapes_of c.args.input.now) c.args.constraint.now c.requires.stated c.in-QualifiedMaxCount.shape c.in-QualifiedMaxCount.siblings c.in-QualifiedMaxCount.is in
    let f : 10 * level (shapes_of c.args.input.now) c.args.constraint.now.shape + 2 < t = omega (arith, c.decreases) in
    (f, (subst (λ us. AreLower (shapes_of c.args.input.now) c.args.constraint.now.shape (c.in-QualifiedMaxCount.shape ∷ us)) (sym c.as_slice-in-QualifiedMaxCount.ensures) low, (c.requires.value, c.requires.truthful)))

pub is_good-returns-in-Class-clause-says : goal.is_good-returns-in-Class-clause-says
is_good-returns-in-Class-clause-says t c = subst (λ k. IfOk c.is_instance.result (λ b. Says b (IsGoodNode c.args.input.now k (term_of c.args.input.now c.args.value)))) (sym c.in-Class.is) c.is_instance.ensures.says

pub is_good-returns-in-Node-clause-says : goal.is_good-returns-in-Node-clause-says
is_good-returns-in-Node-clause-says t c = subst (λ k. IfOk c.conforms_to-in-Node.result (λ b. Says b (IsGoodNode c.args.input.now k (term_of c.args.input.now c.args.value)))) (sym c.in-Node.is) c.conforms_to-in-Node.ensures.says

pub is_good-returns-in-Property-clause-says : goal.is_good-returns-in-Property-clause-says
is_good-returns-in-Property-clause-says t c = subst (λ k. IfOk c.conforms_to-in-Property.result (λ b. Says b (IsGoodNode c.args.input.now k (term_of c.args.input.now c.args.value)))) (sym c.in-Property.is) c.conforms_to-in-Property.ensures.says

pub is_good-returns-in-And-clause-says : goal.is_good-returns-in-And-clause-says
is_good-returns-in-And-clause-says t c =
    subst (λ k. IfOk c.conforms_to_all.result (λ b. Says b (IsGoodNode c.args.input.now k (term_of c.args.input.now c.args.value)))) (sym c.in-And.is)
    (subst (λ us. IfOk c.conforms_to_all.result (λ b. Says b (EachOf (λ u. IsConforming c.args.input.now u (term_of c.args.input.now c.args.value)) us))) c.as_slice.ensures c.conforms_to_all.ensures.says)

pub is_good-returns-in-Or-clause-says : goal.is_good-returns-in-Or-clause-says
is_good-returns-in-Or-clause-says t c =
    subst (λ k. IfOk c.conforms_to_any.result (λ b. Says b (IsGoodNode c.args.input.now k (term_of c.args.input.now c.args.value)))) (sym c.in-Or.is)
    (subst (λ us. IfOk c.conforms_to_any.result (λ b. Says b (SomeOf (λ u. IsConforming c.args.input.now u (term_of c.args.input.now c.args.value)) us))) c.as_slice-in-Or.ensures c.conforms_to_any.ensures.says)

pub is_good-returns-in-QualifiedMinCount-clause-says : goal.is_good-returns-in-QualifiedMinCount-clause-says
is_good-returns-in-QualifiedMinCount-clause-says t c =
    subst (λ k. IfOk c.is_qualified.result (λ b. Says b (IsGoodNode c.args.input.now k (term_of c.args.input.now c.args.value)))) (sym c.in-QualifiedMinCount.is)
    (subst (λ us. IfOk c.is_qualified.result (λ b. Says b (IsConforming c.args.input.now c.in-QualifiedMinCount.shape (term_of c.args.input.now c.args.value) × EachOf (λ u. ¬ (IsConforming c.args.input.now u (term_of c.args.input.now c.args.value))) us))) c.as_slice-in-QualifiedMinCount.ensures c.is_qualified.ensures.says)

pub is_good-returns-in-QualifiedMaxCount-clause-says : goal.is_good-returns-in-QualifiedMaxCount-clause-says
is_good-returns-in-QualifiedMaxCount-clause-says t c =
    subst (λ k. IfOk c.is_qualified-in-QualifiedMaxCount.result (λ b. Says b (IsGoodNode c.args.input.now k (term_of c.args.input.now c.args.value)))) (sym c.in-QualifiedMaxCount.is)
    (subst (λ us. IfOk c.is_qualified-in-QualifiedMaxCount.result (λ b. Says b (IsConforming c.args.input.now c.in-QualifiedMaxCount.shape (term_of c.args.input.now c.args.value) × EachOf (λ u. ¬ (IsConforming c.args.input.now u (term_of c.args.input.now c.args.value))) us))) c.as_slice-in-QualifiedMaxCount.ensures c.is_qualified-in-QualifiedMaxCount.ensures.says)

pub is_good-returns-in_ok-conforms_to-in-Not-clause-says : goal.is_good-returns-in_ok-conforms_to-in-Not-clause-says
is_good-returns-in_ok-conforms_to-in-Not-clause-says t c =
    subst (λ k. Says (not c.in_ok-conforms_to-in-Not.field-0) (IsGoodNode c.args.input.now k (term_of c.args.input.now c.args.value))) (sym c.in-Not.is)
    (says_not c.in_ok-conforms_to-in-Not.field-0 (IsConforming c.args.input.now c.in-Not.shape (term_of c.args.input.now c.args.value)) c.in_ok-conforms_to-in-Not.ensures.says)

pub is_good-returns-in_ok-count_conforming-in-Xone-clause-says : goal.is_good-returns-in_ok-count_conforming-in-Xone-clause-says
is_good-returns-in_ok-count_conforming-in-Xone-clause-says t c =
    let n = c.in_ok-count_conforming-in-Xone.field-0 in
    let us = c.in-Xone.shapes in
    let h = subst (λ vs. Exactly nat_cmp (λ u. Contains vs u × IsConforming c.args.input.now u (term_of c.args.input.now c.args.value)) n) c.as_slice-in-Xone.ensures c.in_ok-count_conforming-in-Xone.ensures.says in
    subst (λ k. Says (n == 1) (IsGoodNode c.args.input.now k (term_of c.args.input.now c.args.value))) (sym c.in-Xone.is) (one_says (λ u. Contains us u × IsConforming c.args.input.now u (term_of c.args.input.now c.args.value)) n h)

pub is_good-good_node-requires : goal.is_good-good_node-requires
is_good-good_node-requires t c =
    let test = node_test c.args.constraint.now.kind c.requires.alone (record { not_class = c.in_default.not-Class; not_not = c.in_default.not-Not; not_node = c.in_default.not-Node; not_property = c.in_default.not-Property; not_and = c.in_default.not-And; not_or = c.in_default.not-Or; not_xone = c.in_default.not-Xone; not_least = c.in_default.not-QualifiedMinCount; not_most = c.in_default.not-QualifiedMaxCount }) in
    record {
      place = constraint_place (shapes_of c.args.input.now) c.args.place c.args.constraint.now c.requires.stated.stated;
      test = stated_test (shapes_of c.args.input.now) c.args.place c.args.constraint.now c.requires.stated.stated test;
    }

pub is_good-returns-in_default : goal.is_good-returns-in_default
is_good-returns-in_default t c =
    let test = node_test c.args.constraint.now.kind c.requires.alone (record { not_class = c.in_default.not-Class; not_not = c.in_default.not-Not; not_node = c.in_default.not-Node; not_property = c.in_default.not-Property; not_and = c.in_default.not-And; not_or = c.in_default.not-Or; not_xone = c.in_default.not-Xone; not_least = c.in_default.not-QualifiedMinCount; not_most = c.in_default.not-QualifiedMaxCount }) in
    record {
      says = stated_says (shapes_of c.args.input.now) c.args.place c.args.constraint.now c.requires.stated.stated (data_of c.args.input.now) (IsConforming c.args.input.now) (term_of c.args.input.now c.args.value) (term_of c.args.input.now c.args.value) c.term.result.now c.good_node.result test c.good_node.ensures c.term.ensures;
      truthful = c.requires.truthful;
    }
