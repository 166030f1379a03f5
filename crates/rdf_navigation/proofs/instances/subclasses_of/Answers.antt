use Rattle.std.proofs.Common.{◌≡◌, List, ◌∷◌, [], ◌++◌, inl, ap, ◌∙◌, subst}
use Rattle.std.proofs.lemmas.Result.{IfOk-weaker}
use Rattle.rdf_terms.specs.declared.term.Term.{Term}
use Rattle.rdf_terms.specs.Members.{IsSetOf}
use Rattle.digraph.specs.Reach.{IsReached}
use Rattle.rdf_navigation.proofs.InstanceLaws.{below, subclasses_are}
use Rattle.rdf_navigation.proofs.instances.subclasses_of.Goals as goal

pub subclass_digraph-requires : goal.subclass_digraph-requires
subclass_digraph-requires c = λ b d h. (c.in_ok-classes.ensures b).1 (inl (d, inl h))

pub returns : goal.returns
returns c =
    let g = c.args.graph.now in
    let class = c.args.class.now in
    let one : c.as_slice.result.now ≡ class ∷ [] = c.as_slice.ensures ∙ c.in_ok-push.ensures.ok ∙ ap (λ (ts : List Term). ts ++ c.in_ok-copy.field-0 ∷ []) c.new-starts.ensures ∙ ap (λ (u : Term). u ∷ []) c.in_ok-copy.ensures in
    IfOk-weaker c.reached_terms.result _ _ (λ n e b.
    let r = subst (λ (ts : List Term). IsSetOf (IsReached (below g) ts) n) one (e (below g) c.in_ok-digraph.ensures.numbered) b in
    (λ h. (subclasses_are g class b).0 (r.0 h), λ h. r.1 ((subclasses_are g class b).1 h))) c.reached_terms.ensures
