use Rattle.std.proofs.Common.{◌≡◌, ◌++◌, ◌∷◌, [], Some, None, map, Contains, ap, sym, subst, ◌∙◌}
use Rattle.std.proofs.lemmas.Result.{on_ok_weaker}
use Rattle.rdf_navigation.specs.Numbers.{term_at, IsNumbered}
use Rattle.rdf_navigation.proofs.NumberLaws.{numbered_push}
use Rattle.rdf_navigation.proofs.numbers.push_node.Goals as goal

pub returns-in_ok-places-in-Some-clause-numbered : goal.returns-in_ok-places-in-Some-clause-numbered
returns-in_ok-places-in-Some-clause-numbered c =
    let n = c.args.nodes.now in
    let g = c.args.digraph.now in
    let ps = c.in_ok-places-in-Some.places.items in
    let listed : map (term_at n) ps ≡ c.in-Some.terms = c.in_ok-places-in-Some.ensures.places ∙ c.as_slice.ensures in
    on_ok_weaker c.push.result (λ e next w here. subst (IsNumbered next n) (sym (e ∙ ap (λ qs. g ++ Some qs ∷ []) c.as_slice-in-Some.ensures.value))
    (numbered_push next n g (Some ps) w (here ∙ c.in-Some.is ∙ ap (λ ts. Some ts) (sym listed)) (λ is e i h. let same : ps ≡ is = cc in c.in_ok-places-in-Some.ensures.within i (subst (λ qs. Contains qs i) (sym same) h)))) c.push.ensures.ok

pub returns-in-None-clause-numbered : goal.returns-in-None-clause-numbered
returns-in-None-clause-numbered c =
    let n = c.args.nodes.now in
    let g = c.args.digraph.now in
    on_ok_weaker c.push-in-None.result (λ e next w here. subst (IsNumbered next n) (sym e)
    (numbered_push next n g None w (here ∙ c.in-None.is) (λ is e i h. absurd (let z : None ≡ Some is = e in cc)))) c.push-in-None.ensures.ok
