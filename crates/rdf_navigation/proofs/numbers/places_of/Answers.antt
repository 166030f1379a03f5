use Rattle.std.proofs.Common.{◌≡◌, ◌∷◌, [], ◌++◌, ◌∙◌, ap, subst, map, Contains}
use Rattle.rdf_navigation.specs.Numbers.{term_at}
use Rattle.rdf_navigation.proofs.NumberLaws.{places_more, within_more}
use Rattle.rdf_navigation.proofs.numbers.places_of.Goals as goal

pub terms-preserved : goal.terms-preserved
terms-preserved c =
    let n = c.args.nodes.now in
    let ps = c.terms.places.items in
    let t = c.term-item.result in
    let i = c.in-Some.place in
    let pushed : c.push.new.self.items ≡ ps ++ i ∷ [] = c.in_ok-push-in-Some.ensures.items in
    record {
      places = ap (map (term_at n)) pushed ∙ places_more n ps c.args.sought.now c.terms.term-index t i c.terms.invariant.places c.terms-test.true c.term-item.is c.in-Some.ensures.some;
      within = λ j h. within_more n ps i t c.terms.invariant.within c.in-Some.ensures.some j (subst (λ qs. Contains qs j) pushed h);
    }
