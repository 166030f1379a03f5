use Rattle.std.proofs.Common.{◌≡◌, ℕ, ◌+◌, ◌<◌, get_or}
use Rattle.std.specs.declared.cmp.Ordering.TheVariants.{Less}
use Rattle.rdf_terms.specs.ObjectOrder.{place_cmp, places_in}
use Rattle.rdf_terms.proofs.graph.do_rise_by_object.Given as goal

abbrev pub invariant-neighbours : goal.invariant-neighbours
invariant-neighbours l =
    (k : ℕ) (d : ℕ) → k + 1 < l.i → place_cmp l.triples (get_or (places_in l.hashed) k d) (get_or (places_in l.hashed) (k + 1) d) ≡ Less
