use Rattle.std.proofs.Common.{◌≡◌, vec_len}
use Rattle.rdf_terms.proofs.presort.headed_places.Given as goal

abbrev pub invariant-listing : goal.invariant-listing
invariant-listing l = vec_len l.headed ≡ l.place
