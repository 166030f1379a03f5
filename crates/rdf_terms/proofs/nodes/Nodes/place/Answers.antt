use Rattle.rdf_terms.specs.TermOrder.{term_cmp_total, term_cmp-IsAntisymmetric}
use Rattle.rdf_terms.proofs.Membership.{items_rise}
use Rattle.rdf_terms.proofs.Sets.{searched_found, searched_place, searched_within}
use Rattle.rdf_terms.proofs.nodes.Nodes.place.Goals as goal

pub returns-clause-found : goal.returns-clause-found
returns-clause-found c = searched_found term_cmp_total term_cmp-IsAntisymmetric _ c.as_slice.result.now c.args.term.now c.binary_search.result c.as_slice.ensures.value c.binary_search.ensures.bound c.binary_search.ensures.ok

pub returns-clause-absent : goal.returns-clause-absent
returns-clause-absent c = searched_place term_cmp_total term_cmp-IsAntisymmetric _ c.as_slice.result.now c.args.term.now c.binary_search.result c.as_slice.ensures.value (rw c.as_slice.ensures.value (items_rise c.args.self.now)) c.binary_search.ensures.position

pub returns-clause-within : goal.returns-clause-within
returns-clause-within c = searched_within _ c.as_slice.result.now c.binary_search.result c.as_slice.ensures.value c.binary_search.ensures.bound
