use Rattle.std.proofs.Common.{◌≡◌, sym, ◌∙◌}
use Rattle.std.specs.Ordering.{eq_by_cmp}
use Rattle.std.specs.Cmp.Lexicographic.{pointwise}
use Rattle.rdf_terms.specs.Statement.{statement_cmp}
use Rattle.rdf_terms.specs.Graph.{same_triples}
use Rattle.rdf_terms.proofs.GraphLaws.{same_triples_is, equal_has}
use Rattle.rdf_terms.proofs.graph.GraphPartialEq.eq.Goals as goal

pub returns-clause-equal : goal.returns-clause-equal
returns-clause-equal c =
    let says : c.eq.result ≡ same_triples c.args.self.now c.args.other.now = c.eq.ensures ∙ (λ i. pointwise (eq_by_cmp statement_cmp) (c.as_slice.ensures i) (c.as_slice-2.ensures i)) in
    let is = same_triples_is c.args.self.now c.args.other.now in
    (λ e. is.0 (sym says ∙ e), λ e. says ∙ is.1 e)

pub returns-clause-exact : goal.returns-clause-exact
returns-clause-exact c =
    let says : c.eq.result ≡ same_triples c.args.self.now c.args.other.now = c.eq.ensures ∙ (λ i. pointwise (eq_by_cmp statement_cmp) (c.as_slice.ensures i) (c.as_slice-2.ensures i)) in
    let is = same_triples_is c.args.self.now c.args.other.now in
    let has = equal_has c.args.self.now c.args.other.now in
    (λ e. has.0 (is.0 (sym says ∙ e)), λ h. says ∙ is.1 (has.1 h))
