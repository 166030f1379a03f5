-- Two terms tie in their order exactly where they are equal, and so do two triples.
use Rattle.std.proofs.Common.{◌≡◌, ◌↔◌, sym, ap, ◌∙◌}
use Rattle.std.specs.declared.cmp.Ordering.{Ordering}
use Rattle.std.specs.declared.cmp.Ordering.TheVariants.{Equal}
use Rattle.std.specs.Cmp.{tied_itself}
use Rattle.rdf_terms.specs.declared.term.Term.{Term}
use Rattle.rdf_terms.specs.Term.{term_cmp}
use Rattle.rdf_terms.specs.Statement.{Statement, statement_cmp}
use Rattle.rdf_terms.specs.TermOrder.{term_cmp_total, term_cmp-IsAntisymmetric, statement_cmp_total, statement_cmp-IsAntisymmetric}

pub term_equal : (x y : Term) (o : Ordering) → o ≡ term_cmp x y → (o ≡ Equal) ↔ (x ≡ y)
term_equal x y o is = (λ tie. term_cmp-IsAntisymmetric x y (sym is ∙ tie), λ same. is ∙ ap (term_cmp x) (sym same) ∙ tied_itself term_cmp_total x)

pub statement_equal : (x y : Statement) (o : Ordering) → o ≡ statement_cmp x y → (o ≡ Equal) ↔ (x ≡ y)
statement_equal x y o is = (λ tie. statement_cmp-IsAntisymmetric x y (sym is ∙ tie), λ same. is ∙ ap (statement_cmp x) (sym same) ∙ tied_itself statement_cmp_total x)
