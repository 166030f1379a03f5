use Rattle.std.proofs.Common.{List, ℕ, All, sym, subst}
use Rattle.std.specs.Map.{values_of}
use Rattle.std.proofs.lemmas.Map.Views.{All-values-insert_entry}
use Rattle.rdf_terms.specs.Term.{text_cmp}
use Rattle.rdf_grammar.specs.Lawful.{IsIri}
use Rattle.turtle_statements.proofs.context.Context.declare.Goals as goal

pub returns-clause-lawful : goal.returns-clause-lawful
returns-clause-lawful c = λ l i. record {
  base = l.base;
  namespaces =
      subst (λ (es : List (List ℕ × List ℕ)). All IsIri (values_of es)) (sym c.in_ok-_before.ensures.entries)
      (All-values-insert_entry text_cmp c.in_ok-prefix.prefix c.args.iri IsIri c.args.self.now.namespaces.entries l.namespaces i);
}
