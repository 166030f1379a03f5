use Rattle.std.proofs.Common.{rules}
use Rattle.rdf_terms.proofs.Ties.{term_equal}
use Rattle.rdf_terms.proofs.term.Term.compare.Goals as goal

pub returns-in-Iri-Iri-clause-equal : goal.returns-in-Iri-Iri-clause-equal
returns-in-Iri-Iri-clause-equal c = term_equal c.args.self.now c.args.other.now c.cmp.result (search rules)

pub returns-in-Blank-Blank-clause-equal : goal.returns-in-Blank-Blank-clause-equal
returns-in-Blank-Blank-clause-equal c = term_equal c.args.self.now c.args.other.now c.then_with.result (search rules)

pub returns-in-Literal-Literal-clause-equal : goal.returns-in-Literal-Literal-clause-equal
returns-in-Literal-Literal-clause-equal c = term_equal c.args.self.now c.args.other.now c.then_with-in-Literal-Literal-2.result (search rules)
