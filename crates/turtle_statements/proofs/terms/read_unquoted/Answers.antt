use Rattle.std.proofs.Common.{ℕ, List, sym, subst}
use Rattle.std.specs.Prelude.{encode_utf8_all}
use Rattle.std.proofs.lemmas.Str.{encodes-chars}
use Rattle.rdf_terms.specs.declared.term.Term.{Term}
use Rattle.rdf_grammar.specs.Answers.{GivesAll}
use Rattle.turtle_terms.specs.Literals.{unquoted_literal}
use Rattle.turtle_statements.proofs.terms.read_unquoted.Goals as goal

pub returns : goal.returns
returns c = subst (λ (t : List ℕ). GivesAll (λ (x : Term). x) c.parse_unquoted.result (unquoted_literal c.args.kind t)) (sym (encodes-chars c.args.text.now c.utf8.text)) c.parse_unquoted.ensures.gives
