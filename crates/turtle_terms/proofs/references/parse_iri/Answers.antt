use Rattle.std.proofs.Common.{List, ℕ, rules, subst, sym}
use Rattle.std.specs.Option.{option_copied}
use Rattle.std.specs.Str.{chars}
use Rattle.rdf_grammar.specs.Productions.{iriref}
use Rattle.turtle_terms.proofs.Refers.{no_reference, reference_stands}
use Rattle.turtle_terms.proofs.references.parse_iri.Goals as goal

pub returns-in_err-reference-clause-means : goal.returns-in_err-reference-clause-means
returns-in_err-reference-clause-means c =
    let none = no_reference (option_copied c.args.base) (chars c.args.token.now) c.in_err-reference.field-0.0 c.in_err-reference.ensures in
    search rules

pub returns-clause-means : goal.returns-clause-means
returns-clause-means c =
    reference_stands (option_copied c.args.base) (chars c.args.token.now) c.in_ok-reference-2.reference c.resolve_under.result
    (subst (λ (t : List ℕ). iriref (chars c.args.token.now) t) (sym c.in_ok-reference-2.ensures) c.in_ok-reference.ensures) c.resolve_under.ensures.gives

pub returns-clause-lawful : goal.returns-clause-lawful
returns-clause-lawful c =
    c.resolve_under.ensures.lawful (chars c.args.token.now)
    (subst (λ (t : List ℕ). iriref (chars c.args.token.now) t) (sym c.in_ok-reference-2.ensures) c.in_ok-reference.ensures)
