use Rattle.std.proofs.Common.{List, ℕ, Option, IfSome, Bor, subst}
use Rattle.std.specs.Str.{IsUtf8}
use Rattle.rdf_grammar.specs.Lawful.{IsIri}
use Rattle.rdf_grammar.specs.Productions.{BeginsWithScheme}
use Rattle.turtle_terms.proofs.LawfulReferences.{fit_lawful, reference_fit, resolved_lawful}
use Rattle.turtle_terms.proofs.references.resolve_under.Goals as goal

pub returns-in_ok-iri-in-Some-clause-lawful : goal.returns-in_ok-iri-in-Some-clause-lawful
returns-in_ok-iri-in-Some-clause-lawful c = λ text h.
    resolved_lawful c.in-Some.base.now c.args.reference c.in_ok-iri-in-Some.iri
    (subst (λ (t : List ℕ). IsUtf8 t) c.as_str-text.ensures c.as_str-text.utf8) c.in_ok-iri-in-Some.ensures
    (subst (λ (o : Option (Bor (List ℕ))). IfSome o (λ b. IsIri b.now)) c.in-Some.is c.requires) (reference_fit text c.args.reference h)

pub returns-in-None-clause-lawful : goal.returns-in-None-clause-lawful
returns-in-None-clause-lawful c = λ text h.
    fit_lawful c.args.reference (subst (λ (t : List ℕ). IsUtf8 t) c.as_str.ensures c.as_str.utf8) (reference_fit text c.args.reference h)
    (subst (λ (t : List ℕ). BeginsWithScheme t) c.as_str.ensures (c.has_scheme.ensures.scheme.0 c.if-has_scheme.true))
