use Rattle.std.proofs.Common.{◌≡◌, OnOk, subst}
use Rattle.rdf_terms.specs.declared.term.Term.{Term}
use Rattle.rdf_terms.specs.Vocab.Rdf as rdf
use Rattle.turtle_statements.specs.Meaning.{say}
use Rattle.turtle_statements.proofs.objects.say_rest.Goals as goal

pub returns : goal.returns
returns c =
    subst (λ (t : Term). OnOk c.say.result (c.say.new.self ≡ say t rdf.rest c.args.rest c.args.out.now)) c.in_ok-copy.ensures
    (subst (λ (p : Term). OnOk c.say.result (c.say.new.self ≡ say c.in_ok-copy.field-0 p c.args.rest c.args.out.now)) c.in_ok-predicate.ensures c.say.ensures)
