use Rattle.std.proofs.Common.{◌≡◌, OnOk, subst}
use Rattle.rdf_terms.specs.declared.term.Term.{Term}
use Rattle.rdf_terms.specs.Vocab.Rdf as rdf
use Rattle.turtle_statements.specs.Meaning.{say}
use Rattle.turtle_statements.proofs.objects.end_list.Goals as goal

pub returns : goal.returns
returns c = subst (λ (t : Term). OnOk c.say_rest.result (c.say_rest.new.out ≡ say c.args.cell.now rdf.rest t c.args.out.now)) c.in_ok-nil.ensures c.say_rest.ensures
