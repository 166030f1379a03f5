use Rattle.std.proofs.Common.{◌∙◌, sym}
use Rattle.rdf_terms.specs.TermOrder.{statement_cmp_total}
use Rattle.proof_documents.proofs.RisingLists.{rises_with_last}
use Rattle.proof_documents.proofs.rising.rises_with.Goals as goal

pub returns-in-Some : goal.returns-in-Some
returns-in-Some c = c.lt.ensures ∙ sym (rises_with_last statement_cmp_total c.args.others.now c.in-Some.last.now c.args.triple.now c.in-Some.ensures.value c.requires)
