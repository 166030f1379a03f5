use Rattle.rdf_grammar.proofs.Productions.{uchar_exact, echar_exact, iriref_exact, absolute_iri_exact, string_exact, blank_node_label_exact, langtag_exact}
use Rattle.rdf_grammar.proofs.laws.readers_are_exact.Goals as goal

pub returns : goal.returns
returns c = record {
  uchar = uchar_exact;
  echar = echar_exact;
  iriref = iriref_exact;
  absolute_iri = absolute_iri_exact;
  string = string_exact;
  label = blank_node_label_exact c.args._dialect;
  langtag = langtag_exact;
}
