use Rattle.grammar_forms.specs.Names.{NoName}
use Rattle.grammar_forms.proofs.NameEnds.{no_name_nil}
use Rattle.rdf_grammar.specs.declared.dialect.Dialect.TheVariants.{Turtle}
use Rattle.rdf_grammar.specs.Productions.{blank_node_label, langtag, is_name_char}
use Rattle.rdf_grammar.specs.Reading.{blank_node_label_at, langtag_at, AfterTag}
use Rattle.rdf_grammar.proofs.Productions.{blank_node_label_exact, langtag_exact}
use Rattle.turtle_terms.proofs.Meanings.{one_meaning, after_tag_nil}
use Rattle.turtle_terms.proofs.NameParts.{name_once}
use Rattle.turtle_terms.proofs.QuotedParts.{string_once}
use Rattle.turtle_terms.proofs.Refers.{refers_once}
use Rattle.turtle_terms.proofs.laws.meanings_are_single.Goals as goal

pub returns-clause-references : goal.returns-clause-references
returns-clause-references c = refers_once

pub returns-clause-strings : goal.returns-clause-strings
returns-clause-strings c = string_once

pub returns-clause-labels : goal.returns-clause-labels
returns-clause-labels c = one_meaning (blank_node_label Turtle) (NoName (is_name_char Turtle)) (blank_node_label_at Turtle) (blank_node_label_exact Turtle) (no_name_nil (is_name_char Turtle))

pub returns-clause-tags : goal.returns-clause-tags
returns-clause-tags c = one_meaning langtag AfterTag langtag_at langtag_exact after_tag_nil

pub returns-clause-names : goal.returns-clause-names
returns-clause-names c = name_once
