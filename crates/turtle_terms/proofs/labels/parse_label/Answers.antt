use Rattle.std.proofs.Common.{List, ℕ, rules, subst, sym, string_bytes}
use Rattle.std.specs.Str.{chars}
use Rattle.grammar_forms.specs.Names.{NoName}
use Rattle.grammar_forms.proofs.NameEnds.{no_name_nil}
use Rattle.rdf_grammar.specs.declared.dialect.Dialect.TheVariants.{Turtle}
use Rattle.rdf_grammar.specs.Lawful.{IsLabel}
use Rattle.rdf_grammar.specs.Productions.{blank_node_label, is_name_char}
use Rattle.rdf_grammar.specs.Reading.{blank_node_label_at}
use Rattle.rdf_grammar.proofs.Lawful.{blank_node_label_lawful}
use Rattle.rdf_grammar.proofs.Productions.{blank_node_label_exact}
use Rattle.turtle_terms.proofs.Meanings.{read_whole, not_whole, missed}
use Rattle.turtle_terms.proofs.labels.parse_label.Goals as goal

pub returns-in_err-label-clause-means : goal.returns-in_err-label-clause-means
returns-in_err-label-clause-means c =
    let m = missed (blank_node_label Turtle) (NoName (is_name_char Turtle)) (blank_node_label_at Turtle) (blank_node_label_exact Turtle) (no_name_nil (is_name_char Turtle)) (chars c.args.token.now) c.in_err-label.field-0.0 c.in_err-label.ensures in
    search rules

pub returns-in_ok-text_of-clause-means : goal.returns-in_ok-text_of-clause-means
returns-in_ok-text_of-clause-means c =
    subst (λ (v : List ℕ). blank_node_label Turtle (chars c.args.token.now) v) (sym c.in_ok-text_of.ensures)
    (read_whole (blank_node_label Turtle) (NoName (is_name_char Turtle)) (blank_node_label_at Turtle) (blank_node_label_exact Turtle) (chars c.args.token.now) (string_bytes c.in_ok-label.label) (chars c.in_ok-label.rest.now) (c.is_end.ensures.ends c.if-is_end.true) c.in_ok-label.ensures)

pub returns-in_ok-text_of-clause-lawful : goal.returns-in_ok-text_of-clause-lawful
returns-in_ok-text_of-clause-lawful c =
    subst (λ (v : List ℕ). IsLabel v) (sym c.in_ok-text_of.ensures)
    (blank_node_label_lawful Turtle (chars c.args.token.now) (string_bytes c.in_ok-label.label)
    (read_whole (blank_node_label Turtle) (NoName (is_name_char Turtle)) (blank_node_label_at Turtle) (blank_node_label_exact Turtle) (chars c.args.token.now) (string_bytes c.in_ok-label.label) (chars c.in_ok-label.rest.now) (c.is_end.ensures.ends c.if-is_end.true) c.in_ok-label.ensures))

pub returns-else-is_end-clause-means : goal.returns-else-is_end-clause-means
returns-else-is_end-clause-means c =
    not_whole (blank_node_label Turtle) (NoName (is_name_char Turtle)) (blank_node_label_at Turtle) (blank_node_label_exact Turtle) (no_name_nil (is_name_char Turtle)) (chars c.args.token.now) (string_bytes c.in_ok-label.label) (chars c.in_ok-label.rest.now) (c.is_end.ensures.goes_on c.if-is_end.false) c.in_ok-label.ensures
