use Rattle.std.specs.Str.{chars}
use Rattle.rdf_grammar.proofs.Productions.{label_rest}
use Rattle.rdf_grammar.proofs.labels.parse_blank_node_label.Goals as goal

pub front-requires : goal.front-requires
front-requires c = label_rest c.args.dialect (chars c.in_ok-name.name.now) (chars c.in_ok-rest.rest.now) (rw c.in_ok-rest.ensures.ok_part at c.skip_label.ensures)
