use Rattle.std.specs.Str.{chars}
use Rattle.rdf_grammar.proofs.Productions.{tag_rest}
use Rattle.rdf_grammar.proofs.language_tag.parse_langtag.Goals as goal

pub front-requires : goal.front-requires
front-requires c = tag_rest (chars c.in_ok-spelled.spelled.now) (chars c.in_ok-rest.rest.now) (rw c.in_ok-rest.ensures.ok_part at c.skip_tag.ensures)
