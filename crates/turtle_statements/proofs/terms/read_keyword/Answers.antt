use Rattle.std.proofs.Common.{ℕ, List, sym, ap, ◌∙◌}
use Rattle.std.specs.Prelude.{encode_utf8_all}
use Rattle.std.proofs.lemmas.Str.{encodes-chars}
use Rattle.turtle_terms.specs.Keywords.{keyword_of}
use Rattle.turtle_statements.proofs.terms.read_keyword.Goals as goal

pub returns : goal.returns
returns c = c.keyword_of.ensures ∙ ap (λ (t : List ℕ). keyword_of c.args.kind t) (sym (encodes-chars c.args.text.now c.utf8.text))
