use Rattle.std.proofs.Common.{refl, sym, ◌∙◌}
use Rattle.std.proofs.lemmas.Str.{chars_past_char}
use Rattle.rdf_grammar.proofs.characters.first_char.Goals as goal

pub returns : goal.returns
returns c =
    let e = sym c.chars-rest.ensures.rest ∙ c.in_ok-first.ensures.steps.0 in
    rw c.as_str.ensures (rw (chars_past_char c.args.text.now c.next.new.self.rest.now c.in_ok-first.first c.utf8.text e) refl)
