use Rattle.std.proofs.Common.{List, ℕ, ◌++◌, ap, ◌∙◌, string_bytes, false}
use Rattle.std.specs.Prelude.{encode_utf8_all}
use Rattle.std.specs.Str.{chars}
use Rattle.std.proofs.lemmas.Str.{scalars-chars}
use Rattle.turtle_terms.specs.Names.{unescaped}
use Rattle.turtle_terms.proofs.LawfulNames.{expanded_lawful}
use Rattle.turtle_terms.proofs.names.expand_name.Goals as goal

pub returns-clause-lawful : goal.returns-clause-lawful
returns-clause-lawful c = λ n h.
    expanded_lawful c.args.namespace.now (chars c.args.local.now) (string_bytes c.push_unescaped.new.out) (scalars-chars c.args.local.now c.utf8.local)
    (c.in_ok-push_unescaped.ensures ∙ ap (λ (t : List ℕ). t ++ encode_utf8_all (unescaped false (chars c.args.local.now))) (c.in_ok-iri.ensures.ok ∙ c.as_str.ensures)) n h
