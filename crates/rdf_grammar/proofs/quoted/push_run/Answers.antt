use Rattle.std.proofs.Common.{List, ℕ, ◌++◌, ap, ◌∙◌, string_bytes}
use Rattle.std.specs.Prelude.{encode_utf8_all}
use Rattle.grammar_forms.proofs.Exactness.{take_front}
use Rattle.rdf_grammar.proofs.quoted.push_run.Goals as goal

pub returns : goal.returns
returns g c = record {
  skips = c.skip-rest.ensures.run;
  bytes = c.in_ok-push_str.ensures.bytes ∙ ap (λ (t : List ℕ). string_bytes c.args.out.now ++ t) (c.front.ensures ∙ ap encode_utf8_all (take_front _ _ _ c.skip-rest.ensures.run.parts));
}
