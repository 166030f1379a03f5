use Rattle.std.proofs.Common.{◌++◌}
use Rattle.ntriples_io.specs.CanonicalText.{line_text}
use Rattle.certificates.specs.Writing.{IsSpelledIfLawful}
use Rattle.certificates.proofs.Written.{begun, one_more, ended, all_begun, all_more, all_ended}
use Rattle.certificates.proofs.writing.push_triple_lines.Goals as goal

pub triples-init : goal.triples-init
triples-init c = record {
  text = begun (λ t. c.args.prefix.now ++ line_text t) c.args.triples.now c.args.out.now;
  spelled = all_begun IsSpelledIfLawful c.args.triples.now;
}

pub triples-preserved : goal.triples-preserved
triples-preserved c = record {
  text = one_more (λ t. c.args.prefix.now ++ line_text t) c.args.triples.now c.args.out.now c.triples.out c.push_triple_line.new.out c.triples.triple-index c.triple-item.result c.triples-test.true c.triple-item.is c.triples.invariant.text c.in_ok-push_triple_line.ensures.text;
  spelled = all_more IsSpelledIfLawful c.args.triples.now c.triples.triple-index c.triple-item.result c.triples-test.true c.triple-item.is c.triples.invariant.spelled c.in_ok-push_triple_line.ensures.spelled;
}

pub returns-clause-text : goal.returns-clause-text
returns-clause-text c = ended (λ t. c.args.prefix.now ++ line_text t) c.args.triples.now c.args.out.now c.triples.out c.triples.triple-index c.triples-test.false c.triples.invariant.text

pub returns-clause-spelled : goal.returns-clause-spelled
returns-clause-spelled c = all_ended IsSpelledIfLawful c.args.triples.now c.triples.triple-index c.triples-test.false c.triples.invariant.spelled
