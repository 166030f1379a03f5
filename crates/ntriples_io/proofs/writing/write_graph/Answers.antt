use Rattle.std.proofs.Common.{◌≡◌, ◌↔◌, ℕ, ◌++◌, List, sym, ap, subst, ◌∙◌}
use Rattle.std.proofs.lemmas.List.Elements.{All-more}
use Rattle.ntriples_io.specs.CanonicalText.{line_text, graph_text}
use Rattle.ntriples_io.specs.RoundTrip.{IsTriple}
use Rattle.ntriples_io.specs.Text.{NtText}
use Rattle.ntriples_io.proofs.RoundTrip.{text_of_graph, one_graph, one_more_line, all_written}
use Rattle.ntriples_io.proofs.writing.write_graph.Goals as goal

pub lines-preserved : goal.lines-preserved
lines-preserved c =
    let ts = c.as_slice-triple-items.result.now in
    let i = c.lines.triple-index in
    let t = c.triple-item.result in (
      c.in_ok-push_line.ensures.text ∙ ap (λ (text : List ℕ). text ++ line_text t) c.lines.invariant.0 ∙ one_more_line ts i t c.lines-test.true c.triple-item.is,
      All-more IsTriple ts i t c.lines-test.true c.lines.invariant.1 (subst IsTriple c.triple-item.is c.in_ok-push_line.ensures.triple),
    )

pub returns-clause-read_back : goal.returns-clause-read_back
returns-clause-read_back c = λ scope lawful in_scope.
    let g = c.args.graph.now in
    let k = all_written g c.as_slice-triple-items.result.now c.lines.triple-index c.lines.out c.as_slice-triple-items.ensures c.lines-test.false c.lines.invariant.0 c.lines.invariant.1 in
    subst (λ (text : List ℕ). NtText text scope g) (sym k.is_text) (text_of_graph scope g k.are_triples lawful in_scope)

pub returns-clause-one_graph : goal.returns-clause-one_graph
returns-clause-one_graph c = λ scope other lawful in_scope other_lawful other_in_scope.
    let g = c.args.graph.now in
    let k = all_written g c.as_slice-triple-items.result.now c.lines.triple-index c.lines.out c.as_slice-triple-items.ensures c.lines-test.false c.lines.invariant.0 c.lines.invariant.1 in
    let law = one_graph scope g other k.are_triples lawful in_scope other_lawful other_in_scope in
    subst (λ (text : List ℕ). (text ≡ graph_text other) ↔ (g ≡ other)) (sym k.is_text) law
