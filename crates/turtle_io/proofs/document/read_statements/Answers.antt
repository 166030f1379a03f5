use Rattle.std.proofs.Common.{rules, arith, length, List, sym, subst}
use Rattle.std.proofs.lemmas.Result.{err_from_is_err_and}
use Rattle.turtle_tokens.specs.declared.statement.Token.{Token}
use Rattle.turtle_statements.specs.Answers.{tokens_of}
use Rattle.turtle_statements.specs.Names.{names_of}
use Rattle.turtle_io.specs.Documents.{Accepts}
use Rattle.turtle_io.specs.Loop.{state_of, IsRefusedFor}
use Rattle.turtle_io.proofs.Going.{go_begin, go_on, go_refused, go_done, start_is, accepted_some, read_err}
use Rattle.turtle_io.proofs.document.read_statements.Goals as goal

pub returns-in_err-accept : goal.returns-in_err-accept
returns-in_err-accept c =
    let p = err_from_is_err_and c.from_residual-in_err-accept.result c.from_residual-in_err-accept.ensures.1 in
    let before = state_of c.statements.context c.statements.out in
    let r = c.in_err-accept.field-0.0 in
    read_err c.args.at_end c.args.at c.args.text.now c.args.role c.from_residual-in_err-accept.result r p.0 p.1 p.2
    (go_refused c.args.at_end c.args.at c.args.text.now c.args.role c.statements.here c.statements.rest.now before c.in_ok-statement.statement.tokens.items c.in_ok-statement.statement.next_at c.in_ok-statement.statement.rest.now r
    (c.has_more.ensures.more c.statements-test.true) c.in_ok-statement.ensures.cut
    (subst (λ (ts : List Token). IsRefusedFor before c.statements.here (tokens_of ts) r) c.as_slice-tokens.ensures.value c.in_err-accept.ensures.accepts) c.statements.invariant.1)

pub statements-smaller : goal.statements-smaller
statements-smaller c =
    let before = state_of c.statements.context c.statements.out in
    let after = state_of c.accept.new.context c.accept.new.out in
    let some = accepted_some before after c.in_ok-statement.statement.tokens.items (subst (λ (ts : List Token). Accepts before (tokens_of ts) after) c.as_slice-tokens.ensures.value c.in_ok-accept.ensures.accepts) in
    omega (arith, some, c.in_ok-statement.ensures.progress)

pub statements-preserved : goal.statements-preserved
statements-preserved c =
    let before = state_of c.statements.context c.statements.out in
    let after = state_of c.accept.new.context c.accept.new.out in (
      search rules,
      go_on c.args.at_end c.args.at c.args.text.now c.args.role c.statements.here c.statements.rest.now before c.in_ok-statement.statement.tokens.items c.in_ok-statement.statement.next_at c.in_ok-statement.statement.rest.now after
          c.in_ok-statement.ensures.cut c.in_ok-statement.ensures.next (subst (λ (ts : List Token). Accepts before (tokens_of ts) after) c.as_slice-tokens.ensures.value c.in_ok-accept.ensures.accepts) c.statements.invariant.1,
      c.in_ok-accept.ensures.lawful,
    )

pub returns : goal.returns
returns c =
    go_done c.args.at_end c.args.at c.args.text.now c.args.role c.statements.here c.statements.rest.now (state_of c.statements.context c.statements.out) (c.has_more.ensures.none c.statements-test.false) c.statements.invariant.1
