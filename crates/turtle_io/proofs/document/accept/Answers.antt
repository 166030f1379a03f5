use Rattle.std.proofs.Common.{sym, subst, ◌∙◌}
use Rattle.rdf_grammar.specs.declared.parse_error.ParseError.{ParseError}
use Rattle.turtle_tokens.specs.Faults.{first_fault}
use Rattle.turtle_statements.specs.Answers.{tokens_of}
use Rattle.turtle_statements.specs.Names.{names_of}
use Rattle.turtle_statements.specs.Statements.{IsRefused}
use Rattle.turtle_io.specs.declared.refusal.TurtleRefusal.{TurtleRefusal}
use Rattle.turtle_io.specs.Loop.{state_of, IsRefusedFor}
use Rattle.turtle_io.proofs.Going.{token_refused, syntax_is}
use Rattle.turtle_io.proofs.document.accept.Goals as goal

pub returns-in-Some-clause-accepts : goal.returns-in-Some-clause-accepts
returns-in-Some-clause-accepts c =
    let before = state_of c.args.context.now c.args.out.now in
    subst (λ (r : TurtleRefusal). IsRefusedFor before c.args.at (tokens_of c.args.tokens.now) r) (sym c.refusal_of.ensures)
    (token_refused before c.args.at (tokens_of c.args.tokens.now) c.in-Some.fault c.in-Some.ensures)

pub returns-in-Ok-clause-accepts : goal.returns-in-Ok-clause-accepts
returns-in-Ok-clause-accepts c = record { no_fault = sym c.token_fault.ensures ∙ c.in_default.is; means = c.in-Ok.ensures.means }

pub returns-in-Err-NoMatch-clause-accepts : goal.returns-in-Err-NoMatch-clause-accepts
returns-in-Err-NoMatch-clause-accepts c =
    let names = names_of c.args.context.now in
    let ts = tokens_of c.args.tokens.now in
    syntax_is (state_of c.args.context.now c.args.out.now) c.args.at ts (first_fault 0 ts) (sym c.in_default.is ∙ c.token_fault.ensures)
    (subst (λ (e : ParseError). IsRefused e names ts) c.in-Err-NoMatch.field-0-is c.in-Err-NoMatch.ensures.means)
