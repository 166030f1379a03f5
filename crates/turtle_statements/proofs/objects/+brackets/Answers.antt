use Rattle.std.proofs.Common.{◌≡◌, ◌<◌, ◌-◌, ℕ, List, [], length, Some, None, Option, IsTrue, not, false, true, sym, ap, subst, ◌∙◌, arith, rules}
use Rattle.std.specs.Prelude.{is_some}
use Rattle.std.proofs.lemmas.Result.{err_from_is_err_and}
use Rattle.rdf_terms.specs.declared.term.Term.{Term}
use Rattle.rdf_terms.specs.Statement.{is_node, is_iri}
use Rattle.rdf_terms.specs.Vocab.Rdf as rdf
use Rattle.turtle_tokens.specs.Places.{PlacedToken}
use Rattle.turtle_tokens.specs.declared.kinds.TokenKind.TheVariants as kinds
use Rattle.turtle_statements.specs.declared.output.Output.{Output}
use Rattle.turtle_statements.specs.Answers.{tokens_of, RunsRest}
use Rattle.turtle_statements.specs.Names.{names_of}
use Rattle.turtle_statements.specs.Running.{strip_kind, said_object, members_run, next_member, objects_run, object_list_run, properties_run, optional_objects, collection_run, bracketed_run, object_run, term_run}
use Rattle.turtle_statements.proofs.CodeLaws.{runs_same, rest_same, rest_err, runs_err, none_left, object_flat, object_paren, object_bracket, object_neither, members_begin, members_go, members_shorter, members_missed, members_no_first, members_last, next_member_is, next_member_missed, objects_are, objects_no_verb, no_first_object, commas_begin, commas_go, commas_missed, commas_shorter, commas_end, semicolons_begin, semicolons_go, semicolons_missed, semicolons_shorter, semicolons_end, properties_no_objects}
use Rattle.turtle_statements.proofs.objects.+brackets.Goals as goal

pub read_object-returns-then-depth-eq0 : goal.read_object-returns-then-depth-eq0
read_object-returns-then-depth-eq0 t c =
    let names = names_of c.args.context.now in
    let ts = tokens_of c.args.tokens.now in
    runs_same (λ (x : Term). x) c.read_term.result c.read_term.new.out (term_run names c.args.out.now ts) (object_run names c.args.depth c.args.out.now ts) (object_flat names c.args.depth c.args.out.now ts c.if-depth-eq0.true) c.read_term.ensures

pub read_object-returns-in-Paren : goal.read_object-returns-in-Paren
read_object-returns-in-Paren t c =
    let names = names_of c.args.context.now in
    let ts = tokens_of c.args.tokens.now in
    runs_same (λ (x : Term). x) c.read_collection.result c.read_collection.new.out (collection_run names.role (object_run names (c.args.depth - 1)) c.args.out.now ts) (object_run names c.args.depth c.args.out.now ts)
    (object_paren names c.args.depth c.args.out.now ts (omega (arith, c.if-depth-eq0.false)) c.in-Paren.ensures) c.read_collection.ensures.runs

pub read_object-returns-in-Bracket : goal.read_object-returns-in-Bracket
read_object-returns-in-Bracket t c =
    let names = names_of c.args.context.now in
    let ts = tokens_of c.args.tokens.now in
    runs_same (λ (x : Term). x) c.read_bracketed.result c.read_bracketed.new.out (bracketed_run names (object_run names (c.args.depth - 1)) c.args.out.now ts) (object_run names c.args.depth c.args.out.now ts)
    (object_bracket names c.args.depth c.args.out.now ts (omega (arith, c.if-depth-eq0.false)) c.in-Bracket.ensures) c.read_bracketed.ensures.runs

pub read_object-returns-in-Neither : goal.read_object-returns-in-Neither
read_object-returns-in-Neither t c =
    let names = names_of c.args.context.now in
    let ts = tokens_of c.args.tokens.now in
    runs_same (λ (x : Term). x) c.read_term-in-Neither.result c.read_term-in-Neither.new.out (term_run names c.args.out.now ts) (object_run names c.args.depth c.args.out.now ts)
    (object_neither names c.args.depth c.args.out.now ts (omega (arith, c.if-depth-eq0.false)) c.in-Neither.ensures) c.read_term-in-Neither.ensures

pub read_members-members-init : goal.read_members-members-init
read_members-members-init t c =
    let names = names_of c.args.context.now in
    let ts = tokens_of c.args.tokens.now in
    let run = object_run names c.args.depth in
    (members_begin names c.args.depth c.args.context.now.role c.args.cell c.args.out.now ts (c.read_member.new.out, tokens_of c.in_ok-rest.rest.now) c.in_ok-rest.ensures, c.requires.node)

pub read_members-returns-in_err-rest : goal.read_members-returns-in_err-rest
read_members-returns-in_err-rest t c =
    let names = names_of c.args.context.now in
    let ts = tokens_of c.args.tokens.now in
    let run = object_run names c.args.depth in
    let p = err_from_is_err_and c.from_residual.result c.from_residual.ensures.1 in
    rest_err c.from_residual.result c.read_member.new.out (members_run c.args.context.now.role run (length ts) c.args.cell c.args.out.now ts) c.in_err-rest.field-0.0 p.0 p.1 p.2
    (members_no_first names c.args.depth c.args.context.now.role c.args.cell c.args.out.now ts c.in_err-rest.field-0.0 c.in_err-rest.ensures)

pub read_members-returns-in_err-next : goal.read_members-returns-in_err-next
read_members-returns-in_err-next t c =
    let names = names_of c.args.context.now in
    let ts = tokens_of c.args.tokens.now in
    let run = object_run names c.args.depth in
    let p = err_from_is_err_and c.from_residual-in_err-next.result c.from_residual-in_err-next.ensures.1 in
    let role = c.args.context.now.role in
    let whole = members_run role run (length ts) c.args.cell c.args.out.now ts in
    let left = tokens_of c.members.rest.now in
    let stop : is_some (strip_kind kinds.CloseParen left) ≡ false = search rules in
    rest_err c.from_residual-in_err-next.result c.read_next_member.new.out whole c.in_err-next.field-0.0 p.0 p.1 p.2
    (members_missed names c.args.depth role whole c.members.cell c.members.out left c.in_err-next.field-0.0 c.members.invariant.0 (none_left (strip_kind kinds.CloseParen left) stop) c.in_err-next.ensures.runs)

pub read_members-members-smaller : goal.read_members-members-smaller
read_members-members-smaller t c =
    let names = names_of c.args.context.now in
    let ts = tokens_of c.args.tokens.now in
    let run = object_run names c.args.depth in
    members_shorter names c.args.depth c.args.context.now.role c.members.cell c.members.out (tokens_of c.members.rest.now) ((c.in_ok-next.next, c.read_next_member.new.out), tokens_of c.in_ok-next.behind.now) c.in_ok-next.ensures.runs

pub read_members-members-preserved : goal.read_members-members-preserved
read_members-members-preserved t c =
    let names = names_of c.args.context.now in
    let ts = tokens_of c.args.tokens.now in
    let run = object_run names c.args.depth in
    let role = c.args.context.now.role in
    let whole = members_run role run (length ts) c.args.cell c.args.out.now ts in
    let left = tokens_of c.members.rest.now in
    let stop : is_some (strip_kind kinds.CloseParen left) ≡ false = search rules in
    let y : (Term × Output) × List PlacedToken = ((c.in_ok-next.next, c.read_next_member.new.out), tokens_of c.in_ok-next.behind.now) in
    (members_go names c.args.depth role whole c.members.cell c.members.out left y c.members.invariant.0 (none_left (strip_kind kinds.CloseParen left) stop) c.in_ok-next.ensures.runs, c.in_ok-next.ensures.node)

pub read_next_member-returns-clause-runs : goal.read_next_member-returns-clause-runs
read_next_member-returns-clause-runs t c =
    let names = names_of c.args.context.now in
    let ts = tokens_of c.args.tokens.now in
    let run = object_run names c.args.depth in
    next_member_is names c.args.depth c.args.context.now.role c.args.cell.now c.in_ok-next.next c.args.out.now c.next_cell.new.out ts (c.read_member.new.out, tokens_of c.in_ok-rest.rest.now) c.in_ok-next.ensures.cell c.in_ok-next.ensures.says c.in_ok-rest.ensures

pub read_next_member-returns-in_err-rest-clause-runs : goal.read_next_member-returns-in_err-rest-clause-runs
read_next_member-returns-in_err-rest-clause-runs t c =
    let names = names_of c.args.context.now in
    let ts = tokens_of c.args.tokens.now in
    let run = object_run names c.args.depth in
    let p = err_from_is_err_and c.from_residual-in_err-rest.result c.from_residual-in_err-rest.ensures.1 in
    runs_err (λ (x : Term). x) c.from_residual-in_err-rest.result c.read_member.new.out (next_member c.args.context.now.role run c.args.cell.now c.args.out.now ts) c.in_err-rest.field-0.0 p.0 p.1 p.2
    (next_member_missed names c.args.depth c.args.context.now.role c.args.cell.now c.in_ok-next.next c.args.out.now c.next_cell.new.out ts c.in_err-rest.field-0.0 c.in_ok-next.ensures.cell c.in_ok-next.ensures.says c.in_err-rest.ensures)

pub read_member-returns : goal.read_member-returns
read_member-returns t c =
    let names = names_of c.args.context.now in
    let ts = tokens_of c.args.tokens.now in
    let run = object_run names c.args.depth in
    subst (λ (p : Term). RunsRest c.read_said.result c.read_said.new.out (said_object run c.args.cell.now p c.args.out.now ts)) c.in_ok-first.ensures c.read_said.ensures

pub read_objects-returns : goal.read_objects-returns
read_objects-returns t c =
    let names = names_of c.args.context.now in
    let ts = tokens_of c.args.tokens.now in
    let run = object_run names c.args.depth in
    rest_same c.read_object_list.result c.read_object_list.new.out (object_list_run run c.args.subject.now c.in_ok-verb.verb c.args.out.now (tokens_of c.in_ok-verb.objects.now)) (objects_run names run c.args.subject.now c.args.out.now ts)
    (objects_are names c.args.depth c.args.subject.now c.args.out.now ts (c.in_ok-verb.verb, tokens_of c.in_ok-verb.objects.now) c.in_ok-verb.ensures.verb) c.read_object_list.ensures

pub read_objects-returns-in_err-verb : goal.read_objects-returns-in_err-verb
read_objects-returns-in_err-verb t c =
    let names = names_of c.args.context.now in
    let ts = tokens_of c.args.tokens.now in
    let run = object_run names c.args.depth in
    let p = err_from_is_err_and c.from_residual.result c.from_residual.ensures.1 in
    rest_err c.from_residual.result c.args.out.now (objects_run names run c.args.subject.now c.args.out.now ts) c.in_err-verb.field-0.0 p.0 p.1 p.2 (objects_no_verb names c.args.depth c.args.subject.now c.args.out.now ts c.in_err-verb.field-0.0 c.in_err-verb.ensures.verb)

pub read_object_list-commas-init : goal.read_object_list-commas-init
read_object_list-commas-init t c =
    let names = names_of c.args.context.now in
    let ts = tokens_of c.args.tokens.now in
    let run = object_run names c.args.depth in
    commas_begin names c.args.depth c.args.subject.now c.args.verb.now c.args.out.now ts (c.read_said.new.out, tokens_of c.in_ok-rest.rest.now) c.in_ok-rest.ensures

pub read_object_list-returns-in_err-rest : goal.read_object_list-returns-in_err-rest
read_object_list-returns-in_err-rest t c =
    let names = names_of c.args.context.now in
    let ts = tokens_of c.args.tokens.now in
    let run = object_run names c.args.depth in
    let p = err_from_is_err_and c.from_residual.result c.from_residual.ensures.1 in
    let whole = object_list_run run c.args.subject.now c.args.verb.now c.args.out.now ts in
    rest_err c.from_residual.result c.read_said.new.out whole c.in_err-rest.field-0.0 p.0 p.1 p.2 (no_first_object names c.args.depth c.args.subject.now c.args.verb.now c.args.out.now ts c.in_err-rest.field-0.0 c.in_err-rest.ensures)

pub read_object_list-returns-in_err-rest-2 : goal.read_object_list-returns-in_err-rest-2
read_object_list-returns-in_err-rest-2 t c =
    let names = names_of c.args.context.now in
    let ts = tokens_of c.args.tokens.now in
    let run = object_run names c.args.depth in
    let p = err_from_is_err_and c.from_residual-in_err-rest-2.result c.from_residual-in_err-rest-2.ensures.1 in
    let whole = object_list_run run c.args.subject.now c.args.verb.now c.args.out.now ts in
    let left = tokens_of c.commas.rest.now in
    let after = tokens_of c.in_ok-after.after.now in
    rest_err c.from_residual-in_err-rest-2.result c.read_said-in-commas.new.out whole c.in_err-rest-2.field-0.0 p.0 p.1 p.2 (commas_missed names c.args.depth c.args.subject.now c.args.verb.now whole c.commas.out left after c.in_err-rest-2.field-0.0 c.commas.invariant c.in_ok-after.ensures c.in_err-rest-2.ensures)

pub read_object_list-commas-smaller : goal.read_object_list-commas-smaller
read_object_list-commas-smaller t c =
    let names = names_of c.args.context.now in
    let ts = tokens_of c.args.tokens.now in
    let run = object_run names c.args.depth in
    let left = tokens_of c.commas.rest.now in
    let after = tokens_of c.in_ok-after.after.now in
    let y : Output × List PlacedToken = (c.read_said-in-commas.new.out, tokens_of c.in_ok-rest-2.rest.now) in
    commas_shorter names c.args.depth c.args.subject.now c.args.verb.now c.commas.out left after y c.in_ok-after.ensures c.in_ok-rest-2.ensures

pub read_object_list-commas-preserved : goal.read_object_list-commas-preserved
read_object_list-commas-preserved t c =
    let names = names_of c.args.context.now in
    let ts = tokens_of c.args.tokens.now in
    let run = object_run names c.args.depth in
    let whole = object_list_run run c.args.subject.now c.args.verb.now c.args.out.now ts in
    let left = tokens_of c.commas.rest.now in
    let after = tokens_of c.in_ok-after.after.now in
    let y : Output × List PlacedToken = (c.read_said-in-commas.new.out, tokens_of c.in_ok-rest-2.rest.now) in
    commas_go names c.args.depth c.args.subject.now c.args.verb.now whole c.commas.out left after y c.commas.invariant c.in_ok-after.ensures c.in_ok-rest-2.ensures

pub read_object_list-returns : goal.read_object_list-returns
read_object_list-returns t c =
    let names = names_of c.args.context.now in
    let ts = tokens_of c.args.tokens.now in
    let run = object_run names c.args.depth in
    let whole = object_list_run run c.args.subject.now c.args.verb.now c.args.out.now ts in
    let left = tokens_of c.commas.rest.now in
    let stop : is_some (strip_kind kinds.Comma left) ≡ false = search rules in
    commas_end names c.args.depth c.args.subject.now c.args.verb.now whole c.commas.out left c.commas.invariant (none_left (strip_kind kinds.Comma left) stop)

pub read_properties-semicolons-init : goal.read_properties-semicolons-init
read_properties-semicolons-init t c =
    semicolons_begin (names_of c.args.context.now) c.args.depth c.args.subject.now c.args.out.now (tokens_of c.args.tokens.now) (c.read_objects.new.out, tokens_of c.in_ok-rest.rest.now) c.in_ok-rest.ensures

pub read_properties-returns-in_err-rest : goal.read_properties-returns-in_err-rest
read_properties-returns-in_err-rest t c =
    let names = names_of c.args.context.now in
    let ts = tokens_of c.args.tokens.now in
    let run = object_run names c.args.depth in
    let p = err_from_is_err_and c.from_residual.result c.from_residual.ensures.1 in
    let whole = properties_run names run c.args.subject.now c.args.out.now ts in
    rest_err c.from_residual.result c.read_objects.new.out whole c.in_err-rest.field-0.0 p.0 p.1 p.2 (properties_no_objects names c.args.depth c.args.subject.now c.args.out.now ts c.in_err-rest.field-0.0 c.in_err-rest.ensures)

pub read_properties-returns-in_err-rest-2 : goal.read_properties-returns-in_err-rest-2
read_properties-returns-in_err-rest-2 t c =
    let names = names_of c.args.context.now in
    let ts = tokens_of c.args.tokens.now in
    let run = object_run names c.args.depth in
    let p = err_from_is_err_and c.from_residual-in_err-rest-2.result c.from_residual-in_err-rest-2.ensures.1 in
    let whole = properties_run names run c.args.subject.now c.args.out.now ts in
    let left = tokens_of c.semicolons.rest.now in
    let after = tokens_of c.in_ok-after.after.now in
    rest_err c.from_residual-in_err-rest-2.result c.read_optional_objects.new.out whole c.in_err-rest-2.field-0.0 p.0 p.1 p.2 (semicolons_missed names c.args.depth c.args.subject.now whole c.semicolons.out left after c.in_err-rest-2.field-0.0 c.semicolons.invariant c.in_ok-after.ensures c.in_err-rest-2.ensures)

pub read_properties-semicolons-smaller : goal.read_properties-semicolons-smaller
read_properties-semicolons-smaller t c =
    let names = names_of c.args.context.now in
    let ts = tokens_of c.args.tokens.now in
    let run = object_run names c.args.depth in
    let left = tokens_of c.semicolons.rest.now in
    let after = tokens_of c.in_ok-after.after.now in
    let y : Output × List PlacedToken = (c.read_optional_objects.new.out, tokens_of c.in_ok-rest-2.rest.now) in
    semicolons_shorter names c.args.depth c.args.subject.now c.semicolons.out left after y c.in_ok-after.ensures c.in_ok-rest-2.ensures

pub read_properties-semicolons-preserved : goal.read_properties-semicolons-preserved
read_properties-semicolons-preserved t c =
    let names = names_of c.args.context.now in
    let ts = tokens_of c.args.tokens.now in
    let run = object_run names c.args.depth in
    let whole = properties_run names run c.args.subject.now c.args.out.now ts in
    let left = tokens_of c.semicolons.rest.now in
    let after = tokens_of c.in_ok-after.after.now in
    let y : Output × List PlacedToken = (c.read_optional_objects.new.out, tokens_of c.in_ok-rest-2.rest.now) in
    semicolons_go names c.args.depth c.args.subject.now whole c.semicolons.out left after y c.semicolons.invariant c.in_ok-after.ensures c.in_ok-rest-2.ensures

pub read_properties-returns : goal.read_properties-returns
read_properties-returns t c =
    let names = names_of c.args.context.now in
    let ts = tokens_of c.args.tokens.now in
    let run = object_run names c.args.depth in
    let whole = properties_run names run c.args.subject.now c.args.out.now ts in
    let left = tokens_of c.semicolons.rest.now in
    let stop : is_some (strip_kind kinds.Semicolon left) ≡ false = search rules in
    semicolons_end names c.args.depth c.args.subject.now whole c.semicolons.out left c.semicolons.invariant (none_left (strip_kind kinds.Semicolon left) stop)
