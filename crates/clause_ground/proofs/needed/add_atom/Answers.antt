use Rattle.std.proofs.Common.{◌≡◌, ◌<◌, ◌≤◌, List, length, Some, slice_get, get_or, sym, ap, ◌∙◌, subst, arith}
use Rattle.repair_problem.specs.declared.atom.Atom.{Atom}
use Rattle.atom_parts.specs.PartLiterals.{In}
use Rattle.atom_parts.specs.Fixing.{fixing}
use Rattle.premise_rules.specs.declared.clause.Clause.{Clause}
use Rattle.premise_rules.specs.PlaceClauses.{clauses_of, places}
use Rattle.clause_ground.specs.Growth.{found}
use Rattle.clause_ground.specs.Premises.{rules_of}
use Rattle.clause_ground.proofs.Working.{clause_grows, clause_kept, grows_more, made_next, made_whole, place_count, place_clause_is, get_in}
use Rattle.clause_ground.proofs.needed.add_atom.Goals as goal

pub clauses-preserved : goal.clauses-preserved
clauses-preserved c =
    let s = c.args.rules.now in
    let a = c.atom.result.now in
    let first = found c.args.ground.now.premises c.args.ground.now.atoms.keys in
    let old = found c.clauses.ground.premises c.clauses.ground.atoms.keys in
    let new = found c.add_clause.new.ground.premises c.add_clause.new.ground.atoms.keys in
    let same : c.as_slice-clause-items.result.now ≡ clauses_of s a = c.as_slice-clause-items.ensures ∙ c.in_ok-clauses.ensures.value in
    let r = place_clause_is s a c.as_slice-clause-items.result.now same c.clauses.place c.clause-item.result c.clauses-test.true c.clause-item.is in
    let there : In old.atoms a = get_in old.atoms c.args.v a (c.clauses.invariant.grows.atoms c.args.v a c.atom.ensures) in
    let g = clause_grows s a c.clauses.place r.0 old new c.clause-item.result r.1 c.clauses.invariant.grows.sound there c.in_ok-add_clause.ensures in
    let k = clause_kept s a c.clauses.place r.0 old new c.clause-item.result r.1 c.clauses.invariant.grows.sound there c.in_ok-add_clause.ensures in
    record { grows = grows_more s first old new c.clauses.invariant.grows g; made = made_next s a c.clauses.place old new g c.clauses.invariant.made k }

pub returns-clause-made : goal.returns-clause-made
returns-clause-made c =
    let s = c.args.rules.now in
    let a = c.atom.result.now in
    let same : c.as_slice-clause-items.result.now ≡ clauses_of s a = c.as_slice-clause-items.ensures ∙ c.in_ok-clauses.ensures.value in
    let n = place_count s a c.as_slice-clause-items.result.now same in
    let le : length c.as_slice-clause-items.result.now ≤ c.clauses.place = c.clauses-test.false in
    made_whole s c.args.ground.now.atoms.keys c.args.v a c.clauses.place (rules_of c.clauses.ground.premises) c.atom.ensures (subst (λ m. m ≤ c.clauses.place) n le) c.clauses.invariant.made
