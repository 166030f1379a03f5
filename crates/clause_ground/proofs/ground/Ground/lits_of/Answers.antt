use Rattle.std.proofs.Common.{◌≡◌, List, length, take, ap, ◌∙◌}
use Rattle.repair_problem.specs.declared.atom.Atom.{Atom}
use Rattle.atom_numbers.specs.Numbers.{joined}
use Rattle.atom_numbers.proofs.NumberLaws.{grown_take, unchanged_grown}
use Rattle.clause_ground.proofs.ground.Ground.lits_of.Goals as goal

pub returns-in-Ok-clause-joined : goal.returns-in-Ok-clause-joined
returns-in-Ok-clause-joined c = c.in-Ok.ensures.joined ∙ ap (joined c.args.self.now.atoms.keys) c.as_slice.ensures

pub returns-in-Err-clause-grown : goal.returns-in-Err-clause-grown
returns-in-Err-clause-grown c =
    let old : List Atom = c.args.self.now.atoms.keys in
    unchanged_grown old c.truncate.new.self.keys (c.truncate.ensures.keys ∙ (ap (λ n. take n c.number_clause.new.atoms.keys) c.len-count.ensures.len ∙ grown_take old c.number_clause.new.atoms.keys c.in-Err.ensures.grown))

pub returns-in-Err-clause-err : goal.returns-in-Err-clause-err
returns-in-Err-clause-err c =
    let old : List Atom = c.args.self.now.atoms.keys in
    c.truncate.ensures.keys ∙ (ap (λ n. take n c.number_clause.new.atoms.keys) c.len-count.ensures.len ∙ grown_take old c.number_clause.new.atoms.keys c.in-Err.ensures.grown)
