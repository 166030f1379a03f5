use Rattle.std.proofs.Common.{◌≡◌, Some, ◌∙◌, sym}
use Rattle.atom_numbers.proofs.NumberLaws.{number_is}
use Rattle.clause_ground.proofs.ground.Ground.var_of.Goals as goal

pub returns : goal.returns
returns c = λ v.
    let r = number_is c.args.self.now.atoms.keys c.args.self.now.apart c.args.atom.now v in
    (λ h. r.0 (sym c.get_index_of.ensures.index ∙ h), λ h. c.get_index_of.ensures.index ∙ r.1 h)
