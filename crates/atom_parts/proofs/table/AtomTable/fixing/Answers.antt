use Rattle.std.proofs.Common.{sym, subst}
use Rattle.std.proofs.lemmas.Result.{IfOk-weaker}
use Rattle.atom_parts.specs.Fixing.{IsOfAtom}
use Rattle.atom_parts.specs.Sources.{listed_fixing}
use Rattle.atom_parts.proofs.Owned.{own_fixing}
use Rattle.atom_parts.proofs.table.AtomTable.fixing.Goals as goal

pub returns-clause-own : goal.returns-clause-own
returns-clause-own c =
    let a = c.args.atom.now in
    IfOk-weaker c.fixing_of.result _ (λ f. IsOfAtom a (listed_fixing f)) (λ f e. subst (IsOfAtom a) (sym e) (own_fixing c.self.inside.nodes a)) c.fixing_of.ensures.value
