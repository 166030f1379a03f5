use Rattle.atom_numbers.proofs.NumberLaws.{inserted_grown, inserted_apart, inserted_only, inserted_with, stored_literal}
use Rattle.atom_numbers.proofs.numbering.number_literal.Goals as goal

pub returns-clause-value : goal.returns-clause-value
returns-clause-value c = stored_literal c.insert_full.new.self.keys c.in_ok-found.found.0 c.args.literal c.in_ok-found.ensures.stored

pub returns-clause-only : goal.returns-clause-only
returns-clause-only c = inserted_only c.args.atoms.now.keys c.insert_full.new.self.keys c.args.literal c.in_ok-found.ensures.keys

pub returns-clause-grown : goal.returns-clause-grown
returns-clause-grown c = inserted_grown c.args.atoms.now.keys c.insert_full.new.self.keys c.args.literal.atom c.in_ok-found.ensures.keys

pub returns-clause-apart : goal.returns-clause-apart
returns-clause-apart c = inserted_apart c.args.atoms.now.keys c.insert_full.new.self.keys c.args.literal.atom c.requires c.in_ok-found.ensures.keys

pub returns-clause-joined : goal.returns-clause-joined
returns-clause-joined c = inserted_with c.args.atoms.now.keys c.insert_full.new.self.keys c.args.literal.atom c.in_ok-found.ensures.keys
