use Rattle.std.proofs.Common.{◌≡◌, IsTrue, length, take}
use Rattle.clause_store.specs.Clauses.{is_within}
use Rattle.atom_numbers.specs.Numbers.{clause_of, AreApart, ComeFrom, IsGrown, joined}
use Rattle.atom_numbers.proofs.numbering.number_clause.Given as goal

abbrev pub invariant-literals : goal.invariant-literals
invariant-literals l = record {
  value : clause_of l.atoms.keys l.clause ≡ take l.literal-index l.literals;
  within : IsTrue (is_within (length l.atoms.keys) l.clause);
  order : l.atoms.keys ≡ joined l.fn.atoms.keys (take l.literal-index l.literals);
  only : ComeFrom l.fn.atoms.keys (take l.literal-index l.literals) l.atoms.keys;
  grown : IsGrown l.fn.atoms.keys l.atoms.keys;
  apart : AreApart l.atoms.keys;
}
