use Rattle.std.proofs.Common.{◌≡◌, ◌≤◌, ◌-◌, true, length, take}
use Rattle.std.specs.List.{list_all}
use Rattle.std.specs.Str.{IsAscii}
use Rattle.rdf_grammar.proofs.characters.skip_ascii.Given as goal

abbrev pub invariant-ascii : goal.invariant-ascii
invariant-ascii g l = record {
  within : l.end ≤ length l.bytes;
  ascii : IsAscii (take l.end l.bytes);
  each : list_all (g.C.CharClass.test l.class) (take l.end l.bytes) ≡ true;
}

abbrev pub decreases-ascii : goal.decreases-ascii
decreases-ascii g l = length l.bytes - l.end
