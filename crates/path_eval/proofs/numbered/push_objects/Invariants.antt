use Rattle.std.proofs.Common.{◌≡◌, ◌++◌, take}
use Rattle.path_eval.specs.TermNumbers.{terms_in, objects_of}
use Rattle.path_eval.proofs.numbered.push_objects.Given as goal

abbrev pub invariant-triples : goal.invariant-triples
invariant-triples l = terms_in l.terms.items ≡ terms_in l.fn.terms.items ++ objects_of (take l.triple-index l.triple-items)
