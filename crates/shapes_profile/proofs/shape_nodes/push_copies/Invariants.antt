use Rattle.std.proofs.Common.{◌≡◌, ◌++◌, take}
use Rattle.shapes_profile.proofs.shape_nodes.push_copies.Given as goal

abbrev pub invariant-copying : goal.invariant-copying
invariant-copying l = l.terms ≡ l.fn.terms ++ take l.term-index l.more
