use Rattle.std.proofs.Common.{◌+◌, ◌*◌, List, length}
use Rattle.path_eval.specs.declared.automaton.State.{State}
use Rattle.path_eval.specs.Automaton.{IsGrown, IsPart, IsCompiled, AreForked}
use Rattle.path_eval.proofs.automaton.+compiling.Given as goal

abbrev pub decreases-compile : goal.decreases-compile
decreases-compile l = 2 * l.fuel

abbrev pub decreases-compile_members : goal.decreases-compile_members
decreases-compile_members l = 2 * l.fuel + 1

abbrev pub decreases-compile_loop : goal.decreases-compile_loop
decreases-compile_loop l = 2 * l.fuel + 1

abbrev pub invariant-compile_members-members : goal.invariant-compile_members-members
invariant-compile_members-members l = record {
  grown : IsGrown l.fn.states.items l.states.items;
  compiled : (code : List State) → IsPart code l.states.items (length l.fn.states.items) → AreForked (λ q a. IsCompiled l.fuel l.forms code q l.direction a l.next) code l.members l.member-index l.entry;
}
