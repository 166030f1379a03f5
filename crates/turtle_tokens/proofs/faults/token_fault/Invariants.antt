use Rattle.std.proofs.Common.{◌≡◌, ◌≤◌, drop}
use Rattle.std.specs.Prelude.{map}
use Rattle.turtle_tokens.specs.Faults.{first_fault}
use Rattle.turtle_tokens.specs.Cuts.{placed}
use Rattle.turtle_tokens.proofs.faults.token_fault.Given as goal

abbrev pub invariant-tokens : goal.invariant-tokens
invariant-tokens l = (l.opened ≤ 128) × (first_fault 0 (map placed l.tokens) ≡ first_fault l.opened (map placed (drop l.token-index l.tokens)))
