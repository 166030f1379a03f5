use Rattle.std.proofs.Common.{◌≡◌, ◌<◌, ◌≤◌, Bool, true, false, length, MatchBool, subst, rules, tests}
use Rattle.std.specs.List.{All, AllWithin}
use Rattle.std.proofs.lemmas.Bool.{false≢true}
use Rattle.std.proofs.lemmas.Iterator.{cases_from_all, YieldsList-from_slice}
use Rattle.std.proofs.lemmas.List.Elements.{All-from_all_within}
use Rattle.repair_problem.specs.Changes.{AreCandidates}
use Rattle.rule_cases.proofs.answer.are_pairs.Goals as goal

holds : (r : Bool) (P Q : Type 0) → MatchBool r P Q → r ≡ true → P
holds true P Q h e = h
holds false P Q h e = absurd (false≢true e)

pub returns : goal.returns
returns c = λ yes.
    let xs = c.args.chain.now in
    let s = c.args.problem.now in
    All-from_all_within (AreCandidates s) xs (holds c.all.result (AllWithin (AreCandidates s) xs 0 (length xs)) _ (cases_from_all _ _ _ (AreCandidates s) (λ _. Unit {0}) c.all.ensures.ran (YieldsList-from_slice xs cc) (λ x q k. search (rules, tests)) (λ x q k. tt)) yes)
