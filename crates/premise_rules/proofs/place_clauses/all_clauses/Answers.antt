use Rattle.std.proofs.Common.{ℕ, ◌≤◌, ◌∙◌, arith}
use Rattle.atom_parts.specs.Sources.{listed_fixing}
use Rattle.premise_rules.specs.declared.clause.Clause.{Clause}
use Rattle.premise_rules.specs.Literals.{finished}
use Rattle.premise_rules.specs.PlaceClauses.{clause_at, first_places}
use Rattle.premise_rules.proofs.PlaceLaws.{clauses_more, clauses_first, clauses_whole, clauses_other}
use Rattle.premise_rules.proofs.place_clauses.all_clauses.Goals as goal
use Rattle.premise_rules.proofs.place_clauses.all_clauses.Goals.{in-ByParts+in_ok-push_clause-2, in_default}

pub places-preserved : goal.places-preserved
places-preserved c =
    let F : ℕ → Clause = λ k. finished (clause_at c.args.atom (listed_fixing c.args.fixing.now) k) in
    clauses_more F c.places.place c.places.clauses c.push_clause.new.clauses c.places.invariant c.in_ok-push_clause.ensures

pub returns : goal.returns
returns c =
    let F : ℕ → Clause = λ k. finished (clause_at c.args.atom (listed_fixing c.args.fixing.now) k) in
    let n = first_places (listed_fixing c.args.fixing.now) in
    let within : c.places.place ≤ n = let e = c.first_places-place-end.ensures in omega (arith, c.places.auto.place-end, e) in
    let end : n ≤ c.places.place = let e = c.first_places-place-end.ensures in omega (arith, c.places-test.false, e) in
    let first = clauses_first F n c.places.place c.places.clauses within end c.places.invariant in
    elim c.match-fixing.branch [
      | in-ByParts+in_ok-push_clause-2 w ↦
          clauses_whole F c.args.fixing.now w.in-ByParts.parts w.len.result c.places.clauses c.match-fixing.clauses w.in-ByParts.is w.len.ensures first (w.clauses-is ∙ w.in_ok-push_clause-2.ensures)
      | in_default w ↦
          w.clauses-is ∙ clauses_other F c.args.fixing.now c.places.clauses (λ parts e. w.in_default.not-ByParts parts e) first
    ]
