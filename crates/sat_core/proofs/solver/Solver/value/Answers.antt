use Rattle.std.proofs.Common.{arith, ◌≡◌, ◌<◌, true, IsTrue, length, get_or, sym, subst, ap, ◌∙◌, not, false}
use Rattle.std.proofs.lemmas.List.{get_or_read}
use Rattle.clause_store.specs.Clauses.{has, mentions}
use Rattle.literal_signs.specs.Marked.{sign_marks}
use Rattle.literal_signs.specs.declared.sign.Sign.TheVariants.{Absent}
use Rattle.sat_core.specs.Solving.{assigned, is_known, lits_of}
use Rattle.sat_core.proofs.Entries.{below_known}
use Rattle.sat_core.proofs.Reserved.{lit, mentions_at, other_sign, value_holds}
use Rattle.sat_core.proofs.solver.Solver.value.Goals as goal

pub index-requires : goal.index-requires
index-requires g c =
    let cs = g.S.ClauseStore.clauses c.self.inside.store in
    let named = subst (λ s. mentions (assigned s) c.args.var ≡ true) (sym c.self.view_is) c.requires in
    let w = mentions_at c.self.inside.trail.items c.args.var named in
    let known : IsTrue (is_known cs c.args.var) = subst (λ x. IsTrue (is_known cs x)) w.3 (c.self.invariant.solving.trail.known w.0 w.1 w.2) in
    let lt = below_known (length c.self.inside.signs.items) cs c.args.var c.self.invariant.below known in
    omega (arith, lt, c.self.inside.signs.ok.0)

pub returns-clause-own : goal.returns-clause-own
returns-clause-own g c =
    let cs = g.S.ClauseStore.clauses c.self.inside.store in
    let v = c.args.var in
    let named = subst (λ s. mentions (assigned s) v ≡ true) (sym c.self.view_is) c.requires in
    let w = mentions_at c.self.inside.trail.items v named in
    let known : IsTrue (is_known cs v) = subst (λ x. IsTrue (is_known cs x)) w.3 (c.self.invariant.solving.trail.known w.0 w.1 w.2) in
    let lt : v < length c.self.inside.signs.items = below_known (length c.self.inside.signs.items) cs v c.self.invariant.below known in
    let here : c.index.result.now ≡ get_or c.self.inside.signs.items v Absent = get_or_read c.self.inside.signs.items _ _ lt c.index.ensures Absent in
    let is : c.is_marked.result ≡ has (lits_of c.self.inside.trail.items) (lit v true) =
    c.is_marked.ensures ∙ ap (λ s. sign_marks s true) here ∙ ap (λ f. f (lit v true)) c.self.invariant.marks in
    subst (λ s. IsTrue (has (assigned s) (lit v c.is_marked.result))) c.self.view_is
    (value_holds (lits_of c.self.inside.trail.items) v c.is_marked.result named is)

pub returns-clause-other : goal.returns-clause-other
returns-clause-other g c =
    let cs = g.S.ClauseStore.clauses c.self.inside.store in
    let v = c.args.var in
    let named = subst (λ s. mentions (assigned s) v ≡ true) (sym c.self.view_is) c.requires in
    let w = mentions_at c.self.inside.trail.items v named in
    let known : IsTrue (is_known cs v) = subst (λ x. IsTrue (is_known cs x)) w.3 (c.self.invariant.solving.trail.known w.0 w.1 w.2) in
    let lt : v < length c.self.inside.signs.items = below_known (length c.self.inside.signs.items) cs v c.self.invariant.below known in
    let sign = get_or c.self.inside.signs.items v Absent in
    let here : c.index.result.now ≡ sign = get_or_read c.self.inside.signs.items _ _ lt c.index.ensures Absent in
    let is : c.is_marked.result ≡ sign_marks sign true = c.is_marked.ensures ∙ ap (λ s. sign_marks s true) here in
    let off : sign_marks sign (not c.is_marked.result) ≡ false = ap (λ b. sign_marks sign (not b)) is ∙ other_sign sign in
    subst (λ s. has (assigned s) (lit v (not c.is_marked.result)) ≡ false) c.self.view_is
    (ap (λ f. f (lit v (not c.is_marked.result))) (sym c.self.invariant.marks) ∙ off)
