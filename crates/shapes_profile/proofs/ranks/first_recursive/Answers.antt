use Rattle.std.proofs.Common.{◌≡◌, ◌<◌, ℕ, List, length, sym, subst}
use Rattle.std.specs.Prelude.{Option, Some, slice_get, IfSome, IfNone}
use Rattle.rdf_terms.specs.declared.term.Term.{Term}
use Rattle.rdf_terms.proofs.Sets.{get_at}
use Rattle.digraph.specs.Digraph.{IsFirst, successors_at}
use Rattle.digraph.specs.Reach.{IsOnCircle}
use Rattle.shapes_profile.proofs.RankLaws.{recursive_first, recursive_none, recursive_within}
use Rattle.shapes_profile.proofs.ranks.first_recursive.Goals as goal

pub returns-in-Some-clause-some : goal.returns-in-Some-clause-some
returns-in-Some-clause-some c =
    let s = c.args.shapes.now in
    let g = c.args.references.now in
    let first : IsFirst (IsOnCircle (successors_at g)) c.in-Some.number = subst (λ (o : Option ℕ). IfSome o (IsFirst (IsOnCircle (successors_at g)))) c.in-Some.is c.in_ok-number.ensures.some in
    let l : c.in-Some.number < length c.as_slice.result.now = subst (λ (ts : List Term). c.in-Some.number < length ts) (sym c.as_slice.ensures) (recursive_within s g c.requires.len c.requires.numbered c.in-Some.number first) in
    let there = get_at c.as_slice.result.now c.in-Some.number c.index-as_slice-number.result l c.index-as_slice-number.is in
    recursive_first s g c.requires.len c.requires.numbered c.in-Some.number c.index-as_slice-number.result first
    (subst (λ (ts : List Term). slice_get ts c.in-Some.number ≡ Some c.index-as_slice-number.result) c.as_slice.ensures there)

pub returns-in-None-clause-none : goal.returns-in-None-clause-none
returns-in-None-clause-none c =
    let g = c.args.references.now in
    recursive_none c.args.shapes.now g c.requires.len c.requires.numbered
    (subst (λ (o : Option ℕ). IfNone o ((i : ℕ) → ¬ (IsOnCircle (successors_at g) i))) c.in-None.is c.in_ok-number.ensures.none)
