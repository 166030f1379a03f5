use Rattle.std.proofs.Common.{nat_eq, sym, ap, ◌∙◌, subst}
use Rattle.std.specs.List.{list_any}
use Rattle.std.specs.List.Sorted.{IsStrictlyIncreasing}
use Rattle.path_levels.proofs.FoundNumbers.{search_is}
use Rattle.path_levels.proofs.numbers.NodeNumbers.has.Goals as goal

pub returns : goal.returns
returns c =
    let xs = c.as_slice.result.now in
    let rises : IsStrictlyIncreasing xs = subst IsStrictlyIncreasing (c.self.view_is ∙ sym c.as_slice.ensures) c.self.invariant in
    search_is xs rises c.args.number c.binary_search.result c.is_ok.result c.binary_search.ensures.position c.is_ok.ensures.value ∙ ap (list_any (λ z. nat_eq c.args.number z)) c.as_slice.ensures
