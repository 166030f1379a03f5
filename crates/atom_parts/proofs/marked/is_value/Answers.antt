use Rattle.std.proofs.Common.{◌≡◌, nat_eq, sym, ap, ◌∙◌, subst}
use Rattle.std.specs.List.{list_any}
use Rattle.std.specs.List.Sorted.{IsStrictlyIncreasing}
use Rattle.path_levels.proofs.FoundNumbers.{search_is}
use Rattle.atom_parts.specs.ValueParts.{values_of}
use Rattle.atom_parts.proofs.Reached.{values_rise}
use Rattle.atom_parts.proofs.marked.is_value.Goals as goal

pub returns-clause-value : goal.returns-clause-value
returns-clause-value c =
    let s = c.args.nodes.now in
    let xs = c.as_slice.result.now in
    let e : xs ≡ values_of s c.args.shape c.args.x = c.as_slice.ensures ∙ c.in_ok-values.ensures.value in
    let rises : IsStrictlyIncreasing xs = subst IsStrictlyIncreasing (sym e) (values_rise s c.args.shape c.args.x) in
    search_is xs rises c.args.y c.binary_search.result c.is_ok.result c.binary_search.ensures.position c.is_ok.ensures.value
    ∙ ap (list_any (λ z. nat_eq c.args.y z)) e
