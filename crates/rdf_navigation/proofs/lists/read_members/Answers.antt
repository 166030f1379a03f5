use Rattle.std.proofs.Common.{◌≡◌, [], ◌∷◌, ◌++◌, length, Some, unwrap_or, sym, ap, ◌∙◌, append_assoc, append-nil, arith}
use Rattle.std.specs.Option.{option_copied}
use Rattle.rdf_navigation.specs.CellKind.{is_cell}
use Rattle.rdf_navigation.specs.Lists.{members_of}
use Rattle.rdf_navigation.proofs.PropertyLaws.{not_missing, same_some}
use Rattle.rdf_navigation.proofs.TableLaws.{nil_members, cell_members}
use Rattle.rdf_navigation.proofs.lists.read_members.Goals as goal

pub unreachable-requires : goal.unreachable-requires
unreachable-requires c =
    let k = cell_members (is_cell c.args.kind) c.args.graph.now c.cells.cell.now c.cells.invariant.0 (sym c.is_nil.ensures ∙ c.cells-test.true) c.cells.invariant.1 in
    not_missing k.member (sym (ap option_copied c.in_default.is) ∙ c.only_value.ensures ∙ k.first)

pub unreachable-requires-in_default-only_value : goal.unreachable-requires-in_default-only_value
unreachable-requires-in_default-only_value c =
    let k = cell_members (is_cell c.args.kind) c.args.graph.now c.cells.cell.now c.cells.invariant.0 (sym c.is_nil.ensures ∙ c.cells-test.true) c.cells.invariant.1 in
    not_missing k.rest (sym (ap option_copied c.in_default-only_value.is) ∙ c.only_value-in-cells.ensures ∙ k.next)

pub cells-smaller : goal.cells-smaller
cells-smaller c =
    let test = is_cell c.args.kind in
    let g = c.args.graph.now in
    let k = cell_members test g c.cells.cell.now c.cells.invariant.0 (sym c.is_nil.ensures ∙ c.cells-test.true) c.cells.invariant.1 in
    let rest : c.in-Some-only_value.rest.now ≡ k.rest = same_some (sym (ap option_copied c.in-Some-only_value.is) ∙ c.only_value-in-cells.ensures ∙ k.next) in
    let here : length (unwrap_or (members_of test g c.cells.cell.now) []) ≡ length (k.member ∷ k.others) = ap (λ o. length (unwrap_or o [])) (c.cells.invariant.1 ∙ ap (λ us. Some us) k.all) in
    let there : length (unwrap_or (members_of test g c.in-Some-only_value.rest.now) []) ≡ length k.others = ap (λ o. length (unwrap_or o [])) (ap (members_of test g) rest ∙ k.after) in
    omega (arith, here, there)

pub cells-preserved : goal.cells-preserved
cells-preserved c =
    let test = is_cell c.args.kind in
    let g = c.args.graph.now in
    let k = cell_members test g c.cells.cell.now c.cells.invariant.0 (sym c.is_nil.ensures ∙ c.cells-test.true) c.cells.invariant.1 in
    let first : c.in-Some.first.now ≡ k.member = same_some (sym (ap option_copied c.in-Some.is) ∙ c.only_value.ensures ∙ k.first) in
    let rest : c.in-Some-only_value.rest.now ≡ k.rest = same_some (sym (ap option_copied c.in-Some-only_value.is) ∙ c.only_value-in-cells.ensures ∙ k.next) in
    let pushed : c.push.new.self ≡ c.cells.members ++ k.member ∷ [] = c.in_ok-push.ensures.ok ∙ ap (λ t. c.cells.members ++ t ∷ []) (c.in_ok-copy.ensures ∙ first) in (
      k.others,
      ap (members_of test g) rest ∙ k.after,
      c.cells.invariant.2 ∙ ap (λ us. Some (c.cells.members ++ us)) k.all ∙ ap (λ us. Some us) (sym (append_assoc c.cells.members (k.member ∷ []) k.others)) ∙ ap (λ us. Some (us ++ k.others)) (sym pushed),
    )

pub returns : goal.returns
returns c =
    let none = nil_members (is_cell c.args.kind) c.args.graph.now c.cells.cell.now c.cells.invariant.0 (sym c.is_nil.ensures ∙ c.cells-test.false) c.cells.invariant.1 in
    c.cells.invariant.2 ∙ ap (λ us. Some (c.cells.members ++ us)) none ∙ ap (λ us. Some us) (append-nil c.cells.members)
