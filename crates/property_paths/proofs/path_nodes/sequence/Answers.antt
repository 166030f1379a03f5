use Rattle.std.proofs.Common.{◌≡◌, true, false, sym, ap, ◌∙◌}
use Rattle.std.specs.Prelude.{Some}
use Rattle.std.specs.Option.{option_copied}
use Rattle.rdf_terms.specs.declared.term.Term.{Term}
use Rattle.rdf_terms.specs.Graph.{Graph}
use Rattle.rdf_terms.specs.Vocab.Rdf as rdf
use Rattle.rdf_navigation.specs.Values.{only_value}
use Rattle.rdf_navigation.proofs.PropertyLaws.{same_some, not_missing}
use Rattle.property_paths.specs.declared.paths.PathNode.TheVariants.{Sequence}
use Rattle.property_paths.specs.PathTable.{is_pair}
use Rattle.property_paths.proofs.PathLaws.{pair_of, long_sequence, short_sequence}
use Rattle.property_paths.proofs.path_nodes.sequence.Goals as goal

pub unreachable-requires : goal.unreachable-requires
unreachable-requires c =
    let s = c.args.lists.now in
    let x = c.args.cell.now in
    let p = pair_of s x c.requires.pair in
    not_missing p.first (ap option_copied (sym c.in_default.is) ∙ c.only_value.ensures ∙ ap (λ (g : Graph). only_value g x rdf.first) c.requires.graph ∙ p.first_is)

pub unreachable-requires-in_default-only_value : goal.unreachable-requires-in_default-only_value
unreachable-requires-in_default-only_value c =
    let s = c.args.lists.now in
    let x = c.args.cell.now in
    let p = pair_of s x c.requires.pair in
    not_missing p.next (ap option_copied (sym c.in_default-only_value.is) ∙ c.only_value-2.ensures ∙ ap (λ (g : Graph). only_value g x rdf.rest) c.requires.graph ∙ p.next_is)

pub returns-then-is_blank_list_of_two : goal.returns-then-is_blank_list_of_two
returns-then-is_blank_list_of_two c =
    let s = c.args.lists.now in
    let x = c.args.cell.now in
    let first : only_value s x rdf.first ≡ Some c.in-Some.first.now = ap (λ (g : Graph). only_value g x rdf.first) (sym c.requires.graph) ∙ sym c.only_value.ensures ∙ ap option_copied c.in-Some.is in
    let next : only_value s x rdf.rest ≡ Some c.in-Some-only_value.next.now = ap (λ (g : Graph). only_value g x rdf.rest) (sym c.requires.graph) ∙ sym c.only_value-2.ensures ∙ ap option_copied c.in-Some-only_value.is in
    let pair : is_pair s c.in-Some-only_value.next.now ≡ true = sym c.is_blank_list_of_two.ensures ∙ c.if-is_blank_list_of_two.true in
    ap (λ (u : Term). Some (Sequence u c.in_ok-copy-2.field-0)) c.in_ok-copy.ensures ∙ ap (λ (u : Term). Some (Sequence c.in-Some.first.now u)) c.in_ok-copy-2.ensures
    ∙ long_sequence s x c.in-Some.first.now c.in-Some-only_value.next.now c.requires.pair first next pair

pub unreachable-requires-in_default-only_value-2 : goal.unreachable-requires-in_default-only_value-2
unreachable-requires-in_default-only_value-2 c =
    let s = c.args.lists.now in
    let x = c.args.cell.now in
    let p = pair_of s x c.requires.pair in
    let next : only_value s x rdf.rest ≡ Some c.in-Some-only_value.next.now = ap (λ (g : Graph). only_value g x rdf.rest) (sym c.requires.graph) ∙ sym c.only_value-2.ensures ∙ ap option_copied c.in-Some-only_value.is in
    let same : p.next ≡ c.in-Some-only_value.next.now = same_some (sym p.next_is ∙ next) in
    not_missing p.second (ap option_copied (sym c.in_default-only_value-2.is) ∙ c.only_value-3.ensures ∙ ap (λ (g : Graph). only_value g c.in-Some-only_value.next.now rdf.first) c.requires.graph ∙ ap (λ (u : Term). only_value s u rdf.first) (sym same) ∙ p.second_is)

pub returns : goal.returns
returns c =
    let s = c.args.lists.now in
    let x = c.args.cell.now in
    let first : only_value s x rdf.first ≡ Some c.in-Some.first.now = ap (λ (g : Graph). only_value g x rdf.first) (sym c.requires.graph) ∙ sym c.only_value.ensures ∙ ap option_copied c.in-Some.is in
    let next : only_value s x rdf.rest ≡ Some c.in-Some-only_value.next.now = ap (λ (g : Graph). only_value g x rdf.rest) (sym c.requires.graph) ∙ sym c.only_value-2.ensures ∙ ap option_copied c.in-Some-only_value.is in
    let second : only_value s c.in-Some-only_value.next.now rdf.first ≡ Some c.in-Some-only_value-2.second.now = ap (λ (g : Graph). only_value g c.in-Some-only_value.next.now rdf.first) (sym c.requires.graph) ∙ sym c.only_value-3.ensures ∙ ap option_copied c.in-Some-only_value-2.is in
    let no_pair : is_pair s c.in-Some-only_value.next.now ≡ false = sym c.is_blank_list_of_two.ensures ∙ c.if-is_blank_list_of_two.false in
    ap (λ (u : Term). Some (Sequence u c.in_ok-copy-4.field-0)) c.in_ok-copy-3.ensures ∙ ap (λ (u : Term). Some (Sequence c.in-Some.first.now u)) c.in_ok-copy-4.ensures
    ∙ short_sequence s x c.in-Some.first.now c.in-Some-only_value.next.now c.in-Some-only_value-2.second.now c.requires.pair first next no_pair second
