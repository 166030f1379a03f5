use Rattle.std.proofs.Common.{List, length, drop, sym, subst, arith}
use Rattle.std.specs.List.Sorted.{IsPermutation}
use Rattle.std.proofs.lemmas.List.{take_at}
use Rattle.std.proofs.lemmas.List.Sorted.{IsPermutation-trans, length_permutation}
use Rattle.path_eval.specs.declared.term_numbers.HeadedPlace.{HeadedPlace}
use Rattle.path_eval.specs.TermNumbers.{places_in, ArePlaces}
use Rattle.path_eval.proofs.RankLaws.{permuted_places}
use Rattle.path_eval.proofs.term_numbers.sorted_places.Goals as goal

pub returns : goal.returns
returns c =
    let made = c.in_ok-headed.headed.items in
    let sorted = c.sort_unstable_by_key.new.self in
    let new = c.sort_shared_heads.new.headed in
    let shared : IsPermutation sorted.items new = subst (λ (hs : List HeadedPlace). IsPermutation hs new) c.as_mut_slice.ensures.value c.sort_shared_heads.ensures in
    let size = sorted.ok.0 in
    let many = length_permutation sorted.items new shared in
    let kept = take_at new (drop (length new) sorted.items) sorted.len (omega (arith, many, size)) in
    subst (λ (hs : List HeadedPlace). ArePlaces (length c.args.list.now) (places_in hs)) (sym kept)
    (permuted_places (length c.args.list.now) made new c.in_ok-headed.ensures (IsPermutation-trans made sorted.items new c.sort_unstable_by_key.ensures.permutation shared))
