-- Numbers that rise are known by what is among them, and terms by their numbers.
use Rattle.std.proofs.Common.{◌≡◌, ◌↔◌, ℕ, ◌<◌, true, List, [], length, Contains, Some, None, slice_get, sym, ap, ◌∙◌, subst}
use Rattle.std.specs.Ordering.{nat_cmp}
use Rattle.std.specs.List.Sorted.{IsStrictlyIncreasing}
use Rattle.std.proofs.lemmas.Map.Keys.{sorted_from_strictly_increasing}
use Rattle.std.proofs.lemmas.Option.{slice_get-get_or}
use Rattle.rdf_terms.specs.Set.{Set, is_rising, of_rising, items, has}
use Rattle.rdf_terms.proofs.Sets.{items-of_rising, rising_of_strict}
use Rattle.rdf_terms.proofs.Membership.{same_within, of_rising_has, has_of_rising}
use Rattle.rdf_terms.proofs.Members.{in_map, map_in}
use Rattle.rdf_terms.specs.declared.term.Term.{Term}
use Rattle.rdf_terms.specs.declared.term.Term.TheVariants.{Literal}
use Rattle.rdf_terms.specs.Nodes.{Nodes, terms}
use Rattle.rdf_terms.proofs.NodesLaws.{one_place_of_term}
use Rattle.rdf_navigation.specs.Numbers.{term_at}
use Rattle.std.specs.Cmp.{nat_cmp_total}
use Rattle.std.specs.FinMap.{nat_cmp-IsAntisymmetric}
use Rattle.path_eval.specs.Numbered.{terms_at, AreNumbers}

risen : (xs : List ℕ) → IsStrictlyIncreasing xs → is_rising nat_cmp xs ≡ true
risen xs rises = rising_of_strict nat_cmp xs (sorted_from_strictly_increasing xs rises)

pub same_numbers : (xs ys : List ℕ) → IsStrictlyIncreasing xs → IsStrictlyIncreasing ys → ((k : ℕ) → Contains xs k ↔ Contains ys k) → xs ≡ ys
same_numbers xs ys r q same = sym (items-of_rising nat_cmp xs (risen xs r)) ∙ (ap items sets ∙ items-of_rising nat_cmp ys (risen ys q))
  where
    sets : of_rising nat_cmp xs ≡ of_rising nat_cmp ys
    sets =
        same_within nat_cmp_total nat_cmp-IsAntisymmetric (of_rising nat_cmp xs) (of_rising nat_cmp ys)
        (λ k h. has_of_rising nat_cmp_total nat_cmp-IsAntisymmetric ys k (risen ys q) ((same k).0 (of_rising_has nat_cmp_total nat_cmp-IsAntisymmetric xs k (risen xs r) h)))
        (λ k h. has_of_rising nat_cmp_total nat_cmp-IsAntisymmetric xs k (risen xs r) ((same k).1 (of_rising_has nat_cmp_total nat_cmp-IsAntisymmetric ys k (risen ys q) h)))

pub place_is : (n : Nodes) (k : ℕ) → k < length (terms n) → slice_get (terms n) k ≡ Some (term_at n k)
place_is n k l = slice_get-get_or (terms n) k (Literal [] [] None) l

-- a number is listed exactly where its term is
pub number_listed : (n : Nodes) (is : List ℕ) → AreNumbers n is → (k : ℕ) → k < length (terms n) → Contains is k ↔ Contains (terms_at n is) (term_at n k)
number_listed n is within k l = (in_map (term_at n) is k, from)
  where
    from : Contains (terms_at n is) (term_at n k) → Contains is k
    from c =
        let m = map_in (term_at n) is (term_at n k) c in
        subst (Contains is) (one_place_of_term n (term_at n k) m.0 k (place_is n m.0 (within m.0 m.1) ∙ ap Some m.2) (place_is n k l)) m.1
