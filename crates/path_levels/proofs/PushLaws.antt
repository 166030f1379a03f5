-- A list of parts, one for each number, with one part more.
use Rattle.std.proofs.Common.{◌≡◌, ℕ, ◌+◌, ◌<◌, ◌≤◌, List, [], ◌∷◌, ◌++◌, map, take, length, get_or, sym, ap, ◌∙◌, append_assoc, take_all}
use Rattle.std.proofs.lemmas.List.{map-append, get_or_default}
use Rattle.rdf_terms.proofs.Members.{take_next}

module _ {S X : Type 0} (F : S → ℕ → X) (first now : S) (old list : List X) (zs : List ℕ) (i : ℕ) where
  pub pushed_more : (new : List X) (x : X) → now ≡ first → list ≡ old ++ map (F first) (take i zs) → x ≡ F now (get_or zs i 0) → new ≡ list ++ x ∷ [] → i < length zs → new ≡ old ++ map (F first) (take (i + 1) zs)
  pushed_more new x same all is pushed l =
      pushed
      ∙ ((λ j. all j ++ (is ∙ ap (λ s. F s (get_or zs i 0)) same) j ∷ [])
      ∙ (append_assoc old (map (F first) (take i zs)) (F first (get_or zs i 0) ∷ [])
      ∙ ap (λ us. old ++ us)
      (sym (map-append (F first) (take i zs) (get_or zs i 0 ∷ []))
      ∙ ap (map (F first)) (sym (take_next zs i (get_or zs i 0) l (get_or_default zs i 0 (get_or zs i 0) l))))))

  pub pushed_all : list ≡ old ++ map (F first) (take i zs) → length zs ≤ i → list ≡ old ++ map (F first) zs
  pushed_all all end = all ∙ ap (λ us. old ++ map (F first) us) (take_all i zs end)
