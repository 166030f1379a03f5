-- Lists that grow at the end by what stands for the next item of another.
use Rattle.std.proofs.Common.{◌≡◌, ℕ, ◌+◌, ◌<◌, ◌≤◌, List, [], ◌∷◌, ◌++◌, map, flat_map, take, length, append-nil, get_or, Some, None, slice_get, sym, ap, ◌∙◌, append_assoc, take_all}
use Rattle.std.proofs.lemmas.List.{map-append}
use Rattle.std.proofs.lemmas.List.Concat.{flat_map-append}
use Rattle.std.proofs.lemmas.Option.{slice_get_within, get_or_from_slice_get, slice_get-get_or}
use Rattle.rdf_terms.proofs.Members.{take_next}

-- by an item that was looked up
pub taken_next : {X : Type 0} (old list all : List X) (i : ℕ) (x : X) → list ≡ old ++ take i all → slice_get all i ≡ Some x → list ++ x ∷ [] ≡ old ++ take (i + 1) all
taken_next old list all i x e h =
    ap (λ us. us ++ x ∷ []) e
    ∙ (append_assoc old (take i all) (x ∷ [])
    ∙ ap (λ us. old ++ us) (sym (take_next all i x (slice_get_within all i x h) (sym (get_or_from_slice_get all i x x h)))))

pub never_missing : {X : Type 0} (xs : List X) (i : ℕ) (d : X) → i < length xs → None ≡ slice_get xs i → ⊥
never_missing xs i d l e = let h = slice_get-get_or xs i d l in cc

module _ {Y X : Type 0} (f : Y → X) (old list : List X) (ys : List Y) (i : ℕ) where
  pub mapped_next : (y : Y) → list ≡ old ++ map f (take i ys) → i < length ys → y ≡ get_or ys i y → list ++ f y ∷ [] ≡ old ++ map f (take (i + 1) ys)
  mapped_next y e l h =
      ap (λ us. us ++ f y ∷ []) e
      ∙ (append_assoc old (map f (take i ys)) (f y ∷ [])
      ∙ ap (λ us. old ++ us) (sym (map-append f (take i ys) (y ∷ [])) ∙ ap (map f) (sym (take_next ys i y l h))))

  pub mapped_end : list ≡ old ++ map f (take i ys) → length ys ≤ i → list ≡ old ++ map f ys
  mapped_end e l = e ∙ ap (λ us. old ++ map f us) (take_all i ys l)

module _ {Y X : Type 0} (f : Y → List X) (list : List X) (ys : List Y) (i : ℕ) where
  pub joined_next : (y : Y) → list ≡ flat_map f (take i ys) → i < length ys → y ≡ get_or ys i y → list ++ f y ≡ flat_map f (take (i + 1) ys)
  joined_next y e l h =
      ap (λ us. us ++ f y) e
      ∙ (ap (λ us. flat_map f (take i ys) ++ us) (one y)
      ∙ (sym (flat_map-append f (take i ys) (y ∷ [])) ∙ ap (flat_map f) (sym (take_next ys i y l h))))
    where
      one : (z : Y) → f z ≡ f z ++ []
      one z = sym (append-nil (f z))

  pub joined_end : list ≡ flat_map f (take i ys) → length ys ≤ i → list ≡ flat_map f ys
  joined_end e l = e ∙ ap (flat_map f) (take_all i ys l)
