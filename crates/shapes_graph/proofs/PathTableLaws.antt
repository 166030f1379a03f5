-- The numbers of the paths of shapes, by the numbers of the shapes.
use Rattle.std.proofs.Common.{◌≡◌, ◌<◌, ℕ, List, map, length, get_or, Option, Some, None, slice_get, refl, sym, ap, ◌∙◌}
use Rattle.std.specs.Prelude.{option_map, option_and_then}
use Rattle.std.proofs.lemmas.Option.{slice_get-map, slice_get-get_or}
use Rattle.rdf_terms.specs.declared.term.Term.{Term}
use Rattle.rdf_terms.specs.Graph.{Graph}
use Rattle.rdf_terms.specs.Vocab.Sh as sh
use Rattle.rdf_navigation.specs.Values.{value_of}
use Rattle.shapes_profile.specs.Shapes.{shape_terms, shape_at}
use Rattle.shapes_graph.specs.PathForms.{path_number, path_of}

abbrev pub path_in : Graph → Term → Option ℕ
path_in s x = option_map (path_number s) (value_of s x sh.path)

pub path_at : (s : Graph) (ps : List (Option ℕ)) → ps ≡ map (path_in s) (shape_terms s) → (n : ℕ) → path_of s n ≡ option_and_then (λ (p : Option ℕ). p) (slice_get ps n)
unfolding path_of
path_at s ps e n =
    at (shape_at s n)
    ∙ sym (ap (λ (qs : List (Option ℕ)). option_and_then (λ (p : Option ℕ). p) (slice_get qs n)) e ∙ ap (option_and_then (λ (p : Option ℕ). p)) (slice_get-map (path_in s) (shape_terms s) n))
  where
    at : (o : Option Term) → option_map (path_number s) (option_and_then (λ (x : Term). value_of s x sh.path) o) ≡ option_and_then (λ (p : Option ℕ). p) (option_map (path_in s) o)
    at None = refl
    at (Some x) = refl

pub read_path : (s : Graph) (ps : List (Option ℕ)) (n : ℕ) → ((i : ℕ) → path_of s i ≡ option_and_then (λ (p : Option ℕ). p) (slice_get ps i)) → n < length ps → get_or ps n None ≡ path_of s n
read_path s ps n at lt = sym (at n ∙ ap (option_and_then (λ (p : Option ℕ). p)) (slice_get-get_or ps n None lt))
