-- The places of the constraint triples of a shape are places of triples.
use Rattle.std.proofs.Common.{◌≡◌, ℕ, zero, suc, ◌+◌, ◌<◌, Bool, true, false, cond, List, [], ◌∷◌, length, get_or, Option, Some, None, slice_get, refl, arith, All}
use Rattle.std.specs.Prelude.{option_map}
use Rattle.std.specs.List.{enumerate_from, filter_map, cons_option}
use Rattle.std.proofs.lemmas.Option.{slice_get-get_or}
use Rattle.std.proofs.lemmas.List.Elements.{All-from_get_or}
use Rattle.rdf_terms.specs.declared.term.Term.{Term}
use Rattle.rdf_terms.specs.Statement.{Statement}
use Rattle.rdf_terms.specs.Graph.{Graph, triples}
use Rattle.shapes_profile.specs.Shapes.{shape_at}
use Rattle.shapes_graph.specs.Constraints.{place_of, constraints_of}

picked : (b : Bool) (i m : ℕ) → cond b (Some i) None ≡ Some m → m ≡ i
picked true i m e = cc
picked false i m e = cc

with_first : (n k : ℕ) (ps : List ℕ) → ((i p : ℕ) → slice_get ps i ≡ Some p → p < n + suc k)
    → (o : Option ℕ) → ((m : ℕ) → o ≡ Some m → m ≡ n) → (i p : ℕ) → slice_get (cons_option o ps) i ≡ Some p → p < n + suc k
with_first n k ps later None own i p e = later i p e
with_first n k ps later (Some m) own zero p e =
    let same : m ≡ p = cc in
    let is : m ≡ n = own m refl in
    omega (arith, same, is)
with_first n k ps later (Some m) own (suc i) p e = later i p e

from : (s : Graph) (x : Term) (n : ℕ) (ts : List Statement) (i p : ℕ)
    → slice_get (filter_map (place_of s x) (enumerate_from n ts)) i ≡ Some p → p < n + length ts
from s x n [] i p e = cc
from s x n (t ∷ ts) i p e =
    with_first n (length ts) (filter_map (place_of s x) (enumerate_from (n + 1) ts))
    (λ j q f. let below = from s x (n + 1) ts j q f in omega (arith, below))
    (place_of s x (n, t)) (λ m f. picked _ n m f) i p e

of_shape : (s : Graph) (o : Option Term) (ps : List ℕ)
    → option_map (λ (x : Term). filter_map (place_of s x) (enumerate_from 0 (triples s))) o ≡ Some ps
    → (i p : ℕ) → slice_get ps i ≡ Some p → p < length (triples s)
of_shape s None ps e i p f = cc
of_shape s (Some x) ps e i p f =
    let is : filter_map (place_of s x) (enumerate_from 0 (triples s)) ≡ ps = cc in
    let there : slice_get (filter_map (place_of s x) (enumerate_from 0 (triples s))) i ≡ Some p = rw is f in
    let below = from s x 0 (triples s) i p there in
    omega (arith, below)

pub places_within : (s : Graph) (n : ℕ) (ps : List ℕ) → constraints_of s n ≡ Some ps → All (λ i. i < length (triples s)) ps
unfolding constraints_of
places_within s n ps e =
    All-from_get_or (λ (i : ℕ). i < length (triples s)) ps 0 (λ i within. of_shape s (shape_at s n) ps e i (get_or ps i 0) (slice_get-get_or ps i 0 within))
