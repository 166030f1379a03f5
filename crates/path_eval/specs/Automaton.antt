-- Automata that follow paths. Private functions cite it.
use Rattle.std.specs.Prelude.{◌≡◌, ◌<◌, ◌≤◌, ◌⊎◌, ℕ, zero, suc, List, length, Option, Some, None, slice_get}
use Rattle.rdf_terms.specs.declared.term.Term.{Term}
use Rattle.rdf_terms.specs.declared.term.Term.TheVariants.{Iri}
use Rattle.rdf_terms.specs.Graph.{Graph}
use Rattle.rdf_terms.specs.Members.{InGraph}
use Rattle.shapes_graph.specs.declared.paths.PathForm.{PathForm}
use Rattle.shapes_graph.specs.declared.paths.PathForm.TheVariants.{Predicate, Inverse, Sequence, Alternative}
use Rattle.shapes_graph.specs.declared.paths.PathForm.TheVariants.{ZeroOrMore, OneOrMore, ZeroOrOne}
use Rattle.path_eval.specs.declared.direction.Direction.{Direction}
use Rattle.path_eval.specs.declared.automaton.State.{State}
use Rattle.path_eval.specs.declared.automaton.State.TheVariants.{Found, Stuck, Step, Fork}
use Rattle.path_eval.specs.Directions.{Towards, turned, ordered}

-- a state, and the term at which the automaton is in it
abbrev pub Position : Type 0
Position = ℕ × Term

-- one triple with the predicate of the path leads from x to y
abbrev pub StepBy : Option PathForm → Direction → Graph → Term → Term → Type 0
StepBy None d g x y = ⊥
StepBy (Some (Predicate i)) d g x y = Towards d (λ a b. InGraph g a (Iri i) b) x y
StepBy (Some (Inverse q)) d g x y = ⊥
StepBy (Some (Sequence a b)) d g x y = ⊥
StepBy (Some (Alternative qs)) d g x y = ⊥
StepBy (Some (ZeroOrMore q)) d g x y = ⊥
StepBy (Some (OneOrMore q)) d g x y = ⊥
StepBy (Some (ZeroOrOne q)) d g x y = ⊥

-- what a state leads to from the term x
abbrev pub MoveBy : List PathForm → Graph → Option State → Term → Position → Type 0
MoveBy ps g None x v = ⊥
MoveBy ps g (Some Found) x v = ⊥
MoveBy ps g (Some Stuck) x v = ⊥
MoveBy ps g (Some (Step p d k)) x v = (k ≡ v.0) × StepBy (slice_get ps p) d g x v.1
MoveBy ps g (Some (Fork a b)) x v = ((a ≡ v.0) ⊎ (b ≡ v.0)) × (x ≡ v.1)

-- the automaton leads from one position right to the other
abbrev pub Moves : List PathForm → Graph → List State → Position → Position → Type 0
Moves ps g ss u v = (v.0 < length ss) × MoveBy ps g (slice_get ss u.0) u.1 v

-- the states stay, and others come behind them
pub record IsGrown (old new : List State) : Type 0 where
  pub longer : length old ≤ length new
  pub kept : (i : ℕ) → i < length old → slice_get new i ≡ slice_get old i

-- an automaton has the states of a list from a place on
abbrev pub IsPart : List State → List State → ℕ → Type 0
IsPart code ss from = (i : ℕ) → from ≤ i → i < length ss → slice_get code i ≡ slice_get ss i

-- each automaton with the states that were appended has P
abbrev pub EachWith : List State → List State → (List State → Type 0) → Type 0
EachWith old new P = (code : List State) → IsPart code new (length old) → P code

-- from e on, forks lead to the first i of some paths; C says that a path begins at a state
abbrev pub AreForked : (ℕ → ℕ → Type 0) → List State → List ℕ → ℕ → ℕ → Type 0
AreForked C ss qs zero e = slice_get ss e ≡ Some Stuck
AreForked C ss qs (suc i) e =
    (a : ℕ) × (b : ℕ) × (slice_get ss e ≡ Some (Fork a b))
    × ((q : ℕ) × (slice_get qs i ≡ Some q) × C q a) × AreForked C ss qs i b

-- at e the automaton either goes on or follows the path from b on, which leads back to e
abbrev pub IsLoop : (ℕ → ℕ → ℕ → Type 0) → List State → ℕ → ℕ → ℕ → ℕ → Type 0
IsLoop C ss q e b k = (slice_get ss e ≡ Some (Fork b k)) × C q b e

-- what the states of a form are, from the state e to the state k, where C says this of other paths
abbrev pub CompiledBy : (ℕ → Direction → ℕ → ℕ → Type 0) → Option PathForm → List State
    → ℕ → Direction → ℕ → ℕ → Type 0
CompiledBy C None ss p d e k = slice_get ss e ≡ Some Stuck
CompiledBy C (Some (Predicate i)) ss p d e k = slice_get ss e ≡ Some (Step p d k)
CompiledBy C (Some (Inverse q)) ss p d e k = C q (turned d) e k
CompiledBy C (Some (Sequence a b)) ss p d e k = (m : ℕ) × C (ordered d a b).0 d e m × C (ordered d a b).1 d m k
CompiledBy C (Some (Alternative qs)) ss p d e k = AreForked (λ q a. C q d a k) ss qs (length qs) e
CompiledBy C (Some (ZeroOrMore q)) ss p d e k = (b : ℕ) × IsLoop (λ q b e. C q d b e) ss q e b k
CompiledBy C (Some (OneOrMore q)) ss p d e k = (f : ℕ) × IsLoop (λ q b e. C q d b e) ss q f e k
CompiledBy C (Some (ZeroOrOne q)) ss p d e k = (b : ℕ) × (slice_get ss e ≡ Some (Fork b k)) × C q d b k

-- the automaton follows path p, nested less than so deep, from the state e to the state k
unfoldable pub IsCompiled : ℕ → List PathForm → List State → ℕ → Direction → ℕ → ℕ → Type 0
IsCompiled zero ps ss p d e k = slice_get ss e ≡ Some Stuck
IsCompiled (suc f) ps ss p d e k =
    CompiledBy (λ q d e k. IsCompiled f ps ss q d e k) (slice_get ps p) ss p d e k
