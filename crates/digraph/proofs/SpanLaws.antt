-- What more targets and one more span do to the graph of spans.
use Rattle.std.proofs.Common.{◌≡◌, ◌+◌, ◌-◌, ◌≤◌, ℕ, List, [], ◌∷◌, ◌++◌, Option, Some, None, option_map, length, take, drop, refl, sym, ap, ◌∙◌, arith, length-drop}
use Rattle.std.proofs.lemmas.List.{drop_at, take_all, take-append-le, drop-append-le, map-append}
use Rattle.std.proofs.lemmas.List.Elements.{All-head, All-tail}
use Rattle.digraph.specs.Spans.{targets_of, graph_of, IsWithin, AreWithin}
use Rattle.digraph.specs.declared.digraph.Span.{Span}

targets_more : (targets more : List ℕ) (o : Option Span) → IsWithin targets o → option_map (targets_of (targets ++ more)) o ≡ option_map (targets_of targets) o
targets_more targets more None w = refl
targets_more targets more (Some s) w =
    let within : s.start ≤ length targets = omega (arith, w.0, w.1) in
    let room : s.«end» - s.start ≤ length (drop s.start targets) = omega (arith, length-drop s.start targets, w.1) in
    ap (λ ts. Some (take (s.«end» - s.start) ts)) (drop-append-le s.start targets more within) ∙ ap Some (take-append-le (s.«end» - s.start) (drop s.start targets) more room)

-- more targets leave the graph of spans that were within as it was
pub graph_of-more : (targets more : List ℕ) (spans : List (Option Span)) → AreWithin targets spans → graph_of (targets ++ more) spans ≡ graph_of targets spans
graph_of-more targets more [] w = refl
graph_of-more targets more (o ∷ spans) w =
    ap (λ t. t ∷ graph_of (targets ++ more) spans) (targets_more targets more o (All-head (IsWithin targets) o spans w))
    ∙ ap (λ t. option_map (targets_of targets) o ∷ t) (graph_of-more targets more spans (All-tail (IsWithin targets) o spans w))

-- the span of the targets that were appended
targets_of-new : (targets more : List ℕ) (s : Span) → s.start ≡ length targets → s.«end» ≡ length targets + length more → targets_of (targets ++ more) s ≡ more
targets_of-new targets more s a b =
    let size : length more ≤ s.«end» - s.start = omega arith in
    ap (take (s.«end» - s.start)) (drop_at targets more s.start (sym a)) ∙ take_all (s.«end» - s.start) more size

-- one node more
pub graph_of-push : (targets more : List ℕ) (spans : List (Option Span)) (s : Span) → AreWithin targets spans → s.start ≡ length targets → s.«end» ≡ length targets + length more
    → graph_of (targets ++ more) (spans ++ Some s ∷ []) ≡ graph_of targets spans ++ Some more ∷ []
graph_of-push targets more spans s w a b =
    map-append (option_map (targets_of (targets ++ more))) spans (Some s ∷ [])
    ∙ ap (λ g. g ++ Some (targets_of (targets ++ more) s) ∷ []) (graph_of-more targets more spans w)
    ∙ ap (λ t. graph_of targets spans ++ Some t ∷ []) (targets_of-new targets more s a b)
