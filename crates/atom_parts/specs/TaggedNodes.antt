-- Nodes that are literals with language tags, beside their tags. Private functions cite it.
use Rattle.std.specs.Prelude.{◌≡◌, ℕ, Bool, List, filter, map, Option, Some}
use Rattle.std.specs.Cmp.Lexicographic.{slice_cmp}
use Rattle.std.specs.List.Sorted.{IsSortedByKey}
use Rattle.std.specs.Ordering.{nat_cmp}
use Rattle.std.specs.Str.{bytes_eq}
use Rattle.shapes_graph.specs.NodeTests.{tag_of}
use Rattle.repair_problem.specs.Setting.{Setting, node}
use Rattle.atom_parts.specs.ValueParts.{are_same_tags}
use Rattle.atom_parts.specs.declared.twins.TaggedNode.{TaggedNode}

abbrev pub has_tag : List ℕ → TaggedNode → Bool
has_tag a p = bytes_eq p.tag.now a

-- those with the tag
abbrev pub with_tag : List ℕ → List TaggedNode → List TaggedNode
with_tag a ps = filter (has_tag a) ps

abbrev pub numbers : List TaggedNode → List ℕ
numbers ps = map (λ p. p.node) ps

-- those of the nodes that have the tag
abbrev pub nodes_with_tag : (ℕ → Option (List ℕ)) → List ℕ → List ℕ → List ℕ
nodes_with_tag tags a ys = filter (λ y. are_same_tags (Some a) (tags y)) ys

-- of each tag, the list has those of the nodes that have it, in their order
abbrev pub AreTagged : (ℕ → Option (List ℕ)) → List ℕ → List TaggedNode → Type 0
AreTagged tags ys ps = (a : List ℕ) → numbers (with_tag a ps) ≡ nodes_with_tag tags a ys

-- the tag of a node
abbrev pub tag_at : Setting → ℕ → Option (List ℕ)
tag_at s y = tag_of (node s y)

-- in the order of their tags
abbrev pub AreByTags : List TaggedNode → Type 0
AreByTags ps = IsSortedByKey (λ p. p.tag.now) (slice_cmp nat_cmp) ps
