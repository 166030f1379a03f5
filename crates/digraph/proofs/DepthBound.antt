-- What has a depth at all nests less deep than there are numbers in the graph.
use Rattle.std.proofs.Common.{◌≡◌, ℕ, zero, suc, ◌+◌, ◌-◌, ◌<◌, ◌≤◌, ◌⊎◌, inl, inr, min, List, [], ◌∷◌, ◌++◌, length, Option, Some, None, option_map, refl, sym, ap, ◌∙◌, subst, replicate, arith}
use Rattle.std.proofs.lemmas.Bool.{cases_lt}
use Rattle.std.proofs.lemmas.List.{length-replicate}
use Rattle.digraph.specs.Depth.{depth_in}
use Rattle.digraph.specs.Digraph.{Digraph, successors_at, look}
use Rattle.digraph.specs.Settling.{with_depths, known_count, Covers}
use Rattle.digraph.proofs.DepthLaws.{depth_grows}
use Rattle.digraph.proofs.Settled.{IsRight, IsSettled, settled_passes, settled_pass, settled_known, settled_depth, right_none, known_count_le, Covers-push, nothing}

-- an order of all numbers below n
all_below : (n : ℕ) → (xs : List ℕ) × Covers xs n
all_below zero = ([], λ x l. absurd (omega (arith, l)))
all_below (suc n) = let b = all_below n in (b.0 ++ n ∷ [], λ x l. Covers-push b.0 n b.1 x (omega (arith, l)))

module _ (cap : ℕ) (g : Digraph) (order : List ℕ) (covers : Covers order (length g)) where
  -- passes over the order lead from a right table to a settled one
  settled_table : (fuel : ℕ) (ds : List (Option ℕ)) → length ds ≡ length g → IsRight cap g ds → length ds - known_count ds < fuel
      → (es : List (Option ℕ)) × (length es ≡ length g) × IsRight cap g es × IsSettled cap g es
  settled_table zero ds m right l = absurd (omega (arith, l))
  settled_table (suc fuel) ds m right l =
      let es = with_depths cap g ds order in
      let p = settled_passes cap g ds order right in
      at (cases_lt (known_count ds) (known_count es)) (λ h. settled_table fuel es (p.size ∙ m) p.right h)
    where
      at : (known_count ds < known_count (with_depths cap g ds order)) ⊎ (known_count (with_depths cap g ds order) ≤ known_count ds)
          → (length (with_depths cap g ds order) - known_count (with_depths cap g ds order) < fuel → (es : List (Option ℕ)) × (length es ≡ length g) × IsRight cap g es × IsSettled cap g es)
          → (es : List (Option ℕ)) × (length es ≡ length g) × IsRight cap g es × IsSettled cap g es
      at (inl q) more =
          let p = settled_passes cap g ds order right in
          let s = p.size in
          let k = known_count_le (with_depths cap g ds order) in
          more (omega (arith, q, l, s, k))
      at (inr q) more =
          let p = settled_passes cap g ds order right in
          (with_depths cap g ds order, p.size ∙ m, p.right, settled_pass cap g ds (with_depths cap g ds order) order p (λ h. omega (arith, h, q)) (subst (Covers order) (sym m) covers))

-- in a graph over numbers no depth is missed within the length
pub depth_within : (g : Digraph) (k x d : ℕ) → depth_in (successors_at g) k x ≡ Some d → depth_in (successors_at g) (length g) x ≡ Some d
depth_within g k x d e = at (depth_in (successors_at g) (length g) x) refl
  where
    none : List (Option ℕ)
    none = replicate (length g) None

    table : (es : List (Option ℕ)) × (length es ≡ length g) × IsRight 0 g es × IsSettled 0 g es
    table =
        let b = all_below (length g) in
        settled_table 0 g b.0 b.1 (suc (length g)) none (length-replicate {A = Option ℕ} (length g) None) (right_none 0 g none (nothing (length g))) (let m = length-replicate {A = Option ℕ} (length g) None in omega (arith, m))

    there : look table.0 x ≡ Some (min 0 d)
    there = settled_known 0 g table.0 table.1 table.2 table.3 k x (min 0 d) (ap (option_map (min 0)) e)

    at : (o : Option ℕ) → depth_in (successors_at g) (length g) x ≡ o → depth_in (successors_at g) (length g) x ≡ Some d
    at None h = absurd (let z : Some (min 0 d) ≡ None = sym there ∙ settled_depth 0 g table.0 table.1 table.2 table.3 x ∙ ap (option_map (min 0)) h in cc)
    at (Some q) h =
        let a = depth_grows (successors_at g) k (k + length g) x d (omega arith) e in
        let b = depth_grows (successors_at g) (length g) (k + length g) x q (omega arith) h in
        cc
