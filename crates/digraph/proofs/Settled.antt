-- A table of depths up to a cap: each pass adds right ones alone, and where it adds none all are there.
use Rattle.std.proofs.Common.{◌≡◌, ℕ, zero, suc, ◌+◌, ◌-◌, ◌<◌, ◌≤◌, ◌⊎◌, inl, inr, true, false, cond, nat_lt, min, max, List, [], ◌∷◌, ◌++◌, length, get_or, set, drop, Option, Some, None, option_map, option_and_then, Contains, refl, sym, ap, ◌∙◌, subst, replicate, arith, rules}
use Rattle.std.proofs.lemmas.Bool.{cases_lt}
use Rattle.std.proofs.lemmas.List.{at_drop_more, at_drop_all, get_or-set_same, get_or_past, set_past, set-get_or}
use Rattle.std.proofs.lemmas.List.Elements.{Contains-append_left, Contains-push}
use Rattle.digraph.specs.Depth.{deeper, depth_over, depth_in}
use Rattle.digraph.specs.Digraph.{Digraph, successors_at, look}
use Rattle.digraph.specs.Settling.{depth_from, with_depth_by, with_depth, with_depths, known_count, Covers}
use Rattle.digraph.proofs.DepthLaws.{Known, depth_over-grows, depth_grows}
use Rattle.digraph.proofs.Members.{Contains-none, Contains-cases}

pub known_count-push : (ds : List (Option ℕ)) (d : Option ℕ) → known_count (ds ++ d ∷ []) ≡ known_count ds + known_count (d ∷ [])
known_count-push [] d = omega arith
known_count-push (None ∷ ds) d = known_count-push ds d
known_count-push (Some e ∷ ds) d = let h = known_count-push ds d in omega arith

pub known_count_le : (ds : List (Option ℕ)) → known_count ds ≤ length ds
known_count_le [] = omega arith
known_count_le (None ∷ ds) = let l = known_count_le ds in omega arith
known_count_le (Some e ∷ ds) = let l = known_count_le ds in omega arith

-- the value of a depth that is cut at the cap before a successor more is depth_joined to it
join_capped : (cap a b c d : ℕ) → min cap b ≡ min cap c → min cap (max (suc (min cap d)) b) ≡ min cap (max (suc d) c)
join_capped cap a b c d e = omega (arith, e)

-- up to the cap, depths of successors up to the cap do
depth_over-capped : {X : Type 0} (cap : ℕ) (D E : X → Option ℕ) → ((y : X) → D y ≡ option_map (min cap) (E y)) → (ys : List X) → option_map (min cap) (depth_over D ys) ≡ option_map (min cap) (depth_over E ys)
depth_over-capped cap D E h [] = refl
depth_over-capped cap D E h (y ∷ ys) =
    ap (λ o. option_map (min cap) (deeper o (depth_over D ys))) (h y) ∙ at (E y) (depth_over D ys) (depth_over E ys) (depth_over-capped cap D E h ys)
  where
    at : (e o p : Option ℕ) → option_map (min cap) o ≡ option_map (min cap) p → option_map (min cap) (deeper (option_map (min cap) e) o) ≡ option_map (min cap) (deeper e p)
    at None o p q = refl
    at (Some d) None None q = refl
    at (Some d) None (Some c) q = absurd (let z : None ≡ Some (min cap c) = q in cc)
    at (Some d) (Some b) None q = absurd (let z : Some (min cap b) ≡ None = q in cc)
    at (Some d) (Some b) (Some c) q = let e : min cap b ≡ min cap c = cc in ap Some (join_capped cap 0 b c d e)

-- the loop over successors: the rest of them, depth_joined to the depth so far
abbrev pub depth_joined : ℕ → (ℕ → Option ℕ) → ℕ → List ℕ → Option ℕ
depth_joined cap D depth ys = option_map (λ d. min cap (max depth d)) (depth_over D ys)

pub joined_start : (cap : ℕ) (D : ℕ → Option ℕ) (ys : List ℕ) → depth_joined cap D 0 ys ≡ option_map (min cap) (depth_over D ys)
joined_start cap D ys = at (depth_over D ys)
  where
    at : (o : Option ℕ) → option_map (λ d. min cap (max 0 d)) o ≡ option_map (min cap) o
    at None = refl
    at (Some d) = let e : min cap (max 0 d) ≡ min cap d = omega arith in ap Some e

-- a successor without a depth
pub joined_none : (cap : ℕ) (D : ℕ → Option ℕ) (depth : ℕ) (ys : List ℕ) (i : ℕ) → i < length ys → D (get_or ys i 0) ≡ None → depth_joined cap D depth (drop i ys) ≡ None
joined_none cap D depth ys i l e =
    at_drop_more (depth_joined cap D depth) ys i 0 l ∙ ap (λ o. option_map (λ d. min cap (max depth d)) (deeper o (depth_over D (drop (i + 1) ys)))) e

-- a successor with this depth
pub joined_more : (cap : ℕ) (D : ℕ → Option ℕ) (depth b next : ℕ) (ys : List ℕ) (i : ℕ) → i < length ys → D (get_or ys i 0) ≡ Some b → next ≡ max depth (min cap (suc b))
    → depth_joined cap D next (drop (i + 1) ys) ≡ depth_joined cap D depth (drop i ys)
joined_more cap D depth b next ys i l e n =
    sym (at_drop_more (depth_joined cap D depth) ys i 0 l ∙ ap (λ o. option_map (λ d. min cap (max depth d)) (deeper o (depth_over D (drop (i + 1) ys)))) e ∙ at (depth_over D (drop (i + 1) ys)))
  where
    at : (o : Option ℕ) → option_map (λ d. min cap (max depth d)) (deeper (Some b) o) ≡ option_map (λ d. min cap (max next d)) o
    at None = refl
    at (Some d) = let q : min cap (max depth (max (suc b) d)) ≡ min cap (max next d) = omega (arith, n) in ap Some q

pub joined_all : (cap : ℕ) (D : ℕ → Option ℕ) (depth : ℕ) (ys : List ℕ) (i : ℕ) → length ys ≤ i → depth ≤ cap → depth_joined cap D depth (drop i ys) ≡ Some depth
joined_all cap D depth ys i l c = at_drop_all (depth_joined cap D depth) ys i l ∙ (let e : min cap (max depth 0) ≡ depth = omega (arith, c) in ap Some e)

-- tables, place by place
set_known : (ds : List (Option ℕ)) (x r : ℕ) → x < length ds → look ds x ≡ None → known_count (set ds x (Some r)) ≡ suc (known_count ds)
set_known [] x r l e = absurd (omega (arith, l))
set_known (None ∷ ds) zero r l e = refl
set_known (Some d ∷ ds) zero r l e = cc
set_known (None ∷ ds) (suc x) r l e = set_known ds x r (omega (arith, l)) e
set_known (Some d ∷ ds) (suc x) r l e = ap suc (set_known ds x r (omega (arith, l)) e)

set_none : (ds : List (Option ℕ)) (x : ℕ) → look ds x ≡ None → set ds x None ≡ ds
set_none ds x e = ap (set ds x) (sym e) ∙ set-get_or ds x None

set_look : (ds : List (Option ℕ)) (x r y q : ℕ) → x < length ds → look (set ds x (Some r)) y ≡ Some q → ((x ≡ y) × (q ≡ r)) ⊎ (look ds y ≡ Some q)
set_look [] x r y q l e = absurd (omega (arith, l))
set_look (d ∷ ds) zero r zero q l e = inl (refl, cc)
set_look (d ∷ ds) zero r (suc y) q l e = inr e
set_look (d ∷ ds) (suc x) r zero q l e = inr e
set_look (d ∷ ds) (suc x) r (suc y) q l e = at (set_look ds x r y q (omega (arith, l)) e)
  where
    at : ((x ≡ y) × (q ≡ r)) ⊎ (look ds y ≡ Some q) → ((suc x ≡ suc y) × (q ≡ r)) ⊎ (look ds y ≡ Some q)
    at (inl h) = inl (ap suc h.0, h.1)
    at (inr h) = inr h

pub nothing : (n x : ℕ) → look (replicate n None) x ≡ None
nothing zero x = refl
nothing (suc n) zero = refl
nothing (suc n) (suc x) = nothing n x

-- an order of one more number
pub Covers-push : (order : List ℕ) (n : ℕ) → Covers order n → Covers (order ++ n ∷ []) (n + 1)
Covers-push order n c x l = at (cases_lt x n)
  where
    at : (x < n) ⊎ (n ≤ x) → Contains (order ++ n ∷ []) x
    at (inl k) = Contains-append_left order (n ∷ []) x (c x k)
    at (inr k) = let same : n ≡ x = omega (arith, k, l) in subst (λ y. Contains (order ++ n ∷ []) y) same (Contains-push order n)

-- no number from the length on is a node
pub successors_at-past : (g : Digraph) (x : ℕ) → length g ≤ x → successors_at g x ≡ None
successors_at-past g x l = get_or_past g x None l

Known-capped : (cap : ℕ) (D E : ℕ → Option ℕ) → Known D E → Known (λ x. option_map (min cap) (D x)) (λ x. option_map (min cap) (E x))
Known-capped cap D E k x r e = at (D x) refl e
  where
    at : (o : Option ℕ) → D x ≡ o → option_map (min cap) o ≡ Some r → option_map (min cap) (E x) ≡ Some r
    at None f e = cc
    at (Some d) f e = ap (option_map (min cap)) (k x d f) ∙ e

module _ (cap : ℕ) (g : Digraph) where
  -- the depth up to the cap, if the node nests less than k deep
  abbrev pub capped_in : ℕ → ℕ → Option ℕ
  capped_in k x = option_map (min cap) (depth_in (successors_at g) k x)

  pub capped_grows : (k m : ℕ) → k ≤ m → Known (capped_in k) (capped_in m)
  capped_grows k m l = Known-capped cap (depth_in (successors_at g) k) (depth_in (successors_at g) m) (λ x d e. depth_grows (successors_at g) k m x d l e)

  depth_from-grows : (D E : ℕ → Option ℕ) → Known D E → Known (depth_from cap g D) (depth_from cap g E)
  depth_from-grows D E k = Known-capped cap (λ x. option_and_then (λ ys. depth_over D ys) (successors_at g x)) (λ x. option_and_then (λ ys. depth_over E ys) (successors_at g x)) (λ x d. at (successors_at g x) d)
    where
      at : (o : Option (List ℕ)) (d : ℕ) → option_and_then (λ ys. depth_over D ys) o ≡ Some d → option_and_then (λ ys. depth_over E ys) o ≡ Some d
      at None d e = cc
      at (Some ys) d e = depth_over-grows D E k ys d e

  -- from depths less than k deep comes the depth less than one deeper
  depth_from-capped : (k x : ℕ) → depth_from cap g (capped_in k) x ≡ capped_in (suc k) x
  depth_from-capped k x = at (successors_at g x)
    where
      at : (o : Option (List ℕ)) → option_map (min cap) (option_and_then (λ ys. depth_over (capped_in k) ys) o) ≡ option_map (min cap) (option_and_then (λ ys. depth_over (λ y. depth_in (successors_at g) k y) ys) o)
      at None = refl
      at (Some ys) = depth_over-capped cap (capped_in k) (λ y. depth_in (successors_at g) k y) (λ y. refl) ys

  pub length-with_depth : (ds : List (Option ℕ)) (x : ℕ) → length (with_depth cap g ds x) ≡ length ds
  length-with_depth ds x = at (look ds x)
    where
      at : (o : Option ℕ) → length (with_depth_by cap g o ds x) ≡ length ds
      at None = search rules
      at (Some d) = refl

  -- each depth of the table is right, and was found among so many
  abbrev pub IsRight : List (Option ℕ) → Type 0
  IsRight ds = Known (look ds) (capped_in (known_count ds))

  -- what settling one node does: nothing, or it adds one right depth
  record Settles (ds es : List (Option ℕ)) (x : ℕ) : Type 0 where
    pub right : IsRight es
    pub size : length es ≡ length ds
    pub more : known_count ds ≤ known_count es
    pub still : known_count es ≡ known_count ds → es ≡ ds

  settles : (ds : List (Option ℕ)) (x : ℕ) → IsRight ds → Settles ds (with_depth cap g ds x) x
  settles ds x k = at (look ds x) refl
    where
      same : Settles ds ds x
      same = record { right = k; size = refl; more = omega arith; still = λ e. refl }

      set_it : (f : Option ℕ) → depth_from cap g (look ds) x ≡ f → look ds x ≡ None → Settles ds (set ds x f) x
      set_it None f e = subst (λ t. Settles ds t x) (sym (set_none ds x e)) same
      set_it (Some r) f e = by (cases_lt x (length ds))
        where
          by : (x < length ds) ⊎ (length ds ≤ x) → Settles ds (set ds x (Some r)) x
          by (inr q) = subst (λ t. Settles ds t x) (sym (set_past ds x (Some r) q)) same
          by (inl l) =
              let n = set_known ds x r l e in
              record {
                right = λ y s h. subst (λ m. capped_in m y ≡ Some s) (sym n) (add y s (set_look ds x r y s l h));
                size = search rules;
                more = omega (arith, n);
                still = λ h. absurd (omega (arith, n, h));
              }
            where
              here : capped_in (suc (known_count ds)) x ≡ Some r
              here = sym (depth_from-capped (known_count ds) x) ∙ depth_from-grows (look ds) (capped_in (known_count ds)) k x r f

              add : (y s : ℕ) → ((x ≡ y) × (s ≡ r)) ⊎ (look ds y ≡ Some s) → capped_in (suc (known_count ds)) y ≡ Some s
              add y s (inl h) = subst (λ t. capped_in (suc (known_count ds)) t ≡ Some s) h.0 (subst (λ t. capped_in (suc (known_count ds)) x ≡ Some t) (sym h.1) here)
              add y s (inr h) = capped_grows (known_count ds) (suc (known_count ds)) (omega arith) y s (k y s h)

      at : (o : Option ℕ) → look ds x ≡ o → Settles ds (with_depth_by cap g o ds x) x
      at (Some d) e = same
      at None e = set_it (depth_from cap g (look ds) x) refl e

  pub with_depths-push : (ds : List (Option ℕ)) (xs : List ℕ) (x : ℕ) → with_depths cap g ds (xs ++ x ∷ []) ≡ with_depth cap g (with_depths cap g ds xs) x
  with_depths-push ds [] x = refl
  with_depths-push ds (y ∷ xs) x = with_depths-push (with_depth cap g ds y) xs x

  -- what a pass over an order does
  pub record Passes (ds es : List (Option ℕ)) (xs : List ℕ) : Type 0 where
    pub right : IsRight es
    pub size : length es ≡ length ds
    pub more : known_count ds ≤ known_count es
    pub still : known_count es ≡ known_count ds → es ≡ ds
    pub each : known_count es ≡ known_count ds → (x : ℕ) → Contains xs x → with_depth cap g ds x ≡ ds

  pub settled_passes : (ds : List (Option ℕ)) (xs : List ℕ) → IsRight ds → Passes ds (with_depths cap g ds xs) xs
  settled_passes ds [] k = record { right = k; size = refl; more = omega arith; still = λ e. refl; each = λ e x c. absurd (Contains-none x c) }
  settled_passes ds (x ∷ xs) k =
      let a = settles ds x k in
      let b = settled_passes (with_depth cap g ds x) xs a.right in
      record {
        right = b.right;
        size = b.size ∙ a.size;
        more = omega (arith, a.more, b.more);
        still = λ e. b.still (omega (arith, a.more, b.more, e)) ∙ a.still (omega (arith, a.more, b.more, e));
        each = λ e y c. at y (a.still (omega (arith, a.more, b.more, e))) (b.each (omega (arith, a.more, b.more, e)) y) (Contains-cases xs x y c);
      }
    where
      at : (y : ℕ) → with_depth cap g ds x ≡ ds → (Contains xs y → with_depth cap g (with_depth cap g ds x) y ≡ with_depth cap g ds x) → (x ≡ y) ⊎ Contains xs y → with_depth cap g ds y ≡ ds
      at y e f (inl s) = subst (λ z. with_depth cap g ds z ≡ ds) s e
      at y e f (inr c) = subst (λ t. with_depth cap g t y ≡ t) e (f c)

  -- no node of the table can be settled any more
  abbrev pub IsSettled : List (Option ℕ) → Type 0
  IsSettled ds = (x : ℕ) → x < length ds → with_depth cap g ds x ≡ ds

  settled_next : (ds : List (Option ℕ)) → length ds ≡ length g → IsRight ds → IsSettled ds → (k : ℕ) → Known (capped_in k) (look ds) → Known (capped_in (suc k)) (look ds)
  settled_next ds m right c k h x r e = at (look ds x) refl
    where
      f : depth_from cap g (look ds) x ≡ Some r
      f = depth_from-grows (capped_in k) (look ds) h x r (depth_from-capped k x ∙ e)

      at : (o : Option ℕ) → look ds x ≡ o → look ds x ≡ Some r
      at (Some q) o =
          let a = capped_grows (known_count ds) (known_count ds + suc k) (omega arith) x q (right x q o) in
          let b = capped_grows (suc k) (known_count ds + suc k) (omega arith) x r e in
          cc
      at None o = by (cases_lt x (length g))
        where
          by : (x < length g) ⊎ (length g ≤ x) → look ds x ≡ Some r
          by (inr q) = let z : None ≡ Some r = sym (ap (λ t. option_map (min cap) (option_and_then (λ ys. depth_over (look ds) ys) t)) (successors_at-past g x q)) ∙ f in cc
          by (inl q) =
              let l : x < length ds = omega (arith, q, m) in
              let u : with_depth_by cap g None ds x ≡ ds = subst (λ t. with_depth_by cap g t ds x ≡ ds) o (c x l) in
              let v : set ds x (Some r) ≡ ds = subst (λ t. set ds x t ≡ ds) f u in
              subst (λ t. look t x ≡ Some r) v (get_or-set_same ds x (Some r) None l)

  -- a settled table has each depth up to the cap
  pub settled_known : (ds : List (Option ℕ)) → length ds ≡ length g → IsRight ds → IsSettled ds → (k : ℕ) → Known (capped_in k) (look ds)
  settled_known ds m right c zero x r e = cc
  settled_known ds m right c (suc k) x r e = settled_next ds m right c k (settled_known ds m right c k) x r e

  pub settled_depth : (ds : List (Option ℕ)) → length ds ≡ length g → IsRight ds → IsSettled ds → (x : ℕ) → look ds x ≡ capped_in (length g) x
  settled_depth ds m right c x = at (look ds x) refl
    where
      there : (q : ℕ) → look ds x ≡ Some q → capped_in (length g) x ≡ Some q
      there q e = capped_grows (known_count ds) (length g) (let l = known_count_le ds in omega (arith, l, m)) x q (right x q e)

      at : (o : Option ℕ) → look ds x ≡ o → look ds x ≡ capped_in (length g) x
      at (Some q) e = e ∙ sym (there q e)
      at None e = by (capped_in (length g) x) refl
        where
          by : (o : Option ℕ) → capped_in (length g) x ≡ o → look ds x ≡ capped_in (length g) x
          by None f = e ∙ sym f
          by (Some r) f = settled_known ds m right c (length g) x r f ∙ sym f

  pub right_none : (ds : List (Option ℕ)) → ((x : ℕ) → look ds x ≡ None) → IsRight ds
  right_none ds e x r h = let f = e x in cc

  pub settled_pass : (ds es : List (Option ℕ)) (order : List ℕ) → Passes ds es order → ¬ (known_count ds < known_count es) → Covers order (length ds) → IsSettled es
  settled_pass ds es order h l c = subst IsSettled (sym (h.still e)) (λ x m. h.each e x (c x m))
    where
      e : known_count es ≡ known_count ds
      e = omega (arith, l, h.more)

  -- a pass after which another follows leaves fewer depths open
  pub falls : (ds es : List (Option ℕ)) (order : List ℕ) → Passes ds es order → (b a : ℕ) → b ≡ known_count ds → a ≡ known_count es → cond (nat_lt b a) (suc (length es - known_count es)) 0 < suc (length ds - known_count ds)
  falls ds es order h b a e f = at (cases_lt b a)
    where
      at : (b < a) ⊎ (a ≤ b) → cond (nat_lt b a) (suc (length es - known_count es)) 0 < suc (length ds - known_count ds)
      at (inl l) = let t : nat_lt b a ≡ true = grind (arith, l) in rw t (let m = known_count_le es in let n = h.size in omega (arith, l, m, n, e, f))
      at (inr l) = let t : nat_lt b a ≡ false = grind (arith, l) in rw t (omega arith)

  -- and after the last pass the table is settled
  pub settles_all : (ds es : List (Option ℕ)) (order : List ℕ) → Passes ds es order → (b a : ℕ) → b ≡ known_count ds → a ≡ known_count es → Covers order (length ds) → nat_lt b a ≡ false → IsSettled es
  settles_all ds es order h b a e f c n = settled_pass ds es order h (λ l. let t : nat_lt b a ≡ true = grind (arith, l, e, f) in cc) c
