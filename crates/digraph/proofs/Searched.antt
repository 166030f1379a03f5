-- A search from some starts marks exactly what is reached.
use Rattle.std.proofs.Common.{◌≡◌, ℕ, zero, suc, ◌+◌, ◌<◌, ◌≤◌, ◌↔◌, ◌⊎◌, inl, inr, Bool, true, false, List, [], ◌∷◌, ◌++◌, length, get_or, set, replicate, Contains, IsTrue, Option, Some, None, unwrap_or, refl, sym, ap, ◌∙◌, subst, arith, rules}
use Rattle.std.proofs.lemmas.Bool.{cases_lt, false≢true}
use Rattle.std.proofs.lemmas.List.{get_or_default, get_or_append_left, get_or_push, length_push, length-replicate}
use Rattle.digraph.specs.Walk.{IsWalk}
use Rattle.digraph.specs.Reach.{IsSuccessor, IsReached}
use Rattle.digraph.specs.Digraph.{Digraph, successors_at, targets_at}
use Rattle.digraph.specs.Search.{Findings, is_marked, with_mark_by, with_mark, with_marks}
use Rattle.digraph.proofs.Members.{Contains-none, Contains-cases, Contains-head, Contains-tail}
use Rattle.digraph.proofs.WalkLaws.{reached_start, reached_next}
use Rattle.digraph.proofs.Settled.{successors_at-past}

pub with_marks-push : (f : Findings) (ys : List ℕ) (y : ℕ) → with_marks f (ys ++ y ∷ []) ≡ with_mark (with_marks f ys) y
with_marks-push f [] y = refl
with_marks-push f (z ∷ ys) y = with_marks-push (with_mark f z) ys y

-- how many numbers are not marked
abbrev open_marks : List Bool → ℕ
open_marks [] = 0
open_marks (true ∷ ms) = open_marks ms
open_marks (false ∷ ms) = suc (open_marks ms)

set_within : (ms : List Bool) (y : ℕ) → is_marked ms y ≡ false → y < length ms
set_within [] y e = absurd (false≢true (sym e))
set_within (m ∷ ms) zero e = omega arith
set_within (m ∷ ms) (suc y) e = let l = set_within ms y e in omega arith

set_new : (ms : List Bool) (y : ℕ) → is_marked (set ms y true) y ≡ true
set_new [] y = refl
set_new (m ∷ ms) zero = refl
set_new (m ∷ ms) (suc y) = set_new ms y

set_kept : (ms : List Bool) (y z : ℕ) → is_marked ms z ≡ true → is_marked (set ms y true) z ≡ true
set_kept [] y z e = e
set_kept (m ∷ ms) zero zero e = refl
set_kept (m ∷ ms) zero (suc z) e = e
set_kept (m ∷ ms) (suc y) zero e = e
set_kept (m ∷ ms) (suc y) (suc z) e = set_kept ms y z e

set_only : (ms : List Bool) (y z : ℕ) → is_marked (set ms y true) z ≡ true → (y ≡ z) ⊎ (is_marked ms z ≡ true)
set_only [] y z e = inr e
set_only (m ∷ ms) zero zero e = inl refl
set_only (m ∷ ms) zero (suc z) e = inr e
set_only (m ∷ ms) (suc y) zero e = inr e
set_only (m ∷ ms) (suc y) (suc z) e = at (set_only ms y z e)
  where
    at : (y ≡ z) ⊎ (is_marked ms z ≡ true) → (suc y ≡ suc z) ⊎ (is_marked ms z ≡ true)
    at (inl h) = inl (ap suc h)
    at (inr h) = inr h

set_open : (ms : List Bool) (y : ℕ) → is_marked ms y ≡ false → suc (open_marks (set ms y true)) ≡ open_marks ms
set_open [] y e = absurd (false≢true (sym e))
set_open (true ∷ ms) zero e = absurd (false≢true (sym e))
set_open (false ∷ ms) zero e = refl
set_open (true ∷ ms) (suc y) e = set_open ms y e
set_open (false ∷ ms) (suc y) e = ap suc (set_open ms y e)

clear : (k y : ℕ) → y < k → is_marked (replicate k false) y ≡ true → ⊥
clear zero y l h = omega (arith, l)
clear (suc k) zero l h = false≢true h
clear (suc k) (suc y) l h = clear k y (omega (arith, l)) h

-- the marks and what was met say the same
pub record IsTracked (n : ℕ) (f : Findings) : Type 0 where
  pub size : length f.marks ≡ n
  pub count : open_marks f.marks + length f.met ≡ n
  pub listed : (y : ℕ) → y < n → is_marked f.marks y ≡ true → (i : ℕ) × (i < length f.met) × (get_or f.met i 0 ≡ y)
  pub there : (i : ℕ) → i < length f.met → (get_or f.met i 0 < n) × (is_marked f.marks (get_or f.met i 0) ≡ true)

-- what marking a list changes
record Grows (f : Findings) (ys : List ℕ) (g : Findings) : Type 0 where
  pub kept : (y : ℕ) → is_marked f.marks y ≡ true → is_marked g.marks y ≡ true
  pub whole : (y : ℕ) → Contains ys y → is_marked g.marks y ≡ true
  pub only : (y : ℕ) → is_marked g.marks y ≡ true → (is_marked f.marks y ≡ true) ⊎ Contains ys y
  pub old : (i : ℕ) → i < length f.met → (i < length g.met) × (get_or g.met i 0 ≡ get_or f.met i 0)

module _ (n : ℕ) where
  tracked_mark : (f : Findings) (y : ℕ) → IsTracked n f → IsTracked n (with_mark f y)
  tracked_mark f y t = at (is_marked f.marks y) refl
    where
      new : is_marked f.marks y ≡ false → IsTracked n (with_mark_by false f y)
      new e = record {
        size = search rules ∙ t.size;
        count = let a = set_open f.marks y e in let b = length_push f.met y in omega (arith, a, b, t.count);
        listed = λ z l m. pick z (set_only f.marks y z m) l;
        there = λ i l. here i (cases_lt i (length f.met)) (omega (arith, l, length_push f.met y));
      }
        where
          pick : (z : ℕ) → (y ≡ z) ⊎ (is_marked f.marks z ≡ true) → z < n → (i : ℕ) × (i < length (f.met ++ y ∷ [])) × (get_or (f.met ++ y ∷ []) i 0 ≡ z)
          pick z (inl h) l = (length f.met, let b = length_push f.met y in omega (arith, b), get_or_push f.met y 0 (length f.met) refl ∙ h)
          pick z (inr h) l = let w = t.listed z l h in (w.0, let b = length_push f.met y in let c = w.1 in omega (arith, b, c), get_or_append_left f.met (y ∷ []) 0 w.0 w.1 ∙ w.2)

          here : (i : ℕ) → (i < length f.met) ⊎ (length f.met ≤ i) → i < suc (length f.met) → (get_or (f.met ++ y ∷ []) i 0 < n) × (is_marked (set f.marks y true) (get_or (f.met ++ y ∷ []) i 0) ≡ true)
          here i (inl l) m = let w = t.there i l in rw (get_or_append_left f.met (y ∷ []) 0 i l) ((w.0, set_kept f.marks y (get_or f.met i 0) w.1))
          here i (inr l) m =
              let s : length f.met ≡ i = omega (arith, l, m) in
              let q : get_or (f.met ++ y ∷ []) i 0 ≡ y = get_or_push f.met y 0 i s in
              rw q ((let l = set_within f.marks y e in omega (arith, l, t.size), set_new f.marks y))

      at : (b : Bool) → is_marked f.marks y ≡ b → IsTracked n (with_mark_by b f y)
      at true e = t
      at false e = new e

  tracked : (f : Findings) (ys : List ℕ) → IsTracked n f → IsTracked n (with_marks f ys)
  tracked f [] t = t
  tracked f (y ∷ ys) t = tracked (with_mark f y) ys (tracked_mark f y t)

  tracked_none : IsTracked n (record { marks = replicate n false; met = [] })
  tracked_none = record { size = length-replicate n false; count = opened n; listed = λ y l e. absurd (clear n y l e); there = λ i l. absurd (omega (arith, l)) }
    where
      opened : (k : ℕ) → open_marks (replicate k false) + 0 ≡ k
      opened zero = omega arith
      opened (suc k) = let h = opened k in omega arith

grows_mark : (f : Findings) (y : ℕ) → Grows f (y ∷ []) (with_mark f y)
grows_mark f y = at (is_marked f.marks y) refl
  where
    alone : (z : ℕ) → Contains (y ∷ []) z → y ≡ z
    alone z c = by (Contains-cases [] y z c)
      where
        by : (y ≡ z) ⊎ Contains [] z → y ≡ z
        by (inl h) = h
        by (inr d) = absurd (Contains-none z d)

    at : (b : Bool) → is_marked f.marks y ≡ b → Grows f (y ∷ []) (with_mark_by b f y)
    at true e = record { kept = λ z m. m; whole = λ z c. subst (λ k. is_marked f.marks k ≡ true) (alone z c) e; only = λ z m. inl m; old = λ i l. (l, refl) }
    at false e =
        record {
          kept = set_kept f.marks y;
          whole = λ z c. subst (λ k. is_marked (set f.marks y true) k ≡ true) (alone z c) (set_new f.marks y);
          only = λ z m. pick z (set_only f.marks y z m);
          old = λ i l. (let b = length_push f.met y in omega (arith, b, l), get_or_append_left f.met (y ∷ []) 0 i l);
        }
      where
        pick : (z : ℕ) → (y ≡ z) ⊎ (is_marked f.marks z ≡ true) → (is_marked f.marks z ≡ true) ⊎ Contains (y ∷ []) z
        pick z (inl h) = inr (subst (Contains (y ∷ [])) h (Contains-head [] y))
        pick z (inr h) = inl h

grows : (f : Findings) (ys : List ℕ) → Grows f ys (with_marks f ys)
grows f [] = record { kept = λ z m. m; whole = λ z c. absurd (Contains-none z c); only = λ z m. inl m; old = λ i l. (l, refl) }
grows f (y ∷ ys) =
    let a = grows_mark f y in
    let b = grows (with_mark f y) ys in
    record {
      kept = λ z m. b.kept z (a.kept z m);
      whole = λ z c. whole a b z (Contains-cases ys y z c);
      only = λ z m. only a z (b.only z m);
      old = λ i l. let u = a.old i l in let v = b.old i u.0 in (v.0, v.1 ∙ u.1);
    }
  where
    whole : Grows f (y ∷ []) (with_mark f y) → Grows (with_mark f y) ys (with_marks (with_mark f y) ys) → (z : ℕ) → (y ≡ z) ⊎ Contains ys z → is_marked (with_marks (with_mark f y) ys).marks z ≡ true
    whole a b z (inl h) = b.kept z (a.whole z (subst (Contains (y ∷ [])) h (Contains-head [] y)))
    whole a b z (inr c) = b.whole z c

    only : Grows f (y ∷ []) (with_mark f y) → (z : ℕ) → (is_marked (with_mark f y).marks z ≡ true) ⊎ Contains ys z → (is_marked f.marks z ≡ true) ⊎ Contains (y ∷ ys) z
    only a z (inr c) = inr (Contains-tail ys y z c)
    only a z (inl h) = at (a.only z h)
      where
        at : (is_marked f.marks z ≡ true) ⊎ Contains (y ∷ []) z → (is_marked f.marks z ≡ true) ⊎ Contains (y ∷ ys) z
        at (inl k) = inl k
        at (inr c) = inr (by (Contains-cases [] y z c))
          where
            by : (y ≡ z) ⊎ Contains [] z → Contains (y ∷ ys) z
            by (inl e) = subst (Contains (y ∷ ys)) e (Contains-head ys y)
            by (inr d) = absurd (Contains-none z d)

module _ (g : Digraph) where
  -- a successor stands among the targets
  pub successor_target : (x y : ℕ) → IsSuccessor (successors_at g) x y → Contains (targets_at g x) y
  successor_target x y s = subst (λ o. Contains (unwrap_or o []) y) (sym s.1) s.2

  pub target_successor : (x y : ℕ) → Contains (targets_at g x) y → IsSuccessor (successors_at g) x y
  target_successor x y c = at (successors_at g x) refl c
    where
      at : (o : Option (List ℕ)) → successors_at g x ≡ o → Contains (unwrap_or o []) y → IsSuccessor (successors_at g) x y
      at None e c = absurd (Contains-none y c)
      at (Some ys) e c = (ys, e, c)

  pub target_within : (x y : ℕ) → Contains (targets_at g x) y → x < length g
  target_within x y c = at (cases_lt x (length g))
    where
      at : (x < length g) ⊎ (length g ≤ x) → x < length g
      at (inl l) = l
      at (inr l) = absurd (Contains-none y (subst (λ o. Contains (unwrap_or o []) y) (successors_at-past g x l) c))

  -- what a search keeps true: the first numbers that it met have only marked successors
  pub record IsSearch (starts : List ℕ) (next : ℕ) (f : Findings) : Type 0 where
    pub tracked : IsTracked (length g) f
    pub sound : (y : ℕ) → y < length g → is_marked f.marks y ≡ true → IsReached (successors_at g) starts y
    pub start : (y : ℕ) → Contains starts y → is_marked f.marks y ≡ true
    pub closed : (i : ℕ) → i < next → i < length f.met → (y : ℕ) → Contains (targets_at g (get_or f.met i 0)) y → is_marked f.marks y ≡ true

  pub search_start : (f : Findings) (starts : List ℕ) → f ≡ record { marks = replicate (length g) false; met = [] } → IsSearch starts 0 (with_marks f starts)
  search_start f starts e = subst (λ f. IsSearch starts 0 (with_marks f starts)) (sym e) at
    where
      none : Findings
      none = record { marks = replicate (length g) false; met = [] }

      at : IsSearch starts 0 (with_marks none starts)
      at = record {
        tracked = tracked (length g) none starts (tracked_none (length g));
        sound = λ y l m. pick y l ((grows none starts).only y m);
        start = (grows none starts).whole;
        closed = λ i l. absurd (omega (arith, l));
      }
        where
          pick : (y : ℕ) → y < length g → (is_marked (replicate (length g) false) y ≡ true) ⊎ Contains starts y → IsReached (successors_at g) starts y
          pick y l (inl h) = absurd (clear (length g) y l h)
          pick y l (inr c) = reached_start (successors_at g) starts y c

  pub search_next : (f : Findings) (starts : List ℕ) (next y : ℕ) → IsSearch starts next f → next < length f.met → get_or f.met next 0 ≡ y → IsSearch starts (next + 1) (with_marks f (targets_at g y))
  search_next f starts next y s l e =
      let w = grows f (targets_at g y) in
      record {
        tracked = tracked (length g) f (targets_at g y) s.tracked;
        sound = λ z k m. pick z k (w.only z m);
        start = λ z h. w.kept z (s.start z h);
        closed = λ i a b z h. close i (cases_lt i next) (omega (arith, a)) z h;
      }
    where
      here : (y < length g) × (is_marked f.marks y ≡ true)
      here = subst (λ k. (k < length g) × (is_marked f.marks k ≡ true)) e (s.tracked.there next l)

      pick : (z : ℕ) → z < length g → (is_marked f.marks z ≡ true) ⊎ Contains (targets_at g y) z → IsReached (successors_at g) starts z
      pick z k (inl h) = s.sound z k h
      pick z k (inr c) = reached_next (successors_at g) starts y z (s.sound y here.0 here.1) (target_successor y z c)

      close : (i : ℕ) → (i < next) ⊎ (next ≤ i) → i ≤ next → (z : ℕ) → Contains (targets_at g (get_or (with_marks f (targets_at g y)).met i 0)) z → is_marked (with_marks f (targets_at g y)).marks z ≡ true
      close i (inl a) b z h =
          let m : i < length f.met = omega (arith, a, l) in
          let o = (grows f (targets_at g y)).old i m in
          (grows f (targets_at g y)).kept z (s.closed i a m z (subst (λ k. Contains (targets_at g k) z) o.1 h))
      close i (inr a) b z h =
          let q : next ≡ i = omega (arith, a, b) in
          let o = (grows f (targets_at g y)).old next l in
          let r : get_or (with_marks f (targets_at g y)).met i 0 ≡ y = subst (λ k. get_or (with_marks f (targets_at g y)).met k 0 ≡ y) q (o.1 ∙ e) in
          (grows f (targets_at g y)).whole z (subst (λ k. Contains (targets_at g k) z) r h)

  -- at the end all that a walk from a marked number leads to is marked
  search_whole : (f : Findings) (starts : List ℕ) (next : ℕ) → IsSearch starts next f → length f.met ≤ next → (zs : List ℕ) (u y : ℕ) → is_marked f.marks u ≡ true → IsWalk (IsSuccessor (successors_at g)) zs u y → is_marked f.marks y ≡ true
  search_whole f starts next s l [] u y m w = subst (λ v. is_marked f.marks v ≡ true) w m
  search_whole f starts next s l (z ∷ zs) u y m w = search_whole f starts next s l zs z y there w.1
    where
      c : Contains (targets_at g u) z
      c = successor_target u z w.0

      there : is_marked f.marks z ≡ true
      there =
          let p = s.tracked.listed u (target_within u z c) m in
          s.closed p.0 (let k = p.1 in omega (arith, k, l)) p.1 z (subst (λ t. Contains (targets_at g t) z) (sym p.2) c)

  pub search_exact : (f : Findings) (starts : List ℕ) (next : ℕ) → IsSearch starts next f → length f.met ≤ next → (x : ℕ) → x < length g → IsTrue (get_or f.marks x false) ↔ IsReached (successors_at g) starts x
  search_exact f starts next s l x k = ((λ m. s.sound x k (same ∙ m)), (λ r. sym same ∙ search_whole f starts next s l r.2.0 r.0 x (s.start r.0 r.1) r.2.1))
    where
      same : is_marked f.marks x ≡ get_or f.marks x false
      same = get_or_default f.marks x true false (omega (arith, k, s.tracked.size))

  pub met_le : (f : Findings) (starts : List ℕ) (next : ℕ) → IsSearch starts next f → length f.met ≤ length g
  met_le f starts next s = let c = s.tracked.count in omega (arith, c)
