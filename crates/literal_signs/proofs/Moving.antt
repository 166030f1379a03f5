-- The marked literals, moved one by one into a list, or erased.
use Rattle.std.proofs.Common.{◌≡◌, ℕ, ◌+◌, ◌<◌, ◌≤◌, Bool, true, false, not, ◌&&◌, ◌||◌, nat_eq, nat_lt, List, [], ◌∷◌, ◌++◌, length, set, drop, get_or, refl, sym, ap, ◌∙◌, subst, ◌⊎◌, inl, inr, eqb-true, eq-eqb, lt-ltb}
use Rattle.std.proofs.Math.Path.{fun_ext}
use Rattle.std.proofs.lemmas.List.{drop_more, drop_all}
use Rattle.std.specs.Cmp.{nat_eq_equiv}
use Rattle.clause_store.specs.declared.lit.Lit.{Lit}
use Rattle.clause_store.specs.Clauses.{has, mentions, is_clause, is_within, lit_eq, sign_eq}
use Rattle.clause_store.specs.Chained.{LitSet, union, without, empty_set}
use Rattle.clause_store.proofs.Sets.{has-drop, has-push, mentions-push, clause-push, within-append, and_left, and_right, or_cases, or_nothing, not_true, never, true_or_false, same}
use Rattle.literal_signs.specs.declared.sign.Sign.{Sign}
use Rattle.literal_signs.specs.declared.sign.Sign.TheVariants.{Absent, Positive, Negative}
use Rattle.literal_signs.specs.Marked.{AreListed, marked_set, sign_marks}
use Rattle.literal_signs.specs.Moves.{Moves}
use Rattle.literal_signs.proofs.United.{erased}

-- a listed literal of another variable than the next one is listed behind it
listed_next : (touched : List Lit) (i : ℕ) (d m : Lit) → i < length touched → nat_eq (get_or touched i d).var m.var ≡ false → has (drop i touched) m ≡ true → has (drop (i + 1) touched) m ≡ true
listed_next touched i d m lt other h =
    let both : (lit_eq (get_or touched i d) m || has (drop (i + 1) touched) m) ≡ true = subst (λ c. has c m ≡ true) (drop_more touched i d lt) h in
    split (or_cases (lit_eq (get_or touched i d) m) (has (drop (i + 1) touched) m) both)
  where
    split : (lit_eq (get_or touched i d) m ≡ true) ⊎ (has (drop (i + 1) touched) m ≡ true) → has (drop (i + 1) touched) m ≡ true
    split (inl x) = never (and_left (nat_eq (get_or touched i d).var m.var) (sign_eq (get_or touched i d).positive m.positive) x) other
    split (inr x) = x

-- where nothing is listed any more, nothing is marked
none_left : (a : LitSet) (touched : List Lit) (i : ℕ) → length touched ≤ i → AreListed a (drop i touched) → (m : Lit) → a m ≡ false
none_left a touched i le h m = pick (true_or_false (a m))
  where
    pick : (a m ≡ true) ⊎ (a m ≡ false) → a m ≡ false
    pick (inl t) = never {b = false} (subst (λ c. has c m ≡ true) (drop_all i touched le) (h m t)) refl
    pick (inr f) = f

-- a literal that is left after a variable was taken out
still_in : (a : LitSet) (v : ℕ) (m : Lit) → without a v m ≡ true → a m ≡ true
still_in a v m h = and_left (a m) (not (nat_eq m.var v)) h

other_var : (a : LitSet) (v : ℕ) (m : Lit) → without a v m ≡ true → nat_eq v m.var ≡ false
other_var a v m h = nat_eq_equiv.symm v m.var ∙ not_true (nat_eq m.var v) (and_right (a m) (not (nat_eq m.var v)) h)

pub cleared_more : (signs : List Sign) (touched : List Lit) (i : ℕ) (d : Lit) → i < length touched → (get_or touched i d).var < length signs → AreListed (marked_set signs) (drop i touched)
    → AreListed (marked_set (set signs (get_or touched i d).var Absent)) (drop (i + 1) touched)
cleared_more signs touched i d lt within h = λ m k. at m (sym (ap (λ f. f m) (erased signs (get_or touched i d).var within)) ∙ k)
  where
    at : (m : Lit) → without (marked_set signs) (get_or touched i d).var m ≡ true → has (drop (i + 1) touched) m ≡ true
    at m gone = listed_next touched i d m lt (other_var (marked_set signs) (get_or touched i d).var m gone) (h m (still_in (marked_set signs) (get_or touched i d).var m gone))

pub cleared_all : (signs : List Sign) (touched : List Lit) (i : ℕ) → length touched ≤ i → AreListed (marked_set signs) (drop i touched) → marked_set signs ≡ empty_set
cleared_all signs touched i le h = fun_ext (none_left (marked_set signs) touched i le h)

-- the first i literals were moved, as far as they were marked
pub record IsMoved (start : List Sign) (touched : List Lit) (i : ℕ) (signs : List Sign) (lits : List Lit) : Type 0 where
  pub same_length : length signs ≡ length start
  pub parts : union (has lits) (marked_set signs) ≡ marked_set start
  pub apart : (m : Lit) → marked_set signs m ≡ true → mentions lits m.var ≡ false
  pub clause : is_clause lits ≡ true
  pub within : is_within (length start) lits ≡ true
  pub rest : AreListed (marked_set signs) (drop i touched)

pub moved_none : (start : List Sign) (touched lits : List Lit) → lits ≡ [] → AreListed (marked_set start) touched → IsMoved start touched 0 start lits
moved_none start touched lits e h =
    record {
      same_length = refl;
      parts = ap (λ c. union (has c) (marked_set start)) e ∙ fun_ext (λ m. refl);
      apart = λ m k. ap (λ c. mentions c m.var) e;
      clause = ap (λ c. is_clause c) e;
      within = ap (λ c. is_within (length start) c) e;
      rest = h;
    }

-- two marked literals of one variable are the same
one_sign : (s : Sign) (p q : Bool) → sign_marks s p ≡ true → sign_marks s q ≡ true → sign_eq p q ≡ true
one_sign Absent p q h k = cc
one_sign Positive true q h k = k
one_sign Positive false q h k = cc
one_sign Negative true q h k = cc
one_sign Negative false q h k = k

one_lit : (signs : List Sign) (l m : Lit) → marked_set signs l ≡ true → marked_set signs m ≡ true → nat_eq m.var l.var ≡ true → lit_eq l m ≡ true
one_lit signs l m h k e =
    let var : m.var ≡ l.var = eqb-true m.var l.var e in
    let sign : sign_eq l.positive m.positive ≡ true = one_sign (get_or signs l.var Absent) l.positive m.positive h (subst (λ v. sign_marks (get_or signs v Absent) m.positive ≡ true) var k) in
    rw (eq-eqb l.var m.var (sym var)) sign

joined : (x q y n : Bool) → (q ≡ true → y ≡ true) → (y ≡ true → n ≡ true → q ≡ true) → ((x || q) || (y && not n)) ≡ (x || y)
joined true q y n f g = refl
joined false true y n f g = sym (f refl)
joined false false false n f g = refl
joined false false true true f g = g refl refl
joined false false true false f g = refl

moved_marked : (start : List Sign) (touched : List Lit) (i : ℕ) (d : Lit) (signs new : List Sign) (lits more : List Lit) → i < length touched → (get_or touched i d).var < length start → IsMoved start touched i signs lits → length new ≡ length signs
    → marked_set signs (get_or touched i d) ≡ true → marked_set new ≡ without (marked_set signs) (get_or touched i d).var → more ≡ lits ++ get_or touched i d ∷ [] → IsMoved start touched (i + 1) new more
moved_marked start touched i d signs new lits more lt within h equal on be le =
    record {
      same_length = equal ∙ h.same_length;
      parts = ap (λ c. union (has c) (marked_set new)) le ∙ ap (λ f. union (has (lits ++ get_or touched i d ∷ [])) f) be ∙ fun_ext part ∙ h.parts;
      apart = λ m k. ap (λ c. mentions c m.var) le ∙ free m (gone m k);
      clause = ap (λ c. is_clause c) le ∙ clause-push lits (get_or touched i d) h.clause (h.apart (get_or touched i d) on);
      within = ap (λ c. is_within (length start) c) le ∙ within-append (length start) lits (get_or touched i d ∷ []) h.within (one (lt-ltb (get_or touched i d).var (length start) within));
      rest = λ m k. behind m (gone m k);
    }
  where
    part : (m : Lit) → (has (lits ++ get_or touched i d ∷ []) m || (marked_set signs m && not (nat_eq m.var (get_or touched i d).var))) ≡ (has lits m || marked_set signs m)
    part m =
        ap (λ b. b || (marked_set signs m && not (nat_eq m.var (get_or touched i d).var))) (has-push lits (get_or touched i d) m)
        ∙ joined (has lits m) (lit_eq (get_or touched i d) m) (marked_set signs m) (nat_eq m.var (get_or touched i d).var)
        (λ e. subst (λ l. marked_set signs l ≡ true) (same (get_or touched i d) m e) on)
        (λ k e. one_lit signs (get_or touched i d) m on k e)

    gone : (m : Lit) → marked_set new m ≡ true → without (marked_set signs) (get_or touched i d).var m ≡ true
    gone m k = sym (ap (λ f. f m) be) ∙ k

    free : (m : Lit) → without (marked_set signs) (get_or touched i d).var m ≡ true → mentions (lits ++ get_or touched i d ∷ []) m.var ≡ false
    free m k = mentions-push lits (get_or touched i d) m.var (h.apart m (still_in (marked_set signs) (get_or touched i d).var m k)) (other_var (marked_set signs) (get_or touched i d).var m k)

    one : nat_lt (get_or touched i d).var (length start) ≡ true → is_within (length start) (get_or touched i d ∷ []) ≡ true
    one e = rw e refl

    behind : (m : Lit) → without (marked_set signs) (get_or touched i d).var m ≡ true → has (drop (i + 1) touched) m ≡ true
    behind m k = listed_next touched i d m lt (other_var (marked_set signs) (get_or touched i d).var m k) (h.rest m (still_in (marked_set signs) (get_or touched i d).var m k))

moved_unmarked : (start : List Sign) (touched : List Lit) (i : ℕ) (d : Lit) (signs new : List Sign) (lits more : List Lit) → i < length touched → IsMoved start touched i signs lits → length new ≡ length signs
    → marked_set signs (get_or touched i d) ≡ false → marked_set new ≡ marked_set signs → more ≡ lits → IsMoved start touched (i + 1) new more
moved_unmarked start touched i d signs new lits more lt h equal off be le =
    record {
      same_length = equal ∙ h.same_length;
      parts = ap (λ c. union (has c) (marked_set new)) le ∙ ap (λ f. union (has lits) f) be ∙ h.parts;
      apart = λ m k. ap (λ c. mentions c m.var) le ∙ h.apart m (before m k);
      clause = ap (λ c. is_clause c) le ∙ h.clause;
      within = ap (λ c. is_within (length start) c) le ∙ h.within;
      rest = λ m k. behind m (before m k);
    }
  where
    before : (m : Lit) → marked_set new m ≡ true → marked_set signs m ≡ true
    before m k = sym (ap (λ f. f m) be) ∙ k

    behind : (m : Lit) → marked_set signs m ≡ true → has (drop (i + 1) touched) m ≡ true
    behind m k = split (or_cases (lit_eq (get_or touched i d) m) (has (drop (i + 1) touched) m) (subst (λ c. has c m ≡ true) (drop_more touched i d lt) (h.rest m k)))
      where
        split : (lit_eq (get_or touched i d) m ≡ true) ⊎ (has (drop (i + 1) touched) m ≡ true) → has (drop (i + 1) touched) m ≡ true
        split (inl x) = never k (subst (λ l. marked_set signs l ≡ false) (same (get_or touched i d) m x) off)
        split (inr x) = x

pub moved_more : (start : List Sign) (touched : List Lit) (i : ℕ) (d : Lit) (signs new : List Sign) (lits more : List Lit) → i < length touched → (get_or touched i d).var < length start → IsMoved start touched i signs lits → length new ≡ length signs
    → Moves (marked_set signs (get_or touched i d)) (marked_set signs) (marked_set new) lits more (get_or touched i d) → IsMoved start touched (i + 1) new more
moved_more start touched i d signs new lits more lt within h equal moves = split (marked_set signs (get_or touched i d)) refl moves
  where
    split : (b : Bool) → marked_set signs (get_or touched i d) ≡ b → Moves b (marked_set signs) (marked_set new) lits more (get_or touched i d) → IsMoved start touched (i + 1) new more
    split true on m = moved_marked start touched i d signs new lits more lt within h equal on m.0 m.1
    split false off m = moved_unmarked start touched i d signs new lits more lt h equal off m.0 m.1

pub moved_all : (start : List Sign) (touched : List Lit) (i : ℕ) (signs : List Sign) (lits : List Lit) → length touched ≤ i → IsMoved start touched i signs lits → has lits ≡ marked_set start
moved_all start touched i signs lits le h =
    fun_ext (λ m. sym (or_nothing (has lits m)) ∙ ap (λ b. has lits m || b) (sym (none_left (marked_set signs) touched i le h.rest m)) ∙ ap (λ f. f m) h.parts)

pub moved_listed : (start : List Sign) (touched : List Lit) (i : ℕ) (signs : List Sign) (lits : List Lit) → IsMoved start touched i signs lits → AreListed (marked_set signs) touched
moved_listed start touched i signs lits h = λ m k. has-drop touched i m (h.rest m k)
