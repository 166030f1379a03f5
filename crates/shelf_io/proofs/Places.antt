-- Where a thing stands in a list that a method searched, and what changes where it is replaced.
use Rattle.std.proofs.Common.{◌≡◌, ℕ, List, [], ◌∷◌, ◌++◌, get_or, set, Some, None, option_map, sym, ap, ◌∙◌}
use Rattle.shelf_io.specs.Named.{ChangesOnly}
use Rattle.shelf_io.proofs.Named.{first_of_name, place_of_name, found, has_name, missing, replaced, appended}

-- the list that was searched is that of the fields, and its view; the item was read from it
pub record StandsAt {X : Type 0} (name_of : X → List ℕ) (seen items view : List X) (name : List ℕ) (i : ℕ) (old : X) : Type 0 where
  pub place : Some i ≡ place_of_name name_of seen name
  pub searched : seen ≡ items
  pub viewed : items ≡ view
  pub item : old ≡ get_or items i old

pub record StandsNowhere {X : Type 0} (name_of : X → List ℕ) (seen items view : List X) (name : List ℕ) : Type 0 where
  pub place : None ≡ place_of_name name_of seen name
  pub searched : seen ≡ items
  pub viewed : items ≡ view

place_is : {X : Type 0} {name_of : X → List ℕ} {seen items view : List X} {name : List ℕ} {i : ℕ} {old : X} → StandsAt name_of seen items view name i old → place_of_name name_of items name ≡ Some i
place_is {X} {name_of} {seen} {items} {view} {name} {i} {old} s =
    ap (λ xs. place_of_name name_of xs name) (sym s.searched) ∙ sym s.place

pub stands_first : {X : Type 0} {name_of : X → List ℕ} {seen items view : List X} {name : List ℕ} {i : ℕ} {old : X} → StandsAt name_of seen items view name i old → first_of_name name_of view name ≡ Some old
stands_first {X} {name_of} {seen} {items} {view} {name} {i} {old} s =
    ap (λ xs. first_of_name name_of xs name) (sym s.viewed)
    ∙ found name_of items name i old (place_is s)
    ∙ ap Some (sym s.item)

-- another of that name in its place
pub changed_at : {X : Type 0} {name_of : X → List ℕ} {seen items view : List X} {name : List ℕ} {i : ℕ} {old : X} → StandsAt name_of seen items view name i old → (new : X) → name_of new ≡ name_of old → ChangesOnly (first_of_name name_of view) (first_of_name name_of (set items i new)) name (Some new)
changed_at {X} {name_of} {seen} {items} {view} {name} {i} {old} s new same =
    let named = ap name_of s.item ∙ has_name name_of items name i old (place_is s) in
    let c = replaced name_of items name i old new (place_is s) (same ∙ named) in
    record {
      here = c.here;
      others = λ other ne. c.others other ne ∙ ap (λ xs. first_of_name name_of xs other) s.viewed;
    }

pub mapped_at : {X : Type 0} {name_of : X → List ℕ} {seen items view : List X} {name : List ℕ} {i : ℕ} {old : X} → StandsAt name_of seen items view name i old → (f : X → X) → ((x : X) → name_of (f x) ≡ name_of x) → (new : X) → new ≡ f old → ChangesOnly (first_of_name name_of view) (first_of_name name_of (set items i new)) name (option_map f (first_of_name name_of view name))
mapped_at {X} {name_of} {seen} {items} {view} {name} {i} {old} s f same new e =
    let c = changed_at s new (ap name_of e ∙ same old) in
    record {
      here = c.here ∙ ap Some e ∙ ap (option_map f) (sym (stands_first s));
      others = c.others;
    }

pub absent : {X : Type 0} {name_of : X → List ℕ} {seen items view : List X} {name : List ℕ} → StandsNowhere name_of seen items view name → first_of_name name_of view name ≡ None
absent {X} {name_of} {seen} {items} {view} {name} s =
    ap (λ xs. first_of_name name_of xs name) (sym (s.searched ∙ s.viewed)) ∙ missing name_of seen name (sym s.place)

-- the first of that name at the end
pub added_at : {X : Type 0} {name_of : X → List ℕ} {seen items view : List X} {name : List ℕ} → StandsNowhere name_of seen items view name → (new : X) → name_of new ≡ name → ChangesOnly (first_of_name name_of view) (first_of_name name_of (items ++ new ∷ [])) name (Some new)
added_at {X} {name_of} {seen} {items} {view} {name} s new n =
    let c = appended name_of items name new (ap (λ xs. place_of_name name_of xs name) (sym s.searched) ∙ sym s.place) n in
    record {
      here = c.here;
      others = λ other ne. c.others other ne ∙ ap (λ xs. first_of_name name_of xs other) s.viewed;
    }
