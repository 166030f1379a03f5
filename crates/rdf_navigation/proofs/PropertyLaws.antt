-- What the values of a property are, and which of them are found.
use Rattle.std.proofs.Common.{◌≡◌, ◌↔◌, ◌⊎◌, inl, inr, Result, Ok, Err, IfOk, ℕ, zero, suc, ◌+◌, ◌<◌, Bool, true, false, ◌||◌, IsTrue, List, [], ◌∷◌, ◌++◌, map, length, get_or, take, Contains, Option, Some, None, refl, sym, ap, ◌∙◌, arith}
use Rattle.std.proofs.lemmas.Bool.{false≢true}
use Rattle.std.specs.List.{list_any, filter_map, cons_option}
use Rattle.std.proofs.lemmas.Cmp.{eq_by_cmp_equiv}
use Rattle.std.proofs.lemmas.Map.Views.{list_any-from_Contains, Contains-from_any}
use Rattle.std.proofs.lemmas.List.Elements.{filter_map-append}
use Rattle.rdf_terms.specs.declared.term.Term.{Term}
use Rattle.rdf_terms.specs.Graph.{Graph}
use Rattle.rdf_terms.specs.Members.{InGraph}
use Rattle.rdf_terms.specs.TermOrder.{term_cmp_total}
use Rattle.rdf_terms.proofs.Bools.{either_left, either_right}
use Rattle.rdf_terms.proofs.Orders.{same_term as equal_terms}
use Rattle.rdf_terms.proofs.Members.{take_next, in_none, in_first, in_rest, in_cases}
use Rattle.rdf_terms.proofs.Values.{IsListOf-objects}
use Rattle.rdf_navigation.specs.Values.{among, values}

pub any_map : {X Y : Type 0} (p : Y → Bool) (f : X → Y) (xs : List X) → list_any (λ x. p (f x)) xs ≡ list_any p (map f xs)
any_map p f [] = refl
any_map p f (x ∷ xs) = ap (λ b. p (f x) || b) (any_map p f xs)

-- a term is found among the values exactly where the graph has the triple
pub among_is : (g : Graph) (x p y : Term) → IsTrue (among (values g x p) y) ↔ InGraph g x p y
among_is g x p y = (
  λ h. (IsListOf-objects g x p y).0 (Contains-from_any (λ a b t. equal_terms a b t) y (values g x p) h),
  λ h. list_any-from_Contains (eq_by_cmp_equiv term_cmp_total) y (values g x p) ((IsListOf-objects g x p y).1 h),
)

same_default : {X : Type 0} (xs : List X) (i : ℕ) (d e : X) → i < length xs → get_or xs i d ≡ get_or xs i e
same_default [] i d e l = absurd (omega (arith, l))
same_default (x ∷ xs) zero d e l = refl
same_default (x ∷ xs) (suc i) d e l = same_default xs i d e (omega (arith, l))

-- one item more
pub filter_map_next : {X Y : Type 0} (f : X → Option Y) (xs : List X) (i : ℕ) (d : X) → i < length xs → filter_map f (take (i + 1) xs) ≡ filter_map f (take i xs) ++ cons_option (f (get_or xs i d)) []
filter_map_next f xs i d l =
    let x = get_or xs i d in
    ap (filter_map f) (take_next xs i x l (same_default xs i d x l)) ∙ filter_map-append f (take i xs) (x ∷ [])

pub none_of : {X : Type 0} (o : Option X) → ((x : X) → o ≡ Some x → ⊥) → o ≡ None
none_of None h = refl
none_of (Some x) h = absurd (h x refl)

-- a last call whose result is returned as it is
pub from_three : {T E : Type 0} (r : Result T E) (P Q R : T → Type 0) {S : T → Type 0} → ((x : T) → P x → Q x → R x → S x) → IfOk r P → IfOk r Q → IfOk r R → IfOk r S
from_three (Ok x) P Q R f p q s = f x p q s
from_three (Err e) P Q R f p q s = tt

pub same_some : {X : Type 0} {x y : X} → Some x ≡ Some y → x ≡ y
same_some e = cc

pub not_missing : {X : Type 0} (x : X) → None ≡ Some x → ⊥
not_missing x e = let z : true ≡ false = cc in false≢true (sym z)

-- some item passes the test
pub any_in : {X : Type 0} (p : X → Bool) (xs : List X) → list_any p xs ≡ true → (x : X) × Contains xs x × (p x ≡ true)
any_in p [] h = absurd (false≢true h)
any_in {X} p (x ∷ xs) h = at (p x) refl h (λ k. any_in p xs k)
  where
    at : (b : Bool) → p x ≡ b → (b || list_any p xs) ≡ true → (list_any p xs ≡ true → (y : X) × Contains xs y × (p y ≡ true)) → (y : X) × Contains (x ∷ xs) y × (p y ≡ true)
    at true e h more = (x, in_first x xs, e)
    at false e h more = let r = more h in (r.0, in_rest x xs r.0 r.1, r.2)

pub in_any : {X : Type 0} (p : X → Bool) (xs : List X) (x : X) → Contains xs x → p x ≡ true → list_any p xs ≡ true
in_any p [] x c e = absurd (in_none x c)
in_any p (y ∷ xs) x c e = at (in_cases y xs x c) (λ d. in_any p xs x d e)
  where
    at : (y ≡ x) ⊎ Contains xs x → (Contains xs x → list_any p xs ≡ true) → (p y || list_any p xs) ≡ true
    at (inl s) more = either_left (p y) _ (ap p s ∙ e)
    at (inr d) more = either_right (p y) _ (more d)
