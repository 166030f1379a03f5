-- How a path node is read without reading whole lists.
use Rattle.std.proofs.Common.{◌≡◌, ◌⊎◌, inl, inr, Contains, ℕ, zero, suc, ◌-◌, ◌<◌, ◌≤◌, ◌↔◌, Bool, true, false, cond, List, [], ◌∷◌, length, take, drop, refl, sym, ap, subst, ◌∙◌, arith}
use Rattle.std.specs.Prelude.{Option, Some, None, option_map, is_some, slice_get, nat_le, filter}
use Rattle.std.specs.Option.{option_map_or}
use Rattle.std.proofs.Math.Seq.{take-nil, drop-nil}
use Rattle.std.proofs.lemmas.Bool.{false≢true}
use Rattle.rdf_terms.specs.declared.term.Term.{Term}
use Rattle.rdf_terms.specs.Statement.{Statement}
use Rattle.rdf_terms.specs.Graph.{Graph, triples, ArePlacesOf}
use Rattle.rdf_terms.specs.Vocab.Rdf as rdf
use Rattle.rdf_terms.proofs.Orders.{same_term as equal_terms, term_tied}
use Rattle.rdf_navigation.specs.Values.{same_term, only_value}
use Rattle.rdf_navigation.specs.Lists.{IsListOf, is_blank, members_of, blank_members}
use Rattle.rdf_navigation.proofs.ListLaws.{members_is}
use Rattle.rdf_navigation.proofs.PropertyLaws.{same_some}
use Rattle.property_paths.specs.declared.paths.PathNode.TheVariants.{Sequence}
use Rattle.property_paths.specs.Paths.{node_of_blank}
use Rattle.property_paths.specs.PathTable.{is_pair, node_of_subject}
use Rattle.rdf_terms.proofs.Members.{in_first, in_rest, in_cases}

-- a cell has its first member, and its rest the others
pub cell_of : (test : Term → Bool) (s : Graph) (x a : Term) (ms : List Term) → members_of test s x ≡ Some (a ∷ ms)
    → (only_value s x rdf.first ≡ Some a) × ((r : Term) × (only_value s x rdf.rest ≡ Some r) × (members_of test s r ≡ Some ms))
cell_of test s x a ms e = let l = (members_is test s x (a ∷ ms)).0 e in at l.0 l.1
  where
    at : (cs : List Term) → IsListOf test s x cs (a ∷ ms) → (only_value s x rdf.first ≡ Some a) × ((r : Term) × (only_value s x rdf.rest ≡ Some r) × (members_of test s r ≡ Some ms))
    at [] h = absurd h
    at (c ∷ cs) h = (h.3, (h.4.0, h.4.1, (members_is test s h.4.0 ms).1 (cs, h.4.2)))

two : (n : ℕ) → nat_le 2 (suc (suc n)) ≡ true
two n = grind arith

-- the first two cells of a list of two members or more
pub record Pair (s : Graph) (x : Term) : Type 0 where
  pub first : Term
  pub next : Term
  pub second : Term
  pub more : List Term
  pub listed : blank_members s x ≡ Some (first ∷ second ∷ more)
  pub first_is : only_value s x rdf.first ≡ Some first
  pub next_is : only_value s x rdf.rest ≡ Some next
  pub rest_is : blank_members s next ≡ Some (second ∷ more)
  pub second_is : only_value s next rdf.first ≡ Some second

pub pair_of : (s : Graph) (x : Term) → is_pair s x ≡ true → Pair s x
pair_of s x e = at (blank_members s x) refl e
  where
    cells : (a b : Term) (ms : List Term) → blank_members s x ≡ Some (a ∷ b ∷ ms) → Pair s x
    cells a b ms h =
        let c = cell_of is_blank s x a (b ∷ ms) h in
        let d = cell_of is_blank s c.1.0 b ms c.1.2 in
        record { first = a; next = c.1.0; second = b; more = ms; listed = h; first_is = c.0; next_is = c.1.1; rest_is = c.1.2; second_is = d.0 }

    at : (o : Option (List Term)) → blank_members s x ≡ o → option_map_or (λ ms. nat_le 2 (length ms)) o false ≡ true → Pair s x
    at None h e = absurd (false≢true e)
    at (Some []) h e = absurd (false≢true e)
    at (Some (a ∷ [])) h e = absurd (false≢true e)
    at (Some (a ∷ b ∷ ms)) h e = cells a b ms h

pair_is : (s : Graph) (x : Term) (o : Option (List Term)) → blank_members s x ≡ o → is_pair s x ≡ option_map_or (λ ms. nat_le 2 (length ms)) o false
pair_is s x o e = ap (λ (p : Option (List Term)). option_map_or (λ ms. nat_le 2 (length ms)) p false) e

-- more than two members: the next cell
pub long_sequence : (s : Graph) (x a r : Term) → is_pair s x ≡ true → only_value s x rdf.first ≡ Some a → only_value s x rdf.rest ≡ Some r → is_pair s r ≡ true
    → Some (Sequence a r) ≡ node_of_blank s x (blank_members s x)
long_sequence s x a r p first next q = at (pair_of s x p)
  where
    at : Pair s x → Some (Sequence a r) ≡ node_of_blank s x (blank_members s x)
    at h = more h.more refl
      where
        same_next : h.next ≡ r
        same_next = same_some (sym h.next_is ∙ next)

        same_first : h.first ≡ a
        same_first = same_some (sym h.first_is ∙ first)

        more : (ms : List Term) → h.more ≡ ms → Some (Sequence a r) ≡ node_of_blank s x (blank_members s x)
        more [] e =
            absurd (false≢true (sym (pair_is s r (Some (h.second ∷ [])) (ap (blank_members s) (sym same_next) ∙ h.rest_is ∙ ap (λ (us : List Term). Some (h.second ∷ us)) e)) ∙ q))
        more (c ∷ cs) e =
            ap (λ (u : Term). Some (Sequence u r)) (sym same_first)
            ∙ ap (option_map (λ (u : Term). Sequence h.first u)) (sym next)
            ∙ ap (λ (o : Option (List Term)). node_of_blank s x o) (sym (h.listed ∙ ap (λ (us : List Term). Some (h.first ∷ h.second ∷ us)) e))

-- two members: the other one
pub short_sequence : (s : Graph) (x a r b : Term) → is_pair s x ≡ true → only_value s x rdf.first ≡ Some a → only_value s x rdf.rest ≡ Some r → is_pair s r ≡ false → only_value s r rdf.first ≡ Some b
    → Some (Sequence a b) ≡ node_of_blank s x (blank_members s x)
short_sequence s x a r b p first next q second = at (pair_of s x p)
  where
    at : Pair s x → Some (Sequence a b) ≡ node_of_blank s x (blank_members s x)
    at h = more h.more refl
      where
        same_next : h.next ≡ r
        same_next = same_some (sym h.next_is ∙ next)

        same_first : h.first ≡ a
        same_first = same_some (sym h.first_is ∙ first)

        same_second : h.second ≡ b
        same_second = same_some (sym h.second_is ∙ ap (λ (u : Term). only_value s u rdf.first) same_next ∙ second)

        more : (ms : List Term) → h.more ≡ ms → Some (Sequence a b) ≡ node_of_blank s x (blank_members s x)
        more [] e =
            ap (λ (u : Term). Some (Sequence u b)) (sym same_first) ∙ ap (λ (u : Term). Some (Sequence h.first u)) (sym same_second)
            ∙ ap (λ (o : Option (List Term)). node_of_blank s x o) (sym (h.listed ∙ ap (λ (us : List Term). Some (h.first ∷ h.second ∷ us)) e))
        more (c ∷ cs) e =
            absurd (false≢true (sym q ∙ (pair_is s r (Some (h.second ∷ c ∷ cs)) (ap (blank_members s) (sym same_next) ∙ h.rest_is ∙ ap (λ (us : List Term). Some (h.second ∷ us)) e) ∙ two (length cs))))

-- a shorter list is no path
pub no_sequence : (s : Graph) (x : Term) → is_pair s x ≡ false → is_some (blank_members s x) ≡ true → None ≡ node_of_blank s x (blank_members s x)
no_sequence s x p e = at (blank_members s x) p e
  where
    at : (o : Option (List Term)) → option_map_or (λ ms. nat_le 2 (length ms)) o false ≡ false → is_some o ≡ true → None ≡ node_of_blank s x o
    at None q e = absurd (false≢true e)
    at (Some []) q e = refl
    at (Some (a ∷ [])) q e = refl
    at (Some (a ∷ b ∷ ms)) q e = absurd (false≢true (sym q ∙ two (length ms)))

-- and what is no list goes by its triples
pub not_listed : (s : Graph) (x : Term) → is_some (blank_members s x) ≡ false → node_of_subject s x ≡ node_of_blank s x (blank_members s x)
not_listed s x e = at (blank_members s x) e
  where
    at : (o : Option (List Term)) → is_some o ≡ false → node_of_subject s x ≡ node_of_blank s x o
    at None e = refl
    at (Some ms) e = absurd (false≢true (sym e))

not_true : (b : Bool) → ¬ (b ≡ true) → b ≡ false
not_true true h = absurd (h refl)
not_true false h = refl

-- what passes a test exactly at the places from first on and before after is what stands there
pub filter_range : {X : Type 0} (p : X → Bool) (ts : List X) (first after : ℕ) → first ≤ after
    → ((i : ℕ) (t : X) → slice_get ts i ≡ Some t → (p t ≡ true) ↔ ((first ≤ i) × (i < after)))
    → filter p ts ≡ take (after - first) (drop first ts)
filter_range p [] first after le exact = sym (ap (take (after - first)) (drop-nil first) ∙ take-nil (after - first))
filter_range p (t ∷ ts) zero zero le exact =
    ap (λ b. cond b (t ∷ filter p ts) (filter p ts)) (not_true (p t) (λ h. let n = ((exact 0 t refl).0 h).1 in omega (arith, n)))
    ∙ filter_range p ts 0 0 (omega arith) (λ i u e. (λ h. let n = ((exact (suc i) u e).0 h).1 in absurd (omega (arith, n)), λ r. let n = r.1 in absurd (omega (arith, n))))
filter_range {X} p (t ∷ ts) zero (suc a) le exact =
    let rest : filter p ts ≡ take (a - 0) (drop 0 ts) = filter_range p ts 0 a (omega arith) (λ i u e. (λ h. let n = ((exact (suc i) u e).0 h).1 in (omega arith, omega (arith, n)), λ r. let n = r.1 in (exact (suc i) u e).1 (omega arith, omega (arith, n)))) in
    let here : a - 0 ≡ a = omega arith in
    let whole : suc a ≡ suc a - 0 = omega arith in
    ap (λ b. cond b (t ∷ filter p ts) (filter p ts)) ((exact 0 t refl).1 (omega arith, omega arith))
    ∙ ap (λ (us : List X). t ∷ us) (rest ∙ ap (λ n. take n ts) here) ∙ ap (λ n. take n (t ∷ ts)) whole
filter_range p (t ∷ ts) (suc f) zero le exact = absurd (omega (arith, le))
filter_range {X} p (t ∷ ts) (suc f) (suc a) le exact =
    let rest : filter p ts ≡ take (a - f) (drop f ts) = filter_range p ts f a (omega (arith, le)) (λ i u e. (λ h. let r = (exact (suc i) u e).0 h in let m = r.0 in let n = r.1 in (omega (arith, m), omega (arith, n)), λ r. let m = r.0 in let n = r.1 in (exact (suc i) u e).1 (omega (arith, m), omega (arith, n)))) in
    let same : a - f ≡ suc a - suc f = omega arith in
    ap (λ b. cond b (t ∷ filter p ts) (filter p ts)) (not_true (p t) (λ h. let m = ((exact 0 t refl).0 h).0 in omega (arith, m)))
    ∙ rest ∙ ap (λ n. take n (drop f ts)) same

-- the triples of a subject stand side by side
pub of_subject : (s : Graph) (x : Term) (first after : ℕ) → ArePlacesOf (triples s) x first after → filter (λ (t : Statement). same_term t.subject x) (triples s) ≡ take (after - first) (drop first (triples s))
of_subject s x first after places =
    filter_range (λ (t : Statement). same_term t.subject x) (triples s) first after places.ordered
    (λ i t e. (λ h. (places.exact i t e).0 (equal_terms t.subject x h), λ r. same_from t.subject x ((places.exact i t e).1 r)))
  where
    same_from : (y z : Term) → y ≡ z → same_term y z ≡ true
    same_from y z e = subst (λ (u : Term). same_term y u ≡ true) e (term_tied y)

pub filtered_in : {X : Type 0} (p : X → Bool) (xs : List X) (x : X) → Contains (filter p xs) x → Contains xs x
filtered_in p [] x c = c
filtered_in {X} p (y ∷ ys) x c = at (p y) c (λ d. filtered_in p ys x d)
  where
    here : (y ≡ x) ⊎ Contains (filter p ys) x → (Contains (filter p ys) x → Contains ys x) → Contains (y ∷ ys) x
    here (inl e) later = subst (λ z. Contains (y ∷ ys) z) e (in_first y ys)
    here (inr d) later = in_rest y ys x (later d)

    at : (b : Bool) → Contains (cond b (y ∷ filter p ys) (filter p ys)) x → (Contains (filter p ys) x → Contains ys x) → Contains (y ∷ ys) x
    at true c later = here (in_cases y (filter p ys) x c) later
    at false c later = in_rest y ys x (later c)
