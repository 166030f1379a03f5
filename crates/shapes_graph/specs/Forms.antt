-- The kinds of constraints in few forms, by what they ask of each value node and of all together.
use Rattle.std.specs.Prelude.{ℕ, Bool, List}
use Rattle.rdf_terms.specs.declared.term.Term.{Term}
use Rattle.datatypes.specs.Literals.{meets_min_exclusive, meets_min_inclusive, meets_max_exclusive, meets_max_inclusive}
use Rattle.rdf_navigation.specs.Values.{among}
use Rattle.shapes_graph.specs.NodeTests.{is_of_datatype, is_of_kind, is_long_enough, is_short_enough, has_language}
use Rattle.shapes_graph.specs.declared.constraints.Kind.{Kind}
use Rattle.shapes_graph.specs.declared.constraints.Kind.TheVariants as kind

-- what a value node is asked
pub data Test : Type 0 where
  Anything : Test
  Passes : (Term → Bool) → Test  -- by itself
  IsA : Term → Test  -- to be a SHACL instance of the class
  NotObject : List ℕ → Test  -- to be no object of the focus node and this predicate
  Conforming : ℕ → Test
  Failing : ℕ → Test
  AllOf : List ℕ → Test
  SomeOfThese : List ℕ → Test
  OneOf : List ℕ → Test
  Counted : ℕ → List ℕ → Test  -- to conform to the shape and to no sibling

-- what is asked of all value nodes together
pub data Form : Type 0 where
  Every : Test → Form  -- that none fails the test
  Nested : ℕ → Form  -- that none fails the property shape
  -- where it is closed, that there is no triple with a value node as subject and a predicate that isn't allowed
  Closing : Bool → List Term → Form
  Least : ℕ → Test → Form  -- that at least so many pass the test
  Most : ℕ → Test → Form  -- that at most so many do
  Having : Term → Form  -- that the term is among them
  Same : List ℕ → Form  -- that they are the objects of the focus node and this predicate
  Unique : Bool → Form  -- that no language tag comes twice

abbrev pub form_of : Kind → Form
form_of (kind.Class c) = Every (IsA c)
form_of (kind.Datatype d) = Every (Passes (is_of_datatype d))
form_of (kind.NodeKind k) = Every (Passes (is_of_kind k))
form_of (kind.MinExclusive b) = Every (Passes (meets_min_exclusive b))
form_of (kind.MinInclusive b) = Every (Passes (meets_min_inclusive b))
form_of (kind.MaxExclusive b) = Every (Passes (meets_max_exclusive b))
form_of (kind.MaxInclusive b) = Every (Passes (meets_max_inclusive b))
form_of (kind.MinLength n) = Every (Passes (is_long_enough n))
form_of (kind.MaxLength n) = Every (Passes (is_short_enough n))
form_of (kind.LanguageIn ts) = Every (Passes (has_language ts))
form_of (kind.In ts) = Every (Passes (among ts))
form_of (kind.Not u) = Every (Failing u)
form_of (kind.Node u) = Every (Conforming u)
form_of (kind.And us) = Every (AllOf us)
form_of (kind.Or us) = Every (SomeOfThese us)
form_of (kind.Xone us) = Every (OneOf us)
form_of (kind.Property u) = Nested u
form_of (kind.Closed on allowed) = Closing on allowed
form_of (kind.Disjoint q) = Every (NotObject q)
form_of (kind.Equals q) = Same q
form_of (kind.HasValue o) = Having o
form_of (kind.UniqueLang on) = Unique on
form_of (kind.MinCount n) = Least n Anything
form_of (kind.MaxCount n) = Most n Anything
form_of (kind.QualifiedMinCount n u us) = Least n (Counted u us)
form_of (kind.QualifiedMaxCount n u us) = Most n (Counted u us)
