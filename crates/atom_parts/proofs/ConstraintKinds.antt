-- Which kinds of constraints are of a form.
use Rattle.std.proofs.Common.{◌≡◌, ◌⊎◌, inl, inr, ℕ, ◌<◌, ◌≤◌, List, length, Option, Some, None, refl, subst, arith}
use Rattle.rdf_terms.specs.Graph.{Graph, triples}
use Rattle.shapes_graph.specs.Constraints.{constraint_at}
use Rattle.shapes_graph.specs.declared.constraints.Constraint.{Constraint}
use Rattle.shapes_graph.specs.declared.constraints.Kind.{Kind}
use Rattle.shapes_graph.specs.declared.constraints.Kind.TheVariants as kind
use Rattle.core_constraints.proofs.Ranked.{constraint_place}
use Rattle.shapes_graph.specs.Forms.{Test, Anything, NotObject, OneOf, Counted, Form, Every, Least, Most, form_of}

-- one of several shapes
pub xone_kind : (k : Kind) (us : List ℕ) → form_of k ≡ Every (OneOf us) → k ≡ kind.Xone us
xone_kind (kind.Xone vs) us e = cc
xone_kind (kind.Class c) us e = cc
xone_kind (kind.Datatype d) us e = cc
xone_kind (kind.NodeKind k) us e = cc
xone_kind (kind.MinExclusive b) us e = cc
xone_kind (kind.MinInclusive b) us e = cc
xone_kind (kind.MaxExclusive b) us e = cc
xone_kind (kind.MaxInclusive b) us e = cc
xone_kind (kind.MinLength n) us e = cc
xone_kind (kind.MaxLength n) us e = cc
xone_kind (kind.LanguageIn ts) us e = cc
xone_kind (kind.In ts) us e = cc
xone_kind (kind.Not u) us e = cc
xone_kind (kind.Node u) us e = cc
xone_kind (kind.And vs) us e = cc
xone_kind (kind.Or vs) us e = cc
xone_kind (kind.Property u) us e = cc
xone_kind (kind.Closed on al) us e = cc
xone_kind (kind.Disjoint q) us e = cc
xone_kind (kind.Equals q) us e = cc
xone_kind (kind.HasValue o) us e = cc
xone_kind (kind.UniqueLang on) us e = cc
xone_kind (kind.MinCount n) us e = cc
xone_kind (kind.MaxCount n) us e = cc
xone_kind (kind.QualifiedMinCount n u vs) us e = cc
xone_kind (kind.QualifiedMaxCount n u vs) us e = cc

-- what is counted passes any test, or that of a shape and its siblings
abbrev pub IsCounting : Test → Type 0
IsCounting Anything = Unit {0}
IsCounting (Counted u us) = Unit {0}
IsCounting _ = ⊥

counting_of : {t r : Test} → r ≡ t → IsCounting r → IsCounting t
counting_of e h = subst IsCounting e h

pub least_kind : (k : Kind) (n : ℕ) (t : Test) → (form_of k ≡ Least n t) ⊎ (form_of k ≡ Most n t) → IsCounting t
least_kind (kind.MinCount m) n t (inl e) = let r : Anything ≡ t = cc in counting_of r tt
least_kind (kind.MaxCount m) n t (inr e) = let r : Anything ≡ t = cc in counting_of r tt
least_kind (kind.QualifiedMinCount m u us) n t (inl e) = let r : Counted u us ≡ t = cc in counting_of r tt
least_kind (kind.QualifiedMaxCount m u us) n t (inr e) = let r : Counted u us ≡ t = cc in counting_of r tt
least_kind (kind.Class c) n t (inl e) = cc
least_kind (kind.Class c) n t (inr e) = cc
least_kind (kind.Datatype d) n t (inl e) = cc
least_kind (kind.Datatype d) n t (inr e) = cc
least_kind (kind.NodeKind v) n t (inl e) = cc
least_kind (kind.NodeKind v) n t (inr e) = cc
least_kind (kind.MinExclusive b) n t (inl e) = cc
least_kind (kind.MinExclusive b) n t (inr e) = cc
least_kind (kind.MinInclusive b) n t (inl e) = cc
least_kind (kind.MinInclusive b) n t (inr e) = cc
least_kind (kind.MaxExclusive b) n t (inl e) = cc
least_kind (kind.MaxExclusive b) n t (inr e) = cc
least_kind (kind.MaxInclusive b) n t (inl e) = cc
least_kind (kind.MaxInclusive b) n t (inr e) = cc
least_kind (kind.MinLength v) n t (inl e) = cc
least_kind (kind.MinLength v) n t (inr e) = cc
least_kind (kind.MaxLength v) n t (inl e) = cc
least_kind (kind.MaxLength v) n t (inr e) = cc
least_kind (kind.LanguageIn ts) n t (inl e) = cc
least_kind (kind.LanguageIn ts) n t (inr e) = cc
least_kind (kind.In ts) n t (inl e) = cc
least_kind (kind.In ts) n t (inr e) = cc
least_kind (kind.Not u) n t (inl e) = cc
least_kind (kind.Not u) n t (inr e) = cc
least_kind (kind.Node u) n t (inl e) = cc
least_kind (kind.Node u) n t (inr e) = cc
least_kind (kind.And vs) n t (inl e) = cc
least_kind (kind.And vs) n t (inr e) = cc
least_kind (kind.Or vs) n t (inl e) = cc
least_kind (kind.Or vs) n t (inr e) = cc
least_kind (kind.Xone vs) n t (inl e) = cc
least_kind (kind.Xone vs) n t (inr e) = cc
least_kind (kind.Property u) n t (inl e) = cc
least_kind (kind.Property u) n t (inr e) = cc
least_kind (kind.Closed on al) n t (inl e) = cc
least_kind (kind.Closed on al) n t (inr e) = cc
least_kind (kind.Disjoint q) n t (inl e) = cc
least_kind (kind.Disjoint q) n t (inr e) = cc
least_kind (kind.Equals q) n t (inl e) = cc
least_kind (kind.Equals q) n t (inr e) = cc
least_kind (kind.HasValue o) n t (inl e) = cc
least_kind (kind.HasValue o) n t (inr e) = cc
least_kind (kind.UniqueLang on) n t (inl e) = cc
least_kind (kind.UniqueLang on) n t (inr e) = cc
least_kind (kind.MinCount m) n t (inr e) = cc
least_kind (kind.QualifiedMinCount m u us) n t (inr e) = cc
least_kind (kind.MaxCount m) n t (inl e) = cc
least_kind (kind.QualifiedMaxCount m u us) n t (inl e) = cc

-- past the triples there is no constraint
pub no_constraint : (s : Graph) (i : ℕ) → length (triples s) ≤ i → constraint_at s i ≡ None
no_constraint s i l = at (constraint_at s i) refl
  where
    at : (o : Option Constraint) → constraint_at s i ≡ o → o ≡ None
    at None e = refl
    at (Some c) e = let m = constraint_place s i c e in absurd (omega (arith, l, m))
