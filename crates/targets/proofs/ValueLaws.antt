-- The predicates of targets are IRIs in the profile.
use Rattle.std.proofs.Common.{◌≡◌, ℕ, Bool, true, false, not, inl, inr, Some, Contains, refl, ap, ◌∙◌, lit<}
use Rattle.std.specs.List.{list_any}
use Rattle.std.proofs.lemmas.Bool.{false≢true}
use Rattle.rdf_terms.specs.declared.term.Term.{Term}
use Rattle.rdf_terms.specs.declared.term.Term.TheVariants.{Iri, Blank, Literal}
use Rattle.rdf_terms.specs.Statement.{is_iri}
use Rattle.rdf_terms.specs.Graph.{Graph}
use Rattle.rdf_terms.specs.Members.{InGraph}
use Rattle.rdf_terms.specs.Vocab.Sh as sh
use Rattle.rdf_terms.proofs.Values.{IsListOf-objects}
use Rattle.rdf_navigation.specs.Values.{values}
use Rattle.rdf_navigation.proofs.PropertyLaws.{in_any}
use Rattle.shapes_profile.specs.declared.properties.Row.{Row}
use Rattle.shapes_profile.specs.declared.properties.Property.TheVariants.{TargetNode, TargetClass, TargetSubjectsOf, TargetObjectsOf}
use Rattle.shapes_profile.specs.declared.properties.Expected.TheVariants as value
use Rattle.shapes_profile.specs.Properties.{row, table, iri_of}
use Rattle.shapes_profile.specs.IllFormed.{rules, Breaks, IsIllFormed, has_other_value, is_expected}
use Rattle.shapes_profile.specs.Profile.{IsInProfile}
use Rattle.shapes_profile.specs.Shapes.{shape_at}
use Rattle.shapes_graph.specs.PathForms.{text_of}

other_value : (s : Graph) (x : Term) → has_other_value s x ≡ true → IsIllFormed s x
unfolding Breaks rules
other_value s x h = (8, inr (inr (inr (inr (inr (inr (inr (inl (refl, h)))))))))

abbrev pub node_row : Row
node_row = row TargetNode value.IriOrLiteral false false

abbrev pub class_row : Row
class_row = row TargetClass value.Iri false false

abbrev pub subjects_row : Row
subjects_row = row TargetSubjectsOf value.Iri false false

abbrev pub objects_row : Row
objects_row = row TargetObjectsOf value.Iri false false

pub node_row_there : Contains table node_row
unfolding table
node_row_there = (32, lit< tt, refl)

pub class_row_there : Contains table class_row
unfolding table
class_row_there = (33, lit< tt, refl)

pub subjects_row_there : Contains table subjects_row
unfolding table
subjects_row_there = (34, lit< tt, refl)

pub objects_row_there : Contains table objects_row
unfolding table
objects_row_there = (35, lit< tt, refl)

-- a value of a property with such a row
iri_value : (s : Graph) (x q : Term) (r : Row) → Contains table r → r.value ≡ value.Iri → (IsIllFormed s x → ⊥) → InGraph s x (iri_of r.property) q → is_iri q ≡ true
iri_value s x q r there iris fine h = at (is_iri q) refl
  where
    at : (b : Bool) → is_iri q ≡ b → b ≡ true
    at true e = refl
    at false e =
        let wrong : not (is_expected s r.value q) ≡ true = ap (λ v. not (is_expected s v q)) iris ∙ ap not e in
        absurd (fine (other_value s x (in_any (λ r. list_any (λ y. not (is_expected s r.value y)) (values s x (iri_of r.property))) table r there
        (in_any (λ y. not (is_expected s r.value y)) (values s x (iri_of r.property)) q ((IsListOf-objects s x (iri_of r.property) q).1 h) wrong))))

-- an IRI is that of its text
pub own_text : (q : Term) → is_iri q ≡ true → Iri (text_of q) ≡ q
own_text (Iri i) e = refl
own_text (Blank s l) e = absurd (false≢true e)
own_text (Literal l d t) e = absurd (false≢true e)

module _ (s : Graph) (profile : IsInProfile s) (n : ℕ) (shape : Term) (at : shape_at s n ≡ Some shape) where
  fine : IsIllFormed s shape → ⊥
  fine h = profile.well_formed n shape at h

  pub subjects_iri : (q : Term) → InGraph s shape sh.target_subjects_of q → Iri (text_of q) ≡ q
  subjects_iri q h = own_text q (iri_value s shape q subjects_row subjects_row_there refl fine h)

  pub objects_iri : (q : Term) → InGraph s shape sh.target_objects_of q → Iri (text_of q) ≡ q
  objects_iri q h = own_text q (iri_value s shape q objects_row objects_row_there refl fine h)
