-- What an edit of data by a document says: that it is no refusal, and that the edited graph is lawful where the data is.
use Rattle.std.proofs.Common.{◌≡◌, ◌≢◌, ℕ, Bool, true, false, not, ◌&&◌, ◌||◌, ◌⊎◌, inl, inr, IsTrue, List, ◌∷◌, ◌++◌, refl, sym, subst, ◌∙◌}
use Rattle.std.specs.List.{All, Contains}
use Rattle.std.proofs.lemmas.List.Elements.{All-contains, All-head, All-same, All-weaker, Contains-append_right, All-contains_itself}
use Rattle.rdf_terms.specs.declared.term.Scope.TheVariants.{Data}
use Rattle.rdf_terms.specs.Statement.{Statement}
use Rattle.rdf_terms.specs.Graph.{Graph, has, of_list, edited}
use Rattle.rdf_terms.proofs.GraphLaws.{has-edited, item_of_has_list}
use Rattle.rdf_grammar.specs.Lawful.{IsLawfulTriple}
use Rattle.ntriples_io.specs.CanonicalText.{line_text}
use Rattle.ntriples_io.specs.Text.{AreLawful}
use Rattle.ntriples_io.specs.RoundTrip.{HasScope, IsTripleInScope}
use Rattle.ntriples_io.proofs.ScopedText.{spelled_lawful, spelled_scoped}
use Rattle.proof_lines.specs.declared.proof.Claim.TheVariants.{Pair}
use Rattle.proof_documents.specs.Document.{Document, IsSpelled, IsWellFormed}
use Rattle.proof_documents.specs.Applying.{changes, Fits, IsOutside, Edits, IsUnfit}

-- a list of fitting changes has none that does not fit
no_outside : (g : Graph) (d : Document) (number : ℕ) → All (Fits g) (changes d) → IsOutside g d number → ⊥
no_outside g d number fit out =
    let each : All (Fits g) (out.before ++ out.change ∷ out.after) = All-same (Fits g) (out.before ++ out.change ∷ out.after) (changes d) (sym out.parts) fit in
    let own = All-contains_itself (out.change ∷ out.after) in
    out.unfit (All-contains (Fits g) (out.before ++ out.change ∷ out.after) out.change each (Contains-append_right out.before (out.change ∷ out.after) out.change (All-head (Contains (out.change ∷ out.after)) out.change out.after own)))

-- what is edited claims a pair
pub claims_pair : (g : Graph) (d : Document) (made : Graph) → Edits g d made → d.proof.claim ≢ Pair → ⊥
claims_pair g d made edits other = other edits.claimed

-- and each of its changes fits
pub not_both : (g : Graph) (d : Document) (made : Graph) (number : ℕ) → Edits g d made → IsUnfit g d number → ⊥
not_both g d made number edits unfit = no_outside g d number edits.fit unfit.first

-- a triple of the edited graph is one of the data or an added one
from_either : (g deleted : Graph) (adds : List Statement) (t : Statement) → IsTrue (has (edited g (of_list adds) deleted) t) → IsTrue (has g t) ⊎ IsTrue (has (of_list adds) t)
from_either g deleted adds t h = by (has g t) (not (has deleted t)) (has (of_list adds) t) (sym (has-edited g (of_list adds) deleted t) ∙ h)
  where
    by : (mine kept theirs : Bool) → ((mine && kept) || theirs) ≡ true → (mine ≡ true) ⊎ (theirs ≡ true)
    by true kept theirs e = inl refl
    by false kept theirs e = inr e

-- what holds of each triple of the data and of each that is added holds of each of the edited graph
each_edited : (P : Statement → Type 0) (g : Graph) (d : Document) (made : Graph) → Edits g d made → ((t : Statement) → IsTrue (has g t) → P t) → All P d.adds → (t : Statement) → IsTrue (has made t) → P t
each_edited P g d made edits old new t h =
    elim (from_either g (of_list d.deletes) d.adds t (subst (λ (x : Graph). IsTrue (has x t)) edits.is h)) [
      | inl mine ↦ old t mine
      | inr theirs ↦ All-contains P d.adds t new (item_of_has_list d.adds t theirs)
    ]

pub edited_lawful : (g : Graph) (d : Document) (made : Graph) → IsWellFormed d → Edits g d made → AreLawful g → HasScope Data g → AreLawful made × HasScope Data made
edited_lawful g d made formed edits lawful scoped = (
  each_edited IsLawfulTriple g d made edits lawful (All-weaker IsSpelled IsLawfulTriple (λ t h. spelled_lawful Data (line_text t) t h) d.adds formed.adds_spelled),
  each_edited (IsTripleInScope Data) g d made edits scoped (All-weaker IsSpelled (IsTripleInScope Data) (λ t h. let k = spelled_scoped Data (line_text t) t h in k.in_scope) d.adds formed.adds_spelled),
)
