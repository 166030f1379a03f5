-- What a document does to data.
use Rattle.std.specs.Prelude.{◌≡◌, ◌≢◌, ℕ, ◌+◌, Bool, true, false, List, ◌∷◌, ◌++◌, length, map, Result, Ok, Err}
use Rattle.std.specs.List.{All}
use Rattle.rdf_terms.specs.Statement.{Statement}
use Rattle.rdf_terms.specs.Graph.{Graph, has, of_list, edited}
use Rattle.proof_lines.specs.declared.proof.Claim.TheVariants.{Pair}
use Rattle.proof_documents.specs.declared.refusal.ApplyRefusal.{ApplyRefusal}
use Rattle.proof_documents.specs.declared.refusal.ApplyRefusal.TheVariants.{NoPair, OutsideData, OutOfMemory}
use Rattle.proof_documents.specs.Document.{Document}

-- a line of a claimed pair: a triple that is to be added, or one that is to be deleted
pub record Change : Type 0 where
  pub adding : Bool
  pub triple : Statement

-- in the order of their lines
abbrev pub changes : Document → List Change
changes d =
    map (λ t. record { adding = true; triple = t }) d.adds
    ++ map (λ t. record { adding = false; triple = t }) d.deletes

-- an added triple is not in the data, and a deleted one is
abbrev pub FitsIn : Bool → Graph → Statement → Type 0
FitsIn true g t = has g t ≡ false
FitsIn false g t = has g t ≡ true

abbrev pub Fits : Graph → Change → Type 0
Fits g c = FitsIn c.adding g c.triple

-- The first change that does not fit stands on this line. Those of a claimed pair stand from line 3 on.
pub record IsOutside (g : Graph) (d : Document) (number : ℕ) : Type 0 where
  pub before : List Change
  pub change : Change
  pub after : List Change
  pub parts : changes d ≡ before ++ change ∷ after
  pub fit : All (Fits g) before
  pub unfit : ¬ (Fits g change)
  pub count : number ≡ length before + 3

-- the document claims a pair that the data has room for, and this is the edited graph
pub record Edits (g : Graph) (d : Document) (made : Graph) : Type 0 where
  pub claimed : d.proof.claim ≡ Pair
  pub fit : All (Fits g) (changes d)
  pub is : made ≡ edited g (of_list d.adds) (of_list d.deletes)

-- the document claims a pair, and its first change that does not fit stands on this line
pub record IsUnfit (g : Graph) (d : Document) (number : ℕ) : Type 0 where
  pub claimed : d.proof.claim ≡ Pair
  pub first : IsOutside g d number

-- the edited graph, or why there is none; want of memory says nothing
abbrev pub Applies : Graph → Document → Result Graph ApplyRefusal → Type 0
Applies g d (Ok made) = Edits g d made
Applies g d (Err NoPair) = d.proof.claim ≢ Pair
Applies g d (Err (OutsideData number)) = IsUnfit g d number
Applies g d (Err OutOfMemory) = Unit {0}
