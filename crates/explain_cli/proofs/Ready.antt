-- An input that is in order is not refused.
use Rattle.std.proofs.Common.{◌≡◌, ℕ, inl, inr, List, Some, sym, subst}
use Rattle.rdf_terms.specs.Graph.{Graph, empty}
use Rattle.shapes_profile.specs.declared.refusals.ShapeRefusal.{ShapeRefusal}
use Rattle.shapes_profile.specs.Logic.{IsFirst, NoneOf}
use Rattle.shapes_profile.specs.Profile.{IsInProfile, IsFault}
use Rattle.proof_documents.specs.Document.{Document as Claim}
use Rattle.proof_documents.specs.Applying.{Edits}
use Rattle.proof_documents.proofs.Applied.{not_both}
use Rattle.command_words.specs.declared.words.Command.{Command}
use Rattle.command_words.specs.declared.words.Command.TheVariants.{Validate, Explain, Apply, Check}
use Rattle.document_input.specs.declared.role.Role.TheVariants.{Shapes, Data, Offered}
use Rattle.document_input.specs.declared.refusal.ClaimRefusal.{ClaimRefusal}
use Rattle.document_input.specs.declared.refusal.ClaimRefusal.TheVariants.{NoPair, PairOutside}
use Rattle.rdf_terms.specs.declared.term.Term.{Term}
use Rattle.document_input.specs.declared.refusal.InputRefusal.{InputRefusal}
use Rattle.document_input.specs.declared.refusal.InputRefusal.TheVariants.{Graph as OfGraph, Document as OfDocument, Shapes as OfTheShapes, Claim as OfTheClaim, Literal as OfALiteral}
use Rattle.document_input.proofs.Errors.{graph_in_order, claim_in_order}
use Rattle.document_input.proofs.Unrefused.{one_graph, one_claim, AreInOrder, documents_unrefused}
use Rattle.explain_cli.specs.Input.{Contents, documents_of, AreGraphsOf, AreComparable, IsValidationInput, IsUnfitInput, Names, names, Graphs, AreHeld, IsInput, AreApplied, IsUnfitFor, AreJudged, IsCheckInput, Refuses}

validate_in_order : (s p : List ℕ) (held : Contents) (t g : Graph) → AreGraphsOf s p held t g → AreInOrder held (documents_of (Validate s p))
validate_in_order s p held t g reads = (graph_in_order (Some held) Shapes s t reads.shapes, (graph_in_order (Some held) Data p g reads.present, tt))

explain_in_order : (n : Names) (budget : ℕ) (held : Contents) (g : Graphs) → AreHeld n held g → AreInOrder held (documents_of (Explain n.shapes n.present n.offered budget))
explain_in_order n budget held g reads =
    (graph_in_order (Some held) Shapes n.shapes g.shapes reads.shapes, (graph_in_order (Some held) Data n.present g.present reads.present, (graph_in_order (Some held) Offered n.offered g.offered reads.offered, tt)))

apply_in_order : (p d : List ℕ) (held : Contents) (g : Graph) (claim : Claim) → AreApplied p d held g claim → AreInOrder held (documents_of (Apply p d))
apply_in_order p d held g claim reads = (graph_in_order (Some held) Data p g reads.present, (claim_in_order (Some held) d claim reads.claimed, tt))

check_in_order : (n : Names) (d : List ℕ) (held : Contents) (g : Graphs) (claim : Claim) → AreJudged n d held g claim → AreInOrder held (documents_of (Check n.shapes n.present n.offered d))
check_in_order n d held g claim reads = (
  graph_in_order (Some held) Shapes n.shapes g.shapes reads.graphs.shapes,
  (
    graph_in_order (Some held) Data n.present g.present reads.graphs.present,
    (graph_in_order (Some held) Offered n.offered g.offered reads.graphs.offered, (claim_in_order (Some held) d claim reads.claimed, tt)),
  ),
)

-- the input is that of one list of graphs
pub one_input : (n : Names) (held : Contents) (g h : Graphs) → AreHeld n held g → AreHeld n held h → g ≡ h
one_input n held g h a b =
    let s = one_graph Shapes _ n.shapes g.shapes h.shapes a.shapes b.shapes in
    let p = one_graph Data _ n.present g.present h.present a.present b.present in
    let o = one_graph Offered _ n.offered g.offered h.offered a.offered b.offered in
    λ i. record { shapes = s i; present = p i; offered = o i }

-- a graph in the profile has no cause why it isn't
unflawed : (s : Graph) (f : ShapeRefusal) → IsInProfile s → IsFault s f → ⊥
unfolding IsFault
unflawed s f h fault =
    elim fault [
      | inl k ↦ nowhere h.supported k.1
      | inr k ↦ elim k.1 [
        | inl k ↦ nowhere h.well_formed k.1
        | inr k ↦ elim k.1 [
          | inl k ↦ nowhere h.not_recursive k.1
          | inr k ↦ elim k.1 [ inl k ↦ nowhere h.paths_fit k.1 | inr k ↦ elim k.1 [ inl k ↦ nowhere h.shapes_fit k.1 | inr k ↦ k.1 ] ]
        ]
      ]
    ]
  where
    nowhere : {P : Term → Type 0} {xs : List Term} {x : Term} → NoneOf P xs → IsFirst P xs x → ⊥
    nowhere {P} {xs} {x} none first = none first.place x first.there first.own

-- graphs that can be judged are fit
valid_fits : (s g o : Graph) (refusal : InputRefusal) → IsInProfile s → AreComparable s g o → IsUnfitInput s g o refusal → ⊥
valid_fits s g o (OfTheShapes reason) profile comparable unfit = unflawed s unfit.0 profile unfit.1
valid_fits s g o (OfALiteral y) profile comparable unfit = comparable y unfit.1.compared unfit.1.out_of_reach
valid_fits s g o (OfGraph role reason) profile comparable unfit = unfit
valid_fits s g o (OfDocument reason) profile comparable unfit = unfit
valid_fits s g o (OfTheClaim reason) profile comparable unfit = unfit

-- the graphs that a command validates are those of one shapes graph and one data graph
pub one_validated : (s p : List ℕ) (held : Contents) (t g u h : Graph) → AreGraphsOf s p held t g → AreGraphsOf s p held u h → (t ≡ u) × (g ≡ h)
one_validated s p held t g u h a b = (one_graph Shapes (held s) s t u a.shapes b.shapes, one_graph Data (held p) p g h a.present b.present)

-- a claim that edits the data can be applied to it
fits : (g : Graph) (claim : Claim) (made : Graph) (reason : ClaimRefusal) → Edits g claim made → IsUnfitFor g claim reason → ⊥
fits g claim made NoPair edits fault = fault edits.claimed
fits g claim made (PairOutside number) edits fault = not_both g claim made number edits fault

-- the claim can be applied to the data
pub record IsFit (p d : List ℕ) (held : Contents) : Type 0 where
  pub present : Graph
  pub claim : Claim
  pub documents : AreApplied p d held present claim
  pub made : Graph
  pub edits : Edits present claim made

-- the input of a command is in order
abbrev pub IsReady : Command → Contents → Type 0
IsReady (Validate s p) held = (t : Graph) × (g : Graph) × IsValidationInput s p held t g
IsReady (Explain s p o n) held = (g : Graphs) × IsInput (names s p o) held g
IsReady (Apply p d) held = IsFit p d held
IsReady (Check s p o d) held = (g : Graphs) × (claim : Claim) × IsCheckInput (names s p o) d held g claim

pub ready_unrefused : (command : Command) (held : Contents) → IsReady command held → Refuses command held → ⊥
ready_unrefused (Validate s p) held ready refuses =
    elim refuses.1 [
      | inl first ↦ documents_unrefused (documents_of (Validate s p)) held refuses.0 (validate_in_order s p held ready.0 ready.1 ready.2.documents) first
      | inr behind ↦
          let same = one_validated s p held ready.0 ready.1 behind.shapes behind.present ready.2.documents behind.documents in
          let unfit = subst (λ (t : Graph). IsUnfitInput t ready.1 empty refuses.0) (sym same.0) (subst (λ (g : Graph). IsUnfitInput behind.shapes g empty refuses.0) (sym same.1) behind.unfit) in
          valid_fits ready.0 ready.1 empty refuses.0 ready.2.profile ready.2.comparable unfit
    ]
ready_unrefused (Explain s p o n) held ready refuses =
    elim refuses.1 [
      | inl first ↦ documents_unrefused (documents_of (Explain s p o n)) held refuses.0 (explain_in_order (names s p o) n held ready.0 ready.1.documents) first
      | inr behind ↦
          let same = one_input (names s p o) held ready.0 behind.graphs ready.1.documents behind.documents in
          let unfit = subst (λ (g : Graphs). IsUnfitInput g.shapes g.present g.offered refuses.0) (sym same) behind.unfit in
          valid_fits ready.0.shapes ready.0.present ready.0.offered refuses.0 ready.1.profile ready.1.comparable unfit
    ]
ready_unrefused (Apply p d) held ready refuses =
    elim refuses.1 [
      | inl first ↦ documents_unrefused (documents_of (Apply p d)) held refuses.0 (apply_in_order p d held ready.present ready.claim ready.documents) first
      | inr behind ↦
          let same_graph = one_graph Data (held p) p ready.present behind.present ready.documents.present behind.documents.present in
          let same_claim = one_claim (held d) ready.claim behind.claim ready.documents.claimed behind.documents.claimed in
          let fault = subst (λ (c : Claim). IsUnfitFor ready.present c behind.reason) (sym same_claim) (subst (λ (g : Graph). IsUnfitFor g behind.claim behind.reason) (sym same_graph) behind.unfit) in
          fits ready.present ready.claim ready.made behind.reason ready.edits fault
    ]
ready_unrefused (Check s p o d) held ready refuses =
    elim refuses.1 [
      | inl first ↦ documents_unrefused (documents_of (Check s p o d)) held refuses.0 (check_in_order (names s p o) d held ready.0 ready.1 ready.2.documents) first
      | inr behind ↦
          let same = one_input (names s p o) held ready.0 behind.graphs ready.2.documents.graphs behind.documents.graphs in
          let unfit = subst (λ (g : Graphs). IsUnfitInput g.shapes g.present g.offered refuses.0) (sym same) behind.unfit in
          valid_fits ready.0.shapes ready.0.present ready.0.offered refuses.0 ready.2.profile ready.2.comparable unfit
    ]
