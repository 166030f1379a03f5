-- What a proof that was found for graphs says of them.
use Rattle.std.proofs.Common.{◌≡◌, ℕ, ◌≤◌, ◌⊎◌, inl, inr, Bool, true, false, not, ◌&&◌, IsTrue, List, [], ◌∷◌, ◌++◌, Option, None, Some, IfSome, refl, sym, ap, ◌∙◌, subst}
use Rattle.std.specs.List.{All}
use Rattle.std.proofs.lemmas.List.Elements.{All-nil, All-push}
use Rattle.rdf_terms.specs.declared.term.Scope.TheVariants.{Data as OfData}
use Rattle.rdf_terms.specs.Statement.{Statement}
use Rattle.rdf_terms.specs.Graph.{Graph, has, of_list, without}
use Rattle.rdf_terms.proofs.GraphLaws.{has-without}
use Rattle.ntriples_io.specs.RoundTrip.{HasScope}
use Rattle.ntriples_io.specs.Text.{AreLawful}
use Rattle.shapes_graph.specs.Conformance.{Conforms}
use Rattle.shapes_profile.specs.Profile.{IsInProfile}
use Rattle.repair_problem.specs.declared.atom.Atom.{Atom}
use Rattle.repair_problem.specs.Repair.{Minimal, NoneExplains}
use Rattle.repair_problem.specs.Setting.{Setting}
use Rattle.repair_problem.specs.Changes.{AreCandidates}
use Rattle.proof_lines.specs.declared.proof.Claim.{Claim}
use Rattle.proof_lines.specs.declared.proof.Claim.TheVariants as claim
use Rattle.proof_lines.specs.declared.proof.ProofLine.{ProofLine}
use Rattle.proof_lines.specs.declared.proof.ProofLine.TheVariants as line
use Rattle.proof_lines.specs.declared.proof.Proof.{Proof}
use Rattle.proof_documents.specs.DocumentText.{document_text}
use Rattle.proof_documents.specs.Text.{IsDocument}
use Rattle.repair_problem.specs.declared.atom.Literal.{Literal}
use Rattle.proof_lines.specs.declared.rule.RuleName.{RuleName}
use Rattle.premise_rules.specs.declared.clause.Clause.TheVariants.{Literals}
use Rattle.premise_rules.specs.RuleClauses.{rule_clause}
use Rattle.premise_rules.specs.Documents.{Lines, no_lines, with_pair, with_clause, Leads, AnyStep, IsFreshStep, IsAccepted}
use Rattle.certificates.specs.Checks.{IsAcceptedDocument}
use Rattle.certificates.specs.Shown.{IsTrueClaim, IsShown}
use Rattle.certificates.specs.Steps.{AreAtomsIn, AreRuleAtomsIn}
use Rattle.certificates.specs.Writing.{pair_behind, pair_of, claimed_pair, document_of, IsSpellable, IsWritable}
use Rattle.shrink_pair.specs.Explanations.{IsExplanation}
use Rattle.explain_cli.specs.declared.report.Report.{Report}
use Rattle.explain_cli.specs.declared.status.Status.{Status}
use Rattle.explain_cli.specs.declared.status.Status.TheVariants.{Done, No, Spent}
use Rattle.explain_cli.specs.Answer.{IsOneOf}
use Rattle.explain_cli.specs.Commands.{status_of_claim, IsExplanationReport}
use Rattle.explain_cli.specs.Explanations.{IsWithinBound, WritesProof, FindsPair, FindsNone, SpendsBudget, IsExplained}
use Rattle.explain_cli.specs.Input.{AreComparable, graphs_of, setting_of}
use Rattle.explain_cli.specs.Reports.{answer}
use Rattle.explain_cli.proofs.NamedAtoms.{rule_atoms_in}

-- ---- the lines of a proof

-- the list has each atom of the clause of each rule, whatever candidates the pairs of the chain have
abbrev AreInRules : Setting → List Atom → Type 0
AreInRules s atoms = (chain : List (List ℕ)) (name : RuleName) (numbers : List ℕ) (c : List Literal) → All (AreCandidates s) chain → rule_clause s chain name numbers ≡ Literals c → AreAtomsIn atoms c

module _ (s : Setting) (Step : List (List Literal) → List Literal → Type 0) where
  -- the last pair of the chain has candidates alone
  pair_candidates : (above : Lines) (lines : List ProofLine) (below : Lines) (before : Option (List ℕ)) → IfSome before (AreCandidates s) → Leads s Step above lines below → IfSome (pair_behind before lines) (AreCandidates s)
  pair_candidates above [] below before first leads = first
  pair_candidates above (line.Chain pair ∷ rest) below before first leads = pair_candidates (with_pair above pair) rest below (Some pair) leads.0.explains.within leads.1
  pair_candidates above (line.Rule rule ∷ rest) below before first leads = pair_candidates (with_clause above leads.0) rest below before first leads.2
  pair_candidates above (line.Step ids ∷ rest) below before first leads = pair_candidates (with_clause above leads.0) rest below before first leads.3

  -- the atoms of the rules of a proof are among those of all rules
  rule_atoms : (atoms : List Atom) → AreInRules s atoms → (above : Lines) (lines : List ProofLine) (below : Lines) → All (AreCandidates s) above.chain → Leads s Step above lines below → AreRuleAtomsIn s atoms above.chain lines
  rule_atoms atoms every above [] below chain leads = tt
  rule_atoms atoms every above (line.Chain pair ∷ rest) below chain leads =
      rule_atoms atoms every (with_pair above pair) rest below (All-push (AreCandidates s) above.chain pair chain leads.0.explains.within) leads.1
  rule_atoms atoms every above (line.Rule rule ∷ rest) below chain leads =
      (λ c e. every above.chain rule.name rule.numbers c chain e, rule_atoms atoms every (with_clause above leads.0) rest below chain leads.2)
  rule_atoms atoms every above (line.Step ids ∷ rest) below chain leads = rule_atoms atoms every (with_clause above leads.0) rest below chain leads.3

pub claimed_candidates : (s : Setting) (budget : ℕ) (proof : Proof) → IsExplanation s budget proof → IfSome (claimed_pair proof) (AreCandidates s)
claimed_candidates s budget proof found = by proof.claim
  where
    by : (c : Claim) → IfSome (pair_of c proof.lines) (AreCandidates s)
    by claim.Pair = pair_candidates s AnyStep no_lines proof.lines found.accepted.end None tt found.accepted.leads
    by claim.NoPair = tt
    by claim.Spent = tt

-- ---- what is reported

status_one_of : (c : Claim) → IsOneOf (Done ∷ No ∷ Spent ∷ []) (status_of_claim c)
status_one_of claim.Pair = inl refl
status_one_of claim.NoPair = inr (inl refl)
status_one_of claim.Spent = inr (inr (inl refl))

-- the proof is reported by its claim
explained : (s : Setting) (budget : ℕ) (proof : Proof) (report : Report) → IsInProfile s.shapes → IsExplanation s budget proof → report ≡ answer (status_of_claim proof.claim) (document_text (document_of s proof)) → IsDocument report.out (document_of s proof) → IsExplained s budget report
explained s budget proof report profile found texts read = by proof.claim refl
  where
    own : IsShown s (of_list (document_of s proof).adds) (of_list (document_of s proof).deletes) proof
    own = found.shown

    true_claim : (c : Claim) → proof.claim ≡ c → IsTrueClaim s (of_list (document_of s proof).adds) (of_list (document_of s proof).deletes) c
    true_claim c e = subst (λ (d : Claim). IsTrueClaim s (of_list (document_of s proof).adds) (of_list (document_of s proof).deletes) d) e own.claim

    written : (c : Claim) → proof.claim ≡ c → WritesProof s budget (status_of_claim c) (document_of s proof) report
    written c e =
        record {
          accepted = found.accepted;
          within = found.steps;
          texts = texts ∙ ap (λ (d : Claim). answer (status_of_claim d) (document_text (document_of s proof))) e;
          read_back = read;
        }

    by : (c : Claim) → proof.claim ≡ c → IsExplained s budget report
    by claim.Pair e = inl (record { document = document_of s proof; claim = e; minimal = true_claim claim.Pair e; written = written claim.Pair e })
    by claim.NoPair e = inr (inl (record { document = document_of s proof; claim = e; none = true_claim claim.NoPair e; written = written claim.NoPair e }))
    by claim.Spent e =
        let used = found.spent e in
        let bound : IsWithinBound s budget = λ atoms every. used.bound atoms (rule_atoms s IsFreshStep atoms (rule_atoms_in s atoms profile every) no_lines proof.lines used.fresh.end (All-nil (AreCandidates s)) used.fresh.leads) in
        inr (inr (record { document = document_of s proof; claim = e; steps = used.steps; fresh = used.fresh; bound = bound; written = written claim.Spent e }))

-- the report of a problem that was made of the graphs
pub explanation_report_of : (s p o t : Graph) (problem : Setting) (budget : ℕ) (proof : Proof) (out : List ℕ) (report : Report) → (t ≡ s) × IsInProfile s → AreComparable s p o → problem.shapes ≡ t → problem.present ≡ p → problem.offers ≡ without o p
    → IsExplanation problem budget proof → out ≡ document_text (document_of problem proof) → (IsSpellable problem → All IsWritable proof.lines → IsDocument out (document_of problem proof)) → report ≡ answer (status_of_claim proof.claim) out → IsExplanationReport (graphs_of s p o) budget report
explanation_report_of s p o t problem budget proof out report is comparable shapes present offers found text read texts =
    let shapes_are : problem.shapes ≡ s = shapes ∙ is.0 in
    let same : problem ≡ setting_of (graphs_of s p o) = λ i. record { shapes = shapes_are i; present = present i; offers = offers i } in
    let out_is : report.out ≡ out = ap (λ (r : Report). r.out) texts in
    let whole : report ≡ answer (status_of_claim proof.claim) (document_text (document_of problem proof)) = texts ∙ ap (answer (status_of_claim proof.claim)) text in
    let told : IsSpellable problem → IsExplained problem budget report =
    λ spellable. explained problem budget proof report (subst IsInProfile (sym shapes_are) is.1) found whole (subst (λ bytes. IsDocument bytes (document_of problem proof)) (sym out_is) (read spellable found.writable)) in
    record {
      profile = is.1;
      comparable = comparable;
      status = subst (IsOneOf (Done ∷ No ∷ Spent ∷ [])) (sym (ap (λ (r : Report). r.status) texts)) (status_one_of proof.claim);
      explained = subst (λ (q : Setting). IsSpellable q → IsExplained q budget report) same told;
    }

-- ---- documents can spell what was read

kept : (mine other : Bool) → (mine && not other) ≡ true → mine ≡ true
kept true other e = refl
kept false other e = e

pub spellable : (g : Graph) (o : Graph) → AreLawful g × HasScope OfData g → AreLawful o × HasScope OfData o → (s : Graph) → IsSpellable (setting_of (graphs_of s g o))
spellable g o mine theirs s =
    record {
      present_lawful = mine.0;
      offers_lawful = λ t h. theirs.0 t (within t h);
      present_scoped = mine.1;
      offers_scoped = λ t h. theirs.1 t (within t h);
    }
  where
    within : (t : Statement) → IsTrue (has (without o g) t) → IsTrue (has o t)
    within t h = kept (has o t) (has g t) (sym (has-without o g t) ∙ h)
