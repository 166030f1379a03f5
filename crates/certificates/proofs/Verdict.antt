-- What the parts of the check say together.
use Rattle.std.proofs.Common.{◌≡◌, inr, ℕ, ◌+◌, length, Result, Ok, Err, sym, ap, subst}
use Rattle.std.specs.Prelude.{OnOk, IfErr}
use Rattle.rdf_terms.specs.Graph.{of_list}
use Rattle.shapes_profile.specs.Profile.{IsInProfile}
use Rattle.repair_problem.specs.Repair.{Apart}
use Rattle.repair_problem.specs.Setting.{Setting}
use Rattle.proof_lines.specs.declared.proof.ProofLine.{ProofLine}
use Rattle.proof_documents.specs.Document.{Document}
use Rattle.premise_rules.specs.Documents.{Lines, no_lines, Leads, AnyStep}
use Rattle.certificates.specs.declared.refusal.CheckRefusal.{CheckRefusal}
use Rattle.certificates.specs.declared.refusal.CheckRefusal.TheVariants as check
use Rattle.certificates.specs.declared.refusal.LineRefusal.{LineRefusal}
use Rattle.certificates.specs.declared.refusal.LineRefusal.TheVariants as refusal
use Rattle.certificates.specs.Checks.{AreChangesThere, IsOutside, IsNotBelow, IsNotConforming, IsBadRule, IsBadStep, FailsAt, IsRejection, IsNotAccepted, IsVerdict}
use Rattle.certificates.specs.Checker.{IsLineRefusal, refused_at, IsRefusedLine, IsClaimChecked}
use Rattle.certificates.specs.Shown.{IsShown}
use Rattle.certificates.proofs.Law.{accepted_shown}
use Rattle.certificates.proofs.Standing.{rejected, accepted}

module _ (s : Setting) (d : Document) where
  pub line_rejected : (first : ℕ) (e : CheckRefusal) → AreChangesThere s d → first ≡ 3 + (length d.adds + length d.deletes) → IsRefusedLine s d.proof.lines first e → IsRejection s d e
  line_rejected first e there f h = at h.refusal h.fails h.is
    where
      fails : (Fails : Lines → ProofLine → Type 0) → Fails h.above h.own → FailsAt Fails s d (first + h.place)
      fails Fails g = record { there = there; place = h.place; own = h.own; here = h.here; above = h.above; leads = h.leads; fails = g; count = ap (λ n. n + h.place) f }

      at : (r : LineRefusal) → IsLineRefusal s h.above h.own r → e ≡ refused_at r (first + h.place) → IsRejection s d e
      at refusal.PairOutside g k = subst (IsRejection s d) (sym k) (inr (fails (IsOutside s) g))
      at refusal.NotBelow g k = subst (IsRejection s d) (sym k) (fails (IsNotBelow s) g)
      at refusal.NotConforming g k = subst (IsRejection s d) (sym k) (fails (IsNotConforming s) g)
      at refusal.BadRule g k = subst (IsRejection s d) (sym k) (fails (IsBadRule s) g)
      at refusal.BadStep g k = subst (IsRejection s d) (sym k) (fails (IsBadStep s) g)
      at refusal.OutOfMemory g k = subst (IsRejection s d) (sym k) tt

  pub claim_verdict : (r : Result (Unit {0}) CheckRefusal) (end : Lines) → AreChangesThere s d → Leads s AnyStep no_lines d.proof.lines end → IsClaimChecked s d end r → IsVerdict s d r
  claim_verdict (Ok u) end there l h = accepted s d there end l h.0 h.1
  claim_verdict (Err check.WrongClaim) end there l h = record { there = there; end = end; leads = l; fails = h }
  claim_verdict (Err check.NotEmpty) end there l h = record { there = there; end = end; leads = l; fails = h }
  claim_verdict (Err check.OutOfMemory) end there l h = tt
  claim_verdict (Err (check.PairOutside n)) end there l h = absurd h
  claim_verdict (Err (check.NotBelow n)) end there l h = absurd h
  claim_verdict (Err (check.NotConforming n)) end there l h = absurd h
  claim_verdict (Err (check.BadRule n)) end there l h = absurd h
  claim_verdict (Err (check.BadStep n)) end there l h = absurd h

  pub verdict_shown : IsInProfile s.shapes → Apart s.present s.offers → (r : Result (Unit {0}) CheckRefusal) → IsVerdict s d r → OnOk r (IsShown s (of_list d.adds) (of_list d.deletes) d.proof)
  verdict_shown profile apart (Ok u) h = accepted_shown s profile apart (of_list d.adds) (of_list d.deletes) d.proof h
  verdict_shown profile apart (Err e) h = tt

  pub verdict_not : (r : Result (Unit {0}) CheckRefusal) → IsVerdict s d r → IfErr r (λ e. IsNotAccepted s d e)
  verdict_not (Ok u) h = tt
  verdict_not (Err e) h = rejected s d e h
