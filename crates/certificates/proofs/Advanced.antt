-- The lines of a proof one after another, as the loop over them goes on.
use Rattle.std.proofs.Common.{◌≡◌, ℕ, ◌+◌, ◌<◌, ◌≤◌, List, [], ◌∷◌, length, take, get_or, Some, Result, sym, ap, ◌∙◌, subst}
use Rattle.std.proofs.lemmas.Option.{slice_get-get_or}
use Rattle.rdf_terms.proofs.Members.{take_next}
use Rattle.core_constraints.proofs.Decided.{take_whole}
use Rattle.repair_problem.specs.Setting.{Setting}
use Rattle.proof_lines.specs.declared.proof.ProofLine.{ProofLine}
use Rattle.proof_documents.specs.Document.{Document}
use Rattle.premise_rules.specs.Documents.{Lines, no_lines, Leads, AnyStep}
use Rattle.premise_rules.proofs.DistinctLiterals.{take_none}
use Rattle.certificates.specs.declared.refusal.CheckRefusal.{CheckRefusal}
use Rattle.certificates.specs.declared.refusal.LineRefusal.{LineRefusal}
use Rattle.certificates.specs.Checks.{AreChangesThere, IsRejection, IsVerdict}
use Rattle.certificates.specs.Checker.{IsLineRefusal, refused_at, IsRefusedLine, IsClaimChecked}
use Rattle.certificates.proofs.Standing.{leads_more}
use Rattle.certificates.proofs.Verdict.{line_rejected, claim_verdict}

pub leads_none : (s : Setting) (lines : List ProofLine) (end : Lines) → end ≡ no_lines → Leads s AnyStep no_lines (take 0 lines) end
leads_none s lines end e = subst (λ ls. Leads s AnyStep no_lines ls end) (sym (take_none lines)) (sym e)

pub leads_next : (s u : Setting) (lines : List ProofLine) (k : ℕ) (l : ProofLine) (above below : Lines) → u ≡ s → k < length lines → l ≡ get_or lines k l → Leads s AnyStep no_lines (take k lines) above → Leads u AnyStep above (l ∷ []) below → Leads s AnyStep no_lines (take (k + 1) lines) below
leads_next s u lines k l above below e lt is h g =
    subst (λ ls. Leads s AnyStep no_lines ls below) (sym (take_next lines k l lt is)) (leads_more s AnyStep no_lines above (take k lines) (l ∷ []) below h (subst (λ (x : Setting). Leads x AnyStep above (l ∷ []) below) e g))

pub leads_whole : (s : Setting) (lines : List ProofLine) (k : ℕ) (end : Lines) → length lines ≤ k → Leads s AnyStep no_lines (take k lines) end → Leads s AnyStep no_lines lines end
leads_whole s lines k end le h = subst (λ ls. Leads s AnyStep no_lines ls end) (take_whole lines k le) h

pub refused_line : (s u : Setting) (lines : List ProofLine) (k : ℕ) (l : ProofLine) (above : Lines) (e : LineRefusal) (x : CheckRefusal) (first number : ℕ) → u ≡ s → k < length lines → l ≡ get_or lines k l → Leads s AnyStep no_lines (take k lines) above → IsLineRefusal u above l e → x ≡ refused_at e number → number ≡ first + k → IsRefusedLine s lines first x
refused_line s u lines k l above e x first number f lt is h g i j =
    record {
      place = k;
      own = l;
      here = slice_get-get_or lines k l lt ∙ ap Some (sym is);
      above = above;
      leads = h;
      refusal = e;
      fails = subst (λ (y : Setting). IsLineRefusal y above l e) f g;
      is = i ∙ ap (refused_at e) j;
    }

pub lines_verdict : (s u : Setting) (d : Document) (ls : List ProofLine) (end : Lines) (r : Result (Unit {0}) CheckRefusal) → u ≡ s → ls ≡ d.proof.lines → AreChangesThere s d → Leads s AnyStep no_lines ls end → IsClaimChecked u d end r → IsVerdict s d r
lines_verdict s u d ls end r e f there h g = claim_verdict s d r end there (subst (λ xs. Leads s AnyStep no_lines xs end) f h) (subst (λ (x : Setting). IsClaimChecked x d end r) e g)

pub lines_rejected : (s : Setting) (d : Document) (ls : List ProofLine) (first : ℕ) (e : CheckRefusal) → ls ≡ d.proof.lines → AreChangesThere s d → first ≡ 3 + (length d.adds + length d.deletes) → IsRefusedLine s ls first e → IsRejection s d e
lines_rejected s d ls first e f there g h = line_rejected s d first e there g (subst (λ xs. IsRefusedLine s xs first e) f h)
