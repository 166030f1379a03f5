-- The text of the document of a proof is read back as that document.
use Rattle.std.proofs.Common.{◌≡◌, ℕ, IsTrue, true, List, Option, Some, None, get_or, refl}
use Rattle.std.specs.List.{All}
use Rattle.std.proofs.lemmas.List.Elements.{All-nil, Contains-get_or}
use Rattle.rdf_terms.specs.declared.term.Scope.TheVariants.{Data}
use Rattle.rdf_terms.specs.Statement.{Statement}
use Rattle.rdf_terms.specs.Graph.{Graph, triples, has, is_rising}
use Rattle.rdf_terms.proofs.GraphLaws.{triples_rise, has_listed}
use Rattle.ntriples_io.specs.Text.{AreLawful}
use Rattle.ntriples_io.specs.RoundTrip.{HasScope}
use Rattle.repair_problem.specs.Repair.{Within}
use Rattle.repair_problem.specs.Setting.{Setting}
use Rattle.repair_problem.specs.Candidates.{additions, deletions}
use Rattle.repair_problem.proofs.ChangeLaws.{additions_within, deletions_within}
use Rattle.proof_lines.specs.declared.proof.Claim.{Claim}
use Rattle.proof_lines.specs.declared.proof.Claim.TheVariants as claim
use Rattle.proof_lines.specs.declared.proof.ProofLine.{ProofLine}
use Rattle.proof_lines.specs.declared.proof.Proof.{Proof}
use Rattle.proof_documents.specs.Document.{HasTriplesFor, IsSpelled, IsWellFormed}
use Rattle.proof_documents.specs.DocumentText.{document_text}
use Rattle.proof_documents.specs.Text.{IsDocument}
use Rattle.certificates.specs.Writing.{pair_of, claimed_pair, added_of, deleted_of, document_of, IsSpellable, IsWritable, IsSpelledIfLawful, IsLawfulIfWritable}

-- the triples of a part of a graph that can be spelled
spelled_part : (part whole : Graph) → Within part whole → AreLawful whole → HasScope Data whole → All IsSpelledIfLawful (triples part) → All IsSpelled (triples part)
spelled_part part whole within lawful scoped all =
    λ k d lt. let t : Statement = get_or (triples part) k d in
    let there : IsTrue (has whole t) = within t (has_listed part t (Contains-get_or (triples part) k d lt)) in
    all k d lt (lawful t there) (scoped t there)

module _ (s : Setting) where
  added_spelled : (o : Option (List ℕ)) → IsSpellable s → All IsSpelledIfLawful (added_of s o) → All IsSpelled (added_of s o)
  added_spelled None can all = All-nil IsSpelled
  added_spelled (Some pair) can all = spelled_part (additions s pair) s.offers (additions_within s pair) can.offers_lawful can.offers_scoped all

  deleted_spelled : (o : Option (List ℕ)) → IsSpellable s → All IsSpelledIfLawful (deleted_of s o) → All IsSpelled (deleted_of s o)
  deleted_spelled None can all = All-nil IsSpelled
  deleted_spelled (Some pair) can all = spelled_part (deletions s pair) s.present (deletions_within s pair) can.present_lawful can.present_scoped all

  added_rise : (o : Option (List ℕ)) → is_rising (added_of s o) ≡ true
  added_rise None = refl
  added_rise (Some pair) = triples_rise (additions s pair)

  deleted_rise : (o : Option (List ℕ)) → is_rising (deleted_of s o) ≡ true
  deleted_rise None = refl
  deleted_rise (Some pair) = triples_rise (deletions s pair)

  has_triples : (c : Claim) (ls : List ProofLine) → HasTriplesFor c (added_of s (pair_of c ls)) (deleted_of s (pair_of c ls))
  has_triples claim.Pair ls = tt
  has_triples claim.NoPair ls = (refl, refl)
  has_triples claim.Spent ls = (refl, refl)

  pub read_back : (proof : Proof) (bytes : List ℕ) → bytes ≡ document_text (document_of s proof) → All IsSpelledIfLawful (added_of s (claimed_pair proof)) → All IsSpelledIfLawful (deleted_of s (claimed_pair proof)) → All IsLawfulIfWritable proof.lines → IsSpellable s → All IsWritable proof.lines → IsDocument bytes (document_of s proof)
  read_back proof bytes e added deleted lawful can writable =
      let form : IsWellFormed (document_of s proof) = record {
        claimed = has_triples proof.claim proof.lines;
        adds_rise = added_rise (claimed_pair proof);
        deletes_rise = deleted_rise (claimed_pair proof);
        adds_spelled = added_spelled (claimed_pair proof) can added;
        deletes_spelled = deleted_spelled (claimed_pair proof) can deleted;
        lines_lawful = λ k d lt. lawful k d lt (writable k d lt);
      } in
      record { well_formed = form; text = e }
