-- What the functions that take lines say together.
use Rattle.std.proofs.Common.{◌≡◌, ◌⊎◌, inl, inr, Result, Ok, Err, subst}
use Rattle.rdf_grammar.specs.declared.parse_error.ParseError.{ParseError}
use Rattle.rdf_grammar.specs.declared.parse_error.ParseError.TheVariants.{OutOfMemory, NoMatch}
use Rattle.proof_documents.specs.declared.draft.Draft.{Draft}
use Rattle.proof_documents.specs.Taking.{Took}

-- a line that is not of the first kind may be of another
pub took_other : (r : Result (Unit {0}) ParseError) (old mid new : Draft) (First : Draft → Type 0) (Others : Draft → Draft → Type 0) → ((t : Draft) → ¬ (First t)) × (mid ≡ old) → Took r (Others mid) mid new → Took r (λ t. First t ⊎ Others old t) old new
took_other r old mid new First Others none h = put r (subst (λ (m : Draft). Took r (Others m) m new) none.1 h)
  where
    put : (r : Result (Unit {0}) ParseError) → Took r (Others old) old new → Took r (λ t. First t ⊎ Others old t) old new
    put (Ok u) k = inr k
    put (Err NoMatch) k = (λ t e. elim e [ inl f ↦ none.0 t f | inr o ↦ k.0 t o ], k.1)
    put (Err OutOfMemory) k = tt
