-- The canonical line of a triple behind a prefix.
use Rattle.std.proofs.Common.{◌≡◌, ◌≢◌, ℕ, List, [], ◌∷◌, ◌++◌, Option, Some, None, sym, ap, subst, ◌∙◌, append_assoc}
use Rattle.std.specs.Borrow.{Bor}
use Rattle.std.specs.Cmp.Lexicographic.{pointwise, bytes_decides, same_text}
use Rattle.std.specs.Option.{MatchOption, option_eq}
use Rattle.std.specs.Prelude.{Bool, IsTrue, ◌↔◌, IfSome, IfNone, nat_eq}
use Rattle.std.proofs.lemmas.List.{append_cancel_left, append_cancel_right}
use Rattle.rdf_terms.specs.declared.term.Scope.TheVariants.{Data}
use Rattle.rdf_terms.specs.Statement.{Statement}
use Rattle.rdf_grammar.specs.declared.parse_error.ParseError.{ParseError}
use Rattle.rdf_grammar.specs.declared.parse_error.ParseError.TheVariants.{OutOfMemory, NoMatch}
use Rattle.rdf_grammar.specs.Answers.{Misses}
use Rattle.ntriples_io.specs.CanonicalText.{line_text}
use Rattle.ntriples_io.specs.Lines.{IsLine}
use Rattle.proof_documents.specs.DocumentText.{line}
use Rattle.proof_documents.specs.Lines.{IsTripleLine}

-- what stands behind the prefix means the triple, and is its canonical line without the LF
pub record IsRestOf (t : Statement) (rest : List ℕ) : Type 0 where
  pub is_line : IsLine Data rest (Some t)
  pub ended : line_text t ≡ line rest

pub has_rest : (prefix text : List ℕ) (t : Statement) (h : IsTripleLine prefix text t) → text ≡ prefix ++ h.lawful.line
has_rest prefix text t h =
    append_cancel_right text (prefix ++ h.lawful.line) (10 ∷ []) (h.spelled ∙ ap (λ (l : List ℕ). prefix ++ l) h.lawful.ended ∙ sym (append_assoc prefix h.lawful.line (10 ∷ [])))

pub rest_means : (prefix text rest : List ℕ) (t : Statement) → text ≡ prefix ++ rest → IsTripleLine prefix text t → IsRestOf t rest
rest_means prefix text rest t e h =
    subst (IsRestOf t) (append_cancel_left prefix h.lawful.line rest (sym (has_rest prefix text t h) ∙ e))
    (record { is_line = h.lawful.is_line; ended = h.lawful.ended })

pub no_rest : (prefix text : List ℕ) (t : Statement) (o : Option (Bor (List ℕ))) → o ≡ None → IfNone o ((rest : List ℕ) → text ≢ prefix ++ rest) → IsTripleLine prefix text t → ⊥
no_rest prefix text t None e h k = h k.lawful.line (has_rest prefix text t k)
no_rest prefix text t (Some x) e h k = cc

pub missed : {A B : Type 0} (x : A) (y : B) (e : ParseError) → Misses e (Some x) → Misses e (Some y)
missed x y OutOfMemory h = tt
missed x y NoMatch h = cc

pub found_behind : (prefix text : List ℕ) (o : Option (Bor (List ℕ))) → MatchOption o ((rest : List ℕ) → text ≢ prefix ++ rest) (λ x. text ≡ prefix ++ x.now) → IfSome o (λ x. text ≡ prefix ++ x.now)
found_behind prefix text None h = tt
found_behind prefix text (Some x) h = h

pub none_behind : (prefix text : List ℕ) (o : Option (Bor (List ℕ))) → MatchOption o ((rest : List ℕ) → text ≢ prefix ++ rest) (λ x. text ≡ prefix ++ x.now) → IfNone o ((rest : List ℕ) → text ≢ prefix ++ rest)
none_behind prefix text None h = h
none_behind prefix text (Some x) h = tt

pub same_at_end : (bytes : List ℕ) (o : Option (Bor (List ℕ))) (text : Bor (List ℕ)) (r : Bool) → MatchOption o ((front : List ℕ) → bytes ≢ front ++ 10 ∷ []) (λ x. bytes ≡ x.now ++ 10 ∷ []) → r ≡ option_eq {T = Bor (List ℕ)} (λ x y. pointwise nat_eq x.now y.now) o (Some text) → IsTrue r ↔ (bytes ≡ line text.now)
same_at_end bytes None text r h e = (λ t. absurd cc, λ k. absurd (h text.now k))
same_at_end bytes (Some x) text r h e = (λ t. h ∙ ap line (same_text x.now text.now (sym t ∙ e)), λ k. e ∙ (bytes_decides x.now text.now).1 (append_cancel_right x.now text.now (10 ∷ []) (sym h ∙ k)))
