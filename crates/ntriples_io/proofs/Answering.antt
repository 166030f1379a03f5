-- From the reading functions to the grammar.
use Rattle.std.proofs.Common.{◌≡◌, ℕ, List, Option, Some, Result, Ok, Err, sym, ap, subst, ◌∙◌}
use Rattle.std.specs.Prelude.{IfOk}
use Rattle.std.specs.Str.{IsUtf8, chars}
use Rattle.grammar_forms.specs.Reading.{whole}
use Rattle.rdf_terms.specs.declared.term.Scope.{Scope}
use Rattle.rdf_terms.specs.Statement.{Statement}
use Rattle.rdf_grammar.specs.declared.parse_error.ParseError.{ParseError}
use Rattle.rdf_grammar.specs.declared.parse_error.ParseError.TheVariants.{NoMatch}
use Rattle.rdf_grammar.specs.Answers.{GivesAll}
use Rattle.ntriples_io.specs.Lines.{IsLine}
use Rattle.ntriples_io.specs.Reading.{line_at}
use Rattle.ntriples_io.proofs.LineForms.{is_line_sound, is_line_full}

pub is_found : (scope : Scope) (text bytes : List ℕ) (r : Result (Option Statement) ParseError) → text ≡ bytes → IsUtf8 bytes → GivesAll (λ v. v) r (whole (line_at scope) (chars text)) → IfOk r (λ found. IsLine scope bytes found)
is_found scope text bytes (Ok x) e u h = is_line_sound scope bytes x u (ap (λ (t : List ℕ). whole (line_at scope) (chars t)) (sym e) ∙ h)
is_found scope text bytes (Err s) e u h = tt

pub is_only : (scope : Scope) (text bytes : List ℕ) (r : Result (Option Statement) ParseError) → text ≡ bytes → GivesAll (λ v. v) r (whole (line_at scope) (chars text)) → (v : Option Statement) → IsLine scope bytes v → GivesAll (λ w. w) r (Some v)
is_only scope text bytes r e h v k = subst (λ (o : Option (Option Statement)). GivesAll (λ w. w) r o) (ap (λ (t : List ℕ). whole (line_at scope) (chars t)) e ∙ is_line_full scope bytes v k) h

pub is_none : (v : Option Statement) → GivesAll {A = Option Statement} {B = Option Statement} (λ w. w) (Err NoMatch) (Some v) → ⊥
is_none v h = cc
