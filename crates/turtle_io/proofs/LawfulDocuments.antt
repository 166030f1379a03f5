-- The triples of a document are lawful, and its blank nodes have the scope of the role.
use Rattle.std.proofs.Common.{◌≡◌, true, List, [], ◌∷◌, ◌++◌, Result, Ok, Err, refl, sym, ap, subst, ◌∙◌}
use Rattle.std.specs.Prelude.{ℕ, IfOk, IsTrue}
use Rattle.std.proofs.lemmas.List.Elements.{All-nil, All-contains}
use Rattle.rdf_terms.specs.Statement.{Statement}
use Rattle.rdf_terms.specs.Graph.{Graph, has}
use Rattle.rdf_terms.proofs.GraphLaws.{item_of_has_list}
use Rattle.rdf_grammar.specs.Lawful.{IsIri}
use Rattle.ntriples_io.specs.RoundTrip.{HasScope}
use Rattle.ntriples_io.specs.Text.{AreLawful}
use Rattle.turtle_tokens.specs.Places.{Place, PlacedToken, AreTokens}
use Rattle.turtle_statements.specs.declared.role.Role.{Role}
use Rattle.turtle_statements.specs.declared.output.Output.{Output}
use Rattle.turtle_statements.specs.Names.{Names, AreLawfulNames}
use Rattle.turtle_statements.specs.Meaning.{scope_of}
use Rattle.turtle_io.specs.declared.refusal.TurtleRefusal.{TurtleRefusal}
use Rattle.turtle_io.specs.Documents.{State, start, Accepts, Statements, TurtleText, IsAnswer}
use Rattle.turtle_io.proofs.LawfulTerms.{AreEach, IsFineTriple, AreFine, statement_lawful}

are_each : (seen : List PlacedToken) (here : Place) (ts : List PlacedToken) (there : Place) → AreTokens seen here ts there → AreEach ts
are_each seen here [] there h = tt
are_each seen here (t ∷ ts) there h =
    let spells = h.1.2.spells in
    (record { are_scalars = spells.are_scalars; has = spells.has }, are_each (seen ++ t ∷ []) h.1.1 ts there h.1.4)

record IsFineState (role : Role) (s : State) : Type 0 where
  names : AreLawfulNames s.names
  role_is : s.names.role ≡ role
  said : AreFine (scope_of role) s.said

fine_start : (role : Role) → IsFineState role (start role)
fine_start role = record { names = record { base = tt; namespaces = All-nil IsIri }; role_is = refl; said = All-nil (IsFineTriple (scope_of role)) }

fine_after : (role : Role) (before : State) (here : Place) (ts : List PlacedToken) (there : Place) (after : State) → IsFineState role before → AreTokens [] here ts there → Accepts before ts after → IsFineState role after
fine_after role before here ts there after f cut a =
    let m = a.means in
    let k = statement_lawful before.names f.names ts m.meaning (are_each [] here ts there cut) m.spelled in
    let said : AreFine (scope_of role) (m.meaning.1 before.said) = subst (λ (r : Role). AreFine (scope_of r) (m.meaning.1 before.said)) f.role_is (k.says before.said (subst (λ (r : Role). AreFine (scope_of r) before.said) (sym f.role_is) f.said)) in
    record {
      names = subst (λ (n : Names). AreLawfulNames n) (sym m.names) k.after.lawful;
      role_is = ap (λ (n : Names). n.role) m.names ∙ k.after.role ∙ f.role_is;
      said = subst (λ (o : Output). AreFine (scope_of role) o) (sym m.output) said;
    }

fine_statements : (role : Role) (here : Place) (before : State) (states : List State) (there : Place) (after : State) → IsFineState role before → Statements here before states there after → IsFineState role after
fine_statements role here before [] there after f h = subst (λ (s : State). IsFineState role s) (sym h.1) f
fine_statements role here before (between ∷ more) there after f h = fine_statements role h.1 between more there after (fine_after role before here h.0 h.1 between f h.2 h.3) h.4

text_fine : (bytes : List ℕ) (role : Role) (g : Graph) → TurtleText bytes role g → (t : Statement) → IsTrue (has g t) → IsFineTriple (scope_of role) t
text_fine bytes role g h t has_t =
    let k = fine_statements role h.read.first (start role) h.read.states h.last h.left (fine_start role) h.read.statements in
    All-contains (IsFineTriple (scope_of role)) h.left.said.triples t k.said (item_of_has_list h.left.said.triples t (subst (λ (x : Graph). has x t ≡ true) h.is_set has_t))

pub answer_lawful : (bytes : List ℕ) (role : Role) (r : Result Graph TurtleRefusal) → IsAnswer bytes role r → IfOk r AreLawful
answer_lawful bytes role (Ok g) h = λ t has_t. let k = text_fine bytes role g h t has_t in k.lawful
answer_lawful bytes role (Err f) h = tt

pub answer_scope : (bytes : List ℕ) (role : Role) (r : Result Graph TurtleRefusal) → IsAnswer bytes role r → IfOk r (HasScope (scope_of role))
answer_scope bytes role (Ok g) h = λ t has_t. let k = text_fine bytes role g h t has_t in k.in_scope
answer_scope bytes role (Err f) h = tt
