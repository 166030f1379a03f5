-- A document means one graph, or it has one first refusal.
use Rattle.std.proofs.Common.{◌≡◌, ℕ, ◌<◌, Bool, true, false, List, [], ◌∷◌, ◌++◌, length, Option, Some, None, Result, Ok, Err, refl, sym, ap, subst, ◌∙◌, arith, length-append}
use Rattle.std.specs.Prelude.{encode_utf8_all}
use Rattle.std.specs.Str.{all_scalars, chars}
use Rattle.std.proofs.lemmas.Str.{chars-encodes, chars-nil}
use Rattle.rdf_terms.specs.Answers.{UnlessMemory}
use Rattle.rdf_terms.specs.Graph.{Graph, of_list}
use Rattle.regular_forms.specs.Regular.{Has}
use Rattle.regular_forms.proofs.Derivatives.{nullable, nullable-full}
use Rattle.turtle_tokens.specs.declared.kinds.TokenKind.{TokenKind}
use Rattle.turtle_tokens.specs.declared.faults.TokenFault.{TokenFault}
use Rattle.turtle_tokens.specs.Tokens.{form}
use Rattle.turtle_tokens.specs.Places.{Place, PlacedToken, Spells, NextToken, SkipsFilling, AreTokens}
use Rattle.turtle_tokens.specs.Faults.{first_fault}
use Rattle.turtle_tokens.proofs.TokenTable.{form-nullable}
use Rattle.turtle_tokens.proofs.Unique.{filling-unique, tokens-unique}
use Rattle.turtle_statements.specs.declared.role.Role.{Role}
use Rattle.turtle_statements.specs.declared.output.Output.{Output}
use Rattle.turtle_statements.specs.Names.{Names}
use Rattle.turtle_statements.specs.Grammar.{statement}
use Rattle.turtle_statements.specs.Statements.{IsStatement}
use Rattle.turtle_statements.proofs.Sentences.{statement-unique, statement-nonempty}
use Rattle.turtle_io.specs.declared.refusal.TurtleRefusal.{TurtleRefusal}
use Rattle.turtle_io.specs.declared.refusal.TurtleRefusal.TheVariants.{Syntax, TooDeep, ReservedLabel, OutOfMemory}
use Rattle.turtle_io.specs.Documents.{State, start, Accepts, Statements, ReadTo, TurtleText, TurtleFault, refusal_of, IsRefusal, DocumentMeans, is_memory, IsAnswer, IsOnlyAnswer}

-- ---- no token is nothing

never_true : (b : Bool) → b ≡ true → b ≡ false → ⊥
never_true b e f = absurd cc

no_text : (k : TokenKind) (text : List ℕ) → all_scalars text ≡ true → Has (form k) text → encode_utf8_all text ≡ [] → ⊥
no_text k text s h e =
    let none : text ≡ [] = sym (chars-encodes text s) ∙ ap chars e ∙ chars-nil in
    never_true (nullable (form k)) (nullable-full (form k) (subst (λ (t : List ℕ). Has (form k) t) none h)) (form-nullable k)

nil_front : (a b : List ℕ) → [] ≡ a ++ b → a ≡ []
nil_front [] b e = refl
nil_front (x ∷ a) b e = absurd cc

no_token : (here : Place) (t : PlacedToken) (there : Place) → here.bytes ≡ [] → NextToken here t there → ⊥
no_token here t there e n = no_text t.kind t.text n.spells.are_scalars n.spells.has (n.spells.spell ∙ nil_front n.front there.bytes (sym e ∙ n.parts))

-- ---- one statement

accepts_some : (here : Place) (state : State) (tokens : List PlacedToken) (next : Place) (after : State) → AreTokens [] here tokens next → Accepts state tokens after → here.bytes ≡ [] → ⊥
accepts_some here state [] next after c a e = statement-nonempty state.names a.means.meaning a.means.spelled
accepts_some here state (t ∷ ts) next after c a e = no_token here t c.1.0 e c.1.2

abbrev state : Names → Output → State
state n o = record { names = n; said = o }

same_state : (a b : State) → a.names ≡ b.names → a.said ≡ b.said → a ≡ b
same_state a b e f = ap (λ (n : Names). state n a.said) e ∙ ap (λ (o : Output). state b.names o) f

accepts_one : (before : State) (tokens : List PlacedToken) (a b : State) → Accepts before tokens a → Accepts before tokens b → a ≡ b
accepts_one before tokens a b h k =
    let u = statement-unique before.names before.said tokens a.names a.said b.names b.said h.means k.means in
    same_state a b u.0 u.1

not_refused : (before : State) (at : ℕ) (tokens : List PlacedToken) (after : State) (r : TurtleRefusal) (o : Option TokenFault) → first_fault 0 tokens ≡ o → Accepts before tokens after → IsRefusal before at tokens o r → ⊥
not_refused before at tokens after r None e a h = h.1 a.means.meaning a.means.spelled
not_refused before at tokens after r (Some f) e a h = some_none (sym e ∙ a.no_fault)
  where
    some_none : Some f ≡ None → ⊥
    some_none g = absurd cc

refused_one : (before : State) (at : ℕ) (tokens : List PlacedToken) (r s : TurtleRefusal) (o : Option TokenFault) → IsRefusal before at tokens o r → IsRefusal before at tokens o s → r ≡ s
refused_one before at tokens r s None h k = h.0 ∙ sym k.0
refused_one before at tokens r s (Some f) h k = h ∙ sym k

-- ---- where reading ends

pub record Refused (here : Place) (state : State) (r : TurtleRefusal) : Type 0 where
  pub some : here.bytes ≡ [] → ⊥
  pub tokens : List PlacedToken
  pub next : Place
  pub cut : AreTokens [] here tokens next
  pub refusal : IsRefusal state here.at tokens (first_fault 0 tokens) r

abbrev Ends : Place → State → Result Graph TurtleRefusal → Type 0
Ends here state (Ok g) = (here.bytes ≡ []) × (g ≡ of_list state.said.triples)
Ends here state (Err r) = Refused here state r

ends_one : (here : Place) (state : State) (a b : Result Graph TurtleRefusal) → Ends here state a → Ends here state b → a ≡ b
ends_one here state (Ok g) (Ok h) e f = ap (λ (x : Graph). Ok x) (e.1 ∙ sym f.1)
ends_one here state (Ok g) (Err s) e f = absurd (f.some e.0)
ends_one here state (Err r) (Ok h) e f = absurd (e.some f.0)
ends_one here state (Err r) (Err s) e f =
    let t = tokens-unique [] here e.tokens e.next f.tokens f.next e.cut f.cut in
    ap (λ (x : TurtleRefusal). Err x) (refused_one state here.at f.tokens r s (first_fault 0 f.tokens) (subst (λ (x : List PlacedToken). IsRefusal state here.at x (first_fault 0 x) r) t.0 e.refusal) f.refusal)

no_end : (here : Place) (state : State) (a : Result Graph TurtleRefusal) (tokens : List PlacedToken) (next : Place) (after : State) → Ends here state a → AreTokens [] here tokens next → Accepts state tokens after → ⊥
no_end here state (Ok g) tokens next after e c h = accepts_some here state tokens next after c h e.0
no_end here state (Err r) tokens next after e c h =
    let t = tokens-unique [] here e.tokens e.next tokens next e.cut c in
    not_refused state here.at tokens after r (first_fault 0 tokens) refl h (subst (λ (x : List PlacedToken). IsRefusal state here.at x (first_fault 0 x) r) t.0 e.refusal)

walk : (xs ys : List State) (here : Place) (state : State) (p : Place) (x : State) (q : Place) (y : State) (a b : Result Graph TurtleRefusal) → Statements here state xs p x → Statements here state ys q y → Ends p x a → Ends q y b → a ≡ b
walk [] [] here state p x q y a b h k e f =
    ends_one here state a b (subst (λ (z : State). Ends here z a) h.1 (subst (λ (z : Place). Ends z x a) h.0 e)) (subst (λ (z : State). Ends here z b) k.1 (subst (λ (z : Place). Ends z y b) k.0 f))
walk [] (s ∷ ys) here state p x q y a b h k e f =
    absurd (no_end here state a k.0 k.1 s (subst (λ (z : State). Ends here z a) h.1 (subst (λ (z : Place). Ends z x a) h.0 e)) k.2 k.3)
walk (r ∷ xs) [] here state p x q y a b h k e f =
    absurd (no_end here state b h.0 h.1 r (subst (λ (z : State). Ends here z b) k.1 (subst (λ (z : Place). Ends z y b) k.0 f)) h.2 h.3)
walk (r ∷ xs) (s ∷ ys) here state p x q y a b h k e f =
    let t = tokens-unique [] here h.0 h.1 k.0 k.1 h.2 k.2 in
    let same = accepts_one state k.0 r s (subst (λ (z : List PlacedToken). Accepts state z r) t.0 h.3) k.3 in
    let more : Statements k.1 s xs p x = subst (λ (z : State). Statements k.1 z xs p x) same (subst (λ (z : Place). Statements z r xs p x) t.1 h.4) in
    walk xs ys k.1 s p x q y a b more k.4 e f

-- ---- documents

record Reads (bytes : List ℕ) (role : Role) (a : Result Graph TurtleRefusal) : Type 0 where
  there : Place
  left : State
  read : ReadTo bytes role there left
  ends : Ends there left a

refuses : (bytes : List ℕ) (role : Role) (r : TurtleRefusal) → TurtleFault bytes role r → Reads bytes role (Err r)
refuses bytes role r h = record {
  there = h.bad;
  left = h.left;
  read = h.read;
  ends = record { some = h.some; tokens = h.tokens; next = h.next; cut = h.cut; refusal = h.refusal };
}

reads : (bytes : List ℕ) (role : Role) (a : Result Graph TurtleRefusal) → DocumentMeans bytes role a → Reads bytes role a
reads bytes role (Ok g) h = record { there = h.last; left = h.left; read = h.read; ends = (h.ends, h.is_set) }
reads bytes role (Err (Syntax n)) h = refuses bytes role (Syntax n) h
reads bytes role (Err (TooDeep n)) h = refuses bytes role (TooDeep n) h
reads bytes role (Err (ReservedLabel n)) h = refuses bytes role (ReservedLabel n) h
reads bytes role (Err OutOfMemory) h = absurd h

pub one_answer : (bytes : List ℕ) (role : Role) (a b : Result Graph TurtleRefusal) → DocumentMeans bytes role a → DocumentMeans bytes role b → a ≡ b
one_answer bytes role a b h k =
    let r = reads bytes role a h in
    let s = reads bytes role b k in
    let first = filling-unique (record { at = 0; bytes = bytes }) r.read.first s.read.first r.read.skips s.read.skips in
    walk r.read.states s.read.states s.read.first (start role) r.there r.left s.there s.left a b (subst (λ (z : Place). Statements z (start role) r.read.states r.there r.left) first r.read.statements) s.read.statements r.ends s.ends

pub only : (bytes : List ℕ) (role : Role) (a : Result Graph TurtleRefusal) → IsAnswer bytes role a → IsOnlyAnswer bytes role a
only bytes role (Ok g) h other k = one_answer bytes role (Ok g) other h k
only bytes role (Err (Syntax n)) h other k = one_answer bytes role (Err (Syntax n)) other h k
only bytes role (Err (TooDeep n)) h other k = one_answer bytes role (Err (TooDeep n)) other h k
only bytes role (Err (ReservedLabel n)) h other k = one_answer bytes role (Err (ReservedLabel n)) other h k
only bytes role (Err OutOfMemory) h other k = tt
