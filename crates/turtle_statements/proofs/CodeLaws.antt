-- What the code's functions do, step by step.
use Rattle.std.proofs.Common.{◌≡◌, ℕ, zero, suc, ◌-◌, ◌≤◌, ◌<◌, Bool, true, false, List, [], ◌∷◌, ◌++◌, length, Option, Some, None, Result, Ok, Err, refl, sym, ap, subst, ◌∙◌, arith, length-append}
use Rattle.std.specs.Prelude.{is_some, option_and_then}
use Rattle.std.specs.Option.{option_map}
use Rattle.std.specs.Borrow.{Bor}
use Rattle.rdf_grammar.specs.declared.parse_error.ParseError.{ParseError}
use Rattle.rdf_grammar.specs.declared.parse_error.ParseError.TheVariants.{OutOfMemory, NoMatch}
use Rattle.rdf_grammar.specs.Answers.{Misses, GivesAll}
use Rattle.rdf_terms.specs.declared.term.Term.{Term}
use Rattle.rdf_terms.specs.Vocab.Rdf as rdf
use Rattle.turtle_tokens.specs.declared.kinds.TokenKind.TheVariants as kinds
use Rattle.turtle_statements.specs.declared.role.Role.{Role}
use Rattle.turtle_statements.specs.Meaning.{say, new_node}
use Rattle.turtle_tokens.specs.declared.statement.Token.{Token}
use Rattle.turtle_tokens.specs.Places.{PlacedToken}
use Rattle.turtle_tokens.specs.Cuts.{placed}
use Rattle.turtle_statements.specs.declared.output.Output.{Output}
use Rattle.turtle_statements.specs.declared.marks.Opening.{Opening}
use Rattle.turtle_statements.specs.declared.marks.Opening.TheVariants.{Paren, Bracket}
use Rattle.turtle_statements.specs.declared.marks.Opening.TheVariants as opening
use Rattle.turtle_statements.specs.Answers.{tokens_of, Runs, RunsRest}
use Rattle.turtle_statements.specs.Names.{Names}
use Rattle.turtle_statements.specs.Running.{statement_at, all_by, only_all, verb_at, next_member, object_list_run, objects_run, properties_run, uncons, strip_kind, begins_verb, opening_at, object_by, term_run, said_object, member_next, members_run, commas_run, semicolons_run, optional_objects, collection_run, bracketed_run, object_run}
use Rattle.turtle_statements.proofs.Executing.{mapped, Shortens, shortens, strip-shorter, said-shorter, next_cell, members-none, members-step, commas-done, commas-none, commas-more, semicolons-done, semicolons-none, semicolons-more, optional-sound}
use Rattle.turtle_statements.specs.Grammar.{object, statement}
use Rattle.turtle_statements.specs.Statements.{IsStatement, IsRefused}
use Rattle.turtle_statements.proofs.Sentences.{statement-read, statement-missed}
use Rattle.turtle_statements.proofs.BracketLaws.{object-executes, object-begins, objects-executes}

pub first_read : (ts : List Token) (first : Token) (rest : List Token) → ts ≡ first ∷ rest → uncons (tokens_of ts) ≡ Some (placed first, tokens_of rest)
first_read ts first rest e = rw e refl

pub first_missed : (ts : List Token) → length ts ≡ 0 → uncons (tokens_of ts) ≡ None
first_missed [] e = refl
first_missed (t ∷ ts) e = absurd (omega (arith, e))

pub object_flat : (names : Names) (depth : ℕ) (o : Output) (ts : List PlacedToken) → depth ≡ 0 → object_run names depth o ts ≡ term_run names o ts
unfolding object_run
object_flat names depth o ts e = rw e refl

pub object_deeper : (names : Names) (depth : ℕ) (o : Output) (ts : List PlacedToken) → 0 < depth
    → object_run names depth o ts ≡ object_by (opening_at ts) (collection_run names.role (object_run names (depth - 1)) o ts) (bracketed_run names (object_run names (depth - 1)) o ts) (term_run names o ts)
unfolding object_run
object_deeper names zero o ts l = absurd (omega (arith, l))
object_deeper names (suc d) o ts l = let k : suc d - 1 ≡ d = omega arith in rw k refl

pub runs_same : {A B : Type 0} (f : A → B) (res : Result (A × Bor (List Token)) ParseError) (new : Output) (r s : Option ((B × Output) × List PlacedToken)) → s ≡ r → Runs f res new r → Runs f res new s
runs_same {A} {B} f res new r s e h = subst (λ (x : Option ((B × Output) × List PlacedToken)). Runs f res new x) (sym e) h

pub rest_same : (res : Result (Bor (List Token)) ParseError) (new : Output) (r s : Option (Output × List PlacedToken)) → s ≡ r → RunsRest res new r → RunsRest res new s
rest_same res new r s e h = subst (λ (x : Option (Output × List PlacedToken)). RunsRest res new x) (sym e) h

-- an error that is handed on
pub rest_err : (res : Result (Bor (List Token)) ParseError) (new : Output) (whole : Option (Output × List PlacedToken)) (e y : ParseError) → res ≡ Err y → y ≡ e → Misses e whole → RunsRest res new whole
rest_err res new whole e y r s h = subst (λ (x : Result (Bor (List Token)) ParseError). RunsRest x new whole) (sym r) (subst (λ (z : ParseError). Misses z whole) (sym s) h)

pub runs_err : {A B : Type 0} (f : A → B) (res : Result (A × Bor (List Token)) ParseError) (new : Output) (whole : Option ((B × Output) × List PlacedToken)) (e y : ParseError) → res ≡ Err y → y ≡ e → Misses e whole → Runs f res new whole
runs_err {A} {B} f res new whole e y r s h = subst (λ (x : Result (A × Bor (List Token)) ParseError). Runs f x new whole) (sym r) (subst (λ (z : ParseError). Misses z whole) (sym s) h)

-- each object takes a token
pub object_shortens : (names : Names) (depth : ℕ) → Shortens (object_run names depth)
object_shortens names depth = shortens (object names depth) (object_run names depth) (object-executes names depth) (object-begins names depth)

pub none_left : {A : Type 0} (o : Option A) → is_some o ≡ false → o ≡ None
none_left None e = refl
none_left (Some x) e = absurd cc

pub some_left : {A : Type 0} (o : Option A) → is_some o ≡ true → o ≡ None → ⊥
some_left None e n = absurd cc
some_left (Some x) e n = absurd cc

-- ---- the loop over the members of a collection

abbrev pub MembersGo : Names → ℕ → Role → Option (Output × List PlacedToken) → Term → Output → List PlacedToken → Type 0
MembersGo names depth role whole cell o ts = (n : ℕ) × (length ts ≤ n) × (whole ≡ member_next role (members_run role (object_run names depth) n) cell o ts (strip_kind kinds.CloseParen ts))

pub members_begin : (names : Names) (depth : ℕ) (role : Role) (cell : Term) (o : Output) (ts : List PlacedToken) (y : Output × List PlacedToken) → said_object (object_run names depth) cell rdf.first o ts ≡ Some y
    → MembersGo names depth role (members_run role (object_run names depth) (length ts) cell o ts) cell y.0 y.1
members_begin names depth role cell o ts y e =
    let r = object_run names depth in
    let short = object_shortens names depth in
    (length ts - 1, omega (arith, said-shorter r short cell rdf.first o ts y e), members-step role r (length ts) cell o ts y short (omega arith) e)

-- the next member, which the code has read, and its cell
pub record NextMember (names : Names) (depth : ℕ) (role : Role) (cell : Term) (o : Output) (ts : List PlacedToken) (y : (Term × Output) × List PlacedToken) : Type 0 where
  pub cell_is : new_node role o ≡ y.0.0
  pub said : said_object (object_run names depth) (new_node role o) rdf.first (next_cell role cell o) ts ≡ Some (y.0.1, y.1)

pub next_member_read : (names : Names) (depth : ℕ) (role : Role) (cell : Term) (o : Output) (ts : List PlacedToken) (y : (Term × Output) × List PlacedToken) → next_member role (object_run names depth) cell o ts ≡ Some y → NextMember names depth role cell o ts y
next_member_read names depth role cell o ts y e =
    let m = mapped (λ (x : Output × List PlacedToken). ((new_node role o, x.0), x.1)) (said_object (object_run names depth) (new_node role o) rdf.first (next_cell role cell o) ts) y e in
    record {
      cell_is = ap (λ (z : (Term × Output) × List PlacedToken). z.0.0) m.2;
      said = m.1 ∙ ap (λ (z : (Term × Output) × List PlacedToken). Some (z.0.1, z.1)) m.2;
    }

pub members_go : (names : Names) (depth : ℕ) (role : Role) (whole : Option (Output × List PlacedToken)) (cell : Term) (o : Output) (ts : List PlacedToken) (y : (Term × Output) × List PlacedToken) → MembersGo names depth role whole cell o ts
    → strip_kind kinds.CloseParen ts ≡ None → next_member role (object_run names depth) cell o ts ≡ Some y → MembersGo names depth role whole y.0.0 y.0.1 y.1
members_go names depth role whole cell o ts y g s e =
    let run = object_run names depth in
    let short = object_shortens names depth in
    let k = next_member_read names depth role cell o ts y e in
    subst (λ (c : Term). MembersGo names depth role whole c y.0.1 y.1) k.cell_is
    (g.0 - 1, omega (arith, said-shorter run short (new_node role o) rdf.first (next_cell role cell o) ts (y.0.1, y.1) k.said, g.1), g.2 ∙ ap (member_next role (members_run role run g.0) cell o ts) s ∙ members-step role run g.0 (new_node role o) (next_cell role cell o) ts (y.0.1, y.1) short g.1 k.said)

pub members_shorter : (names : Names) (depth : ℕ) (role : Role) (cell : Term) (o : Output) (ts : List PlacedToken) (y : (Term × Output) × List PlacedToken) → next_member role (object_run names depth) cell o ts ≡ Some y → length y.1 < length ts
members_shorter names depth role cell o ts y e =
    said-shorter (object_run names depth) (object_shortens names depth) (new_node role o) rdf.first (next_cell role cell o) ts (y.0.1, y.1) (next_member_read names depth role cell o ts y e).said

unmapped : {A B : Type 0} (f : A → B) (o : Option A) → option_map f o ≡ None → o ≡ None
unmapped f None e = refl
unmapped f (Some x) e = absurd cc

pub members_missed : (names : Names) (depth : ℕ) (role : Role) (whole : Option (Output × List PlacedToken)) (cell : Term) (o : Output) (ts : List PlacedToken) (e : ParseError) → MembersGo names depth role whole cell o ts
    → strip_kind kinds.CloseParen ts ≡ None → Misses e (next_member role (object_run names depth) cell o ts) → Misses e whole
members_missed names depth role whole cell o ts OutOfMemory g s h = tt
members_missed names depth role whole cell o ts NoMatch g s h =
    let run = object_run names depth in
    g.2 ∙ ap (member_next role (members_run role run g.0) cell o ts) s
    ∙ members-none role run g.0 (new_node role o) (next_cell role cell o) ts (unmapped (λ (x : Output × List PlacedToken). ((new_node role o, x.0), x.1)) (said_object run (new_node role o) rdf.first (next_cell role cell o) ts) h)

pub members_no_first : (names : Names) (depth : ℕ) (role : Role) (cell : Term) (o : Output) (ts : List PlacedToken) (e : ParseError) → Misses e (said_object (object_run names depth) cell rdf.first o ts) → Misses e (members_run role (object_run names depth) (length ts) cell o ts)
members_no_first names depth role cell o ts OutOfMemory h = tt
members_no_first names depth role cell o ts NoMatch h = members-none role (object_run names depth) (length ts) cell o ts h

pub next_member_is : (names : Names) (depth : ℕ) (role : Role) (cell next : Term) (o mid : Output) (ts : List PlacedToken) (y : Output × List PlacedToken) → next ≡ new_node role o → mid ≡ next_cell role cell o
    → said_object (object_run names depth) next rdf.first mid ts ≡ Some y → next_member role (object_run names depth) cell o ts ≡ Some ((next, y.0), y.1)
next_member_is names depth role cell next o mid ts y n m e =
    let run = object_run names depth in
    let s : said_object run (new_node role o) rdf.first (next_cell role cell o) ts ≡ Some y = sym (ap (λ (c : Term). said_object run c rdf.first mid ts) n ∙ ap (λ (p : Output). said_object run (new_node role o) rdf.first p ts) m) ∙ e in
    ap (option_map (λ (x : Output × List PlacedToken). ((new_node role o, x.0), x.1))) s ∙ ap (λ (c : Term). Some ((c, y.0), y.1)) (sym n)

pub next_member_missed : (names : Names) (depth : ℕ) (role : Role) (cell next : Term) (o mid : Output) (ts : List PlacedToken) (e : ParseError) → next ≡ new_node role o → mid ≡ next_cell role cell o
    → Misses e (said_object (object_run names depth) next rdf.first mid ts) → Misses e (next_member role (object_run names depth) cell o ts)
next_member_missed names depth role cell next o mid ts OutOfMemory n m h = tt
next_member_missed names depth role cell next o mid ts NoMatch n m h =
    let run = object_run names depth in
    ap (option_map (λ (x : Output × List PlacedToken). ((new_node role o, x.0), x.1))) (sym (ap (λ (c : Term). said_object run c rdf.first mid ts) n ∙ ap (λ (p : Output). said_object run (new_node role o) rdf.first p ts) m) ∙ h)

-- ---- the loop over objects

abbrev pub CommasGo : Names → ℕ → Term → Term → Option (Output × List PlacedToken) → Output → List PlacedToken → Type 0
CommasGo names depth subject verb whole o ts = (n : ℕ) × (length ts ≤ n) × (whole ≡ commas_run (object_run names depth) n subject verb o ts)

pub commas_go : (names : Names) (depth : ℕ) (subject verb : Term) (whole : Option (Output × List PlacedToken)) (o : Output) (ts after : List PlacedToken) (y : Output × List PlacedToken) → CommasGo names depth subject verb whole o ts
    → strip_kind kinds.Comma ts ≡ Some after → said_object (object_run names depth) subject verb o after ≡ Some y → CommasGo names depth subject verb whole y.0 y.1
commas_go names depth subject verb whole o ts after y g s r =
    let run = object_run names depth in
    let short = object_shortens names depth in
    (g.0 - 1, omega (arith, strip-shorter kinds.Comma ts after s, said-shorter run short subject verb o after y r, g.1), g.2 ∙ commas-more run g.0 subject verb o ts after y g.1 s r)

pub commas_fail : (names : Names) (depth : ℕ) (subject verb : Term) (whole : Option (Output × List PlacedToken)) (o : Output) (ts after : List PlacedToken) → CommasGo names depth subject verb whole o ts
    → strip_kind kinds.Comma ts ≡ Some after → said_object (object_run names depth) subject verb o after ≡ None → whole ≡ None
commas_fail names depth subject verb whole o ts after g s r = g.2 ∙ commas-none (object_run names depth) g.0 subject verb o ts after g.1 s r

pub commas_end : (names : Names) (depth : ℕ) (subject verb : Term) (whole : Option (Output × List PlacedToken)) (o : Output) (ts : List PlacedToken) → CommasGo names depth subject verb whole o ts → strip_kind kinds.Comma ts ≡ None → whole ≡ Some (o, ts)
commas_end names depth subject verb whole o ts g s = g.2 ∙ commas-done (object_run names depth) g.0 subject verb o ts s

-- ---- the loop over verbs

abbrev pub SemicolonsGo : Names → ℕ → Term → Option (Output × List PlacedToken) → Output → List PlacedToken → Type 0
SemicolonsGo names depth subject whole o ts = (n : ℕ) × (length ts ≤ n) × (whole ≡ semicolons_run names (object_run names depth) n subject o ts)

pub optional_shorter : (names : Names) (depth : ℕ) (subject : Term) (o : Output) (ts : List PlacedToken) (y : Output × List PlacedToken) → optional_objects names (object_run names depth) subject o ts ≡ Some y → length y.1 ≤ length ts
optional_shorter names depth subject o ts y e =
    let k = optional-sound names (object names depth) (object_run names depth) (objects-executes names (object names depth) (object_run names depth) (object-executes names depth)) subject o ts y (begins_verb ts) e in
    omega (arith, ap length k.parts, length-append k.front y.1)

pub semicolons_go : (names : Names) (depth : ℕ) (subject : Term) (whole : Option (Output × List PlacedToken)) (o : Output) (ts after : List PlacedToken) (y : Output × List PlacedToken) → SemicolonsGo names depth subject whole o ts
    → strip_kind kinds.Semicolon ts ≡ Some after → optional_objects names (object_run names depth) subject o after ≡ Some y → SemicolonsGo names depth subject whole y.0 y.1
semicolons_go names depth subject whole o ts after y g s r =
    (g.0 - 1, omega (arith, strip-shorter kinds.Semicolon ts after s, optional_shorter names depth subject o after y r, g.1), g.2 ∙ semicolons-more names (object_run names depth) g.0 subject o ts after y g.1 s r)

pub semicolons_fail : (names : Names) (depth : ℕ) (subject : Term) (whole : Option (Output × List PlacedToken)) (o : Output) (ts after : List PlacedToken) → SemicolonsGo names depth subject whole o ts
    → strip_kind kinds.Semicolon ts ≡ Some after → optional_objects names (object_run names depth) subject o after ≡ None → whole ≡ None
semicolons_fail names depth subject whole o ts after g s r = g.2 ∙ semicolons-none names (object_run names depth) g.0 subject o ts after g.1 s r

pub semicolons_end : (names : Names) (depth : ℕ) (subject : Term) (whole : Option (Output × List PlacedToken)) (o : Output) (ts : List PlacedToken) → SemicolonsGo names depth subject whole o ts → strip_kind kinds.Semicolon ts ≡ None → whole ≡ Some (o, ts)
semicolons_end names depth subject whole o ts g s = g.2 ∙ semicolons-done names (object_run names depth) g.0 subject o ts s

-- ---- what an object begins with

pub object_paren : (names : Names) (depth : ℕ) (o : Output) (ts : List PlacedToken) → 0 < depth → Paren ≡ opening_at ts → object_run names depth o ts ≡ collection_run names.role (object_run names (depth - 1)) o ts
object_paren names depth o ts l e =
    object_deeper names depth o ts l ∙ ap (λ (k : Opening). object_by k (collection_run names.role (object_run names (depth - 1)) o ts) (bracketed_run names (object_run names (depth - 1)) o ts) (term_run names o ts)) (sym e)

pub object_bracket : (names : Names) (depth : ℕ) (o : Output) (ts : List PlacedToken) → 0 < depth → Bracket ≡ opening_at ts → object_run names depth o ts ≡ bracketed_run names (object_run names (depth - 1)) o ts
object_bracket names depth o ts l e =
    object_deeper names depth o ts l ∙ ap (λ (k : Opening). object_by k (collection_run names.role (object_run names (depth - 1)) o ts) (bracketed_run names (object_run names (depth - 1)) o ts) (term_run names o ts)) (sym e)

pub object_neither : (names : Names) (depth : ℕ) (o : Output) (ts : List PlacedToken) → 0 < depth → opening.Neither ≡ opening_at ts → object_run names depth o ts ≡ term_run names o ts
object_neither names depth o ts l e =
    object_deeper names depth o ts l ∙ ap (λ (k : Opening). object_by k (collection_run names.role (object_run names (depth - 1)) o ts) (bracketed_run names (object_run names (depth - 1)) o ts) (term_run names o ts)) (sym e)

pub objects_are : (names : Names) (depth : ℕ) (subject : Term) (o : Output) (ts : List PlacedToken) (v : Term × List PlacedToken) → verb_at names ts ≡ Some v → objects_run names (object_run names depth) subject o ts ≡ object_list_run (object_run names depth) subject v.0 o v.1
unfolding objects_run
objects_are names depth subject o ts v e = rw e refl

pub commas_begin : (names : Names) (depth : ℕ) (subject verb : Term) (o : Output) (ts : List PlacedToken) (y : Output × List PlacedToken) → said_object (object_run names depth) subject verb o ts ≡ Some y
    → CommasGo names depth subject verb (object_list_run (object_run names depth) subject verb o ts) y.0 y.1
commas_begin names depth subject verb o ts y f = (length y.1, omega arith, rw f refl)

pub semicolons_begin : (names : Names) (depth : ℕ) (subject : Term) (o : Output) (ts : List PlacedToken) (y : Output × List PlacedToken) → objects_run names (object_run names depth) subject o ts ≡ Some y
    → SemicolonsGo names depth subject (properties_run names (object_run names depth) subject o ts) y.0 y.1
unfolding properties_run
semicolons_begin names depth subject o ts y e = (length y.1, omega arith, rw e refl)

pub objects_no_verb : (names : Names) (depth : ℕ) (subject : Term) (o : Output) (ts : List PlacedToken) (e : ParseError) → Misses e (verb_at names ts) → Misses e (objects_run names (object_run names depth) subject o ts)
unfolding objects_run
objects_no_verb names depth subject o ts OutOfMemory h = tt
objects_no_verb names depth subject o ts NoMatch h = rw h refl

pub no_first_object : (names : Names) (depth : ℕ) (subject verb : Term) (o : Output) (ts : List PlacedToken) (e : ParseError) → Misses e (said_object (object_run names depth) subject verb o ts) → Misses e (object_list_run (object_run names depth) subject verb o ts)
no_first_object names depth subject verb o ts OutOfMemory h = tt
no_first_object names depth subject verb o ts NoMatch h = rw h refl

pub commas_missed : (names : Names) (depth : ℕ) (subject verb : Term) (whole : Option (Output × List PlacedToken)) (o : Output) (ts after : List PlacedToken) (e : ParseError) → CommasGo names depth subject verb whole o ts
    → strip_kind kinds.Comma ts ≡ Some after → Misses e (said_object (object_run names depth) subject verb o after) → Misses e whole
commas_missed names depth subject verb whole o ts after OutOfMemory g s h = tt
commas_missed names depth subject verb whole o ts after NoMatch g s h = commas_fail names depth subject verb whole o ts after g s h

pub commas_shorter : (names : Names) (depth : ℕ) (subject verb : Term) (o : Output) (ts after : List PlacedToken) (y : Output × List PlacedToken) → strip_kind kinds.Comma ts ≡ Some after → said_object (object_run names depth) subject verb o after ≡ Some y → length y.1 < length ts
commas_shorter names depth subject verb o ts after y s e =
    omega (arith, strip-shorter kinds.Comma ts after s, said-shorter (object_run names depth) (object_shortens names depth) subject verb o after y e)

pub semicolons_missed : (names : Names) (depth : ℕ) (subject : Term) (whole : Option (Output × List PlacedToken)) (o : Output) (ts after : List PlacedToken) (e : ParseError) → SemicolonsGo names depth subject whole o ts
    → strip_kind kinds.Semicolon ts ≡ Some after → Misses e (optional_objects names (object_run names depth) subject o after) → Misses e whole
semicolons_missed names depth subject whole o ts after OutOfMemory g s h = tt
semicolons_missed names depth subject whole o ts after NoMatch g s h = semicolons_fail names depth subject whole o ts after g s h

pub semicolons_shorter : (names : Names) (depth : ℕ) (subject : Term) (o : Output) (ts after : List PlacedToken) (y : Output × List PlacedToken) → strip_kind kinds.Semicolon ts ≡ Some after → optional_objects names (object_run names depth) subject o after ≡ Some y → length y.1 < length ts
semicolons_shorter names depth subject o ts after y s e =
    omega (arith, strip-shorter kinds.Semicolon ts after s, optional_shorter names depth subject o after y e)

pub properties_no_objects : (names : Names) (depth : ℕ) (subject : Term) (o : Output) (ts : List PlacedToken) (e : ParseError) → Misses e (objects_run names (object_run names depth) subject o ts) → Misses e (properties_run names (object_run names depth) subject o ts)
unfolding properties_run
properties_no_objects names depth subject o ts OutOfMemory h = tt
properties_no_objects names depth subject o ts NoMatch h = rw h refl

-- an error of a step that has nothing behind it
pub missed_by : {A B : Type 0} (e : ParseError) (a : Option A) (b : Option B) → (a ≡ None → b ≡ None) → Misses e a → Misses e b
missed_by OutOfMemory a b f h = tt
missed_by NoMatch a b f h = f h

-- the token that was seen is there
pub never_missed : {A B : Type 0} (e : ParseError) (a : Option A) (b : Option B) → is_some a ≡ true → Misses e a → Misses e b
never_missed OutOfMemory a b i h = tt
never_missed NoMatch a b i h = absurd (some_left a i h)

-- ---- all tokens of a statement

pub front_read : (names : Names) (o : Output) (ts : List PlacedToken) (x : Names × Output) (rest : List PlacedToken) → statement_at names o ts ≡ Some (x, rest) → rest ≡ [] → IsStatement names o ts x.0 x.1
front_read names o ts x rest e z = statement-read names o ts x (ap (option_and_then only_all) e ∙ ap (all_by x) z)

all_none : (x : Names × Output) (rest : List PlacedToken) → (rest ≡ [] → ⊥) → all_by x rest ≡ None
all_none x [] n = absurd (n refl)
all_none x (t ∷ ts) n = refl

pub front_left : (names : Names) (o : Output) (ts : List PlacedToken) (x : Names × Output) (rest : List PlacedToken) → statement_at names o ts ≡ Some (x, rest) → (rest ≡ [] → ⊥) → (v : Names × (Output → Output)) → statement names ts v → ⊥
front_left names o ts x rest e n = statement-missed names o ts (ap (option_and_then only_all) e ∙ all_none x rest n)

pub front_missed : (names : Names) (o : Output) (ts : List PlacedToken) (e : ParseError) → Misses e (statement_at names o ts) → IsRefused e names ts
front_missed names o ts OutOfMemory h = tt
front_missed names o ts NoMatch h = statement-missed names o ts (ap (option_and_then only_all) h)

pub no_tokens : (ts : List Token) → length ts ≡ 0 → tokens_of ts ≡ []
no_tokens [] e = refl
no_tokens (t ∷ ts) e = absurd (omega (arith, e))

pub some_tokens : (ts : List Token) → (length ts ≡ 0 → ⊥) → tokens_of ts ≡ [] → ⊥
some_tokens [] n e = n refl
some_tokens (t ∷ ts) n e = absurd cc

pub members_last : (names : Names) (depth : ℕ) (role : Role) (whole : Option (Output × List PlacedToken)) (n : ℕ) (cell : Term) (o : Output) (ts : List PlacedToken) (res : Result (Bor (List Token)) ParseError) (new : Output) → new ≡ say cell rdf.rest rdf.nil o
    → is_some (strip_kind kinds.CloseParen ts) ≡ true → whole ≡ member_next role (members_run role (object_run names depth) n) cell o ts (strip_kind kinds.CloseParen ts) → GivesAll (λ rest. tokens_of rest.now) res (strip_kind kinds.CloseParen ts) → RunsRest res new whole
members_last names depth role whole n cell o ts (Ok behind) new same i e g =
    e ∙ ap (member_next role (members_run role (object_run names depth) n) cell o ts) g ∙ ap (λ (q : Output). Some (q, tokens_of behind.now)) (sym same)
members_last names depth role whole n cell o ts (Err OutOfMemory) new same i e g = tt
members_last names depth role whole n cell o ts (Err NoMatch) new same i e g = absurd (some_left (strip_kind kinds.CloseParen ts) i g)
