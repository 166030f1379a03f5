-- Reading statements one after another: what the loop keeps.
use Rattle.std.proofs.Common.{◌≡◌, ℕ, ◌+◌, ◌≤◌, ◌<◌, Bool, true, false, List, [], ◌∷◌, ◌++◌, length, Option, Some, None, Result, Ok, Err, refl, sym, ap, subst, ◌∙◌, append_assoc, arith, length-append}
use Rattle.std.specs.Prelude.{map, encode_utf8_all}
use Rattle.std.specs.Str.{chars, StartsWithNoChar, IsUtf8}
use Rattle.std.proofs.lemmas.Str.{encodes-chars, chars-nil}
use Rattle.std.proofs.lemmas.List.{append-nil}
use Rattle.grammar_forms.proofs.Exactness.{some_is}
use Rattle.rdf_terms.specs.Graph.{Graph, of_list}
use Rattle.rdf_grammar.specs.declared.parse_error.ParseError.{ParseError}
use Rattle.rdf_grammar.specs.declared.parse_error.ParseError.TheVariants as parse
use Rattle.turtle_tokens.specs.declared.statement.Token.{Token}
use Rattle.turtle_tokens.specs.declared.faults.TokenFault.{TokenFault}
use Rattle.turtle_tokens.specs.declared.faults.TokenFault.TheVariants as fault
use Rattle.turtle_tokens.specs.Places.{Place, PlacedToken, SkipsFilling, AreTokens}
use Rattle.turtle_tokens.specs.Faults.{first_fault}
use Rattle.turtle_tokens.specs.Fronts.{place_of, IsEnd, SkipsTo, IsUtf8Front}
use Rattle.turtle_tokens.specs.Cuts.{placed, AreTokensOf}
use Rattle.turtle_tokens.proofs.Fronts.{text_in_parts}
use Rattle.turtle_statements.specs.declared.role.Role.{Role}
use Rattle.turtle_statements.specs.declared.context.Context.{Context}
use Rattle.turtle_statements.specs.declared.output.Output.{Output}
use Rattle.turtle_statements.specs.Names.{Names, names_of, no_names}
use Rattle.turtle_statements.specs.Meaning.{nothing_said}
use Rattle.turtle_statements.specs.Grammar.{statement}
use Rattle.turtle_statements.specs.Statements.{IsStatement, IsRefused}
use Rattle.turtle_statements.proofs.Sentences.{statement-nonempty}
use Rattle.turtle_io.specs.declared.refusal.TurtleRefusal.{TurtleRefusal}
use Rattle.turtle_io.specs.declared.refusal.TurtleRefusal.TheVariants.{Syntax, TooDeep, ReservedLabel, OutOfMemory}
use Rattle.turtle_io.specs.Documents.{State, start, Accepts, Statements, ReadTo, TurtleText, TurtleFault, refusal_of, IsRefusal, IsAnswer}
use Rattle.turtle_io.specs.Loop.{state_of, HasMore, HasNoMore, IsRefusedFor, Whole, Broken, IsRead}

abbrev state : Names → Output → State
state n o = record { names = n; said = o }

-- ---- one statement

pub fault_is : (before : State) (at : ℕ) (tokens : List PlacedToken) (f : TokenFault) (o : Option TokenFault) → Some f ≡ o → IsRefusal before at tokens o (refusal_of f)
fault_is before at tokens f None e = absurd cc
fault_is before at tokens f (Some g) e = ap refusal_of (some_is f g e)

pub syntax_is : (before : State) (at : ℕ) (tokens : List PlacedToken) (o : Option TokenFault) → None ≡ o → ((v : Names × (Output → Output)) → statement before.names tokens v → ⊥) → IsRefusal before at tokens o (Syntax at)
syntax_is before at tokens None e n = (refl, n)
syntax_is before at tokens (Some f) e n = absurd cc

pub token_refused : (before : State) (at : ℕ) (tokens : List PlacedToken) (f : TokenFault) → Some f ≡ first_fault 0 tokens → IsRefusedFor before at tokens (refusal_of f)
token_refused before at tokens f e = told f (fault_is before at tokens f (first_fault 0 tokens) e)
  where
    told : (g : TokenFault) → IsRefusal before at tokens (first_fault 0 tokens) (refusal_of g) → IsRefusedFor before at tokens (refusal_of g)
    told (fault.TooDeep n) h = h
    told (fault.ReservedLabel n) h = h

-- ---- the loop

-- what is accepted from here on is accepted from the first place on
pub record Seen (first : Place) (begin : State) (states : List State) (here : Place) (state : State) : Type 0 where
  pub grows : (more : List State) (there : Place) (after : State) → Statements here state more there after → Statements first begin (states ++ more) there after

seen_more : (first : Place) (begin : State) (states : List State) (here : Place) (state : State) (tokens : List PlacedToken) (next : Place) (between : State) → AreTokens [] here tokens next → Accepts state tokens between → Seen first begin states here state
    → Seen first begin (states ++ between ∷ []) next between
seen_more first begin states here state tokens next between c a h = record {
  grows = λ more there after s.
      subst (λ (x : List State). Statements first begin x there after) (sym (append_assoc states (between ∷ []) more)) (h.grows (between ∷ more) there after (tokens, next, c, a, s));
}

all_seen : (first : Place) (begin : State) (states : List State) (here : Place) (state : State) → Seen first begin states here state → Statements first begin states here state
all_seen first begin states here state h = subst (λ (x : List State). Statements first begin x here state) (append-nil states) (h.grows [] here state (refl, refl))

pub record Going (at_end : Bool) (at : ℕ) (text : List ℕ) (role : Role) (here : ℕ) (rest : List ℕ) (state : State) : Type 0 where
  pub total : here + length rest ≡ at + length text
  pub states : List State
  pub seen : (bad : List ℕ) → StartsWithNoChar bad → IsEnd at_end bad → Seen (place_of at (chars text) bad) (start role) states (place_of here (chars rest) bad) state

pub go_begin : (at_end : Bool) (at : ℕ) (text : List ℕ) (role : Role) (state : State) → state ≡ start role → Going at_end at text role at text state
go_begin at_end at text role state e = record {
  total = refl;
  states = [];
  seen = λ bad s b. subst (λ (x : State). Seen (place_of at (chars text) bad) (start role) [] (place_of at (chars text) bad) x) (sym e) (record { grows = λ more there after h. h });
}

pub go_on : (at_end : Bool) (at : ℕ) (text : List ℕ) (role : Role) (here : ℕ) (rest : List ℕ) (state : State) (ts : List Token) (there : ℕ) (left : List ℕ) (further : State)
    → AreTokensOf at_end here rest ts there left → there + length left ≡ here + length rest → Accepts state (map placed ts) further → Going at_end at text role here rest state → Going at_end at text role there left further
go_on at_end at text role here rest state ts there left further c t a h = record {
  total = t ∙ h.total;
  states = h.states ++ further ∷ [];
  seen = λ bad s b. seen_more (place_of at (chars text) bad) (start role) h.states (place_of here (chars rest) bad) state (map placed ts) (place_of there (chars left) bad) further (c bad s b) a (h.seen bad s b);
}

go_broken : (at_end : Bool) (at : ℕ) (text : List ℕ) (role : Role) (here : ℕ) (rest : List ℕ) (state : State) (ts : List Token) (there : ℕ) (left : List ℕ) (r : TurtleRefusal)
    → HasMore at_end rest → AreTokensOf at_end here rest ts there left → IsRefusal state here (map placed ts) (first_fault 0 (map placed ts)) r → Going at_end at text role here rest state
    → (bad : List ℕ) → StartsWithNoChar bad → IsEnd at_end bad → Broken (place_of at (chars text) bad) (start role) r
go_broken at_end at text role here rest state ts there left r n c f h bad s b = record {
  states = h.states;
  bad = place_of here (chars rest) bad;
  left = state;
  statements = all_seen (place_of at (chars text) bad) (start role) h.states (place_of here (chars rest) bad) state (h.seen bad s b);
  some = n bad b;
  tokens = map placed ts;
  next = place_of there (chars left) bad;
  cut = c bad s b;
  refusal = f;
}

pub go_refused : (at_end : Bool) (at : ℕ) (text : List ℕ) (role : Role) (here : ℕ) (rest : List ℕ) (state : State) (ts : List Token) (there : ℕ) (left : List ℕ) (r : TurtleRefusal)
    → HasMore at_end rest → AreTokensOf at_end here rest ts there left → IsRefusedFor state here (map placed ts) r → Going at_end at text role here rest state → IsRead at_end at text role (Err r)
go_refused at_end at text role here rest state ts there left OutOfMemory n c f h = tt
go_refused at_end at text role here rest state ts there left (Syntax m) n c f h = go_broken at_end at text role here rest state ts there left (Syntax m) n c f h
go_refused at_end at text role here rest state ts there left (TooDeep m) n c f h = go_broken at_end at text role here rest state ts there left (TooDeep m) n c f h
go_refused at_end at text role here rest state ts there left (ReservedLabel m) n c f h = go_broken at_end at text role here rest state ts there left (ReservedLabel m) n c f h

nothing_left : (at_end : Bool) (rest bad : List ℕ) → HasNoMore at_end rest → IsEnd at_end bad → encode_utf8_all (chars rest) ++ bad ≡ []
nothing_left true rest bad n b = rw (n.empty, chars-nil, b) refl
nothing_left false rest bad n b = absurd (never n.ends)
  where
    never : false ≡ true → ⊥
    never e = absurd cc

pub go_done : (at_end : Bool) (at : ℕ) (text : List ℕ) (role : Role) (here : ℕ) (rest : List ℕ) (state : State) → HasNoMore at_end rest → Going at_end at text role here rest state → IsRead at_end at text role (Ok state.said)
go_done at_end at text role here rest state n h bad s b = record {
  states = h.states;
  last = place_of here (chars rest) bad;
  left = state;
  statements = all_seen (place_of at (chars text) bad) (start role) h.states (place_of here (chars rest) bad) state (h.seen bad s b);
  ends = nothing_left at_end rest bad n b;
  said = refl;
}

-- ---- bytes that are left

nil_left : (a b : List ℕ) → a ++ b ≡ [] → b ≡ []
nil_left [] b h = h
nil_left (c ∷ a) b h = absurd cc

pub text_left : (at_end : Bool) (rest : List ℕ) → IsUtf8 rest → 0 < length rest → HasMore at_end rest
text_left at_end rest u n bad b e = omega (arith, ap length e, n, ap length (encodes-chars rest u), length-append (encode_utf8_all (chars rest)) bad)

pub bytes_left : (at_end : Bool) (rest : List ℕ) → at_end ≡ false → HasMore at_end rest
bytes_left true rest n bad b e = absurd cc
bytes_left false rest n bad b e = b (nil_left (encode_utf8_all (chars rest)) bad e)

-- ---- a whole document

pub record Opened (bytes text rest : List ℕ) (at : ℕ) (at_end : Bool) : Type 0 where
  pub bad : List ℕ
  pub stops : StartsWithNoChar bad
  pub ends : IsEnd at_end bad
  pub skips : SkipsFilling (record { at = 0; bytes = bytes }) (place_of at (chars rest) bad)

place_is : (text rest front : List ℕ) (at : ℕ) → IsUtf8 text → IsUtf8 rest → chars text ≡ front ++ chars rest → at + length rest ≡ length text → length (encode_utf8_all front) ≡ at
place_is text rest front at u v e n = omega (arith, ap length (text_in_parts text rest front u v e), length-append (encode_utf8_all front) rest, n)

pub opened : (bytes text rest : List ℕ) (at : ℕ) (at_end : Bool) → IsUtf8Front bytes text at_end → IsUtf8 rest → SkipsTo at_end (chars text) (chars rest) → at + length rest ≡ length text → Opened bytes text rest at at_end
opened bytes text rest at at_end f u s n =
    let k = s 0 f.bad f.stops f.ends in
    let here : place_of 0 (chars text) f.bad ≡ record { at = 0; bytes = bytes } = ap (λ (b : List ℕ). record { at = 0; bytes = b }) (ap (λ (b : List ℕ). b ++ f.bad) (encodes-chars text f.is_text) ∙ sym f.parts) in
    let there : 0 + length (encode_utf8_all k.0) ≡ at = omega (arith, place_is text rest k.0 at f.is_text u k.1 n) in
    record {
      bad = f.bad;
      stops = f.stops;
      ends = f.ends;
      skips = subst (λ (p : Place). SkipsFilling p (place_of at (chars rest) f.bad)) here (subst (λ (m : ℕ). SkipsFilling (place_of 0 (chars text) f.bad) (place_of m (chars rest) f.bad)) there k.2);
    }

pub document_text : (bytes text rest : List ℕ) (at : ℕ) (at_end : Bool) (role : Role) (out : Output) (g : Graph) → Opened bytes text rest at at_end → IsRead at_end at rest role (Ok out) → g ≡ of_list out.triples → TurtleText bytes role g
document_text bytes text rest at at_end role out g o r e =
    let w = r o.bad o.stops o.ends in
    record {
      last = w.last;
      left = w.left;
      read = record { first = place_of at (chars rest) o.bad; skips = o.skips; states = w.states; statements = w.statements };
      ends = w.ends;
      is_set = e ∙ ap (λ (x : Output). of_list x.triples) (sym w.said);
    }

pub document_fault : (bytes text rest : List ℕ) (at : ℕ) (at_end : Bool) (role : Role) (r : TurtleRefusal) → Opened bytes text rest at at_end → ((bad : List ℕ) → StartsWithNoChar bad → IsEnd at_end bad → Broken (place_of at (chars rest) bad) (start role) r) → TurtleFault bytes role r
document_fault bytes text rest at at_end role r o h =
    let w = h o.bad o.stops o.ends in
    record {
      bad = w.bad;
      left = w.left;
      read = record { first = place_of at (chars rest) o.bad; skips = o.skips; states = w.states; statements = w.statements };
      some = w.some;
      tokens = w.tokens;
      next = w.next;
      cut = w.cut;
      refusal = w.refusal;
    }

pub accepted_some : (before after : State) (ts : List Token) → Accepts before (map placed ts) after → 0 < length ts
accepted_some before after [] a = absurd (statement-nonempty before.names a.means.meaning a.means.spelled)
accepted_some before after (t ∷ ts) a = omega arith

pub start_is : (context : Context) (out : Output) (role : Role) → names_of context ≡ no_names role → out ≡ nothing_said → state_of context out ≡ start role
start_is context out role e f = ap (λ (n : Names). state n out) e ∙ ap (λ (o : Output). state (no_names role) o) f

-- what a document that is refused answers
pub refused_answer : (bytes text rest : List ℕ) (at : ℕ) (at_end : Bool) (role : Role) (r : TurtleRefusal) → Opened bytes text rest at at_end → IsRead at_end at rest role (Err r) → IsAnswer bytes role (Err r)
refused_answer bytes text rest at at_end role (Syntax n) o h = document_fault bytes text rest at at_end role (Syntax n) o h
refused_answer bytes text rest at at_end role (TooDeep n) o h = document_fault bytes text rest at at_end role (TooDeep n) o h
refused_answer bytes text rest at at_end role (ReservedLabel n) o h = document_fault bytes text rest at at_end role (ReservedLabel n) o h
refused_answer bytes text rest at at_end role OutOfMemory o h = tt

-- an error that is handed on
pub read_err : (at_end : Bool) (at : ℕ) (text : List ℕ) (role : Role) (res : Result Output TurtleRefusal) (r y : TurtleRefusal) → res ≡ Err y → y ≡ r → IsRead at_end at text role (Err r) → IsRead at_end at text role res
read_err at_end at text role res r y e f h = subst (λ (x : Result Output TurtleRefusal). IsRead at_end at text role x) (sym e) (subst (λ (z : TurtleRefusal). IsRead at_end at text role (Err z)) (sym f) h)

pub answer_err : (bytes : List ℕ) (role : Role) (res : Result Graph TurtleRefusal) (r y : TurtleRefusal) → res ≡ Err y → y ≡ r → IsAnswer bytes role (Err r) → IsAnswer bytes role res
answer_err bytes role res r y e f h = subst (λ (x : Result Graph TurtleRefusal). IsAnswer bytes role x) (sym e) (subst (λ (z : TurtleRefusal). IsAnswer bytes role (Err z)) (sym f) h)
