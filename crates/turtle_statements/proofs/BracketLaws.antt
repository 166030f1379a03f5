-- What stands in brackets, and statements, are read exactly.
use Rattle.std.proofs.Common.{◌≡◌, ℕ, zero, suc, ◌≤◌, Bool, true, false, cond, List, [], ◌∷◌, ◌++◌, length, Option, Some, None, refl, sym, ap, subst, ◌∙◌, append_assoc, arith, length-append, inl, inr}
use Rattle.std.specs.Prelude.{option_and_then, ◌⊎◌}
use Rattle.std.specs.Option.{option_map}
use Rattle.std.proofs.lemmas.List.{append-nil}
use Rattle.grammar_forms.specs.Forms.{Form, many, optional, Then, Made, ◌⨾◌, ◌▹◌, ◌◃◌, ◌∣◌}
use Rattle.grammar_forms.proofs.Exactness.{bind_some, some_is}
use Rattle.rdf_terms.specs.declared.term.Term.{Term}
use Rattle.rdf_terms.specs.Vocab.Rdf as rdf
use Rattle.turtle_tokens.specs.declared.kinds.TokenKind.{TokenKind}
use Rattle.turtle_tokens.specs.declared.kinds.TokenKind.TheVariants as kinds
use Rattle.turtle_tokens.specs.Places.{PlacedToken}
use Rattle.turtle_statements.specs.declared.role.Role.{Role}
use Rattle.turtle_statements.specs.declared.output.Output.{Output}
use Rattle.turtle_statements.specs.Names.{Names}
use Rattle.turtle_statements.specs.Meaning.{Says, Tells, say, new_node, one_more, says_collection, says_bracketed, tells_each, tells_objects, tells_more, tells_properties}
use Rattle.turtle_statements.specs.Grammar.{Single, kind, verb, plain_term, objects, properties, collection, bracketed, object}
use Rattle.turtle_statements.specs.Running.{can_begin_verb, RunsObject, said_object, strip_kind, opening_of, opening_at, members_run, collection_inside, collection_run, commas_run, objects_run, semicolons_run, properties_run, bracketed_run, object_by, object_run, verb_at, term_run}
use Rattle.turtle_statements.proofs.KindLaws.{Begins, begins-append, begins-more, begins-nonempty, strip-none, strip-some, strip-full, starts_object, starts_plain, ends_string, ends_objects, ends_properties, object-open, plain-starts_object}
use Rattle.turtle_statements.proofs.Dispatch.{plain-opens}
use Rattle.turtle_statements.specs.declared.marks.Opening.{Opening}
use Rattle.turtle_statements.specs.declared.marks.Opening.TheVariants.{Paren, Bracket}
use Rattle.turtle_statements.specs.declared.marks.Opening.TheVariants as opening
use Rattle.turtle_statements.proofs.Executing.{Executes, run_says, run_tells, RunsSays, RunsObjects, StartsObject, StartsVerb, BehindKind, behind_is, behind_kind, members-sound, members-full, members_begin, Members, commas-sound, commas-full, comma_follows, Objects, semicolons-sound, semicolons-full, semicolon_follows, More, said_of, mapped, one_said}
use Rattle.turtle_statements.proofs.TermLaws.{single, verb-sound, verb-full, verb-begins, term-sound, term-full, term-begins, Plain}

-- ---- a form with a mark behind it

pub record BeforeKind {V : Type 0} (k : TokenKind) (P : Form PlacedToken V) (front : List PlacedToken) (v : V) : Type 0 where
  pub before : List PlacedToken
  pub token : PlacedToken
  pub parts : front ≡ before ++ token ∷ []
  pub is_kind : token.kind ≡ k
  pub has : P before v

pub before_is : {V : Type 0} (k : TokenKind) (P : Form PlacedToken V) (front : List PlacedToken) (v : V) → (P ◃ kind k) front v → BeforeKind k P front v
before_is {V} k P front v h = record {
  before = h.spelled.front;
  token = h.spelled.second.token;
  parts = h.spelled.parts ∙ ap (λ (t : List PlacedToken). h.spelled.front ++ t) h.spelled.second.alone;
  is_kind = h.spelled.second.means;
  has = subst (λ (w : V). P h.spelled.front w) (sym h.means) h.spelled.first;
}

pub before_kind : {V : Type 0} (k : TokenKind) (P : Form PlacedToken V) (a : List PlacedToken) (t : PlacedToken) (v : V) → t.kind ≡ k → P a v → (P ◃ kind k) (a ++ t ∷ []) v
before_kind k P a t v e h = record {
  own = (v, tt);
  spelled = record { front = a; back = t ∷ []; parts = refl; first = h; second = record { token = t; alone = refl; means = e } };
  means = refl;
}

-- one more token behind
one_behind : (a : List PlacedToken) (t : PlacedToken) (rest : List PlacedToken) → (a ++ t ∷ []) ++ rest ≡ a ++ t ∷ rest
one_behind a t rest = append_assoc a (t ∷ []) rest

-- ---- collections

pub record Said (P : Form PlacedToken Says) (o : Output) (ts : List PlacedToken) (x : (Term × Output) × List PlacedToken) : Type 0 where
  pub front : List PlacedToken
  pub own : Says
  pub has : P front own
  pub parts : ts ≡ front ++ x.1
  pub said : own o ≡ x.0

collection_of : (names : Names) (O : Form PlacedToken Says) (paren close : PlacedToken) (a : List PlacedToken) (ds : List Says) → paren.kind ≡ kinds.OpenParen → close.kind ≡ kinds.CloseParen → many O a ds
    → collection names O (paren ∷ (a ++ close ∷ [])) (says_collection names.role ds)
collection_of names O paren close a ds e f h = record {
  own = ds;
  spelled = behind_kind kinds.OpenParen (many O ◃ kind kinds.CloseParen) paren (a ++ close ∷ []) ds e (before_kind kinds.CloseParen (many O) a close ds f h);
  means = refl;
}

inside_by : (names : Names) (O : Form PlacedToken Says) (r : RunsObject) → RunsSays O r → (o : Output) (paren : PlacedToken) (inner : List PlacedToken) (x : (Term × Output) × List PlacedToken) → paren.kind ≡ kinds.OpenParen
    → (s : Option (List PlacedToken)) → strip_kind kinds.CloseParen inner ≡ s → collection_inside names.role r o inner s ≡ Some x → Said (collection names O) o (paren ∷ inner) x
inside_by names O r p o paren inner x e (Some after) s h =
    let c = strip-some kinds.CloseParen inner after s in
    let same = some_is ((rdf.nil, o), after) x h in
    record {
      front = paren ∷ c.0 ∷ [];
      own = says_collection names.role [];
      has = collection_of names O paren c.0 [] [] e c.2 refl;
      parts = ap (λ (t : List PlacedToken). paren ∷ t) (c.1 ∙ ap (λ (y : (Term × Output) × List PlacedToken). c.0 ∷ y.1) same);
      said = ap (λ (y : (Term × Output) × List PlacedToken). y.0) same;
    }
inside_by names O r p o paren inner x e None s h =
    let m = mapped (λ (y : Output × List PlacedToken). ((new_node names.role o, y.0), y.1)) (members_run names.role r (length inner) (new_node names.role o) (one_more o) inner) x h in
    let k = members-sound O names.role r p (length inner) (new_node names.role o) (one_more o) inner m.0 m.1 in
    record {
      front = paren ∷ (k.front ++ k.close ∷ []);
      own = says_collection names.role (k.first ∷ k.more);
      has = collection_of names O paren k.close k.front (k.first ∷ k.more) e k.closes k.has;
      parts = ap (λ (t : List PlacedToken). paren ∷ t) (k.parts ∙ sym (one_behind k.front k.close m.0.1) ∙ ap (λ (y : (Term × Output) × List PlacedToken). (k.front ++ k.close ∷ []) ++ y.1) m.2);
      said = ap (λ (q : Output). (new_node names.role o, q)) k.said ∙ ap (λ (y : (Term × Output) × List PlacedToken). y.0) m.2;
    }

collection-sound : (names : Names) (O : Form PlacedToken Says) (r : RunsObject) → RunsSays O r → (o : Output) (ts : List PlacedToken) (x : (Term × Output) × List PlacedToken) → collection_run names.role r o ts ≡ Some x → Said (collection names O) o ts x
unfolding collection_run
collection-sound names O r p o ts x e =
    let b = bind_some (strip_kind kinds.OpenParen ts) (λ (inner : List PlacedToken). collection_inside names.role r o inner (strip_kind kinds.CloseParen inner)) x e in
    let c = strip-some kinds.OpenParen ts b.0 b.1 in
    let k = inside_by names O r p o c.0 b.0 x c.2 (strip_kind kinds.CloseParen b.0) refl b.2 in
    record { front = k.front; own = k.own; has = k.has; parts = c.1 ∙ k.parts; said = k.said }

inside_full : (names : Names) (O : Form PlacedToken Says) (r : RunsObject) → RunsSays O r → StartsObject O → (o : Output) (ds : List Says) (a : List PlacedToken) (close : PlacedToken) (rest inner : List PlacedToken) → many O a ds → close.kind ≡ kinds.CloseParen → inner ≡ a ++ close ∷ rest
    → collection_inside names.role r o inner (strip_kind kinds.CloseParen inner) ≡ Some (says_collection names.role ds o, rest)
inside_full names O r p s o [] a close rest inner h e f =
    let g : inner ≡ close ∷ rest = f ∙ ap (λ (t : List PlacedToken). t ++ close ∷ rest) h in
    let k : strip_kind kinds.CloseParen inner ≡ Some rest = ap (strip_kind kinds.CloseParen) g ∙ strip-full kinds.CloseParen close rest e in
    rw k refl
inside_full names O r p s o (d ∷ ds) a close rest inner h e f =
    let b : Begins starts_object inner = subst (λ (t : List PlacedToken). Begins starts_object t) (sym f) (begins-append starts_object a (close ∷ rest) (members_begin O s a d ds h)) in
    let k : strip_kind kinds.CloseParen inner ≡ None = strip-none kinds.CloseParen starts_object object-open inner b in
    let le : length a ≤ length inner = omega (arith, ap length f, length-append a (close ∷ rest)) in
    let m = members-full O names.role r p s ds (length inner) (new_node names.role o) (one_more o) d a close rest h e le in
    let n : members_run names.role r (length inner) (new_node names.role o) (one_more o) inner ≡ Some ((says_collection names.role (d ∷ ds) o).1, rest) = ap (λ (t : List PlacedToken). members_run names.role r (length inner) (new_node names.role o) (one_more o) t) f ∙ m in
    rw (k, n) refl

collection-full : (names : Names) (O : Form PlacedToken Says) (r : RunsObject) → RunsSays O r → StartsObject O → (o : Output) (front rest : List PlacedToken) (d : Says) → collection names O front d → collection_run names.role r o (front ++ rest) ≡ Some (d o, rest)
unfolding collection_run
collection-full names O r p s o front rest d h =
    let k = behind_is kinds.OpenParen (many O ◃ kind kinds.CloseParen) front h.own h.spelled in
    let c = before_is kinds.CloseParen (many O) k.behind h.own k.has in
    let e : k.behind ++ rest ≡ c.before ++ c.token ∷ rest = ap (λ (t : List PlacedToken). t ++ rest) c.parts ∙ one_behind c.before c.token rest in
    let o1 : strip_kind kinds.OpenParen (front ++ rest) ≡ Some (k.behind ++ rest) = ap (λ (t : List PlacedToken). strip_kind kinds.OpenParen (t ++ rest)) k.parts ∙ strip-full kinds.OpenParen k.token (k.behind ++ rest) k.is_kind in
    let i = inside_full names O r p s o h.own c.before c.token rest (k.behind ++ rest) c.has c.is_kind e in
    let go : collection_run names.role r o (front ++ rest) ≡ Some (says_collection names.role h.own o, rest) = rw o1 i in
    go ∙ ap (λ (f : Says). Some (f o, rest)) (sym h.means)

pub collection-executes : (names : Names) (O : Form PlacedToken Says) (r : RunsObject) → RunsSays O r → StartsObject O → RunsSays (collection names O) (collection_run names.role r)
collection-executes names O r p s = record {
  sound = λ o ts x e. let k = collection-sound names O r p o ts x e in (k.front, k.own, k.has, k.parts, k.said);
  full = λ o front rest d h f. collection-full names O r p s o front rest d h;
}

-- ---- verbs and objects

pub objects-executes : (names : Names) (O : Form PlacedToken Says) (r : RunsObject) → RunsSays O r → RunsObjects names O r
unfolding objects_run
objects-executes names O r p subject = record {
  sound = λ o ts x e.
      let b = bind_some (verb_at names ts) (λ (v : Term × List PlacedToken). option_and_then (λ (y : Output × List PlacedToken). commas_run r (length y.1) subject v.0 y.0 y.1) (said_object r subject v.0 o v.1)) x e in
      let v = verb-sound names ts b.0 b.1 in
      let c = bind_some (said_object r subject b.0.0 o b.0.1) (λ (y : Output × List PlacedToken). commas_run r (length y.1) subject b.0.0 y.0 y.1) x b.2 in
      let k = one_said O r p subject b.0.0 o b.0.1 c.0 c.1 in
      let m = commas-sound O r p (length c.0.1) subject b.0.0 c.0.0 c.0.1 x c.2 in (
        v.0 ++ (k.front ++ m.front),
        tells_objects (b.0.0, (k.own, m.each)),
        record {
          own = (b.0.0, (k.own, m.each));
          spelled = record { front = v.0; back = k.front ++ m.front; parts = refl; first = v.1; second = record { front = k.front; back = m.front; parts = refl; first = k.has; second = m.has } };
          means = refl;
        },
        v.2 ∙ ap (λ (t : List PlacedToken). v.0 ++ t) (k.parts ∙ ap (λ (t : List PlacedToken). k.front ++ t) m.parts ∙ sym (append_assoc k.front m.front x.1)) ∙ sym (append_assoc v.0 (k.front ++ m.front) x.1),
        ap (λ (z : Output). tells_each b.0.0 m.each subject z) k.said ∙ m.said,
      );
  full = λ o front rest t h f.
      let s = h.spelled in
      let same : front ++ rest ≡ s.front ++ (s.second.front ++ (s.second.back ++ rest)) = ap (λ (u : List PlacedToken). u ++ rest) (s.parts ∙ ap (λ (u : List PlacedToken). s.front ++ u) s.second.parts) ∙ append_assoc s.front (s.second.front ++ s.second.back) rest ∙ ap (λ (u : List PlacedToken). s.front ++ u) (append_assoc s.second.front s.second.back rest) in
      let v : verb_at names (front ++ rest) ≡ Some (h.own.0, s.second.front ++ (s.second.back ++ rest)) = ap (verb_at names) same ∙ verb-full names s.front (s.second.front ++ (s.second.back ++ rest)) h.own.0 s.first in
      let e = p.full o s.second.front (s.second.back ++ rest) h.own.1.0 s.second.first (comma_follows O h.own.1.1 s.second.back rest s.second.second f) in
      let m = commas-full O r p h.own.1.1 (length (s.second.back ++ rest)) subject h.own.0 (said_of subject h.own.0 (h.own.1.0 o)) s.second.back rest s.second.second f (omega (arith, length-append s.second.back rest)) in
      let go : objects_run names r subject o (front ++ rest) ≡ Some (tells_objects h.own subject o, rest) = rw (v, e, m) refl in
      go ∙ ap (λ (g : Tells). Some (g subject o, rest)) (sym h.means);
}

pub objects-begin : (names : Names) (O : Form PlacedToken Says) → StartsVerb names O
objects-begin names O a v h =
    let b = verb-begins names h.spelled.front h.own.0 h.spelled.first in
    subst (λ (t : List PlacedToken). Begins can_begin_verb t) (sym h.spelled.parts) (begins-append can_begin_verb h.spelled.front h.spelled.back b)

abbrev pub RunsProperties : Names → Form PlacedToken Says → RunsObject → Type 0
RunsProperties names O r = (subject : Term) → Executes (run_tells subject) (properties names O) (Begins ends_properties) (properties_run names r subject)

pub properties-executes : (names : Names) (O : Form PlacedToken Says) (r : RunsObject) → RunsSays O r → RunsProperties names O r
unfolding properties_run
properties-executes names O r p subject =
    let q = objects-executes names O r p in
    record {
      sound = λ o ts x e.
          let b = bind_some (objects_run names r subject o ts) (λ (y : Output × List PlacedToken). semicolons_run names r (length y.1) subject y.0 y.1) x e in
          let k = (q subject).sound o ts b.0 b.1 in
          let m = semicolons-sound names O r q (length b.0.1) subject b.0.0 b.0.1 x b.2 in (
            k.0 ++ m.front,
            tells_properties (k.1, m.each),
            record { own = (k.1, m.each); spelled = record { front = k.0; back = m.front; parts = refl; first = k.2; second = m.has }; means = refl },
            k.3 ∙ ap (λ (t : List PlacedToken). k.0 ++ t) m.parts ∙ sym (append_assoc k.0 m.front x.1),
            ap (λ (z : Output). tells_more m.each subject z) k.4 ∙ m.said,
          );
      full = λ o front rest t h f.
          let s = h.spelled in
          let same : front ++ rest ≡ s.front ++ (s.back ++ rest) = ap (λ (u : List PlacedToken). u ++ rest) s.parts ∙ append_assoc s.front s.back rest in
          let e : objects_run names r subject o (front ++ rest) ≡ Some (h.own.0 subject o, s.back ++ rest) = ap (objects_run names r subject o) same ∙ (q subject).full o s.front (s.back ++ rest) h.own.0 s.first (semicolon_follows names O h.own.1 s.back rest s.second f) in
          let m = semicolons-full names O r q (objects-begin names O) h.own.1 (length (s.back ++ rest)) subject (h.own.0 subject o) s.back rest s.second f (omega (arith, length-append s.back rest)) in
          let go : properties_run names r subject o (front ++ rest) ≡ Some (tells_properties h.own subject o, rest) = rw (e, m) refl in
          go ∙ ap (λ (g : Tells). Some (g subject o, rest)) (sym h.means);
    }

pub properties-begin : (names : Names) (O : Form PlacedToken Says) (a : List PlacedToken) (v : Tells) → properties names O a v → Begins can_begin_verb a
properties-begin names O a v h =
    subst (λ (t : List PlacedToken). Begins can_begin_verb t) (sym h.spelled.parts) (begins-append can_begin_verb h.spelled.front h.spelled.back (objects-begin names O h.spelled.front h.own.0 h.spelled.first))

-- ---- square brackets

closes_properties : (t : PlacedToken) (rest : List PlacedToken) → ends_properties t.kind ≡ true → Begins ends_properties (t ∷ rest)
closes_properties t rest e = record { token = t; behind = rest; parts = refl; passes = e }

pub bracketed-executes : (names : Names) (O : Form PlacedToken Says) (r : RunsObject) → RunsSays O r → RunsSays (bracketed names O) (bracketed_run names r)
unfolding bracketed_run
bracketed-executes names O r p =
    let q = properties-executes names O r p in
    record {
      sound = λ o ts x e.
          let b = bind_some (strip_kind kinds.OpenBracket ts) (λ (inner : List PlacedToken). option_and_then (λ (y : Output × List PlacedToken). option_map (λ (after : List PlacedToken). ((new_node names.role o, y.0), after)) (strip_kind kinds.CloseBracket y.1)) (properties_run names r (new_node names.role o) (one_more o) inner)) x e in
          let c = strip-some kinds.OpenBracket ts b.0 b.1 in
          let d = bind_some (properties_run names r (new_node names.role o) (one_more o) b.0) (λ (y : Output × List PlacedToken). option_map (λ (after : List PlacedToken). ((new_node names.role o, y.0), after)) (strip_kind kinds.CloseBracket y.1)) x b.2 in
          let m = mapped (λ (after : List PlacedToken). ((new_node names.role o, d.0.0), after)) (strip_kind kinds.CloseBracket d.0.1) x d.2 in
          let f = strip-some kinds.CloseBracket d.0.1 m.0 m.1 in
          let k = (q (new_node names.role o)).sound (one_more o) b.0 d.0 d.1 in (
            c.0 ∷ (k.0 ++ f.0 ∷ []),
            says_bracketed names.role k.1,
            record {
              own = k.1;
              spelled = behind_kind kinds.OpenBracket (properties names O ◃ kind kinds.CloseBracket) c.0 (k.0 ++ f.0 ∷ []) k.1 c.2 (before_kind kinds.CloseBracket (properties names O) k.0 f.0 k.1 f.2 k.2);
              means = refl;
            },
            c.1 ∙ ap (λ (t : List PlacedToken). c.0 ∷ t) (k.3 ∙ ap (λ (t : List PlacedToken). k.0 ++ t) f.1 ∙ sym (one_behind k.0 f.0 m.0) ∙ ap (λ (y : (Term × Output) × List PlacedToken). (k.0 ++ f.0 ∷ []) ++ y.1) m.2),
            ap (λ (z : Output). (new_node names.role o, z)) k.4 ∙ ap (λ (y : (Term × Output) × List PlacedToken). y.0) m.2,
          );
      full = λ o front rest d h f.
          let k = behind_is kinds.OpenBracket (properties names O ◃ kind kinds.CloseBracket) front h.own h.spelled in
          let c = before_is kinds.CloseBracket (properties names O) k.behind h.own k.has in
          let e : k.behind ++ rest ≡ c.before ++ c.token ∷ rest = ap (λ (t : List PlacedToken). t ++ rest) c.parts ∙ one_behind c.before c.token rest in
          let o1 : strip_kind kinds.OpenBracket (front ++ rest) ≡ Some (k.behind ++ rest) = ap (λ (t : List PlacedToken). strip_kind kinds.OpenBracket (t ++ rest)) k.parts ∙ strip-full kinds.OpenBracket k.token (k.behind ++ rest) k.is_kind in
          let g : properties_run names r (new_node names.role o) (one_more o) (k.behind ++ rest) ≡ Some (h.own (new_node names.role o) (one_more o), c.token ∷ rest) = ap (properties_run names r (new_node names.role o) (one_more o)) e ∙ (q (new_node names.role o)).full (one_more o) c.before (c.token ∷ rest) h.own c.has (closes_properties c.token rest (ap ends_properties c.is_kind)) in
          let l = strip-full kinds.CloseBracket c.token rest c.is_kind in
          let go : bracketed_run names r o (front ++ rest) ≡ Some (says_bracketed names.role h.own o, rest) = rw (o1, g, l) refl in
          go ∙ ap (λ (u : Says). Some (u o, rest)) (sym h.means);
    }

-- ---- objects

pub begins_kind : {V : Type 0} (k : TokenKind) (P : Form PlacedToken V) (a : List PlacedToken) (v : V) → (kind k ▹ P) a v → (p : TokenKind → Bool) → p k ≡ true → Begins p a
begins_kind k P a v h p e =
    let b = behind_is k P a v h in
    record { token = b.token; behind = b.behind; parts = b.parts; passes = ap p b.is_kind ∙ e }

pub object-begins : (names : Names) (d : ℕ) → StartsObject (object names d)
unfolding object
object-begins names zero a v h = begins-more starts_plain starts_object plain-starts_object a (term-begins names a v h)
object-begins names (suc d) a v h = elim h [
  | inl t ↦ begins-more starts_plain starts_object plain-starts_object a (term-begins names a v t)
  | inr k ↦ elim k [
    | inl c ↦ begins_kind kinds.OpenParen (many (object names d) ◃ kind kinds.CloseParen) a c.own c.spelled starts_object refl
    | inr b ↦ begins_kind kinds.OpenBracket (properties names (object names d) ◃ kind kinds.CloseBracket) a b.own b.spelled starts_object refl
  ]
]

pub opens_begins : (p : TokenKind → Bool) (a rest : List PlacedToken) (b : Begins p a) → opening_at (a ++ rest) ≡ opening_of b.token.kind
opens_begins p a rest b = ap (λ (t : List PlacedToken). opening_at (t ++ rest)) b.parts

pub opens_behind : {V : Type 0} (k : TokenKind) (P : Form PlacedToken V) (a rest : List PlacedToken) (v : V) → (kind k ▹ P) a v → opening_at (a ++ rest) ≡ opening_of k
opens_behind k P a rest v h =
    let b = behind_is k P a v h in
    ap (λ (t : List PlacedToken). opening_at (t ++ rest)) b.parts ∙ ap opening_of b.is_kind

object_cases : (c b t : Option ((Term × Output) × List PlacedToken)) (x : (Term × Output) × List PlacedToken) (k : Opening) → object_by k c b t ≡ Some x → (c ≡ Some x) ⊎ ((b ≡ Some x) ⊎ (t ≡ Some x))
object_cases c b t x Paren e = inl e
object_cases c b t x Bracket e = inr (inl e)
object_cases c b t x opening.Neither e = inr (inr e)

plain_step : (names : Names) (o : Output) (ts : List PlacedToken) (x : (Term × Output) × List PlacedToken) → term_run names o ts ≡ Some x
    → (front : List PlacedToken) × (v : Says) × plain_term names front v × (ts ≡ front ++ x.1) × (v o ≡ x.0)
plain_step names o ts x e = let k = term-sound names o ts x e in (k.front, k.own, k.has, k.parts, k.said)

object_step : (names : Names) (d : ℕ) → RunsSays (object names d) (object_run names d) → RunsSays (object names (suc d)) (object_run names (suc d))
unfolding object object_run
object_step names d ih =
    let s = object-begins names d in
    let c = collection-executes names (object names d) (object_run names d) ih s in
    let b = bracketed-executes names (object names d) (object_run names d) ih in
    record {
      sound = λ o ts x e. elim (object_cases (collection_run names.role (object_run names d) o ts) (bracketed_run names (object_run names d) o ts) (term_run names o ts) x (opening_at ts) e) [
        | inl h ↦ let k = c.sound o ts x h in (k.0, k.1, inr (inl k.2), k.3, k.4)
        | inr h ↦ elim h [
          | inl g ↦ let k = b.sound o ts x g in (k.0, k.1, inr (inr k.2), k.3, k.4)
          | inr g ↦ let k = plain_step names o ts x g in (k.0, k.1, inl k.2, k.3, k.4)
        ]
      ];
      full = λ o front rest v h f.
          let all = front ++ rest in
          let go = λ (k : Opening). object_by k (collection_run names.role (object_run names d) o all) (bracketed_run names (object_run names d) o all) (term_run names o all) in
          elim h [
            | inl t ↦
                let g = term-begins names front v t in
                ap go (opens_begins starts_plain front rest g ∙ plain-opens g.token.kind g.passes) ∙ term-full names o front rest v t f
            | inr k ↦ elim k [
              | inl g ↦ ap go (opens_behind kinds.OpenParen (many (object names d) ◃ kind kinds.CloseParen) front rest g.own g.spelled) ∙ c.full o front rest v g f
              | inr g ↦ ap go (opens_behind kinds.OpenBracket (properties names (object names d) ◃ kind kinds.CloseBracket) front rest g.own g.spelled) ∙ b.full o front rest v g f
            ]
          ];
    }

pub object-executes : (names : Names) (d : ℕ) → RunsSays (object names d) (object_run names d)
unfolding object object_run
object-executes names zero = record {
  sound = λ o ts x e. plain_step names o ts x e;
  full = λ o front rest v h f. term-full names o front rest v h f;
}
object-executes names (suc d) = object_step names d (object-executes names d)
