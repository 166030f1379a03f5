-- Functions that read tokens from the left and say at once what they say: which of them are exactly a form.
use Rattle.std.proofs.Common.{◌≡◌, ℕ, zero, suc, ◌-◌, ◌≤◌, ◌<◌, Bool, true, false, cond, List, [], ◌∷◌, ◌++◌, length, Option, Some, None, refl, sym, ap, subst, ◌∙◌, append_assoc, arith, length-append, inl, inr}
use Rattle.std.specs.Prelude.{option_and_then}
use Rattle.std.specs.Option.{option_map}
use Rattle.std.proofs.lemmas.List.{append-nil}
use Rattle.grammar_forms.specs.Forms.{Form, many, optional, either, Then, Made, ◌⨾◌, ◌▹◌, ◌◃◌}
use Rattle.grammar_forms.specs.Reading.{Read}
use Rattle.grammar_forms.specs.Exact.{Exact}
use Rattle.grammar_forms.proofs.Exactness.{bind_some, some_is}
use Rattle.rdf_terms.specs.declared.term.Term.{Term}
use Rattle.rdf_terms.specs.Vocab.Rdf as rdf
use Rattle.turtle_tokens.specs.declared.kinds.TokenKind.{TokenKind}
use Rattle.turtle_tokens.specs.declared.kinds.TokenKind.TheVariants as kinds
use Rattle.turtle_tokens.specs.Places.{PlacedToken}
use Rattle.turtle_statements.specs.declared.role.Role.{Role}
use Rattle.turtle_statements.specs.declared.output.Output.{Output}
use Rattle.turtle_statements.specs.Names.{Names}
use Rattle.turtle_statements.specs.Meaning.{Says, Tells, say, new_node, one_more, cells, says_collection, tells_each, tells_optional, tells_more}
use Rattle.turtle_statements.specs.Grammar.{Single, kind, objects}
use Rattle.turtle_statements.specs.Running.{can_begin_verb, RunsObject, said_object, is_kind, strip_kind, member_next, members_run, collection_inside, collection_run, comma_next, commas_run, semicolon_next, semicolons_run, optional_objects, objects_run, begins_verb}
use Rattle.turtle_statements.proofs.KindLaws.{Begins, begins-append, begins-more, begins-nonempty, strip-none, strip-some, strip-full, starts_object, ends_string, ends_objects, ends_properties, object-ends_string, object-open, objects-end_string, objects-no_comma, objects-no_verb, properties-end_objects, properties-no_semicolon}

-- what is done is in the form, and what is in the form is done, whatever of F follows
pub record Executes {V Y : Type 0} (f : V → Output → Y) (P : Form PlacedToken V) (F : List PlacedToken → Type 0) (r : Output → List PlacedToken → Option (Y × List PlacedToken)) : Type 0 where
  pub sound : (o : Output) (ts : List PlacedToken) (x : Y × List PlacedToken) → r o ts ≡ Some x → (front : List PlacedToken) × (v : V) × P front v × (ts ≡ front ++ x.1) × (f v o ≡ x.0)
  pub full : (o : Output) (front rest : List PlacedToken) (v : V) → P front v → F rest → r o (front ++ rest) ≡ Some (f v o, rest)

abbrev pub run_says : Says → Output → Term × Output
run_says d o = d o

abbrev pub run_tells : Term → Tells → Output → Output
run_tells subject t o = t subject o

abbrev pub RunsSays : Form PlacedToken Says → RunsObject → Type 0
RunsSays O r = Executes run_says O (Begins ends_string) r

abbrev pub StartsObject : Form PlacedToken Says → Type 0
StartsObject O = (a : List PlacedToken) (v : Says) → O a v → Begins starts_object a

-- ---- less is left

abbrev pub Shortens : RunsObject → Type 0
Shortens r = (o : Output) (ts : List PlacedToken) (x : (Term × Output) × List PlacedToken) → r o ts ≡ Some x → length x.1 < length ts

pub shortens : (O : Form PlacedToken Says) (r : RunsObject) → RunsSays O r → StartsObject O → Shortens r
shortens O r p s o ts x e =
    let h = p.sound o ts x e in
    omega (arith, begins-nonempty starts_object h.0 (s h.0 h.1 h.2), ap length h.3, length-append h.0 x.1)

pub strip-shorter : (k : TokenKind) (ts rest : List PlacedToken) → strip_kind k ts ≡ Some rest → length rest < length ts
strip-shorter k ts rest e = omega (arith, ap length (strip-some k ts rest e).1)

-- a form of two parts
pair_of : {V W : Type 0} (P : Form PlacedToken V) (Q : Form PlacedToken W) (a b : List PlacedToken) (v : V) (w : W) → P a v → Q b w → Then P Q (a ++ b) (v, w)
pair_of P Q a b v w h k = record { front = a; back = b; parts = refl; first = h; second = k }

pub behind_kind : {V : Type 0} (k : TokenKind) (P : Form PlacedToken V) (t : PlacedToken) (a : List PlacedToken) (v : V) → t.kind ≡ k → P a v → (kind k ▹ P) (t ∷ a) v
behind_kind k P t a v e h = record {
  own = (tt, v);
  spelled = record { front = t ∷ []; back = a; parts = refl; first = record { token = t; alone = refl; means = e }; second = h };
  means = refl;
}

-- ---- an object, and the triple that it is the object of

pub mapped : {A B : Type 0} (f : A → B) (o : Option A) (y : B) → option_map f o ≡ Some y → (x : A) × (o ≡ Some x) × (f x ≡ y)
mapped f None y e = absurd cc
mapped f (Some x) y e = (x, refl, some_is (f x) y e)

abbrev pub said_of : Term → Term → Term × Output → Output
said_of subject verb y = say subject verb y.0 y.1

pub record One (O : Form PlacedToken Says) (subject verb : Term) (o : Output) (ts : List PlacedToken) (y : Output × List PlacedToken) : Type 0 where
  pub front : List PlacedToken
  pub own : Says
  pub has : O front own
  pub parts : ts ≡ front ++ y.1
  pub said : said_of subject verb (own o) ≡ y.0

pub one_said : (O : Form PlacedToken Says) (r : RunsObject) → RunsSays O r → (subject verb : Term) (o : Output) (ts : List PlacedToken) (y : Output × List PlacedToken) → said_object r subject verb o ts ≡ Some y → One O subject verb o ts y
one_said O r p subject verb o ts y e =
    let m = mapped (λ (x : (Term × Output) × List PlacedToken). (said_of subject verb x.0, x.1)) (r o ts) y e in
    let k = p.sound o ts m.0 m.1 in
    record {
      front = k.0;
      own = k.1;
      has = k.2;
      parts = k.3 ∙ ap (λ (z : Output × List PlacedToken). k.0 ++ z.1) m.2;
      said = ap (said_of subject verb) k.4 ∙ ap (λ (z : Output × List PlacedToken). z.0) m.2;
    }

pub said-shorter : (r : RunsObject) → Shortens r → (subject verb : Term) (o : Output) (ts : List PlacedToken) (y : Output × List PlacedToken) → said_object r subject verb o ts ≡ Some y → length y.1 < length ts
said-shorter r short subject verb o ts y e =
    let m = mapped (λ (x : (Term × Output) × List PlacedToken). (said_of subject verb x.0, x.1)) (r o ts) y e in
    omega (arith, short o ts m.0 m.1, ap (λ (z : Output × List PlacedToken). length z.1) m.2)

-- ---- the members of a collection

abbrev pub next_cell : Role → Term → Output → Output
next_cell role cell o = say cell rdf.rest (new_node role o) (one_more o)

pub members-none : (role : Role) (r : RunsObject) (n : ℕ) (cell : Term) (o : Output) (ts : List PlacedToken) → said_object r cell rdf.first o ts ≡ None → members_run role r n cell o ts ≡ None
unfolding members_run
members-none role r zero cell o ts e = refl
members-none role r (suc n) cell o ts e = rw e refl

-- a member is read: what stands behind it decides
pub members-step : (role : Role) (r : RunsObject) (n : ℕ) (cell : Term) (o : Output) (ts : List PlacedToken) (y : Output × List PlacedToken) → Shortens r → length ts ≤ n → said_object r cell rdf.first o ts ≡ Some y
    → members_run role r n cell o ts ≡ member_next role (members_run role r (n - 1)) cell y.0 y.1 (strip_kind kinds.CloseParen y.1)
unfolding members_run
members-step role r zero cell o ts y short le e = absurd (omega (arith, said-shorter r short cell rdf.first o ts y e, le))
members-step role r (suc n) cell o ts y short le e = let k : suc n - 1 ≡ n = omega arith in rw (k, e) refl

pub record Members (O : Form PlacedToken Says) (role : Role) (cell : Term) (o : Output) (ts : List PlacedToken) (x : Output × List PlacedToken) : Type 0 where
  pub front : List PlacedToken
  pub first : Says
  pub more : List Says
  pub close : PlacedToken
  pub has : many O front (first ∷ more)
  pub parts : ts ≡ front ++ close ∷ x.1
  pub closes : close.kind ≡ kinds.CloseParen
  pub said : cells role cell first more o ≡ x.0

one_member : (O : Form PlacedToken Says) (a : List PlacedToken) (d : Says) → O a d → many O a (d ∷ [])
one_member O a d h = record { front = a; back = []; parts = sym (append-nil a); first = h; second = refl }

members_by : (O : Form PlacedToken Says) (role : Role) (r : RunsObject) (n : ℕ) (cell : Term) (o : Output) (ts : List PlacedToken) (x : Output × List PlacedToken) (y : Output × List PlacedToken) → One O cell rdf.first o ts y
    → ((c : Term) (q : Output) (us : List PlacedToken) (z : Output × List PlacedToken) → members_run role r n c q us ≡ Some z → Members O role c q us z)
    → (s : Option (List PlacedToken)) → strip_kind kinds.CloseParen y.1 ≡ s → member_next role (members_run role r n) cell y.0 y.1 s ≡ Some x → Members O role cell o ts x
members_by O role r n cell o ts x y k ih (Some after) s h =
    let c = strip-some kinds.CloseParen y.1 after s in
    let same : (say cell rdf.rest rdf.nil y.0, after) ≡ x = some_is (say cell rdf.rest rdf.nil y.0, after) x h in
    record {
      front = k.front;
      first = k.own;
      more = [];
      close = c.0;
      has = one_member O k.front k.own k.has;
      parts = k.parts ∙ ap (λ (t : List PlacedToken). k.front ++ t) (c.1 ∙ ap (λ (z : Output × List PlacedToken). c.0 ∷ z.1) same);
      closes = c.2;
      said = ap (λ (z : Output). say cell rdf.rest rdf.nil z) k.said ∙ ap (λ (z : Output × List PlacedToken). z.0) same;
    }
members_by O role r n cell o ts x y k ih None s h =
    let m = ih (new_node role y.0) (next_cell role cell y.0) y.1 x h in
    record {
      front = k.front ++ m.front;
      first = k.own;
      more = m.first ∷ m.more;
      close = m.close;
      has = record { front = k.front; back = m.front; parts = refl; first = k.has; second = m.has };
      parts = k.parts ∙ ap (λ (t : List PlacedToken). k.front ++ t) m.parts ∙ sym (append_assoc k.front m.front (m.close ∷ x.1));
      closes = m.closes;
      said = ap (λ (z : Output). cells role (new_node role z) m.first m.more (next_cell role cell z)) k.said ∙ m.said;
    }

pub members-sound : (O : Form PlacedToken Says) (role : Role) (r : RunsObject) → RunsSays O r → (n : ℕ) (cell : Term) (o : Output) (ts : List PlacedToken) (x : Output × List PlacedToken) → members_run role r n cell o ts ≡ Some x → Members O role cell o ts x
unfolding members_run
members-sound O role r p zero cell o ts x e = absurd cc
members-sound O role r p (suc n) cell o ts x e =
    let b = bind_some (said_object r cell rdf.first o ts) (λ y. member_next role (members_run role r n) cell y.0 y.1 (strip_kind kinds.CloseParen y.1)) x e in
    members_by O role r n cell o ts x b.0 (one_said O r p cell rdf.first o ts b.0 b.1) (λ c q us z h. members-sound O role r p n c q us z h) (strip_kind kinds.CloseParen b.0.1) refl b.2

pub members_begin : (O : Form PlacedToken Says) → StartsObject O → (front : List PlacedToken) (d : Says) (ds : List Says) → many O front (d ∷ ds) → Begins starts_object front
members_begin O s front d ds h =
    subst (λ (t : List PlacedToken). Begins starts_object t) (sym h.parts) (begins-append starts_object h.front h.back (s h.front d h.first))

closes_string : (t : PlacedToken) (rest : List PlacedToken) → t.kind ≡ kinds.CloseParen → Begins ends_string (t ∷ rest)
closes_string t rest e = record { token = t; behind = rest; parts = refl; passes = ap ends_string e }

pub members-full : (O : Form PlacedToken Says) (role : Role) (r : RunsObject) → RunsSays O r → StartsObject O → (ds : List Says) (n : ℕ) (cell : Term) (o : Output) (d : Says) (front : List PlacedToken) (t : PlacedToken) (rest : List PlacedToken)
    → many O front (d ∷ ds) → t.kind ≡ kinds.CloseParen → length front ≤ n → members_run role r n cell o (front ++ t ∷ rest) ≡ Some (cells role cell d ds o, rest)
unfolding members_run
members-full O role r p s ds zero cell o d front t rest h c le = absurd (omega (arith, begins-nonempty starts_object front (members_begin O s front d ds h), le))
members-full O role r p s [] (suc n) cell o d front t rest h c le =
    let same : front ++ t ∷ rest ≡ h.front ++ t ∷ rest = ap (λ (a : List PlacedToken). a ++ t ∷ rest) (h.parts ∙ ap (λ (b : List PlacedToken). h.front ++ b) h.second ∙ append-nil h.front) in
    let e : r o (front ++ t ∷ rest) ≡ Some (d o, t ∷ rest) = ap (r o) same ∙ p.full o h.front (t ∷ rest) d h.first (closes_string t rest c) in
    let k = strip-full kinds.CloseParen t rest c in
    rw (e, k) refl
members-full O role r p s (d2 ∷ ds) (suc n) cell o d front t rest h c le =
    let same : front ++ t ∷ rest ≡ h.front ++ (h.back ++ t ∷ rest) = ap (λ (a : List PlacedToken). a ++ t ∷ rest) h.parts ∙ append_assoc h.front h.back (t ∷ rest) in
    let b : Begins starts_object (h.back ++ t ∷ rest) = begins-append starts_object h.back (t ∷ rest) (members_begin O s h.back d2 ds h.second) in
    let e : r o (front ++ t ∷ rest) ≡ Some (d o, h.back ++ t ∷ rest) = ap (r o) same ∙ p.full o h.front (h.back ++ t ∷ rest) d h.first (begins-more starts_object ends_string object-ends_string (h.back ++ t ∷ rest) b) in
    let k = strip-none kinds.CloseParen starts_object object-open (h.back ++ t ∷ rest) b in
    let ih = members-full O role r p s ds n (new_node role (said_of cell rdf.first (d o))) (next_cell role cell (said_of cell rdf.first (d o))) d2 h.back t rest h.second c (omega (arith, begins-nonempty starts_object h.front (s h.front d h.first), le, ap length h.parts, length-append h.front h.back)) in
    rw (e, k, ih) refl

-- ---- objects behind commas

pub commas-done : (r : RunsObject) (n : ℕ) (subject verb : Term) (o : Output) (ts : List PlacedToken) → strip_kind kinds.Comma ts ≡ None → commas_run r n subject verb o ts ≡ Some (o, ts)
unfolding commas_run
commas-done r zero subject verb o ts s = refl
commas-done r (suc n) subject verb o ts s = rw s refl

pub commas-none : (r : RunsObject) (n : ℕ) (subject verb : Term) (o : Output) (ts after : List PlacedToken) → length ts ≤ n → strip_kind kinds.Comma ts ≡ Some after → said_object r subject verb o after ≡ None → commas_run r n subject verb o ts ≡ None
unfolding commas_run
commas-none r zero subject verb o ts after le s e = absurd (omega (arith, strip-shorter kinds.Comma ts after s, le))
commas-none r (suc n) subject verb o ts after le s e = rw (s, e) refl

pub commas-more : (r : RunsObject) (n : ℕ) (subject verb : Term) (o : Output) (ts after : List PlacedToken) (y : Output × List PlacedToken) → length ts ≤ n → strip_kind kinds.Comma ts ≡ Some after → said_object r subject verb o after ≡ Some y
    → commas_run r n subject verb o ts ≡ commas_run r (n - 1) subject verb y.0 y.1
unfolding commas_run
commas-more r zero subject verb o ts after y le s e = absurd (omega (arith, strip-shorter kinds.Comma ts after s, le))
commas-more r (suc n) subject verb o ts after y le s e = let k : suc n - 1 ≡ n = omega arith in rw (k, s, e) refl

pub record Objects (O : Form PlacedToken Says) (subject verb : Term) (o : Output) (ts : List PlacedToken) (x : Output × List PlacedToken) : Type 0 where
  pub front : List PlacedToken
  pub each : List Says
  pub has : many (kind kinds.Comma ▹ O) front each
  pub parts : ts ≡ front ++ x.1
  pub said : tells_each verb each subject o ≡ x.0

no_objects : (O : Form PlacedToken Says) (subject verb : Term) (o : Output) (ts : List PlacedToken) (x : Output × List PlacedToken) → Some (o, ts) ≡ Some x → Objects O subject verb o ts x
no_objects O subject verb o ts x e =
    let same = some_is (o, ts) x e in
    record { front = []; each = []; has = refl; parts = ap (λ (z : Output × List PlacedToken). z.1) same; said = ap (λ (z : Output × List PlacedToken). z.0) same }

commas_by : (O : Form PlacedToken Says) (r : RunsObject) → RunsSays O r → (n : ℕ) (subject verb : Term) (o : Output) (ts : List PlacedToken) (x : Output × List PlacedToken)
    → ((q : Output) (us : List PlacedToken) (z : Output × List PlacedToken) → commas_run r n subject verb q us ≡ Some z → Objects O subject verb q us z)
    → (s : Option (List PlacedToken)) → strip_kind kinds.Comma ts ≡ s → comma_next r (commas_run r n subject verb) subject verb o ts s ≡ Some x → Objects O subject verb o ts x
commas_by O r p n subject verb o ts x ih None s h = no_objects O subject verb o ts x h
commas_by O r p n subject verb o ts x ih (Some after) s h =
    let c = strip-some kinds.Comma ts after s in
    let b = bind_some (said_object r subject verb o after) (λ y. commas_run r n subject verb y.0 y.1) x h in
    let k = one_said O r p subject verb o after b.0 b.1 in
    let m = ih b.0.0 b.0.1 x b.2 in
    record {
      front = (c.0 ∷ k.front) ++ m.front;
      each = k.own ∷ m.each;
      has = record { front = c.0 ∷ k.front; back = m.front; parts = refl; first = behind_kind kinds.Comma O c.0 k.front k.own c.2 k.has; second = m.has };
      parts = c.1 ∙ ap (λ (t : List PlacedToken). c.0 ∷ t) (k.parts ∙ ap (λ (t : List PlacedToken). k.front ++ t) m.parts ∙ sym (append_assoc k.front m.front x.1));
      said = ap (λ (z : Output). tells_each verb m.each subject z) k.said ∙ m.said;
    }

pub commas-sound : (O : Form PlacedToken Says) (r : RunsObject) → RunsSays O r → (n : ℕ) (subject verb : Term) (o : Output) (ts : List PlacedToken) (x : Output × List PlacedToken) → commas_run r n subject verb o ts ≡ Some x → Objects O subject verb o ts x
unfolding commas_run
commas-sound O r p zero subject verb o ts x e = no_objects O subject verb o ts x e
commas-sound O r p (suc n) subject verb o ts x e = commas_by O r p n subject verb o ts x (λ q us z h. commas-sound O r p n subject verb q us z h) (strip_kind kinds.Comma ts) refl e

-- what stands behind a kind of token
pub record BehindKind {V : Type 0} (k : TokenKind) (P : Form PlacedToken V) (front : List PlacedToken) (v : V) : Type 0 where
  pub token : PlacedToken
  pub behind : List PlacedToken
  pub parts : front ≡ token ∷ behind
  pub is_kind : token.kind ≡ k
  pub has : P behind v

pub behind_is : {V : Type 0} (k : TokenKind) (P : Form PlacedToken V) (front : List PlacedToken) (v : V) → (kind k ▹ P) front v → BehindKind k P front v
behind_is {V} k P front v h = record {
  token = h.spelled.first.token;
  behind = h.spelled.back;
  parts = h.spelled.parts ∙ ap (λ (t : List PlacedToken). t ++ h.spelled.back) h.spelled.first.alone;
  is_kind = h.spelled.first.means;
  has = subst (λ (w : V). P h.spelled.back w) (sym h.means) h.spelled.second;
}

pub comma_follows : (O : Form PlacedToken Says) (ds : List Says) (front rest : List PlacedToken) → many (kind kinds.Comma ▹ O) front ds → Begins ends_objects rest → Begins ends_string (front ++ rest)
comma_follows O [] front rest h b = subst (λ (t : List PlacedToken). Begins ends_string (t ++ rest)) (sym h) (begins-more ends_objects ends_string objects-end_string rest b)
comma_follows O (d ∷ ds) front rest h b =
    let k = behind_is kinds.Comma O h.front d h.first in
    record {
      token = k.token;
      behind = k.behind ++ h.back ++ rest;
      parts = ap (λ (t : List PlacedToken). t ++ rest) (h.parts ∙ ap (λ (t : List PlacedToken). t ++ h.back) k.parts);
      passes = ap ends_string k.is_kind;
    }

pub commas-full : (O : Form PlacedToken Says) (r : RunsObject) → RunsSays O r → (ds : List Says) (n : ℕ) (subject verb : Term) (o : Output) (front rest : List PlacedToken)
    → many (kind kinds.Comma ▹ O) front ds → Begins ends_objects rest → length front ≤ n → commas_run r n subject verb o (front ++ rest) ≡ Some (tells_each verb ds subject o, rest)
unfolding commas_run
commas-full O r p [] n subject verb o front rest h b le =
    ap (λ (t : List PlacedToken). commas_run r n subject verb o (t ++ rest)) h ∙ commas-done r n subject verb o rest (strip-none kinds.Comma ends_objects objects-no_comma rest b)
commas-full O r p (d ∷ ds) zero subject verb o front rest h b le =
    let k = behind_is kinds.Comma O h.front d h.first in
    absurd (omega (arith, ap length k.parts, ap length h.parts, length-append h.front h.back, le))
commas-full O r p (d ∷ ds) (suc n) subject verb o front rest h b le =
    let k = behind_is kinds.Comma O h.front d h.first in
    let same : front ++ rest ≡ k.token ∷ (k.behind ++ (h.back ++ rest)) = ap (λ (a : List PlacedToken). a ++ rest) (h.parts ∙ ap (λ (a : List PlacedToken). a ++ h.back) k.parts) ∙ ap (λ (a : List PlacedToken). k.token ∷ a) (append_assoc k.behind h.back rest) in
    let s : strip_kind kinds.Comma (front ++ rest) ≡ Some (k.behind ++ (h.back ++ rest)) = ap (strip_kind kinds.Comma) same ∙ strip-full kinds.Comma k.token (k.behind ++ (h.back ++ rest)) k.is_kind in
    let e = p.full o k.behind (h.back ++ rest) d k.has (comma_follows O ds h.back rest h.second b) in
    let ih = commas-full O r p ds n subject verb (said_of subject verb (d o)) h.back rest h.second b (omega (arith, ap length k.parts, ap length h.parts, length-append h.front h.back, le)) in
    rw (s, e, ih) refl

-- ---- verbs behind semicolons, over a function that reads a verb and its objects

abbrev pub RunsObjects : Names → Form PlacedToken Says → RunsObject → Type 0
RunsObjects names O r = (subject : Term) → Executes (run_tells subject) (objects names O) (Begins ends_objects) (objects_run names r subject)

abbrev pub StartsVerb : Names → Form PlacedToken Says → Type 0
StartsVerb names O = (a : List PlacedToken) (v : Tells) → objects names O a v → Begins can_begin_verb a

pub begins_verb-true : (a : List PlacedToken) → Begins can_begin_verb a → begins_verb a ≡ true
begins_verb-true a h = let e = h.passes in rw (h.parts, e) refl

pub begins_verb-false : (p : TokenKind → Bool) → ((k : TokenKind) → p k ≡ true → can_begin_verb k ≡ false) → (a : List PlacedToken) → Begins p a → begins_verb a ≡ false
begins_verb-false p f a h = let e = f h.token.kind h.passes in rw (h.parts, e) refl

pub semicolons-done : (names : Names) (r : RunsObject) (n : ℕ) (subject : Term) (o : Output) (ts : List PlacedToken) → strip_kind kinds.Semicolon ts ≡ None → semicolons_run names r n subject o ts ≡ Some (o, ts)
unfolding semicolons_run
semicolons-done names r zero subject o ts s = refl
semicolons-done names r (suc n) subject o ts s = rw s refl

pub semicolons-none : (names : Names) (r : RunsObject) (n : ℕ) (subject : Term) (o : Output) (ts after : List PlacedToken) → length ts ≤ n → strip_kind kinds.Semicolon ts ≡ Some after → optional_objects names r subject o after ≡ None → semicolons_run names r n subject o ts ≡ None
unfolding semicolons_run
semicolons-none names r zero subject o ts after le s e = absurd (omega (arith, strip-shorter kinds.Semicolon ts after s, le))
semicolons-none names r (suc n) subject o ts after le s e = rw (s, e) refl

pub semicolons-more : (names : Names) (r : RunsObject) (n : ℕ) (subject : Term) (o : Output) (ts after : List PlacedToken) (x : Output × List PlacedToken) → length ts ≤ n → strip_kind kinds.Semicolon ts ≡ Some after → optional_objects names r subject o after ≡ Some x
    → semicolons_run names r n subject o ts ≡ semicolons_run names r (n - 1) subject x.0 x.1
unfolding semicolons_run
semicolons-more names r zero subject o ts after x le s e = absurd (omega (arith, strip-shorter kinds.Semicolon ts after s, le))
semicolons-more names r (suc n) subject o ts after x le s e = let k : suc n - 1 ≡ n = omega arith in rw (k, s, e) refl

pub record Optional (names : Names) (O : Form PlacedToken Says) (subject : Term) (o : Output) (ts : List PlacedToken) (x : Output × List PlacedToken) : Type 0 where
  pub front : List PlacedToken
  pub own : Option Tells
  pub has : optional (objects names O) front own
  pub parts : ts ≡ front ++ x.1
  pub said : tells_optional own subject o ≡ x.0

pub optional-sound : (names : Names) (O : Form PlacedToken Says) (r : RunsObject) → RunsObjects names O r → (subject : Term) (o : Output) (ts : List PlacedToken) (x : Output × List PlacedToken) (b : Bool)
    → cond b (objects_run names r subject o ts) (Some (o, ts)) ≡ Some x → Optional names O subject o ts x
optional-sound names O r p subject o ts x true e =
    let k = (p subject).sound o ts x e in
    record { front = k.0; own = Some k.1; has = k.2; parts = k.3; said = k.4 }
optional-sound names O r p subject o ts x false e =
    let same = some_is (o, ts) x e in
    record { front = []; own = None; has = refl; parts = ap (λ (z : Output × List PlacedToken). z.1) same; said = ap (λ (z : Output × List PlacedToken). z.0) same }

pub optional-full : (names : Names) (O : Form PlacedToken Says) (r : RunsObject) → RunsObjects names O r → StartsVerb names O → (subject : Term) (o : Output) (front rest : List PlacedToken) (v : Option Tells)
    → optional (objects names O) front v → Begins ends_objects rest → optional_objects names r subject o (front ++ rest) ≡ Some (tells_optional v subject o, rest)
optional-full names O r p s subject o front rest None h b =
    let e = begins_verb-false ends_objects objects-no_verb rest b in
    rw (h, e) refl
optional-full names O r p s subject o front rest (Some v) h b =
    let e = begins_verb-true (front ++ rest) (begins-append can_begin_verb front rest (s front v h)) in
    let k = (p subject).full o front rest v h b in
    rw (e, k) refl

pub record More (names : Names) (O : Form PlacedToken Says) (subject : Term) (o : Output) (ts : List PlacedToken) (x : Output × List PlacedToken) : Type 0 where
  pub front : List PlacedToken
  pub each : List (Option Tells)
  pub has : many (kind kinds.Semicolon ▹ optional (objects names O)) front each
  pub parts : ts ≡ front ++ x.1
  pub said : tells_more each subject o ≡ x.0

nothing_more : (names : Names) (O : Form PlacedToken Says) (subject : Term) (o : Output) (ts : List PlacedToken) (x : Output × List PlacedToken) → Some (o, ts) ≡ Some x → More names O subject o ts x
nothing_more names O subject o ts x e =
    let same = some_is (o, ts) x e in
    record { front = []; each = []; has = refl; parts = ap (λ (z : Output × List PlacedToken). z.1) same; said = ap (λ (z : Output × List PlacedToken). z.0) same }

more_by : (names : Names) (O : Form PlacedToken Says) (r : RunsObject) → RunsObjects names O r → (n : ℕ) (subject : Term) (o : Output) (ts : List PlacedToken) (x : Output × List PlacedToken)
    → ((q : Output) (us : List PlacedToken) (z : Output × List PlacedToken) → semicolons_run names r n subject q us ≡ Some z → More names O subject q us z)
    → (s : Option (List PlacedToken)) → strip_kind kinds.Semicolon ts ≡ s → semicolon_next names r (semicolons_run names r n subject) subject o ts s ≡ Some x → More names O subject o ts x
more_by names O r p n subject o ts x ih None s h = nothing_more names O subject o ts x h
more_by names O r p n subject o ts x ih (Some after) s h =
    let c = strip-some kinds.Semicolon ts after s in
    let b = bind_some (optional_objects names r subject o after) (λ y. semicolons_run names r n subject y.0 y.1) x h in
    let k = optional-sound names O r p subject o after b.0 (begins_verb after) b.1 in
    let m = ih b.0.0 b.0.1 x b.2 in
    record {
      front = (c.0 ∷ k.front) ++ m.front;
      each = k.own ∷ m.each;
      has = record { front = c.0 ∷ k.front; back = m.front; parts = refl; first = behind_kind kinds.Semicolon (optional (objects names O)) c.0 k.front k.own c.2 k.has; second = m.has };
      parts = c.1 ∙ ap (λ (t : List PlacedToken). c.0 ∷ t) (k.parts ∙ ap (λ (t : List PlacedToken). k.front ++ t) m.parts ∙ sym (append_assoc k.front m.front x.1));
      said = ap (λ (z : Output). tells_more m.each subject z) k.said ∙ m.said;
    }

pub semicolons-sound : (names : Names) (O : Form PlacedToken Says) (r : RunsObject) → RunsObjects names O r → (n : ℕ) (subject : Term) (o : Output) (ts : List PlacedToken) (x : Output × List PlacedToken) → semicolons_run names r n subject o ts ≡ Some x → More names O subject o ts x
unfolding semicolons_run
semicolons-sound names O r p zero subject o ts x e = nothing_more names O subject o ts x e
semicolons-sound names O r p (suc n) subject o ts x e = more_by names O r p n subject o ts x (λ q us z h. semicolons-sound names O r p n subject q us z h) (strip_kind kinds.Semicolon ts) refl e

pub semicolon_follows : (names : Names) (O : Form PlacedToken Says) (vs : List (Option Tells)) (front rest : List PlacedToken) → many (kind kinds.Semicolon ▹ optional (objects names O)) front vs → Begins ends_properties rest → Begins ends_objects (front ++ rest)
semicolon_follows names O [] front rest h b = subst (λ (t : List PlacedToken). Begins ends_objects (t ++ rest)) (sym h) (begins-more ends_properties ends_objects properties-end_objects rest b)
semicolon_follows names O (v ∷ vs) front rest h b =
    let k = behind_is kinds.Semicolon (optional (objects names O)) h.front v h.first in
    record {
      token = k.token;
      behind = k.behind ++ h.back ++ rest;
      parts = ap (λ (t : List PlacedToken). t ++ rest) (h.parts ∙ ap (λ (t : List PlacedToken). t ++ h.back) k.parts);
      passes = ap ends_objects k.is_kind;
    }

pub semicolons-full : (names : Names) (O : Form PlacedToken Says) (r : RunsObject) → RunsObjects names O r → StartsVerb names O → (vs : List (Option Tells)) (n : ℕ) (subject : Term) (o : Output) (front rest : List PlacedToken)
    → many (kind kinds.Semicolon ▹ optional (objects names O)) front vs → Begins ends_properties rest → length front ≤ n → semicolons_run names r n subject o (front ++ rest) ≡ Some (tells_more vs subject o, rest)
unfolding semicolons_run
semicolons-full names O r p s [] n subject o front rest h b le =
    ap (λ (t : List PlacedToken). semicolons_run names r n subject o (t ++ rest)) h ∙ semicolons-done names r n subject o rest (strip-none kinds.Semicolon ends_properties properties-no_semicolon rest b)
semicolons-full names O r p s (v ∷ vs) zero subject o front rest h b le =
    let k = behind_is kinds.Semicolon (optional (objects names O)) h.front v h.first in
    absurd (omega (arith, ap length k.parts, ap length h.parts, length-append h.front h.back, le))
semicolons-full names O r p s (v ∷ vs) (suc n) subject o front rest h b le =
    let k = behind_is kinds.Semicolon (optional (objects names O)) h.front v h.first in
    let same : front ++ rest ≡ k.token ∷ (k.behind ++ (h.back ++ rest)) = ap (λ (a : List PlacedToken). a ++ rest) (h.parts ∙ ap (λ (a : List PlacedToken). a ++ h.back) k.parts) ∙ ap (λ (a : List PlacedToken). k.token ∷ a) (append_assoc k.behind h.back rest) in
    let t : strip_kind kinds.Semicolon (front ++ rest) ≡ Some (k.behind ++ (h.back ++ rest)) = ap (strip_kind kinds.Semicolon) same ∙ strip-full kinds.Semicolon k.token (k.behind ++ (h.back ++ rest)) k.is_kind in
    let e = optional-full names O r p s subject o k.behind (h.back ++ rest) v k.has (semicolon_follows names O vs h.back rest h.second b) in
    let ih = semicolons-full names O r p s vs n subject (tells_optional v subject o) h.back rest h.second b (omega (arith, ap length k.parts, ap length h.parts, length-append h.front h.back, le)) in
    rw (t, e, ih) refl
