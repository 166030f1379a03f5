-- A prefixed name is cut between its prefix and its local part, since no PN_PREFIX has a colon.
use Rattle.std.proofs.Common.{◌≡◌, ℕ, zero, suc, Bool, true, false, List, [], ◌∷◌, ◌++◌, refl, sym, ap, subst, ◌∙◌, append_assoc, lit<, inl, inr}
use Rattle.std.specs.List.{list_all}
use Rattle.std.proofs.lemmas.Bool.{eqb-true, false≢true}
use Rattle.std.proofs.lemmas.List.Folds.{list_all-append}
use Rattle.grammar_forms.proofs.Loops.{and_both}
use Rattle.regular_forms.specs.Regular.{Regular, empty, one, OneOf, Times, Has, maybe, is_char}
use Rattle.rdf_terms.proofs.Bools.{both_true}
use Rattle.rdf_grammar.specs.declared.dialect.Dialect.TheVariants.{Turtle}
use Rattle.rdf_grammar.specs.Productions.{is_base, is_name_start, is_name_char}
use Rattle.turtle_tokens.specs.Tokens.{is_inside_prefix, pn_prefix, pn_local, pname_ns, pname_ln}
use Rattle.turtle_terms.specs.Names.{is_not_colon, IsNameOf, HasForms}
use Rattle.turtle_terms.proofs.Classes.{all_below, within, class_within, is_other}

-- ---- the first colon

no_colon : (c : ℕ) → c ≡ 58 → is_not_colon c ≡ true → ⊥
no_colon c e h = false≢true (sym (ap is_not_colon e) ∙ h)

pub cut_once : (p q l m : List ℕ) → list_all is_not_colon p ≡ true → list_all is_not_colon q ≡ true → p ++ 58 ∷ l ≡ q ++ 58 ∷ m → (p ≡ q) × (l ≡ m)
cut_once [] [] l m a b e = let h : 58 ∷ l ≡ 58 ∷ m = e in (refl, cc)
cut_once [] (c ∷ q) l m a b e =
    let h : 58 ∷ l ≡ c ∷ (q ++ 58 ∷ m) = e in
    let k : c ≡ 58 = cc in
    absurd (no_colon c k (and_both (is_not_colon c) (list_all is_not_colon q) b).0)
cut_once (c ∷ p) [] l m a b e =
    let h : c ∷ (p ++ 58 ∷ l) ≡ 58 ∷ m = e in
    let k : c ≡ 58 = cc in
    absurd (no_colon c k (and_both (is_not_colon c) (list_all is_not_colon p) a).0)
cut_once (c ∷ p) (d ∷ q) l m a b e =
    let h : c ∷ (p ++ 58 ∷ l) ≡ d ∷ (q ++ 58 ∷ m) = e in
    let same : c ≡ d = cc in
    let rest : p ++ 58 ∷ l ≡ q ++ 58 ∷ m = cc in
    let k = cut_once p q l m (and_both (is_not_colon c) (list_all is_not_colon p) a).1 (and_both (is_not_colon d) (list_all is_not_colon q) b).1 rest in
    (ap (λ (x : ℕ). x ∷ p) same ∙ ap (λ (x : List ℕ). d ∷ x) k.0, k.1)

pub name_once : (name prefix local other rest : List ℕ) → IsNameOf name prefix local → IsNameOf name other rest → (prefix ≡ other) × (local ≡ rest)
name_once name prefix local other rest h k = cut_once prefix other local rest h.first k.first (sym h.parts ∙ k.parts)

-- ---- no PN_PREFIX has a colon

is_apart : (p : ℕ → Bool) → all_below 128 (within p is_not_colon) ≡ true → (c : ℕ) → p c ≡ true → is_not_colon c ≡ true
is_apart p h c q = class_within p is_not_colon h c (is_other 58 (lit< tt) c) q

each_one : (p : ℕ → Bool) → all_below 128 (within p is_not_colon) ≡ true → (t : List ℕ) → Has (one p) t → list_all is_not_colon t ≡ true
each_one p a t h = ap (list_all is_not_colon) h.spelled ∙ both_true (is_not_colon h.char) true (is_apart p a h.char h.passes) refl

each_both : (t a b : List ℕ) → t ≡ a ++ b → list_all is_not_colon a ≡ true → list_all is_not_colon b ≡ true → list_all is_not_colon t ≡ true
each_both t a b e h k = ap (list_all is_not_colon) e ∙ list_all-append is_not_colon a b ∙ both_true (list_all is_not_colon a) (list_all is_not_colon b) h k

each_times : (p : ℕ → Bool) → all_below 128 (within p is_not_colon) ≡ true → (n : ℕ) (t : List ℕ) → Times (λ x. Has (one p) x) n t → list_all is_not_colon t ≡ true
each_times p a zero t h = ap (list_all is_not_colon) h
each_times p a (suc n) t h = each_both t h.front h.back h.parts (each_one p a h.front h.first) (each_times p a n h.back h.second)

base_apart : all_below 128 (within is_base is_not_colon) ≡ true
unfolding is_base
base_apart = refl

inside_apart : all_below 128 (within is_inside_prefix is_not_colon) ≡ true
unfolding is_name_char is_name_start is_base
inside_apart = refl

char_apart : all_below 128 (within (is_name_char Turtle) is_not_colon) ≡ true
unfolding is_name_char is_name_start is_base
char_apart = refl

prefix_each : (t : List ℕ) → Has pn_prefix t → list_all is_not_colon t ≡ true
prefix_each t h =
    each_both t h.front h.back h.parts (each_one is_base base_apart h.front h.first) (
    elim h.second [
      | inl k ↦ each_both h.back k.front k.back k.parts (each_times is_inside_prefix inside_apart k.first.0 k.front k.first.1) (each_one (is_name_char Turtle) char_apart k.back k.second)
      | inr e ↦ ap (list_all is_not_colon) e
    ]
    )

maybe_each : (t : List ℕ) → Has (maybe pn_prefix) t → list_all is_not_colon t ≡ true
maybe_each t h = elim h [ inl k ↦ prefix_each t k | inr e ↦ ap (list_all is_not_colon) e ]

-- ---- so a name is cut there

pub record IsCut (form : Regular) (text : List ℕ) : Type 0 where
  pub prefix : List ℕ
  pub local : List ℕ
  pub parts : text ≡ prefix ++ 58 ∷ local
  pub forms : HasForms form prefix local

pub namespace_cut : (text : List ℕ) → Has pname_ns text → IsCut empty text
namespace_cut text h =
    let mark : OneOf (is_char 58) h.back = h.second in
    let colon : h.back ≡ 58 ∷ [] = mark.spelled ∙ ap (λ (c : ℕ). c ∷ []) (eqb-true mark.char 58 mark.passes) in
    record {
      prefix = h.front;
      local = [];
      parts = h.parts ∙ ap (λ (x : List ℕ). h.front ++ x) colon;
      forms = record { prefix_form = h.first; local_form = refl };
    }

pub local_cut : (text : List ℕ) → Has pname_ln text → IsCut pn_local text
local_cut text h =
    let k = namespace_cut h.front h.first in
    let none : k.local ≡ [] = k.forms.local_form in
    record {
      prefix = k.prefix;
      local = h.back;
      parts = h.parts ∙ ap (λ (x : List ℕ). x ++ h.back) (k.parts ∙ ap (λ (x : List ℕ). k.prefix ++ 58 ∷ x) none) ∙ append_assoc k.prefix (58 ∷ []) h.back;
      forms = record { prefix_form = k.forms.prefix_form; local_form = h.second };
    }

pub cut_forms : (form : Regular) (name prefix local : List ℕ) → IsCut form name → IsNameOf name prefix local → HasForms form prefix local
cut_forms form name prefix local k n =
    let e = cut_once k.prefix prefix k.local local (maybe_each k.prefix k.forms.prefix_form) n.first (sym k.parts ∙ n.parts) in
    record {
      prefix_form = subst (λ (t : List ℕ). Has (maybe pn_prefix) t) e.0 k.forms.prefix_form;
      local_form = subst (λ (t : List ℕ). Has form t) e.1 k.forms.local_form;
    }

pub not_cut : (form : Regular) (name : List ℕ) → IsCut form name → list_all is_not_colon name ≡ true → ⊥
not_cut form name k h =
    let e : list_all is_not_colon (k.prefix ++ 58 ∷ k.local) ≡ true = ap (list_all is_not_colon) (sym k.parts) ∙ h in
    false≢true (and_both (list_all is_not_colon k.prefix) false (sym (list_all-append is_not_colon k.prefix (58 ∷ k.local)) ∙ e)).1
