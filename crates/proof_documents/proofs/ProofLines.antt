-- A text is that of one line of a proof.
use Rattle.std.proofs.Common.{◌≡◌, ◌≢◌, ℕ, ◌<◌, true, nat_eq, List, [], ◌∷◌, ◌++◌, get_or, drop, Option, Some, refl, sym, ap, subst, ◌∙◌, arith, codes, decimal, lit<}
use Rattle.std.specs.List.{find, list_all}
use Rattle.std.specs.Cmp.Lexicographic.{pointwise}
use Rattle.std.proofs.lemmas.Bool.Decides.{nat_tests}
use Rattle.std.proofs.lemmas.List.Sums.{AllPass-from_list_all}
use Rattle.std.proofs.lemmas.List.Elements.{All-weaker, All-head, All-tail}
use Rattle.std.proofs.lemmas.Str.{IsUtf8-from_ascii, IsUtf8-append, IsUtf8-nil}
use Rattle.std.proofs.lemmas.Str.Ascii.{IsAscii-from_all, IsAscii-cons, IsAscii-nil}
use Rattle.std.proofs.lemmas.Fmt.{IsAscii-decimal}
use Rattle.std.specs.Char.{is_ascii_lowercase}
use Rattle.std.specs.Str.{IsUtf8}
use Rattle.proof_lines.specs.declared.proof.ProofLine.{ProofLine}
use Rattle.proof_lines.specs.declared.proof.ProofLine.TheVariants.{Chain, Rule, Step}
use Rattle.proof_lines.specs.declared.rule.RuleName.{RuleName}
use Rattle.proof_lines.specs.declared.rule.RuleName.TheVariants.{Reach, Level, Middle, Good, Marked, Count, Differ, Twin, Holds, Conforms, Target, Root, Outside, Undo}
use Rattle.proof_lines.specs.declared.rule.Rule.{Rule as Premise}
use Rattle.proof_documents.specs.Document.{AreShort, IsLawfulLine}
use Rattle.proof_documents.specs.DocumentText.{rule_text, numbers_text, proof_line_text}
use Rattle.proof_documents.specs.Lines.{IsProofLine}
use Rattle.proof_documents.specs.Spaces.{IsUnspaced, IsFirstPart}
use Rattle.proof_documents.proofs.NumbersText.{IsShort, all_spaced, one_list}
use Rattle.proof_documents.proofs.SpaceLemmas.{one_part}

-- ---- a part names one rule

rule_names : List RuleName
rule_names = Reach ∷ Level ∷ Middle ∷ Good ∷ Marked ∷ Count ∷ Differ ∷ Twin ∷ Holds ∷ Conforms ∷ Target ∷ Root ∷ Outside ∷ Undo ∷ []

-- the rule that a part names
named_by : List ℕ → Option RuleName
named_by part = find (λ name. pointwise nat_eq (rule_text name) part) rule_names

-- a rule's part is found again, and is made of small letters
word_of_rule : (name : RuleName) → (named_by (rule_text name) ≡ Some name) × (list_all is_ascii_lowercase (rule_text name) ≡ true)
unfolding named_by rule_names
word_of_rule Reach = (refl, refl)
word_of_rule Level = (refl, refl)
word_of_rule Middle = (refl, refl)
word_of_rule Good = (refl, refl)
word_of_rule Marked = (refl, refl)
word_of_rule Count = (refl, refl)
word_of_rule Differ = (refl, refl)
word_of_rule Twin = (refl, refl)
word_of_rule Holds = (refl, refl)
word_of_rule Conforms = (refl, refl)
word_of_rule Target = (refl, refl)
word_of_rule Root = (refl, refl)
word_of_rule Outside = (refl, refl)
word_of_rule Undo = (refl, refl)

one_rule : (name other : RuleName) → rule_text name ≡ rule_text other → name ≡ other
one_rule name other e =
    let same : Some name ≡ Some other = sym (word_of_rule name).0 ∙ ap named_by e ∙ (word_of_rule other).0 in cc

-- ---- small letters

letter : (b : ℕ) → is_ascii_lowercase b ≡ true → (b ≢ 32) × (b < 128)
letter b t = (λ e. grind (arith, nat_tests), grind (arith, nat_tests))

letters_are_word : (text : List ℕ) → list_all is_ascii_lowercase text ≡ true → IsUnspaced text
letters_are_word text t = All-weaker (λ b. is_ascii_lowercase b ≡ true) (λ b. b ≢ 32) (λ b h. (letter b h).0) text (AllPass-from_list_all is_ascii_lowercase text t)

letters_are_text : (text : List ℕ) → list_all is_ascii_lowercase text ≡ true → IsUtf8 text
letters_are_text text t =
    let small = All-weaker (λ b. is_ascii_lowercase b ≡ true) (λ b. b < 128) (λ b h. (letter b h).1) text (AllPass-from_list_all is_ascii_lowercase text t) in
    IsUtf8-from_ascii text (IsAscii-from_all text small)

rule_is_word : (name : RuleName) → IsUnspaced (rule_text name)
rule_is_word name = letters_are_word (rule_text name) (word_of_rule name).1

-- ---- a line has a text of its own

-- texts that begin differently
apart : {P : Type 0} (a b : List ℕ) → get_or a 0 0 ≢ get_or b 0 0 → a ≡ b → P
apart a b other e = absurd (other (ap (λ t. get_or t 0 0) e))

abbrev premise : RuleName → List ℕ → Premise
premise name numbers = record { name = name; numbers = numbers }

one_premise : (r s : Premise) → AreShort r.numbers → AreShort s.numbers → rule_text r.name ++ numbers_text r.numbers ≡ rule_text s.name ++ numbers_text s.numbers → r ≡ s
one_premise r s p q e =
    let k = one_part _ _ _ _ (rule_is_word r.name) (rule_is_word s.name) (all_spaced r.numbers) (all_spaced s.numbers) e in
    ap (λ name. premise name r.numbers) (one_rule r.name s.name k.0) ∙ ap (premise s.name) (one_list r.numbers s.numbers p q k.1)

pub one_line : (l m : ProofLine) → IsLawfulLine l → IsLawfulLine m → proof_line_text l ≡ proof_line_text m → l ≡ m
one_line (Chain ns) (Chain ms) p q e = ap Chain (one_list ns ms p.0 q.0 (ap (drop 5) e))
one_line (Chain ns) (Rule s) p q e = apart _ _ (λ h. omega arith) e
one_line (Chain ns) (Step ms) p q e = apart _ _ (λ h. omega arith) e
one_line (Rule r) (Chain ms) p q e = apart _ _ (λ h. omega arith) e
one_line (Rule r) (Rule s) p q e = ap Rule (one_premise r s p q (ap (drop 5) e))
one_line (Rule r) (Step ms) p q e = apart _ _ (λ h. omega arith) e
one_line (Step ns) (Chain ms) p q e = apart _ _ (λ h. omega arith) e
one_line (Step ns) (Rule s) p q e = apart _ _ (λ h. omega arith) e
one_line (Step ns) (Step ms) p q e = ap Step (one_list ns ms p.0 q.0 (ap (drop 4) e))

-- ---- a line begins with its part

-- the first part of a line, and what stands behind it
abbrev first_word : ProofLine → List ℕ
first_word (Chain places) = codes "chain"
first_word (Rule rule) = codes "rule"
first_word (Step ids) = codes "step"

abbrev strip_front : ProofLine → List ℕ
strip_front (Chain places) = numbers_text places
strip_front (Rule rule) = 32 ∷ (rule_text rule.name ++ numbers_text rule.numbers)
strip_front (Step ids) = numbers_text ids

first_word_of : (l : ProofLine) → IsFirstPart (proof_line_text l) (first_word l) (strip_front l)
first_word_of (Chain places) = record { parts = refl; plain = letters_are_word (codes "chain") refl; ends = all_spaced places }
first_word_of (Rule rule) = record { parts = refl; plain = letters_are_word (codes "rule") refl; ends = refl }
first_word_of (Step ids) = record { parts = refl; plain = letters_are_word (codes "step") refl; ends = all_spaced ids }

one_of_three : (part : List ℕ) → part ≢ codes "chain" → part ≢ codes "rule" → part ≢ codes "step" → (l : ProofLine) → part ≢ first_word l
one_of_three part chain rule step (Chain places) = chain
one_of_three part chain rule step (Rule r) = rule
one_of_three part chain rule step (Step ids) = step

-- another part begins no line
pub no_line : (text part rest : List ℕ) → IsFirstPart text part rest → part ≢ codes "chain" → part ≢ codes "rule" → part ≢ codes "step" → (l : ProofLine) → ¬ (IsProofLine text l)
no_line text part rest w chain rule step l h =
    let first = first_word_of l in
    one_of_three part chain rule step l (one_part _ _ _ _ w.plain first.plain w.ends first.ends (sym w.parts ∙ h.spelled ∙ first.parts)).0

-- a line of a rule goes on with a space
pub rule_has_space : (text : List ℕ) → ((behind : List ℕ) → text ≢ 32 ∷ behind) → (l : ProofLine) → ¬ (IsProofLine (codes "rule" ++ text) l)
rule_has_space text none (Chain places) h = apart _ _ (λ e. omega arith) h.spelled
rule_has_space text none (Rule rule) h = none (rule_text rule.name ++ numbers_text rule.numbers) (ap (drop 4) h.spelled)
rule_has_space text none (Step ids) h = apart _ _ (λ e. omega arith) h.spelled

-- and then with the part of a rule
pub rule_has_name : (text behind part rest : List ℕ) → text ≡ 32 ∷ behind → IsFirstPart behind part rest → ((name : RuleName) → part ≢ rule_text name)
    → (l : ProofLine) → ¬ (IsProofLine (codes "rule" ++ text) l)
rule_has_name text behind part rest e w none (Chain places) h = apart _ _ (λ k. omega arith) h.spelled
rule_has_name text behind part rest e w none (Rule rule) h =
    let same : behind ≡ rule_text rule.name ++ numbers_text rule.numbers = ap (drop 1) (sym e ∙ ap (drop 4) h.spelled) in
    none rule.name (one_part _ _ _ _ w.plain (rule_is_word rule.name) w.ends (all_spaced rule.numbers) (sym w.parts ∙ same)).0
rule_has_name text behind part rest e w none (Step ids) h = apart _ _ (λ k. omega arith) h.spelled

numbers_are_text : (ns : List ℕ) → AreShort ns → IsUtf8 (numbers_text ns)
numbers_are_text [] p = IsUtf8-nil
numbers_are_text (n ∷ ns) p =
    let number = IsAscii-cons 32 (decimal n) (lit< tt) (IsAscii-decimal n (All-head IsShort n ns p)) in
    IsUtf8-append (32 ∷ decimal n) (numbers_text ns) (IsUtf8-from_ascii (32 ∷ decimal n) number) (numbers_are_text ns (All-tail IsShort n ns p))

lawful_is_text : (l : ProofLine) → IsLawfulLine l → IsUtf8 (proof_line_text l)
lawful_is_text (Chain places) p = IsUtf8-append (codes "chain") (numbers_text places) (letters_are_text (codes "chain") refl) (numbers_are_text places p.0)
lawful_is_text (Rule rule) p =
    let space = IsUtf8-from_ascii (codes " ") (IsAscii-cons 32 [] (lit< tt) IsAscii-nil) in
    let part = IsUtf8-append (codes "rule") (codes " ") (letters_are_text (codes "rule") refl) space in
    let name = letters_are_text (rule_text rule.name) (word_of_rule rule.name).1 in
    IsUtf8-append (codes "rule " ++ rule_text rule.name) (numbers_text rule.numbers) (IsUtf8-append (codes "rule ") (rule_text rule.name) part name) (numbers_are_text rule.numbers p)
lawful_is_text (Step ids) p = IsUtf8-append (codes "step") (numbers_text ids) (letters_are_text (codes "step") refl) (numbers_are_text ids p.0)

-- a line is ASCII, so it is text
pub line_is_text : (text : List ℕ) (l : ProofLine) → IsProofLine text l → IsUtf8 text
line_is_text text l h = subst IsUtf8 (sym h.spelled) (lawful_is_text l h.lawful)
