-- The lines of a document: lines_text they are its text, each is plain, and they are read to its end.
use Rattle.std.proofs.Common.{◌≡◌, ℕ, ◌+◌, ◌%◌, ◌^◌, ◌<◌, Bool, true, false, not, ◌==◌, ◌||◌, List, [], ◌∷◌, ◌++◌, codes, decimal, flat_map, map, refl, ap, ◌∙◌, append_assoc, arith}
use Rattle.std.specs.List.{All, list_all}
use Rattle.std.proofs.lemmas.Bool.Decides.{nat_tests}
use Rattle.std.proofs.lemmas.Fmt.{decimal_by_steps}
use Rattle.std.proofs.lemmas.List.{append-nil}
use Rattle.std.proofs.lemmas.List.Concat.{flat_map-append}
use Rattle.std.proofs.lemmas.List.Elements.{All-nil, All-cons, All-head, All-tail, All-append, All-map, All-weaker}
use Rattle.std.proofs.lemmas.List.Folds.{list_all-append}
use Rattle.rdf_terms.specs.declared.term.Scope.TheVariants.{Data}
use Rattle.rdf_terms.specs.Statement.{Statement}
use Rattle.ntriples_io.specs.CanonicalText.{line_text}
use Rattle.ntriples_io.specs.Cutting.{is_plain}
use Rattle.ntriples_io.proofs.CuttingLemmas.{and_both}
use Rattle.ntriples_io.proofs.OnlyTriples.{body_is_plain}
use Rattle.ntriples_io.proofs.ScopedText.{spelled_lawful, spelled_scoped}
use Rattle.ntriples_io.proofs.TermSpelling.{body_text}
use Rattle.proof_lines.specs.declared.proof.Claim.{Claim}
use Rattle.proof_lines.specs.declared.proof.Claim.TheVariants.{Pair, NoPair, Spent}
use Rattle.proof_lines.specs.declared.proof.ProofLine.{ProofLine}
use Rattle.proof_lines.specs.declared.proof.ProofLine.TheVariants.{Chain, Rule, Step}
use Rattle.proof_lines.specs.declared.rule.RuleName.{RuleName}
use Rattle.proof_lines.specs.declared.rule.RuleName.TheVariants.{Reach, Level, Middle, Good, Marked, Count, Differ, Twin, Holds, Conforms, Target, Root, Outside, Undo}
use Rattle.proof_documents.specs.Document.{Document, IsSpelled, AreShort, IsLawfulLine, IsWellFormed}
use Rattle.proof_documents.specs.DocumentText.{line, version_text, claim_text, add_prefix, delete_prefix, lines_with, rule_text, numbers_text, proof_line_text, end_text, document_text}
use Rattle.proof_documents.specs.Text.{IsPlain, lines_text}

-- the line of a triple behind a prefix, without its LF
abbrev pub triple_line : List ℕ → Statement → List ℕ
triple_line prefix t = prefix ++ body_text t

-- the lines without their LFs
abbrev pub lines_of : Document → List (List ℕ)
lines_of d = version_text ∷ claim_text d.proof.claim ∷ (map (triple_line add_prefix) d.adds ++ (map (triple_line delete_prefix) d.deletes ++ (map proof_line_text d.proof.lines ++ end_text ∷ [])))

-- ---- their text

lines_text-triples : (prefix : List ℕ) (ts : List Statement) → lines_text (map (triple_line prefix) ts) ≡ lines_with prefix ts
lines_text-triples prefix [] = refl
lines_text-triples prefix (t ∷ ts) =
    ap (λ (text : List ℕ). text ++ lines_text (map (triple_line prefix) ts)) (append_assoc prefix (body_text t) (10 ∷ [])) ∙ ap (λ (text : List ℕ). (prefix ++ line_text t) ++ text) (lines_text-triples prefix ts)

lines_text-proof : (ls : List ProofLine) → lines_text (map proof_line_text ls) ≡ flat_map (λ l. line (proof_line_text l)) ls
lines_text-proof [] = refl
lines_text-proof (l ∷ ls) = ap (λ (text : List ℕ). line (proof_line_text l) ++ text) (lines_text-proof ls)

regroup : (version claim adds deletes proof end a b p : List ℕ) → a ≡ adds → b ≡ deletes → p ≡ proof
    → version ++ (claim ++ (a ++ (b ++ (p ++ (end ++ []))))) ≡ ((((version ++ claim) ++ adds) ++ deletes) ++ proof) ++ end
regroup version claim adds deletes proof end a b p h k l = rw (h, k, l) (simp (append_assoc, append-nil))

joined_four : (a b p : List (List ℕ)) (end : List ℕ) → lines_text (a ++ (b ++ (p ++ end ∷ []))) ≡ lines_text a ++ (lines_text b ++ (lines_text p ++ (line end ++ [])))
joined_four a b p end =
    flat_map-append line a (b ++ (p ++ end ∷ [])) ∙ ap (λ (t : List ℕ). lines_text a ++ t) (flat_map-append line b (p ++ end ∷ []) ∙ ap (λ (t : List ℕ). lines_text b ++ t) (flat_map-append line p (end ∷ [])))

pub lines_text-lines_of : (d : Document) → lines_text (lines_of d) ≡ document_text d
lines_text-lines_of d =
    let claim = line (claim_text d.proof.claim) in
    let parts = joined_four (map (triple_line add_prefix) d.adds) (map (triple_line delete_prefix) d.deletes) (map proof_line_text d.proof.lines) end_text in
    ap (λ (t : List ℕ). line version_text ++ (claim ++ t)) parts
    ∙ regroup (line version_text) claim (lines_with add_prefix d.adds) (lines_with delete_prefix d.deletes) (flat_map (λ l. line (proof_line_text l)) d.proof.lines) (line end_text) _ _ _
    (lines_text-triples add_prefix d.adds) (lines_text-triples delete_prefix d.deletes) (lines_text-proof d.proof.lines)

-- ---- they are plain

plain-append : (a b : List ℕ) → IsPlain a → IsPlain b → IsPlain (a ++ b)
plain-append a b h k = list_all-append (λ b. not (b == 10)) a b ∙ rw (h, k) refl

no_break : (bytes : List ℕ) → list_all is_plain bytes ≡ true → IsPlain bytes
no_break [] h = refl
no_break (b ∷ bytes) h =
    let both = and_both (is_plain b) (list_all is_plain bytes) h in
    let own : not (b == 10) ≡ true = not_ten (b == 10) (b == 13) both.0 in
    rw (own, no_break bytes both.1) refl
  where
    not_ten : (x y : Bool) → not (x || y) ≡ true → not x ≡ true
    not_ten true y h = absurd cc
    not_ten false y h = refl

plain_triple : (prefix : List ℕ) → IsPlain prefix → (t : Statement) → IsSpelled t → IsPlain (triple_line prefix t)
plain_triple prefix h t spelled =
    let scoped = spelled_scoped Data (line_text t) t spelled in
    plain-append prefix (body_text t) h (no_break (body_text t) (body_is_plain Data t (spelled_lawful Data (line_text t) t spelled) scoped.in_scope))

plain_decimal : (n : ℕ) → n < 2 ^ 64 → IsPlain (decimal n)
plain_decimal n h = decimal_by_steps (λ _ ds. IsPlain ds) (λ n lt. one n lt) (λ n ds le is. plain-append ds ((48 + n % 10) ∷ []) is (one (n % 10) (omega arith))) n h
  where
    one : (n : ℕ) → n < 10 → IsPlain ((48 + n) ∷ [])
    one n lt = grind (arith, nat_tests)

plain_numbers : (ns : List ℕ) → AreShort ns → IsPlain (numbers_text ns)
plain_numbers [] h = refl
plain_numbers (n ∷ ns) h =
    plain-append (codes " " ++ decimal n) (numbers_text ns) (plain-append (codes " ") (decimal n) refl (plain_decimal n (All-head (λ n. n < 2 ^ 64) n ns h))) (plain_numbers ns (All-tail (λ n. n < 2 ^ 64) n ns h))

plain_rule : (name : RuleName) → IsPlain (rule_text name)
plain_rule Reach = refl
plain_rule Level = refl
plain_rule Middle = refl
plain_rule Good = refl
plain_rule Marked = refl
plain_rule Count = refl
plain_rule Differ = refl
plain_rule Twin = refl
plain_rule Holds = refl
plain_rule Conforms = refl
plain_rule Target = refl
plain_rule Root = refl
plain_rule Outside = refl
plain_rule Undo = refl

plain_proof_line : (l : ProofLine) → IsLawfulLine l → IsPlain (proof_line_text l)
plain_proof_line (Chain places) h = plain-append (codes "chain") (numbers_text places) refl (plain_numbers places h.0)
plain_proof_line (Rule rule) h = plain-append (codes "rule " ++ rule_text rule.name) (numbers_text rule.numbers) (plain-append (codes "rule ") (rule_text rule.name) refl (plain_rule rule.name)) (plain_numbers rule.numbers h)
plain_proof_line (Step ids) h = plain-append (codes "step") (numbers_text ids) refl (plain_numbers ids h.0)

plain_claim : (claim : Claim) → IsPlain (claim_text claim)
plain_claim Pair = refl
plain_claim NoPair = refl
plain_claim Spent = refl

pub plain-lines_of : (d : Document) → IsWellFormed d → All IsPlain (lines_of d)
plain-lines_of d h =
    let a = map (triple_line add_prefix) d.adds in
    let b = map (triple_line delete_prefix) d.deletes in
    let p = map proof_line_text d.proof.lines in
    let adds = All-map IsPlain (triple_line add_prefix) d.adds (All-weaker IsSpelled (λ t. IsPlain (triple_line add_prefix t)) (plain_triple add_prefix refl) d.adds h.adds_spelled) in
    let deletes = All-map IsPlain (triple_line delete_prefix) d.deletes (All-weaker IsSpelled (λ t. IsPlain (triple_line delete_prefix t)) (plain_triple delete_prefix refl) d.deletes h.deletes_spelled) in
    let proof = All-map IsPlain proof_line_text d.proof.lines (All-weaker IsLawfulLine (λ l. IsPlain (proof_line_text l)) plain_proof_line d.proof.lines h.lines_lawful) in
    let end = All-cons IsPlain end_text [] refl (All-nil IsPlain) in
    let behind_claim = All-append IsPlain a (b ++ (p ++ end_text ∷ [])) adds (All-append IsPlain b (p ++ end_text ∷ []) deletes (All-append IsPlain p (end_text ∷ []) proof end)) in
    let behind_version = All-cons IsPlain (claim_text d.proof.claim) (a ++ (b ++ (p ++ end_text ∷ []))) (plain_claim d.proof.claim) behind_claim in
    All-cons IsPlain version_text (claim_text d.proof.claim ∷ (a ++ (b ++ (p ++ end_text ∷ [])))) refl behind_version
