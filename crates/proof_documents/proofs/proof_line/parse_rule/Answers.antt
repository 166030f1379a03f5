use Rattle.std.proofs.Common.{Some, None, lit<}
use Rattle.std.proofs.lemmas.Str.Pattern.{strip_prefix_char}
use Rattle.proof_documents.proofs.ProofLines.{rule_has_space, rule_has_name}
use Rattle.proof_documents.proofs.proof_line.parse_rule.Goals as goal

pub returns-in_err-behind-clause-only : goal.returns-in_err-behind-clause-only
returns-in_err-behind-clause-only c = λ line h.
    let none = strip_prefix_char 32 c.args.text.now None (rw c.in_err-behind.ensures.ok_part at c.strip_prefix.ensures.cases) (lit< tt) in
    absurd (rule_has_space c.args.text.now none line h)

pub returns-in_err-name-clause-only : goal.returns-in_err-name-clause-only
returns-in_err-name-clause-only c = λ line h.
    let space = strip_prefix_char 32 c.args.text.now (Some c.in_ok-behind.behind) (rw c.in_ok-behind.ensures.ok_part at c.strip_prefix.ensures.cases) (lit< tt) in
    let none = rw c.in_err-name.ensures.ok_part at c.parse_rule_name.ensures in
    absurd (rule_has_name c.args.text.now _ _ _ space c.split_at_space.ensures none line h)
