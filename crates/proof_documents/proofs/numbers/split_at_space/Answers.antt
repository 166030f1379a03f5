use Rattle.std.proofs.Common.{Some, None, lit<}
use Rattle.std.proofs.lemmas.Str.Pattern.{find_char}
use Rattle.proof_documents.proofs.SpaceLemmas.{part_before, part_alone}
use Rattle.proof_documents.proofs.numbers.split_at_space.Goals as goal

pub returns-in-Some : goal.returns-in-Some
returns-in-Some c =
    let text = c.args.text.now in
    let at = find_char 32 text (Some c.in-Some.space) c.in-Some.ensures.cases (lit< tt) in
    rw (c.split_at.ensures.front, c.split_at.ensures.back) (part_before text c.in-Some.space at.0 at.1 at.2)

pub returns-in-None : goal.returns-in-None
returns-in-None c = part_alone c.args.text.now (find_char 32 c.args.text.now None c.in-None.ensures.cases (lit< tt))
