use Rattle.std.proofs.Common.{lit<}
use Rattle.std.proofs.lemmas.Str.Pattern.{rfind_char}
use Rattle.iri_references.proofs.Cutting.{last_is}
use Rattle.iri_references.proofs.cuts.last_slash.Goals as goal

pub returns : goal.returns
returns c = last_is c.args.text.now c.rfind.result (rfind_char 47 c.args.text.now c.rfind.result c.rfind.ensures.cases (lit< tt))
