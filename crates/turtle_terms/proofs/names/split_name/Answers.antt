use Rattle.std.proofs.Common.{rules}
use Rattle.std.specs.Str.{chars}
use Rattle.regular_forms.specs.Regular.{empty}
use Rattle.turtle_tokens.specs.Tokens.{pn_local}
use Rattle.turtle_terms.proofs.Expanding.{name_split, no_name}
use Rattle.turtle_terms.proofs.NameParts.{namespace_cut, local_cut, cut_forms, not_cut}
use Rattle.turtle_terms.proofs.names.split_name.Goals as goal

pub returns-clause-cut : goal.returns-clause-cut
returns-clause-cut c = name_split (chars c.args.name.now) (chars c.skip-rest.result.now) (chars c.in_ok-local.local.now) c.front.result.now c.front.utf8 c.skip-rest.ensures.run c.front.ensures c.in_ok-local.ensures

pub returns-clause-namespace : goal.returns-clause-namespace
returns-clause-namespace c = λ h.
    cut_forms empty (chars c.args.name.now) (chars c.front.result.now) (chars c.in_ok-local.local.now) (namespace_cut (chars c.args.name.now) h)
    (name_split (chars c.args.name.now) (chars c.skip-rest.result.now) (chars c.in_ok-local.local.now) c.front.result.now c.front.utf8 c.skip-rest.ensures.run c.front.ensures c.in_ok-local.ensures)

pub returns-clause-local : goal.returns-clause-local
returns-clause-local c = λ h.
    cut_forms pn_local (chars c.args.name.now) (chars c.front.result.now) (chars c.in_ok-local.local.now) (local_cut (chars c.args.name.now) h)
    (name_split (chars c.args.name.now) (chars c.skip-rest.result.now) (chars c.in_ok-local.local.now) c.front.result.now c.front.utf8 c.skip-rest.ensures.run c.front.ensures c.in_ok-local.ensures)

pub returns-in_err-local-clause-cut : goal.returns-in_err-local-clause-cut
returns-in_err-local-clause-cut c =
    let none = no_name (chars c.args.name.now) (chars c.skip-rest.result.now) c.skip-rest.ensures.run c.in_err-local.ensures in
    search rules

pub returns-in_err-local-clause-namespace : goal.returns-in_err-local-clause-namespace
returns-in_err-local-clause-namespace c = λ h.
    absurd (not_cut empty (chars c.args.name.now) (namespace_cut (chars c.args.name.now) h) (no_name (chars c.args.name.now) (chars c.skip-rest.result.now) c.skip-rest.ensures.run c.in_err-local.ensures))

pub returns-in_err-local-clause-local : goal.returns-in_err-local-clause-local
returns-in_err-local-clause-local c = λ h.
    absurd (not_cut pn_local (chars c.args.name.now) (local_cut (chars c.args.name.now) h) (no_name (chars c.args.name.now) (chars c.skip-rest.result.now) c.skip-rest.ensures.run c.in_err-local.ensures))
