use Rattle.std.proofs.Common.{nat_eq}
use Rattle.std.specs.HashSet.{contains}
use Rattle.certificates.proofs.Answered.{among_is}
use Rattle.certificates.proofs.members.are_among.Goals as goal

pub returns : goal.returns
returns c = among_is c.args.less.now c.args.list.now (λ t. contains nat_eq c.in_ok-members.members t) c.are_members.result c.in_ok-members.ensures.0 c.are_members.ensures
