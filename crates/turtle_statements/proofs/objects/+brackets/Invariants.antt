use Rattle.std.proofs.Common.{ℕ, ◌+◌, ◌*◌, length, IsTrue}
use Rattle.rdf_terms.specs.Statement.{is_node}
use Rattle.turtle_statements.specs.Answers.{tokens_of}
use Rattle.turtle_statements.specs.Names.{names_of}
use Rattle.turtle_statements.specs.Running.{object_run, members_run, properties_run, object_list_run}
use Rattle.turtle_statements.proofs.CodeLaws.{MembersGo, CommasGo, SemicolonsGo}
use Rattle.turtle_statements.proofs.objects.+brackets.Given as goal

abbrev pub decreases-read_object : goal.decreases-read_object
decreases-read_object l = 8 * l.depth

abbrev pub decreases-read_said : goal.decreases-read_said
decreases-read_said l = 8 * l.depth + 1

abbrev pub decreases-read_member : goal.decreases-read_member
decreases-read_member l = 8 * l.depth + 2

abbrev pub decreases-read_next_member : goal.decreases-read_next_member
decreases-read_next_member l = 8 * l.depth + 3

abbrev pub decreases-read_members : goal.decreases-read_members
decreases-read_members l = 8 * l.depth + 4

abbrev pub decreases-read_collection : goal.decreases-read_collection
decreases-read_collection l = 8 * l.depth + 5

abbrev pub decreases-read_object_list : goal.decreases-read_object_list
decreases-read_object_list l = 8 * l.depth + 2

abbrev pub decreases-read_objects : goal.decreases-read_objects
decreases-read_objects l = 8 * l.depth + 3

abbrev pub decreases-read_optional_objects : goal.decreases-read_optional_objects
decreases-read_optional_objects l = 8 * l.depth + 4

abbrev pub decreases-read_properties : goal.decreases-read_properties
decreases-read_properties l = 8 * l.depth + 5

abbrev pub decreases-read_bracketed : goal.decreases-read_bracketed
decreases-read_bracketed l = 8 * l.depth + 6

abbrev pub invariant-read_members-members : goal.invariant-read_members-members
invariant-read_members-members l =
    MembersGo (names_of l.context) l.depth l.context.role (members_run l.context.role (object_run (names_of l.context) l.depth) (length (tokens_of l.fn.tokens)) l.fn.cell l.fn.out (tokens_of l.fn.tokens)) l.cell l.out (tokens_of l.rest)
    × IsTrue (is_node l.cell)

abbrev pub decreases-read_members-members : goal.decreases-read_members-members
decreases-read_members-members l = length (tokens_of l.rest)

abbrev pub invariant-read_properties-semicolons : goal.invariant-read_properties-semicolons
invariant-read_properties-semicolons l =
    SemicolonsGo (names_of l.context) l.depth l.subject (properties_run (names_of l.context) (object_run (names_of l.context) l.depth) l.subject l.fn.out (tokens_of l.fn.tokens)) l.out (tokens_of l.rest)

abbrev pub decreases-read_properties-semicolons : goal.decreases-read_properties-semicolons
decreases-read_properties-semicolons l = length (tokens_of l.rest)

abbrev pub invariant-read_object_list-commas : goal.invariant-read_object_list-commas
invariant-read_object_list-commas l =
    CommasGo (names_of l.context) l.depth l.subject l.verb (object_list_run (object_run (names_of l.context) l.depth) l.subject l.verb l.fn.out (tokens_of l.fn.tokens)) l.out (tokens_of l.rest)

abbrev pub decreases-read_object_list-commas : goal.decreases-read_object_list-commas
decreases-read_object_list-commas l = length (tokens_of l.rest)
