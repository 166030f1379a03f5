-- What the parts of a statement say: RDF 1.1 Turtle, section 7. Terms may stand in brackets, which say triples of
-- their own and take numbers for their nodes. So what a term says is a function of what was said before it: the triples
-- so far, and the number of anonymous nodes so far.
use Rattle.std.specs.Prelude.{ℕ, ◌+◌, List, [], ◌∷◌, ◌++◌, Option, Some, None, codes, decimal}
use Rattle.rdf_terms.specs.declared.term.Scope.{Scope}
use Rattle.rdf_terms.specs.declared.term.Scope.TheVariants as scope
use Rattle.rdf_terms.specs.declared.term.Term.{Term}
use Rattle.rdf_terms.specs.declared.term.Term.TheVariants.{Iri, Blank, Literal}
use Rattle.rdf_terms.specs.Vocab.Rdf as rdf
use Rattle.turtle_statements.specs.declared.role.Role.{Role}
use Rattle.turtle_statements.specs.declared.role.Role.TheVariants.{Data, Offered, Shapes}
use Rattle.turtle_statements.specs.declared.output.Output.{Output}
use Rattle.turtle_statements.specs.Names.{Names}

-- ---- anonymous nodes

-- data and offers share their scope
abbrev pub scope_of : Role → Scope
scope_of Data = scope.Data
scope_of Offered = scope.Data
scope_of Shapes = scope.Shapes

-- the labels of anonymous nodes. No document of Turtle may write one that begins so
abbrev pub label_start : Role → List ℕ
label_start Data = codes "x-anon-d-"
label_start Offered = codes "x-anon-o-"
label_start Shapes = codes "x-anon-s-"

-- the anonymous node with this number, counted from 0
abbrev pub anonymous : Role → ℕ → Term
anonymous role n = Blank (scope_of role) (label_start role ++ decimal n)

-- ---- what is said

-- nothing
abbrev pub nothing_said : Output
nothing_said = record { nodes = 0; triples = [] }

-- one triple more
abbrev pub say : Term → Term → Term → Output → Output
say s p x o = record {
  nodes = o.nodes;
  triples = o.triples ++ record { subject = s; predicate = p; object = x } ∷ [];
}

-- the next anonymous node, and its number taken
abbrev pub new_node : Role → Output → Term
new_node role o = anonymous role o.nodes

abbrev pub one_more : Output → Output
one_more o = record { nodes = o.nodes + 1; triples = o.triples }

-- a term, and what is said behind it
abbrev pub Says : Type 0
Says = Output → Term × Output

-- what is said of a subject
abbrev pub Tells : Type 0
Tells = Term → Output → Output

-- ---- terms without brackets

abbrev pub says : Term → Says
says t o = (t, o)

abbrev pub says_label : Role → List ℕ → Says
says_label role label o = (Blank (scope_of role) label, o)

-- ANON
abbrev pub says_new : Role → Unit {0} → Says
says_new role u o = (new_node role o, one_more o)

-- ---- collections: each cell takes its number just before its member

-- the cells from this one on: its member, and the further members
abbrev pub cells : Role → Term → Says → List Says → Output → Output
cells role cell d [] o = say cell rdf.rest rdf.nil (say cell rdf.first (d o).0 (d o).1)
cells role cell d (e ∷ ds) o =
    let said = say cell rdf.first (d o).0 (d o).1 in
    cells role (new_node role said) e ds (say cell rdf.rest (new_node role said) (one_more said))

abbrev pub says_collection : Role → List Says → Says
says_collection role [] o = (rdf.nil, o)
says_collection role (d ∷ ds) o = (new_node role o, cells role (new_node role o) d ds (one_more o))

-- ---- what is said of a subject

-- with one verb, of each object
abbrev pub tells_each : Term → List Says → Tells
tells_each verb [] subject o = o
tells_each verb (d ∷ ds) subject o = tells_each verb ds subject (say subject verb (d o).0 (d o).1)

abbrev pub tells_objects : Term × (Says × List Says) → Tells
tells_objects v = tells_each v.0 (v.1.0 ∷ v.1.1)

-- behind each ';' stand a verb and its objects, or nothing
abbrev pub tells_optional : Option Tells → Tells
tells_optional None subject o = o
tells_optional (Some t) subject o = t subject o

abbrev pub tells_more : List (Option Tells) → Tells
tells_more [] subject o = o
tells_more (t ∷ ts) subject o = tells_more ts subject (tells_optional t subject o)

abbrev pub tells_properties : Tells × List (Option Tells) → Tells
tells_properties v subject o = tells_more v.1 subject (v.0 subject o)

-- a node in square brackets takes its number at the bracket
abbrev pub says_bracketed : Role → Tells → Says
says_bracketed role t o = (new_node role o, t (new_node role o) (one_more o))

-- ---- triples

abbrev pub tells_triples : Says × Tells → Output → Output
tells_triples v o = v.1 (v.0 o).0 (v.0 o).1

abbrev pub tells_bracketed : Says × Option Tells → Output → Output
tells_bracketed v o = tells_optional v.1 (v.0 o).0 (v.0 o).1

-- ---- statements: what the directives leave, and what is said

abbrev pub directs : Names → Names × (Output → Output)
directs names = (names, λ o. o)

abbrev pub adds : Names → (Output → Output) → Names × (Output → Output)
adds names tells = (names, tells)
