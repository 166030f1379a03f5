-- Rows of validation results, and their order (SHACL 2017, section 3.6.2).
use Rattle.std.specs.Prelude.{◌↔◌, List, Contains, map}
use Rattle.std.specs.declared.cmp.Ordering.{Ordering}
use Rattle.std.specs.Ordering.{ordering_then}
use Rattle.std.specs.Option.{option_cmp}
use Rattle.rdf_terms.specs.Term.{term_cmp, text_cmp}
use Rattle.shapes_graph.specs.Results as results
use Rattle.core_constraints.specs.declared.result_rows.ResultRow.{ResultRow}

-- the result that a row says
abbrev pub result_of : ResultRow → results.ResultRow
result_of r =
    record {
      focus = r.focus;
      shape = r.shape;
      component = r.component;
      path = r.path;
      value = r.value;
      message = r.message;
      severity = r.severity;
    }

-- by their fields, one after the other; an absent field comes first
abbrev pub row_cmp : ResultRow → ResultRow → Ordering
row_cmp a b =
    ordering_then (term_cmp a.focus b.focus) (ordering_then (term_cmp a.shape b.shape)
    (ordering_then (text_cmp a.component b.component) (ordering_then (option_cmp term_cmp a.path b.path)
    (ordering_then (option_cmp term_cmp a.value b.value) (ordering_then (option_cmp text_cmp a.message b.message)
    (term_cmp a.severity b.severity))))))

-- the rows of exactly these results, in whatever order and however often
abbrev pub AreRowsOf : (results.ResultRow → Type 0) → List ResultRow → Type 0
AreRowsOf P rows = (r : results.ResultRow) → Contains (map result_of rows) r ↔ P r
