-- The clauses of a plain store.
use Rattle.std.specs.Prelude.{List, IsTrue}
use Rattle.clause_store.specs.declared.lit.Lit.{Lit}
use Rattle.clause_store.specs.declared.plain.PlainStore.{PlainStore}
use Rattle.clause_store.specs.Clauses.{are_clauses}
use Rattle.clause_store.specs.Lists.{lists}

abbrev pub stored : PlainStore → List (List Lit)
stored s = lists s.clauses.items

pub stored_once : (s : PlainStore) → IsTrue (are_clauses (stored s))
stored_once s = s.once
