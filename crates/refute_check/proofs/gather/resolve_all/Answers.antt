use Rattle.std.proofs.Common.{rules, sym, ap, ◌∙◌, subst}
use Rattle.clause_store.specs.Clauses.{has, opposite}
use Rattle.clause_store.specs.Chained.{empty_set, union}
use Rattle.clause_store.proofs.Chains.{derives-more, derives-one}
use Rattle.clause_store.proofs.Sets.{never, within_get}
use Rattle.literal_signs.specs.Marked.{AreListed, lits_at, marked_set}
use Rattle.literal_signs.proofs.Listed.{begun_listed}
use Rattle.refute_check.proofs.Refused.{unknown_at, no_single_at}
use Rattle.refute_check.proofs.gather.resolve_all.Goals as goal

pub returns-then-first-len-clause-err : goal.returns-then-first-len-clause-err
returns-then-first-len-clause-err g c = unknown_at (g.S.ClauseStore.clauses c.args.store.now) c.args.ids.now 0 empty_set c.requires.some (search rules) tt

pub returns-then-first-len-clause-covered : goal.returns-then-first-len-clause-covered
returns-then-first-len-clause-covered g c = λ m h. never h (ap (λ f. f m) c.requires.clear)

pub unite-requires-clause-below : goal.unite-requires-clause-below
unite-requires-clause-below g c = within_get _ (g.S.ClauseStore.clauses c.args.store.now) _ c.clause.result.now c.requires.reserved c.clause.ensures.here

pub unite-requires-clause-apart : goal.unite-requires-clause-apart
unite-requires-clause-apart g c m h = never h.0 (ap (λ f. f (opposite m)) c.requires.clear)

pub loop-k-init : goal.loop-k-init
loop-k-init g c =
    record {
      length = c.unite.ensures.length;
      pos = search rules;
      chain = derives-one (g.S.ClauseStore.clauses c.args.store.now) c.args.ids.now c.clause.result.now _ c.requires.some c.clause.ensures.here
          (sym (c.unite.ensures.united ∙ ap (λ f. union f (has c.clause.result.now)) c.requires.clear));
    }

pub returns-then-id-len-clause-err : goal.returns-then-id-len-clause-err
returns-then-id-len-clause-err g c = unknown_at (g.S.ClauseStore.clauses c.args.store.now) c.args.ids.now c.loop-k.k (marked_set c.loop-k.signs) c.loop-k-test.true (search rules) c.loop-k.invariant.chain

pub returns-then-id-len-clause-covered : goal.returns-then-id-len-clause-covered
returns-then-id-len-clause-covered g c = begun_listed (g.S.ClauseStore.clauses c.args.store.now) c.args.ids.now c.loop-k.k (marked_set c.loop-k.signs) c.loop-k.invariant.pos c.requires.some c.loop-k.invariant.chain

pub resolve-requires-clause-below : goal.resolve-requires-clause-below
resolve-requires-clause-below g c = rw c.loop-k.invariant.length (within_get _ (g.S.ClauseStore.clauses c.args.store.now) _ c.clause-in-loop-k.result.now c.requires.reserved c.clause-in-loop-k.ensures.here)

pub returns-then-not-resolve-clause-err : goal.returns-then-not-resolve-clause-err
returns-then-not-resolve-clause-err g c =
    no_single_at (g.S.ClauseStore.clauses c.args.store.now) c.args.ids.now c.loop-k.k (marked_set c.loop-k.signs) c.clause-in-loop-k.result.now c.loop-k.invariant.pos c.loop-k-test.true c.clause-in-loop-k.ensures.here c.loop-k.invariant.chain
    (c.resolve.ensures.no (search rules))

pub returns-then-not-resolve-clause-covered : goal.returns-then-not-resolve-clause-covered
returns-then-not-resolve-clause-covered g c =
    subst (λ s. AreListed (marked_set s) (lits_at (g.S.ClauseStore.clauses c.args.store.now) c.args.ids.now)) (sym (c.resolve.ensures.kept (search rules)))
    (begun_listed (g.S.ClauseStore.clauses c.args.store.now) c.args.ids.now c.loop-k.k (marked_set c.loop-k.signs) c.loop-k.invariant.pos c.requires.some c.loop-k.invariant.chain)

pub loop-k-preserved : goal.loop-k-preserved
loop-k-preserved g c =
    let s = c.resolve.ensures.yes (search rules) in
    record {
      length = c.resolve.ensures.length ∙ c.loop-k.invariant.length;
      pos = search rules;
      chain = rw s.2 (derives-more (g.S.ClauseStore.clauses c.args.store.now) c.args.ids.now c.loop-k.k (marked_set c.loop-k.signs) c.clause-in-loop-k.result.now s.0 c.loop-k.invariant.pos c.loop-k-test.true c.loop-k.invariant.chain c.clause-in-loop-k.ensures.here s.1);
    }

pub returns-clause-covered : goal.returns-clause-covered
returns-clause-covered g c = begun_listed (g.S.ClauseStore.clauses c.args.store.now) c.args.ids.now c.loop-k.k (marked_set c.loop-k.signs) c.loop-k.invariant.pos c.requires.some c.loop-k.invariant.chain
