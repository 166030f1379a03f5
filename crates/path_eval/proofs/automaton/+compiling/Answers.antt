use Rattle.std.proofs.Common.{◌≡◌, ℕ, ◌-◌, ◌<◌, length, None, Some, slice_get, get_or, ap, ◌∙◌, subst, arith}
use Rattle.std.proofs.lemmas.Option.{slice_get-get_or}
use Rattle.shapes_graph.specs.declared.paths.PathForm.TheVariants.{Predicate, Inverse, Sequence, Alternative, ZeroOrMore, OneOrMore, ZeroOrOne}
use Rattle.path_eval.specs.declared.automaton.State.TheVariants.{Stuck, Step, Fork}
use Rattle.path_eval.specs.Automaton.{IsGrown, IsCompiled, AreForked}
use Rattle.path_eval.proofs.GrowthLaws.{grown_same, grown_push, grown_then, part_of, pushed_at, pushed_alone, if_ok, if_ok_on, on_ok, compiled_zero, compiled_form, forked_more}
use Rattle.path_eval.proofs.automaton.+compiling.Goals as goal

pub compile-returns-then-fuel-eq0-clause-compiled : goal.compile-returns-then-fuel-eq0-clause-compiled
compile-returns-then-fuel-eq0-clause-compiled t c =
    let ss = c.args.states.now.items in
    if_ok_on c.push_state.result _ _ c.push_state.ensures.number c.push_state.ensures.pushed
    (λ e n p code part. compiled_zero c.args.forms.now code c.args.fuel c.args.path c.args.direction e c.args.next c.if-fuel-eq0.true (pushed_alone code ss c.push_state.new.states.items Stuck e p n part))

pub compile-returns-in-None-clause-grown : goal.compile-returns-in-None-clause-grown
compile-returns-in-None-clause-grown t c = on_ok c.push_state-in-None.result _ _ c.push_state-in-None.ensures.pushed (λ p. grown_push c.args.states.now.items c.push_state-in-None.new.states.items Stuck p)

pub compile-returns-in-None-clause-compiled : goal.compile-returns-in-None-clause-compiled
compile-returns-in-None-clause-compiled t c =
    let ps = c.args.forms.now in
    let pos : 0 < c.args.fuel = omega (arith, c.if-fuel-eq0.false) in
    if_ok_on c.push_state-in-None.result _ _ c.push_state-in-None.ensures.number c.push_state-in-None.ensures.pushed
    (λ e n p code part. compiled_form ps code c.args.fuel c.args.path None c.args.direction e c.args.next pos c.in-None.ensures.none (pushed_alone code c.args.states.now.items c.push_state-in-None.new.states.items Stuck e p n part))

pub compile-returns-in-Some-Predicate-clause-grown : goal.compile-returns-in-Some-Predicate-clause-grown
compile-returns-in-Some-Predicate-clause-grown t c =
    on_ok c.push_state-in-Some-Predicate.result _ _ c.push_state-in-Some-Predicate.ensures.pushed (λ p. grown_push c.args.states.now.items c.push_state-in-Some-Predicate.new.states.items (Step c.args.path c.args.direction c.args.next) p)

pub compile-returns-in-Some-Predicate-clause-compiled : goal.compile-returns-in-Some-Predicate-clause-compiled
compile-returns-in-Some-Predicate-clause-compiled t c =
    let ps = c.args.forms.now in
    let pos : 0 < c.args.fuel = omega (arith, c.if-fuel-eq0.false) in
    let is : slice_get ps c.args.path ≡ Some (Predicate c.in-Some-Predicate.field-0-0) = c.in-Some-Predicate.ensures.some ∙ ap Some c.in-Some-Predicate.field-0-is in
    if_ok_on c.push_state-in-Some-Predicate.result _ _ c.push_state-in-Some-Predicate.ensures.number c.push_state-in-Some-Predicate.ensures.pushed
    (λ e n p code part. compiled_form ps code c.args.fuel c.args.path (Some (Predicate c.in-Some-Predicate.field-0-0)) c.args.direction e c.args.next pos is
    (pushed_alone code c.args.states.now.items c.push_state-in-Some-Predicate.new.states.items (Step c.args.path c.args.direction c.args.next) e p n part))

pub compile-returns-in-Some-Inverse-clause-compiled : goal.compile-returns-in-Some-Inverse-clause-compiled
compile-returns-in-Some-Inverse-clause-compiled t c =
    let ps = c.args.forms.now in
    let q = c.in-Some-Inverse.part in
    let pos : 0 < c.args.fuel = omega (arith, c.if-fuel-eq0.false) in
    let is : slice_get ps c.args.path ≡ Some (Inverse q) = c.in-Some-Inverse.ensures.some ∙ ap Some c.in-Some-Inverse.field-0-is in
    if_ok c.compile.result _ c.compile.ensures.compiled
    (λ e h code part. compiled_form ps code c.args.fuel c.args.path (Some (Inverse q)) c.args.direction e c.args.next pos is (subst (λ d. IsCompiled (c.args.fuel - 1) ps code q d e c.args.next) c.turned.ensures (h code part)))

pub compile-returns-in_ok-middle-in-Some-Sequence-clause-compiled : goal.compile-returns-in_ok-middle-in-Some-Sequence-clause-compiled
compile-returns-in_ok-middle-in-Some-Sequence-clause-compiled t c =
    let ps = c.args.forms.now in
    let a = c.in-Some-Sequence.first in
    let b = c.in-Some-Sequence.second in
    let d = c.args.direction in
    let pos : 0 < c.args.fuel = omega (arith, c.if-fuel-eq0.false) in
    let is : slice_get ps c.args.path ≡ Some (Sequence a b) = c.in-Some-Sequence.ensures.some ∙ ap Some c.in-Some-Sequence.field-0-is in
    let old = c.args.states.now.items in
    let mid = c.compile-in-Some-Sequence.new.states.items in
    let m = c.in_ok-middle-in-Some-Sequence.middle in
    let grown : IsGrown old mid = c.in_ok-middle-in-Some-Sequence.ensures.grown in
    if_ok_on c.compile-in-Some-Sequence-2.result _ _ c.compile-in-Some-Sequence-2.ensures.compiled c.compile-in-Some-Sequence-2.ensures.grown
    (λ e h g code part.
    let far = c.in_ok-middle-in-Some-Sequence.ensures.compiled code (part_of code mid c.compile-in-Some-Sequence-2.new.states.items (length old) (length old) part (omega arith) g) in
    let near = h code (part_of code c.compile-in-Some-Sequence-2.new.states.items c.compile-in-Some-Sequence-2.new.states.items (length old) (length mid) part grown.longer (grown_same c.compile-in-Some-Sequence-2.new.states.items)) in
    compiled_form ps code c.args.fuel c.args.path (Some (Sequence a b)) d e c.args.next pos is
    (m, subst (λ (r : ℕ × ℕ). IsCompiled (c.args.fuel - 1) ps code r.0 d e m) c.ordered-near.ensures near, subst (λ (r : ℕ × ℕ). IsCompiled (c.args.fuel - 1) ps code r.1 d m c.args.next) c.ordered-near.ensures far))

pub compile-returns-in-Some-Alternative-clause-compiled : goal.compile-returns-in-Some-Alternative-clause-compiled
compile-returns-in-Some-Alternative-clause-compiled t c =
    let ps = c.args.forms.now in
    let qs = c.in-Some-Alternative.members in
    let pos : 0 < c.args.fuel = omega (arith, c.if-fuel-eq0.false) in
    let is : slice_get ps c.args.path ≡ Some (Alternative qs) = c.in-Some-Alternative.ensures.some ∙ ap Some c.in-Some-Alternative.field-0-is in
    if_ok c.compile_members.result _ c.compile_members.ensures.compiled
    (λ e h code part. compiled_form ps code c.args.fuel c.args.path (Some (Alternative qs)) c.args.direction e c.args.next pos is
    (subst (λ ns. AreForked (λ q a. IsCompiled (c.args.fuel - 1) ps code q c.args.direction a c.args.next) code ns (length ns) e) c.as_slice.ensures (h code part)))

pub compile-returns-in_ok-fork-in-Some-ZeroOrMore-clause-compiled : goal.compile-returns-in_ok-fork-in-Some-ZeroOrMore-clause-compiled
compile-returns-in_ok-fork-in-Some-ZeroOrMore-clause-compiled t c =
    let ps = c.args.forms.now in
    let q = c.in-Some-ZeroOrMore.part in
    let pos : 0 < c.args.fuel = omega (arith, c.if-fuel-eq0.false) in
    let is : slice_get ps c.args.path ≡ Some (ZeroOrMore q) = c.in-Some-ZeroOrMore.ensures.some ∙ ap Some c.in-Some-ZeroOrMore.field-0-is in
    let r = c.in_ok-fork-in-Some-ZeroOrMore in
    λ code part. compiled_form ps code c.args.fuel c.args.path (Some (ZeroOrMore q)) c.args.direction r.fork c.args.next pos is (r._body, r.ensures.compiled code part)

pub compile-returns-in_ok-_fork-in-Some-OneOrMore-clause-compiled : goal.compile-returns-in_ok-_fork-in-Some-OneOrMore-clause-compiled
compile-returns-in_ok-_fork-in-Some-OneOrMore-clause-compiled t c =
    let ps = c.args.forms.now in
    let q = c.in-Some-OneOrMore.part in
    let pos : 0 < c.args.fuel = omega (arith, c.if-fuel-eq0.false) in
    let is : slice_get ps c.args.path ≡ Some (OneOrMore q) = c.in-Some-OneOrMore.ensures.some ∙ ap Some c.in-Some-OneOrMore.field-0-is in
    let r = c.in_ok-_fork-in-Some-OneOrMore in
    λ code part. compiled_form ps code c.args.fuel c.args.path (Some (OneOrMore q)) c.args.direction r.body c.args.next pos is (r._fork, r.ensures.compiled code part)

pub compile-returns-in_ok-body-in-Some-ZeroOrOne-clause-grown : goal.compile-returns-in_ok-body-in-Some-ZeroOrOne-clause-grown
compile-returns-in_ok-body-in-Some-ZeroOrOne-clause-grown t c =
    let mid = c.compile-in-Some-ZeroOrOne.new.states.items in
    let new = c.push_state-in-Some-ZeroOrOne.new.states.items in
    on_ok c.push_state-in-Some-ZeroOrOne.result _ _ c.push_state-in-Some-ZeroOrOne.ensures.pushed
    (λ p. grown_then c.args.states.now.items mid new c.in_ok-body-in-Some-ZeroOrOne.ensures.grown (grown_push mid new (Fork c.in_ok-body-in-Some-ZeroOrOne.body c.args.next) p))

pub compile-returns-in_ok-body-in-Some-ZeroOrOne-clause-compiled : goal.compile-returns-in_ok-body-in-Some-ZeroOrOne-clause-compiled
compile-returns-in_ok-body-in-Some-ZeroOrOne-clause-compiled t c =
    let ps = c.args.forms.now in
    let q = c.in-Some-ZeroOrOne.part in
    let pos : 0 < c.args.fuel = omega (arith, c.if-fuel-eq0.false) in
    let is : slice_get ps c.args.path ≡ Some (ZeroOrOne q) = c.in-Some-ZeroOrOne.ensures.some ∙ ap Some c.in-Some-ZeroOrOne.field-0-is in
    let old = c.args.states.now.items in
    let mid = c.compile-in-Some-ZeroOrOne.new.states.items in
    let new = c.push_state-in-Some-ZeroOrOne.new.states.items in
    let r = c.in_ok-body-in-Some-ZeroOrOne in
    let s = Fork r.body c.args.next in
    let l = r.ensures.grown.longer in
    if_ok_on c.push_state-in-Some-ZeroOrOne.result _ _ c.push_state-in-Some-ZeroOrOne.ensures.number c.push_state-in-Some-ZeroOrOne.ensures.pushed
    (λ e n p code part. compiled_form ps code c.args.fuel c.args.path (Some (ZeroOrOne q)) c.args.direction e c.args.next pos is
    (r.body, pushed_at code mid new s (length old) e p n part (omega (arith, l, n)), r.ensures.compiled code (part_of code mid new (length old) (length old) part (omega arith) (grown_push mid new s p))))

pub compile_members-members-preserved : goal.compile_members-members-preserved
compile_members-members-preserved t c =
    let qs = c.args.members.now in
    let i = c.members.member-index in
    let old = c.args.states.now.items in
    let ss = c.members.states.items in
    let mid = c.compile.new.states.items in
    let new = c.push_state-in-members.new.states.items in
    let s = Fork c.in_ok-body.body c.members.entry in
    let grown : IsGrown mid new = grown_push mid new s c.in_ok-entry-2.ensures.pushed in
    let body : IsGrown ss mid = c.in_ok-body.ensures.grown in
    let all : IsGrown old ss = c.members.invariant.grown in
    let l = all.longer in
    let m = body.longer in
    let n = c.in_ok-entry-2.ensures.number in
    record {
      grown = grown_then old mid new (grown_then old ss mid all body) grown;
      compiled = λ code part. forked_more (λ q a. IsCompiled c.args.fuel c.args.forms.now code q c.args.direction a c.args.next) code qs i c.in_ok-entry-2.entry c.in_ok-body.body c.members.entry (get_or qs i 0)
          (pushed_at code mid new s (length old) c.in_ok-entry-2.entry c.in_ok-entry-2.ensures.pushed n part (omega (arith, l, m, n)))
          (slice_get-get_or qs i 0 c.members-test.true)
          (c.in_ok-body.ensures.compiled code (part_of code mid new (length old) (length ss) part l grown))
          (c.members.invariant.compiled code (part_of code ss new (length old) (length old) part (omega arith) (grown_then ss mid new body grown)));
    }

pub compile_members-returns-clause-compiled : goal.compile_members-returns-clause-compiled
compile_members-returns-clause-compiled t c =
    let qs = c.args.members.now in
    let end : c.members.member-index ≡ length qs = omega (arith, c.members-test.false, c.members.auto.member-index-end) in
    λ code part. subst (λ i. AreForked (λ q a. IsCompiled c.args.fuel c.args.forms.now code q c.args.direction a c.args.next) code qs i c.members.entry) end (c.members.invariant.compiled code part)
