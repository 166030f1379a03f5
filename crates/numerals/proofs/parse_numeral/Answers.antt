use Rattle.std.proofs.Common.{◌≡◌, ◌<◌, ◌≤◌, ℕ, length, get_or, arith, ap, sym, ◌∙◌, ◌⊎◌, inl, inr}
use Rattle.numerals.proofs.Decimals.{no_digits, no_plus, no_zero, parsed}
use Rattle.numerals.proofs.parse_numeral.Goals as goal
use Rattle.numerals.proofs.parse_numeral.Goals.{then-first-eq43-via-then-first-eq43, then-first-eq43-via-else-first-eq43+then-digits-gt1}

pub returns-in_err-first : goal.returns-in_err-first
returns-in_err-first c =
    let h = c.in_err-first.ensures.item.3 in
    let l = ap length c.as_bytes-digits.ensures.value in
    rw c.from_residual.ensures (λ n lt. no_digits n c.args.text.now lt (omega arith))

pub returns-then-first-eq43 : goal.returns-then-first-eq43
returns-then-first-eq43 c n lt =
    let h = c.in_ok-first.ensures.item.3 in
    let l = ap length c.as_bytes-digits.ensures.value in
    let first = ap (λ ds. get_or ds 0 0) (sym c.as_bytes-digits.ensures.value) ∙ sym (h.1 0) in
    elim c.then-first-eq43.branch [
      | then-first-eq43-via-then-first-eq43 w ↦ no_plus n c.args.text.now lt (first ∙ w.if-first-eq43.true)
      | then-first-eq43-via-else-first-eq43+then-digits-gt1 w ↦ let long = w.if-digits-gt1.true.1 in no_zero n c.args.text.now lt (first ∙ w.if-digits-gt1.true.0) (omega arith)
    ]

no_more : {P : Type 0} (n : ℕ) → 0 < n → (P × (n ≤ 1)) ⊎ (¬ P) → P → n ≡ 1
no_more n some (inl h) p = omega (arith, h.1)
no_more n some (inr h) p = absurd (h p)

pub returns : goal.returns
returns c =
    let h = c.in_ok-first.ensures.item.3 in
    let first = ap (λ ds. get_or ds 0 0) (sym c.as_bytes-digits.ensures.value) ∙ sym (h.1 0) in
    rw c.ok.ensures.value (parsed c.args.text.now c.parse.result (λ e. c.if-first-eq43.false (sym first ∙ e)) (λ e. ap length (sym c.as_bytes-digits.ensures.value) ∙ no_more _ h.0 c.if-digits-gt1.either (sym first ∙ e)) c.parse.ensures.value.0)
