-- Turns, one after another.
use Rattle.std.proofs.Common.{◌≡◌, ℕ, zero, suc, ◌<◌, ◌≤◌, List, [], ◌∷◌, length, refl, sym, ap, ◌∙◌, arith}
use Rattle.std.proofs.lemmas.List.{nil_from_length}
use Rattle.iri_references.specs.DotSegments.{Buffers, turn, output_after, without_dot_segments}

-- some turns of what is left give what all turns of the path give
pub record Turning (path input output : List ℕ) : Type 0 where
  pub turns : ℕ
  pub enough : length input ≤ turns
  pub same : output_after turns input output ≡ without_dot_segments path

pub turns_begin : (path output : List ℕ) → output ≡ [] → Turning path path output
turns_begin path output e = record { turns = length path; enough = omega arith; same = ap (λ o. output_after (length path) path o) e }

one_turn : (n : ℕ) (input output : List ℕ) → 0 < length input → length input ≤ n → (m : ℕ) × (n ≡ suc m) × (output_after n input output ≡ output_after m (turn input output).input (turn input output).output)
one_turn zero input output some le = absurd (omega arith)
one_turn (suc n) [] output some le = absurd (omega arith)
one_turn (suc n) (c ∷ cs) output some le = (n, refl, refl)

pub turns_go_on : (path i o j p : List ℕ) → Turning path i o → 0 < length i → turn i o ≡ record { input = j; output = p } → length j < length i → Turning path j p
turns_go_on path i o j p t some e shorter =
    let one = one_turn t.turns i o some t.enough in
    record {
      turns = one.0;
      enough = omega (arith, one.1, t.enough);
      same = sym (ap (λ (b : Buffers). output_after one.0 b.input b.output) e) ∙ (sym one.2 ∙ t.same);
    }

no_turn : (n : ℕ) (output : List ℕ) → output_after n [] output ≡ output
no_turn zero output = refl
no_turn (suc n) output = refl

pub turns_end : (path input output : List ℕ) → Turning path input output → length input ≡ 0 → output ≡ without_dot_segments path
turns_end path input output t e =
    sym (ap (λ i. output_after t.turns i output) (nil_from_length input e) ∙ no_turn t.turns output) ∙ t.same
