-- The machine of filling skips exactly the filling, over bytes too. `filling_table` is checked by computing, as the
-- table of tokens is.
use Rattle.std.proofs.Common.{◌≡◌, ℕ, ◌≤◌, Bool, true, false, List, [], ◌∷◌, ◌++◌, length, Option, Some, None, refl, sym, ap, subst, ◌∙◌, arith, length-append, inl, inr}
use Rattle.std.specs.Prelude.{map, option_and_then, encode_utf8_all, codes}
use Rattle.std.specs.Str.{all_scalars, IsUtf8, chars}
use Rattle.std.proofs.lemmas.Str.{encodes-append, encodes-chars}
use Rattle.grammar_forms.specs.Reading.{char_at}
use Rattle.regular_forms.specs.Regular.{Regular, Has}
use Rattle.regular_forms.specs.Longest.{Longest, IsLongest, munch, or_here}
use Rattle.regular_forms.proofs.Derivatives.{nullable, derive, after}
use Rattle.regular_forms.proofs.Alphabets.{derive-sample, fit_after}
use Rattle.regular_forms.proofs.Loops.{Goes, goes_begin_with, goes_on, goes_found, goes_stop, goes_done}
use Rattle.regular_forms.proofs.Machines.{residual, Follows, munch-is_longest}
use Rattle.turtle_tokens.specs.declared.filling.FillingState.{FillingState}
use Rattle.turtle_tokens.specs.declared.filling.FillingState.TheVariants.{Between, Comment}
use Rattle.turtle_tokens.specs.Groups.{group_at}
use Rattle.turtle_tokens.specs.Tokens.{last_filling}
use Rattle.turtle_tokens.specs.Places.{IsFilling}
use Rattle.turtle_tokens.specs.Filling.{Ending, closed, unclosed, filling_form, filling_step, filling_char, filling_out, filling_at, rest_of, has_ending}
use Rattle.turtle_tokens.specs.Fronts.{IsEnd, SkipsTo}
use Rattle.turtle_tokens.proofs.Fronts.{NoChar, no_char, front_of, fewer_bytes, all_scalars-front, bytes_in_parts}
use Rattle.turtle_tokens.proofs.Samples.{sample, AllFitGroups, fit_closed_filling, fit_last_filling}
use Rattle.turtle_tokens.proofs.TokenTable.{groups, agree_on_groups}

-- ---- what is left

abbrev filling_path : FillingState → List ℕ
filling_path Between = []
filling_path Comment = codes "#"

abbrev left_of : Bool → FillingState → Ending → Regular
left_of at_end s k = after (filling_path s) (filling_form at_end k)

filling_table : (at_end : Bool) (s : FillingState) (k : Ending) → map (λ g. derive (left_of at_end s k) (sample g)) groups ≡ map (λ g. residual (left_of at_end) (filling_step s g) k) groups
unfolding filling_step
filling_table true Between closed = refl
filling_table true Between unclosed = refl
filling_table true Comment closed = refl
filling_table true Comment unclosed = refl
filling_table false Between closed = refl
filling_table false Between unclosed = refl
filling_table false Comment closed = refl
filling_table false Comment unclosed = refl

fit_filling : (at_end : Bool) (k : Ending) → AllFitGroups (filling_form at_end k)
fit_filling at_end closed = fit_closed_filling
fit_filling true unclosed = fit_last_filling
fit_filling false unclosed = tt

filling_ends : (at_end : Bool) (s : FillingState) (k : Ending) → filling_out at_end s ≡ Some k → nullable (left_of at_end s k) ≡ true
unfolding filling_out
filling_ends true Between closed h = refl
filling_ends true Between unclosed h = absurd cc
filling_ends true Comment closed h = absurd cc
filling_ends true Comment unclosed h = refl
filling_ends false Between closed h = refl
filling_ends false Between unclosed h = absurd cc
filling_ends false Comment closed h = absurd cc
filling_ends false Comment unclosed h = absurd cc

filling_only : (at_end : Bool) (s : FillingState) (k : Ending) → nullable (left_of at_end s k) ≡ true → filling_out at_end s ≡ Some k
unfolding filling_out
filling_only true Between closed h = refl
filling_only true Between unclosed h = absurd cc
filling_only true Comment closed h = absurd cc
filling_only true Comment unclosed h = refl
filling_only false Between closed h = refl
filling_only false Between unclosed h = absurd cc
filling_only false Comment closed h = absurd cc
filling_only false Comment unclosed h = absurd cc

follows : (at_end : Bool) → Follows filling_char (filling_out at_end) (left_of at_end)
follows at_end = record {
  steps = λ s k c. derive-sample group_at sample (left_of at_end s k) (fit_after group_at sample (filling_path s) (filling_form at_end k) (fit_filling at_end k)) c
      ∙ agree_on_groups (λ g. derive (left_of at_end s k) (sample g)) (λ g. residual (left_of at_end) (filling_step s g) k) (filling_table at_end s k) (group_at c);
  ends = λ s k e. filling_ends at_end s k e;
  only = λ s k e. filling_only at_end s k e;
}

is_longest : (at_end : Bool) (cs : List ℕ) → IsLongest (filling_form at_end) cs (filling_at at_end cs)
is_longest at_end cs = munch-is_longest filling_char (filling_out at_end) (left_of at_end) (follows at_end) Between cs

found : (at_end : Bool) (cs rest : List ℕ) (k : Ending) → filling_at at_end cs ≡ Some (k, rest) → Longest (filling_form at_end) cs k rest
found at_end cs rest k e = subst (λ (o : Option (Ending × List ℕ)). IsLongest (filling_form at_end) cs o) e (is_longest at_end cs)

-- ---- a comment without the end of its line runs to the end

some_here : (m : Option (Ending × List ℕ)) (s : FillingState) (cs : List ℕ) → or_here m (filling_out true s) cs ≡ None → ⊥
unfolding filling_out
some_here (Some x) s cs h = absurd cc
some_here None Between cs h = absurd cc
some_here None Comment cs h = absurd cc

munch_some : (s : FillingState) (cs : List ℕ) → munch filling_char (filling_out true) s cs ≡ None → ⊥
munch_some s [] h = some_here None s [] h
munch_some s (c ∷ cs) h = some_here (option_and_then (λ r. munch filling_char (filling_out true) r cs) (filling_char s c)) s (c ∷ cs) h

rest_is : (rest cs : List ℕ) (k : Ending) → ◌≡◌ {A = Option (Ending × List ℕ)} (Some (k, cs)) (Some (unclosed, rest)) → cs ≡ rest
rest_is rest cs k h = ap rest_of h

ends_nil : (s : FillingState) (rest : List ℕ) → or_here None (filling_out true s) [] ≡ Some (unclosed, rest) → rest ≡ []
unfolding filling_out
ends_nil Between rest h = sym (rest_is rest [] closed h)
ends_nil Comment rest h = sym (rest_is rest [] unclosed h)

comment_goes_on : (c : ℕ) → filling_char Comment c ≡ None → ⊥
unfolding filling_step
comment_goes_on c h = absurd cc

ending_in : Option (Ending × List ℕ) → Ending
ending_in None = closed
ending_in (Some x) = x.0

closed_unclosed : closed ≡ unclosed → ⊥
closed_unclosed h = absurd cc

not_unclosed : (cs rest : List ℕ) → ◌≡◌ {A = Option (Ending × List ℕ)} (Some (closed, cs)) (Some (unclosed, rest)) → ⊥
unfolding ending_in
not_unclosed cs rest h = closed_unclosed (ap ending_in h)

ends_more : (s : FillingState) (c : ℕ) (cs rest : List ℕ) (o : Option FillingState) → filling_char s c ≡ o → ((r : FillingState) → munch filling_char (filling_out true) r cs ≡ Some (unclosed, rest) → rest ≡ [])
    → (m : Option (Ending × List ℕ)) → option_and_then (λ r. munch filling_char (filling_out true) r cs) o ≡ m → or_here m (filling_out true s) (c ∷ cs) ≡ Some (unclosed, rest) → rest ≡ []
unfolding filling_out
ends_more s c cs rest None e ih (Some x) f h = absurd cc
ends_more s c cs rest (Some r) e ih (Some x) f h = ih r (f ∙ h)
ends_more s c cs rest (Some r) e ih None f h = absurd (munch_some r cs f)
ends_more Between c cs rest None e ih None f h = absurd (not_unclosed (c ∷ cs) rest h)
ends_more Comment c cs rest None e ih None f h = absurd (comment_goes_on c e)

unclosed_ends : (s : FillingState) (cs rest : List ℕ) → munch filling_char (filling_out true) s cs ≡ Some (unclosed, rest) → rest ≡ []
unclosed_ends s [] rest h = ends_nil s rest h
unclosed_ends s (c ∷ cs) rest h = ends_more s c cs rest (filling_char s c) refl (λ r. unclosed_ends r cs rest) (option_and_then (λ r. munch filling_char (filling_out true) r cs) (filling_char s c)) refl h

-- ---- over bytes

nil_left : (a b : List ℕ) → a ++ b ≡ [] → b ≡ []
nil_left [] b h = h
nil_left (c ∷ a) b h = absurd cc

is_filling : (at_end : Bool) (k : Ending) (cs a rest bad : List ℕ) → IsEnd at_end bad → all_scalars a ≡ true → Has (filling_form at_end k) a → filling_at at_end cs ≡ Some (k, rest) → IsFilling (encode_utf8_all a) (encode_utf8_all rest ++ bad)
is_filling at_end closed cs a rest bad b s h e = (a, inl (record { are_scalars = s; spell = refl; has = h }))
is_filling true unclosed cs a rest bad b s h e = (a, inr ((record { are_scalars = s; spell = refl; has = h }), rw (unclosed_ends Between cs rest e, b) refl))
is_filling false unclosed cs a rest bad b s h e = absurd h

is_unclosed : (at_end : Bool) (tail bad text after : List ℕ) → IsEnd at_end bad → after ≡ encode_utf8_all tail ++ bad → after ≡ [] → Has last_filling text → Has (filling_form at_end unclosed) text
is_unclosed true tail bad text after b e n h = h
is_unclosed false tail bad text after b e n h = absurd (b (nil_left (encode_utf8_all tail) bad (sym e ∙ n)))

not_longer : (at_end : Bool) (cs rest bad : List ℕ) (k : Ending) → (l : Longest (filling_form at_end) cs k rest) → NoChar bad → (other after text : List ℕ) (j : Ending) → encode_utf8_all cs ++ bad ≡ other ++ after
    → all_scalars text ≡ true → encode_utf8_all text ≡ other → ((tail : List ℕ) → after ≡ encode_utf8_all tail ++ bad → Has (filling_form at_end j) text) → length other ≤ length (encode_utf8_all l.front)
not_longer at_end cs rest bad k l stop other after text j parts s spell has =
    let f = front_of cs text bad after stop s (parts ∙ ap (λ (t : List ℕ). t ++ after) (sym spell)) in
    omega (arith, ap length spell, fewer_bytes l.front rest text f.0 (sym l.parts ∙ f.1) (l.longest j text f.0 f.1 (has f.0 f.2)))

skips_by : (at_end : Bool) (cs rest : List ℕ) (k : Ending) → all_scalars cs ≡ true → filling_at at_end cs ≡ Some (k, rest) → SkipsTo at_end cs rest
skips_by at_end cs rest k s e at bad starts b =
    let stop = no_char bad starts in
    let l = found at_end cs rest k e in (
      l.front,
      l.parts,
      record {
        front = encode_utf8_all l.front;
        parts = bytes_in_parts cs l.front rest bad l.parts;
        at = refl;
        filling = is_filling at_end k cs l.front rest bad b (all_scalars-front l.front rest (subst (λ (t : List ℕ). all_scalars t ≡ true) l.parts s)) l.has e;
        longest = λ other after parts g. elim g.1 [
          | inl n ↦ not_longer at_end cs rest bad k l stop other after g.0 closed parts n.are_scalars n.spell (λ tail e. n.has)
          | inr n ↦ not_longer at_end cs rest bad k l stop other after g.0 unclosed parts n.0.are_scalars n.0.spell (λ tail e. is_unclosed at_end tail bad g.0 after b e n.1 n.0.has)
        ];
      },
    )

-- ---- the loop

some_ending : (o : Option Ending) → has_ending o ≡ true → (k : Ending) × (o ≡ Some k)
some_ending None h = absurd cc
some_ending (Some k) h = (k, refl)

no_ending : (o : Option Ending) → has_ending o ≡ false → o ≡ None
no_ending None h = refl
no_ending (Some k) h = absurd cc

-- in a state before the rest, with what stands behind the filling so far
pub record Skipping (at_end : Bool) (text : List ℕ) (s : FillingState) (rest behind : List ℕ) : Type 0 where
  pub ending : Ending
  pub goes : Goes filling_char (filling_out at_end) (filling_at at_end text) s rest (Some (ending, behind))

begin_out : (at_end : Bool) → filling_out at_end Between ≡ Some closed
unfolding filling_out
begin_out at_end = refl

pub skipping_begin : (at_end : Bool) (text : List ℕ) → Skipping at_end text Between text text
skipping_begin at_end text = record { ending = closed; goes = goes_begin_with filling_char (filling_out at_end) Between text closed (begin_out at_end) }

pub skipping_on : (at_end : Bool) (text : List ℕ) (s : FillingState) (rest behind : List ℕ) (c : ℕ) (cs : List ℕ) (r : FillingState) → char_at rest ≡ Some (c, cs) → filling_char s c ≡ Some r → false ≡ has_ending (filling_out at_end r) → Skipping at_end text s rest behind → Skipping at_end text r cs behind
skipping_on at_end text s rest behind c cs r e f n h = record { ending = h.ending; goes = goes_on filling_char (filling_out at_end) (filling_at at_end text) s (Some (h.ending, behind)) c cs rest r e f (no_ending (filling_out at_end r) (sym n)) h.goes }

pub skipping_found : (at_end : Bool) (text : List ℕ) (s : FillingState) (rest behind : List ℕ) (c : ℕ) (cs : List ℕ) (r : FillingState) → char_at rest ≡ Some (c, cs) → filling_char s c ≡ Some r → true ≡ has_ending (filling_out at_end r) → Skipping at_end text s rest behind → Skipping at_end text r cs cs
skipping_found at_end text s rest behind c cs r e f n h =
    let k = some_ending (filling_out at_end r) (sym n) in
    record { ending = k.0; goes = goes_found filling_char (filling_out at_end) (filling_at at_end text) s (Some (h.ending, behind)) c cs rest r k.0 e f k.1 h.goes }

pub skipping_stop : (at_end : Bool) (text : List ℕ) (s : FillingState) (rest behind : List ℕ) (c : ℕ) (cs : List ℕ) → char_at rest ≡ Some (c, cs) → filling_char s c ≡ None → Skipping at_end text s rest behind → rest_of (filling_at at_end text) ≡ behind
skipping_stop at_end text s rest behind c cs e f h = ap rest_of (goes_stop filling_char (filling_out at_end) (filling_at at_end text) s (Some (h.ending, behind)) c cs rest e f h.goes)

pub skipping_done : (at_end : Bool) (text : List ℕ) (s : FillingState) (rest behind : List ℕ) → char_at rest ≡ None → Skipping at_end text s rest behind → rest_of (filling_at at_end text) ≡ behind
skipping_done at_end text s rest behind e h = ap rest_of (goes_done filling_char (filling_out at_end) (filling_at at_end text) s (Some (h.ending, behind)) rest e h.goes)

-- ---- what the loop answers

begin_some : (at_end : Bool) (m : Option (Ending × List ℕ)) (cs : List ℕ) → or_here m (filling_out at_end Between) cs ≡ None → ⊥
unfolding filling_out
begin_some at_end (Some x) cs h = absurd cc
begin_some at_end None cs h = absurd cc

filling_some : (at_end : Bool) (cs : List ℕ) → filling_at at_end cs ≡ None → ⊥
filling_some at_end [] h = begin_some at_end None [] h
filling_some at_end (c ∷ cs) h = begin_some at_end (option_and_then (λ r. munch filling_char (filling_out at_end) r cs) (filling_char Between c)) (c ∷ cs) h

skips_from : (at_end : Bool) (cs rest : List ℕ) (o : Option (Ending × List ℕ)) → all_scalars cs ≡ true → filling_at at_end cs ≡ o → rest_of o ≡ rest → SkipsTo at_end cs rest
skips_from at_end cs rest None s e h = absurd (filling_some at_end cs e)
skips_from at_end cs rest (Some x) s e h = subst (λ (r : List ℕ). SkipsTo at_end cs r) h (skips_by at_end cs x.1 x.0 s e)

pub is_skipped : (at_end : Bool) (cs rest : List ℕ) → all_scalars cs ≡ true → rest_of (filling_at at_end cs) ≡ rest → SkipsTo at_end cs rest
is_skipped at_end cs rest s h = skips_from at_end cs rest (filling_at at_end cs) s refl h

shorter_from : (at_end : Bool) (text rest : List ℕ) → IsUtf8 text → IsUtf8 rest → (o : Option (Ending × List ℕ)) → filling_at at_end (chars text) ≡ o → rest_of o ≡ chars rest → length rest ≤ length text
shorter_from at_end text rest u v None e h = absurd (filling_some at_end (chars text) e)
shorter_from at_end text rest u v (Some x) e h =
    let l = found at_end (chars text) x.1 x.0 e in
    omega (arith, ap length (encodes-chars text u), ap length (encodes-chars rest v), ap (λ (t : List ℕ). length (encode_utf8_all t)) l.parts, ap length (encodes-append l.front x.1), ap (λ (t : List ℕ). length (encode_utf8_all t)) h, length-append (encode_utf8_all l.front) (encode_utf8_all x.1))

pub is_shorter : (at_end : Bool) (text rest : List ℕ) → IsUtf8 text → IsUtf8 rest → rest_of (filling_at at_end (chars text)) ≡ chars rest → length rest ≤ length text
is_shorter at_end text rest u v h = shorter_from at_end text rest u v (filling_at at_end (chars text)) refl h
