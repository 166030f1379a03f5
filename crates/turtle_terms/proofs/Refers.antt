-- What an IRIREF stands for, by the reference that it spells.
use Rattle.std.proofs.Common.{◌≡◌, ℕ, List, Option, Some, None, Result, Ok, Err, sym, ap, ◌∙◌}
use Rattle.grammar_forms.specs.Exact.{anything}
use Rattle.grammar_forms.proofs.Exactness.{some_is}
use Rattle.rdf_grammar.specs.declared.parse_error.ParseError.{ParseError}
use Rattle.rdf_grammar.specs.declared.parse_error.ParseError.TheVariants.{OutOfMemory, NoMatch}
use Rattle.rdf_grammar.specs.Answers.{GivesAll}
use Rattle.rdf_grammar.specs.Productions.{iriref}
use Rattle.rdf_grammar.specs.Reading.{iriref_at}
use Rattle.rdf_grammar.proofs.Productions.{iriref_exact}
use Rattle.turtle_terms.specs.Answers.{HasNoMeaning, Means, GivesOneMeaning}
use Rattle.turtle_terms.specs.References.{Refers, iri_under}
use Rattle.turtle_terms.proofs.Meanings.{one_meaning}

pub no_reference : (base : Option (List ℕ)) (cs : List ℕ) (e : ParseError) → HasNoMeaning e iriref cs → HasNoMeaning e (Refers base) cs
no_reference base cs OutOfMemory h = tt
no_reference base cs NoMatch h = λ v k. h k.reference k.spelled

none_is : {B : Type 0} (x : B) → None ≡ Some x → ⊥
none_is x e = absurd cc

pub reference_stands : (base : Option (List ℕ)) (cs reference : List ℕ) (r : Result (List ℕ) ParseError) → iriref cs reference → GivesAll (λ t. t) r (iri_under base reference) → Means (λ t. t) r (Refers base) cs
reference_stands base cs reference (Ok iri) s h = record { reference = reference; spelled = s; stands = h }
reference_stands base cs reference (Err OutOfMemory) s h = tt
reference_stands base cs reference (Err NoMatch) s h = λ v k.
    let same : k.reference ≡ reference = one_meaning iriref anything iriref_at iriref_exact tt cs k.reference reference k.spelled s in
    none_is v (sym h ∙ ap (iri_under base) (sym same) ∙ k.stands)

pub refers_once : (base : Option (List ℕ)) → GivesOneMeaning (Refers base)
refers_once base text v w h k =
    let same : h.reference ≡ k.reference = one_meaning iriref anything iriref_at iriref_exact tt text h.reference k.reference h.spelled k.spelled in
    some_is v w (sym h.stands ∙ ap (iri_under base) same ∙ k.stands)
