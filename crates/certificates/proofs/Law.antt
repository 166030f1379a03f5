-- What an accepted proof shows, whoever made it.
use Rattle.std.proofs.Common.{◌≡◌, ◌⊎◌, inl, inr, ℕ, List, [], ◌∷◌, ◌++◌, Contains, Option, Some, None, slice_get, refl, sym, subst}
use Rattle.std.specs.Prelude.{option_and_then}
use Rattle.std.proofs.lemmas.List.Elements.{Contains-append_left, Contains-push, Contains-push_cases}
use Rattle.rdf_terms.specs.Graph.{Graph}
use Rattle.rdf_terms.proofs.Members.{in_none, in_first, in_rest, in_cases}
use Rattle.shapes_profile.specs.Profile.{IsInProfile}
use Rattle.shapes_graph.specs.Conformance.{Conforms}
use Rattle.repair_problem.specs.declared.atom.Atom.{Atom}
use Rattle.repair_problem.specs.declared.atom.Literal.{Literal}
use Rattle.repair_problem.specs.declared.atom.Part.{Part}
use Rattle.repair_problem.specs.PartMeaning.{LiteralMeans}
use Rattle.repair_problem.specs.Repair.{Apart, Minimal}
use Rattle.repair_problem.specs.Setting.{Setting, IsEdit}
use Rattle.repair_problem.specs.Candidates.{additions, edited_by}
use Rattle.repair_problem.specs.Changes.{AreCandidates, ChangeExplains, ChangeBelow, ChangeMinimal}
use Rattle.repair_problem.specs.Meaning.{Means}
use Rattle.repair_problem.proofs.ChangeLaws.{changes_pairs, edit_of}
use Rattle.proof_lines.specs.declared.rule.RuleName.{RuleName}
use Rattle.proof_lines.specs.declared.rule.RuleName.TheVariants as rule
use Rattle.proof_lines.specs.declared.proof.Claim.{Claim}
use Rattle.proof_lines.specs.declared.proof.Claim.TheVariants as claim
use Rattle.proof_lines.specs.declared.proof.ProofLine.{ProofLine}
use Rattle.proof_lines.specs.declared.proof.ProofLine.TheVariants as line
use Rattle.proof_lines.specs.declared.proof.Proof.{Proof}
use Rattle.count_encode.specs.PartTruth.{opposite}
use Rattle.atom_parts.specs.PartLiterals.{In}
use Rattle.premise_rules.specs.declared.clause.Clause.TheVariants.{Literals, OutOfRange}
use Rattle.premise_rules.specs.Literals.{finished}
use Rattle.premise_rules.specs.RuleClauses.{rule_parts, rule_clause, outside_parts, undo_parts}
use Rattle.premise_rules.specs.Premises.{IsTrueOf, IsWithin, IsPremise}
use Rattle.premise_rules.specs.Documents.{Lines, no_lines, with_pair, with_clause, IsLast, Leads, AnyStep, IsRefuted, Shows, IsAccepted}
use Rattle.premise_rules.proofs.AnsweredLiterals.{finished_plain}
use Rattle.premise_rules.proofs.PremiseLaws.{premise}
use Rattle.certificates.specs.Shown.{IsTrueClaim, DoPairsExplain, IsShown}
use Rattle.certificates.proofs.Sound.{each_from, at_place, Sound, AreSound, sound_more, chained_sound, empty_not_sound}

-- Chains of pairs.
pub last_pushed : (chain : List (List ℕ)) (pair p : List ℕ) → IsLast (chain ++ pair ∷ []) p → pair ≡ p
last_pushed [] pair p h = h
last_pushed (q ∷ []) pair p h = h
last_pushed (q ∷ r ∷ rs) pair p h = last_pushed (r ∷ rs) pair p h

last_of : (chain : List (List ℕ)) (q : List ℕ) → Contains chain q → (p : List ℕ) × IsLast chain p
last_of [] q h = absurd (in_none q h)
last_of (r ∷ []) q h = (r, refl)
last_of (r ∷ s ∷ rs) q h = last_of (s ∷ rs) s (in_first s rs)

pub in_last : (chain : List (List ℕ)) (p : List ℕ) → IsLast chain p → Contains chain p
in_last [] p h = absurd h
in_last (r ∷ []) p h = subst (Contains (r ∷ [])) h (in_first r [])
in_last (r ∷ s ∷ rs) p h = in_rest r (s ∷ rs) p (in_last (s ∷ rs) p h)

-- the last pair has no candidate that another has not
abbrev Falls : List (List ℕ) → Type 0
Falls chain = (p q : List ℕ) → IsLast chain p → Contains chain q → IsWithin p q

falls_next : (chain : List (List ℕ)) (pair : List ℕ) → Falls chain → ((before : List ℕ) → IsLast chain before → ChangeBelow pair before) → Falls (chain ++ pair ∷ [])
falls_next chain pair falls next p q last among t h = split (Contains-push_cases chain pair q among)
  where
    here : Contains pair t
    here = subst (λ x. Contains x t) (sym (last_pushed chain pair p last)) h

    split : Contains chain q ⊎ (pair ≡ q) → Contains q t
    split (inl g) = let r = last_of chain q g in falls r.0 q r.1 g t ((next r.0 r.1).within t here)
    split (inr e) = subst (λ x. Contains x t) e here

pub below_within : (less p q : List ℕ) → ChangeBelow less p → IsWithin p q → ChangeBelow less q
below_within less p q b h = record { within = λ t g. h t (b.within t g); differs = λ back. b.differs (λ t g. back t (h t g)) }

in_contains : (ls : List Literal) (l : Literal) → Contains ls l → In ls l
in_contains [] l c = absurd (in_none l c)
in_contains (m ∷ ls) l c = split (in_cases m ls l c) (λ d. in_contains ls l d)
  where
    split : (m ≡ l) ⊎ Contains ls l → (Contains ls l → In ls l) → (m ≡ l) ⊎ In ls l
    split (inl e) on = inl e
    split (inr d) on = inr (on d)

module _ (s : Setting) where
  -- no atom stands in the clause of a rule in both signs
  pub rule_plain : (chain : List (List ℕ)) (name : RuleName) (numbers : List ℕ) (ls : List Literal) → rule_clause s chain name numbers ≡ Literals ls → (l : Literal) → Contains ls l → ¬ (Contains ls (opposite l))
  rule_plain chain name numbers ls e l k m = at (rule_parts s chain name numbers) e
    where
      at : (o : Option (List Part)) → finished o ≡ Literals ls → ⊥
      at None g = cc
      at (Some ps) g = finished_plain ps ls g l (in_contains ls l k) (in_contains ls (opposite l) m)

  module _ (Step : List (List Literal) → List Literal → Type 0) where
    pub chain_kept : (above : Lines) (lines : List ProofLine) (end : Lines) → Leads s Step above lines end → (q : List ℕ) → Contains above.chain q → Contains end.chain q
    chain_kept above [] end h q c = subst (λ (x : Lines). Contains x.chain q) h c
    chain_kept above (line.Chain pair ∷ ls) end h q c = chain_kept (with_pair above pair) ls end h.1 q (Contains-append_left above.chain (pair ∷ []) q c)
    chain_kept above (line.Rule r ∷ ls) end h q c = chain_kept (with_clause above h.0) ls end h.2 q c
    chain_kept above (line.Step ids ∷ ls) end h q c = chain_kept (with_clause above h.0) ls end h.3 q c

    chain_falls : (above : Lines) (lines : List ProofLine) (end : Lines) → Leads s Step above lines end → Falls above.chain → Falls end.chain
    chain_falls above [] end h f = subst (λ (x : Lines). Falls x.chain) h f
    chain_falls above (line.Chain pair ∷ ls) end h f = chain_falls (with_pair above pair) ls end h.1 (falls_next above.chain pair f h.0.below)
    chain_falls above (line.Rule r ∷ ls) end h f = chain_falls (with_clause above h.0) ls end h.2 f
    chain_falls above (line.Step ids ∷ ls) end h f = chain_falls (with_clause above h.0) ls end h.3 f

    abbrev Explaining : List (List ℕ) → Type 0
    Explaining chain = (q : List ℕ) → Contains chain q → ChangeExplains (Conforms s.shapes) s q

    explaining_more : (chain : List (List ℕ)) (pair : List ℕ) → Explaining chain → ChangeExplains (Conforms s.shapes) s pair → Explaining (chain ++ pair ∷ [])
    explaining_more chain pair all own q k = split (Contains-push_cases chain pair q k)
      where
        split : Contains chain q ⊎ (pair ≡ q) → ChangeExplains (Conforms s.shapes) s q
        split (inl h) = all q h
        split (inr e) = subst (ChangeExplains (Conforms s.shapes) s) e own

    pub chain_explains : (above : Lines) (lines : List ProofLine) (end : Lines) → Leads s Step above lines end → Explaining above.chain → Explaining end.chain
    chain_explains above [] end h f = subst (λ (x : Lines). Explaining x.chain) h f
    chain_explains above (line.Chain pair ∷ ls) end h f = chain_explains (with_pair above pair) ls end h.1 (explaining_more above.chain pair f h.0.explains)
    chain_explains above (line.Rule r ∷ ls) end h f = chain_explains (with_clause above h.0) ls end h.2 f
    chain_explains above (line.Step ids ∷ ls) end h f = chain_explains (with_clause above h.0) ls end h.3 f

    pub pairs_explain : (above : Lines) (lines : List ProofLine) (end : Lines) → Leads s Step above lines end → DoPairsExplain s lines
    pairs_explain above [] end h pair k = absurd (in_none (line.Chain pair) k)
    pairs_explain above (line.Chain p ∷ ls) end h pair k = split (in_cases (line.Chain p) ls (line.Chain pair) k) (pairs_explain (with_pair above p) ls end h.1 pair)
      where
        split : (line.Chain p ≡ line.Chain pair) ⊎ Contains ls (line.Chain pair) → (Contains ls (line.Chain pair) → ChangeExplains (Conforms s.shapes) s pair) → ChangeExplains (Conforms s.shapes) s pair
        split (inl e) on = let d : p ≡ pair = cc in subst (ChangeExplains (Conforms s.shapes) s) d h.0.explains
        split (inr c) on = on c
    pairs_explain above (line.Rule r ∷ ls) end h pair k = split (in_cases (line.Rule r) ls (line.Chain pair) k) (pairs_explain (with_clause above h.0) ls end h.2 pair)
      where
        split : (line.Rule r ≡ line.Chain pair) ⊎ Contains ls (line.Chain pair) → (Contains ls (line.Chain pair) → ChangeExplains (Conforms s.shapes) s pair) → ChangeExplains (Conforms s.shapes) s pair
        split (inl e) on = cc
        split (inr c) on = on c
    pairs_explain above (line.Step ids ∷ ls) end h pair k = split (in_cases (line.Step ids) ls (line.Chain pair) k) (pairs_explain (with_clause above h.0) ls end h.3 pair)
      where
        split : (line.Step ids ≡ line.Chain pair) ⊎ Contains ls (line.Chain pair) → (Contains ls (line.Chain pair) → ChangeExplains (Conforms s.shapes) s pair) → ChangeExplains (Conforms s.shapes) s pair
        split (inl e) on = cc
        split (inr c) on = on c

-- the clauses of a proof are true of each explaining change below the pairs of its chain
module _ (s : Setting) (profile : IsInProfile s.shapes) (apart : Apart s.present s.offers) (less : List ℕ) (own : ChangeExplains (Conforms s.shapes) s less) where
  abbrev M : Atom → Type 0
  M = Means s (edited_by s less)

  edit : IsEdit s (edited_by s less)
  edit = edit_of s less (edited_by s less) refl

  -- of each kind of rule
  used : (chain : List (List ℕ)) → ((q : List ℕ) → Contains chain q → ChangeBelow less q) → (name : RuleName) (numbers : List ℕ) (ls : List Literal) → rule_clause s chain name numbers ≡ Literals ls → IsPremise s chain name numbers ls → IsTrueOf M ls
  used chain below rule.Root numbers ls e h = h (edited_by s less) edit own.conforms
  used chain below rule.Outside [] ls e h = h (edited_by s less) edit
  used chain below rule.Outside (j ∷ []) ls e h = cc
  used chain below rule.Outside (j ∷ t ∷ u ∷ ns) ls e h = cc
  used chain below rule.Outside (j ∷ t ∷ []) ls e h = at (slice_get chain j) refl
    where
      at : (o : Option (List ℕ)) → slice_get chain j ≡ o → IsTrueOf M ls
      at None g = absurd (out (subst (λ o. finished (option_and_then (outside_parts s t) o) ≡ Literals ls) g e))
        where
          out : OutOfRange ≡ Literals ls → ⊥
          out f = cc
      at (Some pair) g = h pair less g (below pair (at_place chain j pair g)).within
  used chain below rule.Undo [] ls e h = h (edited_by s less) edit
  used chain below rule.Undo (j ∷ t ∷ ns) ls e h = cc
  used chain below rule.Undo (j ∷ []) ls e h = at (slice_get chain j) refl
    where
      at : (o : Option (List ℕ)) → slice_get chain j ≡ o → IsTrueOf M ls
      at None g = absurd (out (subst (λ o. finished (option_and_then (λ p. Some (undo_parts s p)) o) ≡ Literals ls) g e))
        where
          out : OutOfRange ≡ Literals ls → ⊥
          out f = cc
      at (Some pair) g = h pair less g (below pair (at_place chain j pair g))
  used chain below rule.Reach ns ls e h = h (edited_by s less) edit
  used chain below rule.Level ns ls e h = h (edited_by s less) edit
  used chain below rule.Middle ns ls e h = h (edited_by s less) edit
  used chain below rule.Good ns ls e h = h (edited_by s less) edit
  used chain below rule.Marked ns ls e h = h (edited_by s less) edit
  used chain below rule.Count ns ls e h = h (edited_by s less) edit
  used chain below rule.Differ ns ls e h = h (edited_by s less) edit
  used chain below rule.Twin ns ls e h = h (edited_by s less) edit
  used chain below rule.Holds ns ls e h = h (edited_by s less) edit
  used chain below rule.Conforms ns ls e h = h (edited_by s less) edit
  used chain below rule.Target ns ls e h = h (edited_by s less) edit

  rule_sound : (chain : List (List ℕ)) → ((q : List ℕ) → Contains chain q → AreCandidates s q) → ((q : List ℕ) → Contains chain q → ChangeBelow less q) → (name : RuleName) (numbers : List ℕ) (ls : List Literal) → rule_clause s chain name numbers ≡ Literals ls → Sound M ls
  rule_sound chain pairs below name numbers ls e =
      record {
        truth = λ all. used chain below name numbers ls e (premise s profile apart chain (λ pair j h. pairs pair (at_place chain j pair h)) name numbers ls e) (each_from (λ l. ¬ (LiteralMeans M l)) ls all);
        plain = rule_plain s chain name numbers ls e;
      }

  module _ (Step : List (List Literal) → List Literal → Type 0) where
    lines_sound : (above : Lines) (lines : List ProofLine) (end : Lines) → Leads s Step above lines end → ((q : List ℕ) → Contains above.chain q → ChangeExplains (Conforms s.shapes) s q) → ((q : List ℕ) → Contains end.chain q → ChangeBelow less q) → AreSound M above.clauses → AreSound M end.clauses
    lines_sound above [] end h ex below all = subst (λ (x : Lines). AreSound M x.clauses) h all
    lines_sound above (line.Chain pair ∷ ls) end h ex below all = lines_sound (with_pair above pair) ls end h.1 (explaining_more s Step above.chain pair ex h.0.explains) below all
    lines_sound above (line.Rule r ∷ ls) end h ex below all =
        lines_sound (with_clause above h.0) ls end h.2 ex below
        (sound_more M above.clauses h.0 all (rule_sound above.chain (λ q k. (ex q k).within) (λ q k. below q (chain_kept s Step (with_clause above h.0) ls end h.2 q k)) r.name r.numbers h.0 h.1))
    lines_sound above (line.Step ids ∷ ls) end h ex below all = lines_sound (with_clause above h.0) ls end h.3 ex below (sound_more M above.clauses h.0 all (chained_sound M above.clauses ids h.0 all h.1))

    pub none_refuted : (lines : List ProofLine) (end : Lines) → Leads s Step no_lines lines end → ((q : List ℕ) → Contains end.chain q → ChangeBelow less q) → ¬ (IsRefuted end)
    none_refuted lines end h below r =
        let all = lines_sound no_lines lines end h (λ q k. absurd (in_none q k)) below (λ c k. absurd (in_none c k)) in
        empty_not_sound M (all [] (subst (λ cs. Contains cs []) (sym r.1) (Contains-push r.0 [])))

module _ (s : Setting) (profile : IsInProfile s.shapes) (apart : Apart s.present s.offers) where
  minimal : (lines : List ProofLine) (end : Lines) (pair : List ℕ) → Leads s AnyStep no_lines lines end → IsLast end.chain pair → IsRefuted end → ChangeMinimal (Conforms s.shapes) s pair
  minimal lines end pair h last r =
      record {
        explains = chain_explains s AnyStep no_lines lines end h (λ q k. absurd (in_none q k)) pair (in_last end.chain pair last);
        least = λ less below own. none_refuted s profile apart less own AnyStep lines end h (λ q k. below_within less pair q below (chain_falls s AnyStep no_lines lines end h (λ p q g k. absurd (in_none q k)) pair q last k)) r;
      }

  -- an accepted proof shows what it claims
  pub accepted_shown : (adds deletes : Graph) (proof : Proof) → IsAccepted s adds deletes proof → IsShown s adds deletes proof
  accepted_shown adds deletes proof a = record { claim = at proof.claim a.shows; pairs = pairs_explain s AnyStep no_lines proof.lines a.end a.leads }
    where
      at : (c : Claim) → Shows s adds deletes c a.end → IsTrueClaim s adds deletes c
      at claim.Pair h =
          let m = minimal proof.lines a.end h.2.pair a.leads h.2.last h.3 in
          subst (λ g. Minimal (Conforms s.shapes) s.present s.offers g deletes) h.2.added
          (subst (λ g. Minimal (Conforms s.shapes) s.present s.offers (additions s h.2.pair) g) h.2.deleted
          (((changes_pairs s (Conforms s.shapes)).minimal h.2.pair m.explains.within).0 m))
      at claim.NoPair h =
          (changes_pairs s (Conforms s.shapes)).none.0
          (λ less own. none_refuted s profile apart less own AnyStep proof.lines a.end a.leads (λ q k. absurd (in_none q (subst (λ c. Contains c q) h.0 k))) h.1)
      at claim.Spent h = tt
