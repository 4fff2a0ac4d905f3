-- What parts match of the ends of a text.
use Rattle.std.proofs.Common.{◌≡◌, ◌↔◌, ◌⊎◌, ◌<◌, length, inl, inr, ℕ, List, [], ◌∷◌, ◌++◌, refl, sym, ap, ◌∙◌, subst, arith}
use Rattle.std.proofs.lemmas.List.{append_assoc}
use Rattle.fk_model.specs.Glob.{Part, run}
use Rattle.fk_filter.specs.declared.stretch.Stop.{Stop}
use Rattle.fk_filter.specs.declared.stretch.Stop.TheVariants.{Elsewhere, Nowhere}
use Rattle.fk_filter.specs.Match.{Match, MatchesEnd}
use Rattle.fk_filter.specs.Stretches.{LeadsTo, Stops}

-- the whole text is one of its ends
pub at_once : (parts : List Part) (text : List ℕ) → Match parts text → MatchesEnd parts text
unfolding Match
at_once parts text matched = ([], text, refl, matched)

-- an end of what stands behind a byte is an end of all
pub farther : (parts : List Part) (byte : ℕ) (rest : List ℕ)
    → MatchesEnd parts rest → MatchesEnd parts (byte ∷ rest)
unfolding Match
farther parts byte rest (front, end, is, matched) =
    (byte ∷ front, end, ap (λ bytes. byte ∷ bytes) is, matched)

-- an end is the whole text, or an end of what stands behind its first byte
pub whole_or_behind : (parts : List Part) (byte : ℕ) (rest : List ℕ)
    → MatchesEnd parts (byte ∷ rest) → Match parts (byte ∷ rest) ⊎ MatchesEnd parts rest
unfolding Match
whole_or_behind parts byte rest ([], end, is, matched) = inl (subst (Match parts) (sym is) matched)
whole_or_behind parts byte rest (first ∷ front, end, is, matched) =
    inr (front, end, grind (arith, is), matched)

-- the empty text has one end
pub only_end : (parts : List Part) → MatchesEnd parts [] → Match parts []
unfolding Match
only_end parts ([], end, is, matched) = subst (Match parts) (sym is) matched
only_end parts (first ∷ front, end, is, matched) = absurd (grind (arith, is))

-- two runs are one
pub two_runs : (parts : List Part) (text : List ℕ)
    → MatchesEnd (run ∷ parts) text → MatchesEnd parts text
unfolding Match
two_runs parts text (front, end, is, (other, rest, ends, matched)) =
    (front ++ other, rest, is ∙ ap (λ bytes. front ++ bytes) ends ∙ sym (append_assoc front other rest), matched)

-- the empty text has none where the whole doesn't match
pub no_end : (parts : List Part) (text : List ℕ) → length text < 1 → ¬ Match parts text
    → ¬ MatchesEnd parts text
no_end parts [] none no_match matched = no_match (only_end parts matched)
no_end parts (byte ∷ rest) none no_match matched = absurd (omega (arith, none))

-- where the whole doesn't match, an end is one of what stands behind the first byte
pub only_behind : (parts : List Part) (text : List ℕ) (byte : ℕ) (rest : List ℕ) → text ≡ byte ∷ rest
    → ¬ Match parts text → MatchesEnd parts text ↔ MatchesEnd parts rest
only_behind parts text byte rest is none = rw is (
  λ matched. elim (whole_or_behind parts byte rest matched) [
    | inl whole ↦ absurd (none (subst (Match parts) (sym is) whole))
    | inr behind ↦ behind
  ],
  farther parts byte rest,
)

-- a stretch leads to a run: the ends that match it and what comes are those that match behind the run
pub to_run : (parts : List Part) (text : List ℕ) (others : List Part) (rest : List ℕ)
    → LeadsTo parts text (run ∷ others) rest → MatchesEnd parts text ↔ MatchesEnd others rest
to_run parts text others rest leads =
    (λ matched. two_runs others rest (leads.later matched), λ matched. at_once parts text (leads.here.1 matched))

-- one way behind another
pub leads_on : (parts : List Part) (text : List ℕ) (others : List Part) (rest : List ℕ) (last : List Part)
    (left : List ℕ) → LeadsTo parts text others rest → LeadsTo others rest last left
    → LeadsTo parts text last left
leads_on parts text others rest last left one other = record {
  here = (λ matched. other.here.0 (one.here.0 matched), λ matched. one.here.1 (other.here.1 matched));
  later = λ matched. other.later (one.later matched);
}

-- a stretch that leads nowhere from here
pub ends_nowhere : (parts : List Part) (text : List ℕ) (stop : Stop) → (stop ≡ Elsewhere) ⊎ (stop ≡ Nowhere)
    → Stops parts text stop → ¬ Match parts text
ends_nowhere parts text stop (inl is) stops = subst (Stops parts text) is stops
ends_nowhere parts text stop (inr is) stops =
    λ matched. subst (Stops parts text) is stops (at_once parts text matched)
