-- Moves that end with the numbers: what they lead to, and that it is well kept.
use Rattle.std.proofs.Common.{◌≡◌, ◌≢◌, ◌↔◌, ◌∙◌, ap, refl, ℕ, List, [], ◌∷◌, ◌++◌, arith}
use Rattle.std.specs.Prelude.{All}
use Rattle.fk_model.specs.declared.row.Row.{Row}
use Rattle.fk_model.specs.declared.move_.Move.{Move}
use Rattle.fk_model.specs.declared.move_.Move.TheVariants.{Add, Put, Drop, DropAll, Totals}
use Rattle.fk_model.specs.State.{KeptState}
use Rattle.fk_model.specs.Spellings.{IsWord, HasSpelling}
use Rattle.fk_model.specs.Between.{IsAboveAll, IsWellKept}
use Rattle.fk_model.specs.Changes.{after_move, after_moves, IsNextNumber, FitInTurn, Lead, IsTotals, EndsWithTotals}
use Rattle.fk_model.specs.Turns.{totals, closed}
use Rattle.fk_model.proofs.Fitting.{IsSound}
use Rattle.fk_model.proofs.SoundMoves.{after_each}

-- ---- moves one behind the other

-- the kept state after moves and then others
pub after_both : (kept : KeptState) (front back : List Move)
    → after_moves kept (front ++ back) ≡ after_moves (after_moves kept front) back
after_both kept [] back = refl
after_both kept (move ∷ front) back = after_both (after_move kept move) front back

pub fit_both : (kept : KeptState) (front back : List Move) → FitInTurn kept front
    → FitInTurn (after_moves kept front) back → FitInTurn kept (front ++ back)
unfolding FitInTurn
fit_both kept [] back first second = second
fit_both kept (move ∷ front) back first second =
    (first.0, fit_both (after_move kept move) front back first.1 second)

pub fit_parts : (kept : KeptState) (front back : List Move) → FitInTurn kept (front ++ back)
    → FitInTurn kept front × FitInTurn (after_moves kept front) back
unfolding FitInTurn
fit_parts kept [] back both = (tt, both)
fit_parts kept (move ∷ front) back both =
    let rest = fit_parts (after_move kept move) front back both.1 in
    ((both.0, rest.0), rest.1)

-- ---- what moves lead to is well kept

sound_of : (kept : KeptState) → IsWellKept kept → IsSound kept
sound_of kept well = record {
  by_ticket = well.by_ticket;
  distinct = well.distinct;
  spelled = well.spelled;
  processed = well.processed;
  failures = well.failures;
}

above_of : (kept : KeptState) (last : Move) → IsTotals last → FitInTurn kept (last ∷ [])
    → IsAboveAll (after_move kept last).next (after_move kept last).rows
unfolding FitInTurn after_move
above_of kept (Add ticket row) total fit = absurd total
above_of kept (Put ticket enqueued failure place) total fit = absurd total
above_of kept (Drop ticket) total fit = absurd total
above_of kept DropAll total fit = absurd total
above_of kept (Totals next processed failures) total fit = fit.0.allowed.above

well_kept : (kept : KeptState) → IsSound kept → IsAboveAll kept.next kept.rows → IsWellKept kept
well_kept kept sound above = record {
  by_ticket = sound.by_ticket;
  above = above;
  distinct = sound.distinct;
  spelled = sound.spelled;
  processed = sound.processed;
  failures = sound.failures;
}

-- moves that end with the numbers lead from one well kept state to another
pub leads_well : (from to : KeptState) (moves : List Move) → IsWellKept from → Lead from moves to
    → EndsWithTotals moves → IsWellKept to
leads_well from to moves well lead ends =
    let parts = fit_parts from ends.others (ends.last ∷ []) (rw ends.whole at lead.fit) in
    let before = after_each from ends.others (sound_of from well) parts.0 in
    let behind = after_each (after_moves from ends.others) (ends.last ∷ []) before parts.1 in
    let came : to ≡ after_move (after_moves from ends.others) ends.last =
    lead.come ∙ ap (after_moves from) ends.whole ∙ after_both from ends.others (ends.last ∷ []) in
    rw came
    (well_kept (after_move (after_moves from ends.others) ends.last) behind
    (above_of (after_moves from ends.others) ends.last ends.totals parts.1))

-- ---- closing

-- what is known of moves that change rows, and of the kept state that they are to lead to
pub record AreRowsOf (from : KeptState) (moves : List Move) (to : KeptState) : Type 0 where
  pub rows : to.rows ≡ (after_moves from moves).rows
  pub none : moves ≡ [] → to ≡ from
  pub stays : to ≡ from → moves ≡ []
  pub plain : All (λ move. ¬ IsTotals move) moves

-- What is known of those of the second of two parts, which begins where the first has led: where neither changes
-- the kept state, there is none. A second part may have moves and change nothing, if the first has changed it.
pub record AreRowsBehind (before from : KeptState) (moves : List Move) (to : KeptState) : Type 0 where
  pub rows : to.rows ≡ (after_moves from moves).rows
  pub none : moves ≡ [] → to ≡ from
  pub stays : from ≡ before → to ≡ from → moves ≡ []
  pub plain : All (λ move. ¬ IsTotals move) moves

-- moves that look at nothing before them
pub behind : (before : KeptState) {from : KeptState} {moves : List Move} {to : KeptState}
    → AreRowsOf from moves to → AreRowsBehind before from moves to
behind before are = record {
  rows = are.rows;
  none = are.none;
  stays = λ same. are.stays;
  plain = are.plain;
}

-- and what its numbers are to meet
pub record HasNumbers (from : KeptState) (moves : List Move) (to : KeptState) : Type 0 where
  pub fit : FitInTurn from moves
  pub number : IsNextNumber (after_moves from moves) to.next
  pub processed : IsWord to.processed
  pub failures : IsWord to.failures

told : (from : KeptState) (moves : List Move) (to : KeptState) → to.rows ≡ (after_moves from moves).rows
    → to ≡ after_moves from (moves ++ totals to ∷ [])
unfolding after_move
told from moves to same =
    rw after_both (ap (λ (xs : List (ℕ × Row)). record to { rows = xs }) same)

pub closed_come : (from : KeptState) (moves : List Move) (to : KeptState) → AreRowsOf from moves to
    → to ≡ after_moves from (closed moves to)
closed_come from [] to rows = rows.none refl
closed_come from (move ∷ moves) to rows = told from (move ∷ moves) to rows.rows

pub closed_ends : (from : KeptState) (moves : List Move) (to : KeptState) → AreRowsOf from moves to
    → closed moves to ≢ [] → EndsWithTotals (closed moves to)
closed_ends from [] to rows some = absurd (some refl)
closed_ends from (move ∷ moves) to rows some = record {
  others = move ∷ moves;
  last = totals to;
  whole = refl;
  totals = tt;
  none = rows.plain;
}

numbers_spelled : (from : KeptState) (moves : List Move) (to : KeptState) → HasNumbers from moves to
    → HasSpelling (totals to)
numbers_spelled from moves to numbers =
    (omega (arith, numbers.number.within), numbers.processed, numbers.failures)

pub closed_leads : (from : KeptState) (moves : List Move) (to : KeptState) → AreRowsOf from moves to
    → HasNumbers from moves to → Lead from (closed moves to) to
unfolding FitInTurn
closed_leads from [] to rows numbers = record { fit = tt; come = closed_come from [] to rows }
closed_leads from (move ∷ moves) to rows numbers = record {
  fit = fit_both from (move ∷ moves) (totals to ∷ []) numbers.fit
      (record { spelled = numbers_spelled from (move ∷ moves) to numbers; allowed = numbers.number }, tt);
  come = closed_come from (move ∷ moves) to rows;
}

-- there is no move exactly where the kept state stays
pub closed_stays : (from : KeptState) (moves : List Move) (to : KeptState) → AreRowsOf from moves to
    → (closed moves to ≡ []) ↔ (to ≡ from)
closed_stays from moves to rows = (
  (λ none. closed_come from moves to rows ∙ ap (after_moves from) none),
  (λ same. ap (λ xs. closed xs to) (rows.stays same)),
)

kept_or_led : (from : KeptState) (moves all : List Move) (to : KeptState) → AreRowsOf from moves to
    → HasNumbers from moves to → closed moves to ≡ all → IsWellKept from → IsWellKept to
kept_or_led from moves [] to rows numbers e well = rw ((closed_stays from moves to rows).0 e) well
kept_or_led from moves (move ∷ others) to rows numbers e well =
    leads_well from to (closed moves to) well (closed_leads from moves to rows numbers)
    (closed_ends from moves to rows (λ none. absurd (cc)))

-- what they lead to is well kept
pub closed_well : (from : KeptState) (moves : List Move) (to : KeptState) → AreRowsOf from moves to
    → HasNumbers from moves to → IsWellKept from → IsWellKept to
closed_well from moves to rows numbers well =
    kept_or_led from moves (closed moves to) to rows numbers refl well
