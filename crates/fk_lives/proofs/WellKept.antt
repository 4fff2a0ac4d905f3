-- What files stand for is well kept, and its next number is within the greatest.
use Rattle.std.proofs.Common.{◌≡◌, refl, sym, ap, subst, ◌∙◌, arith, ℕ, ◌≤◌, List, [], ◌∷◌}
use Rattle.std.specs.Prelude.{All, Option, None, Some}
use Rattle.std.proofs.lemmas.List.Elements.{All-head, All-tail}
use Rattle.fk_model.specs.declared.move_.Move.{Move}
use Rattle.fk_model.specs.declared.move_.Move.TheVariants.{Add, Put, Drop, DropAll, Totals}
use Rattle.fk_model.specs.Between.{IsWellKept}
use Rattle.fk_model.specs.Changes.{after_move, after_moves, FitInTurn, IsTotals, EndsWithTotals}
use Rattle.fk_model.specs.Limits.{greatest_next}
use Rattle.fk_model.specs.Orders.{in_order}
use Rattle.fk_model.specs.State.{KeptState, untold}
use Rattle.fk_model.proofs.BetweenTurns.{empty_well}
use Rattle.fk_model.proofs.Leading.{after_both, fit_parts, leads_well}
use Rattle.fk_lives.specs.Files.{Contents}
use Rattle.fk_lives.specs.Standing.{Tell, LeadsTo, Stands}
use Rattle.fk_lives.proofs.Good.{joined}

-- a kept state that holds between turns
pub record IsKeptWithin (kept : KeptState) : Type 0 where
  pub well : IsWellKept kept
  pub within : kept.next ≤ greatest_next

pub untold_within : IsKeptWithin untold
unfolding in_order
untold_within = record {
  well = record {
    by_ticket = λ k within. absurd (omega (arith, within));
    above = record {
      tickets = λ k d within. absurd (omega (arith, within));
      ranks = λ k d within. absurd (omega (arith, within));
    };
    distinct = λ name k within. absurd (omega (arith, within));
    spelled = λ k d within. absurd (omega (arith, within));
    processed = omega arith;
    failures = omega arith;
  };
  within = omega arith;
}

-- ---- behind lists of moves

last_within : (kept : KeptState) (last : Move) → IsTotals last → FitInTurn kept (last ∷ [])
    → (after_move kept last).next ≤ greatest_next
unfolding FitInTurn after_move
last_within kept (Add ticket row) total fit = absurd total
last_within kept (Put ticket enqueued failure place) total fit = absurd total
last_within kept (Drop ticket) total fit = absurd total
last_within kept DropAll total fit = absurd total
last_within kept (Totals next processed failures) total fit = fit.0.allowed.within

-- moves that end with the numbers
pub list_keeps : (kept : KeptState) (moves : List Move) → IsKeptWithin kept → EndsWithTotals moves
    → FitInTurn kept moves → IsKeptWithin (after_moves kept moves)
list_keeps kept moves is ends fit =
    let parts = fit_parts kept ends.others (ends.last ∷ []) (subst (FitInTurn kept) ends.whole fit) in
    let came : after_moves kept moves ≡ after_move (after_moves kept ends.others) ends.last =
    ap (after_moves kept) ends.whole ∙ after_both kept ends.others (ends.last ∷ []) in
    record {
      well = leads_well kept (after_moves kept moves) moves is.well (record { fit = fit; come = refl }) ends;
      within = rw came (last_within (after_moves kept ends.others) ends.last ends.totals parts.1);
    }

-- and such lists, one behind the other
pub lists_keep : (kept : KeptState) (lists : List (List Move)) → IsKeptWithin kept → All EndsWithTotals lists
    → FitInTurn kept (joined lists) → IsKeptWithin (after_moves kept (joined lists))
lists_keep kept [] is ends fit = is
lists_keep kept (moves ∷ lists) is ends fit =
    let parts = fit_parts kept moves (joined lists) fit in
    subst IsKeptWithin (sym (after_both kept moves (joined lists)))
    (lists_keep (after_moves kept moves) lists
    (list_keeps kept moves is (All-head EndsWithTotals moves lists ends) parts.0)
    (All-tail EndsWithTotals moves lists ends) parts.1)

-- ---- what files stand for

told_keeps : (a b : List ℕ) (kept : KeptState) (told : Option Contents) → Tell a b told → LeadsTo told kept
    → IsKeptWithin kept
told_keeps a b kept None blank is = subst IsKeptWithin (sym is) (record { well = empty_well; within = omega arith })
told_keeps a b kept (Some contents) file lead =
    subst IsKeptWithin (sym lead.come)
    (lists_keep untold (contents.snapshot ∷ contents.pieces) untold_within file.0.are.lists lead.fit)

pub stands_within : (a b : List ℕ) (kept : KeptState) → Stands a b kept → IsKeptWithin kept
stands_within a b kept stands = told_keeps a b kept stands.told stands.tells stands.leads
