-- What a FLUSH changes: its moves fit, and they lead to a state without a row. Where there was nothing to flush, a
-- turn leaves the kept state as it is.
use Rattle.std.proofs.Common.{◌≡◌, ◌∙◌, sym, ap, refl, subst, ℕ, ◌≤◌, List, [], ◌∷◌, Bool, true, false, not, arith}
use Rattle.std.specs.Prelude.{if◌then◌else◌, ◌==◌, ◌&&◌}
use Rattle.std.proofs.lemmas.Bool.Decides.{nat_tests}
use Rattle.std.proofs.lemmas.List.Elements.{All-nil, All-cons}
use Rattle.fk_model.specs.declared.row.Row.{Row}
use Rattle.fk_model.specs.declared.move_.Move.TheVariants.{DropAll}
use Rattle.fk_model.specs.Limits.{greatest_next}
use Rattle.fk_model.specs.State.{KeptState}
use Rattle.fk_model.specs.Orders.{in_order}
use Rattle.fk_model.specs.Between.{IsWellKept}
use Rattle.fk_model.specs.Changes.{after_move, FitInTurn, IsTotals}
use Rattle.fk_model.specs.Bringing.{brought_up}
use Rattle.fk_model.specs.Mutated.{flushed, are_none, has_something, moves_of_flush}
use Rattle.fk_model.proofs.Leading.{AreRowsBehind, HasNumbers}

-- ---- nothing to flush

no_count : (processed failures : ℕ) → not ((processed == 0) && (failures == 0)) ≡ false
    → (processed ≡ 0) × (failures ≡ 0)
no_count processed failures e = grind (arith, nat_tests, e)

flushed_parts : (rows : List (ℕ × Row)) (next processed failures : ℕ)
    → not (are_none rows && ((processed == 0) && (failures == 0))) ≡ false
    → flushed (record { rows = rows; next = next; processed = processed; failures = failures })
    ≡ record { rows = rows; next = next; processed = processed; failures = failures }
flushed_parts [] next processed failures e =
    let counts = no_count processed failures e in rw (counts.0, counts.1) refl
flushed_parts (filed ∷ rows) next processed failures e = absurd (cc)

-- a FLUSH leaves the kept state as it is, where there is nothing to flush
pub nothing_flushed : (kept : KeptState) → has_something kept ≡ false → flushed kept ≡ kept
nothing_flushed kept e = flushed_parts kept.rows kept.next kept.processed kept.failures e

flushed_up : (kept : KeptState) (moment word : ℕ) → brought_up (flushed kept) moment word ≡ flushed kept
unfolding in_order
flushed_up kept moment word = refl

-- and so does bringing it up to date
pub nothing_up : (kept : KeptState) (moment word : ℕ) → has_something kept ≡ false
    → brought_up kept moment word ≡ kept
nothing_up kept moment word e =
    subst (λ (k : KeptState). brought_up k moment word ≡ k) (nothing_flushed kept e) (flushed_up kept moment word)

-- ---- its moves, which look at the state before the turn

-- where there was nothing to flush, the turn hasn't changed anything before
abbrev pub IsFromNothing : KeptState → KeptState → Type 0
IsFromNothing before kept = has_something before ≡ false → kept ≡ before

flush_rows : (before kept : KeptState) (some : Bool) → has_something before ≡ some → IsFromNothing before kept
    → AreRowsBehind before kept (if some then DropAll ∷ [] else []) (flushed kept)
unfolding after_move
flush_rows before kept true e same = record {
  rows = refl;
  none = λ none. absurd (cc);
  stays = λ from to.
      let flat : has_something before ≡ false = ap has_something (sym (to ∙ from)) in absurd (cc);
  plain = All-cons (λ move. ¬ IsTotals move) DropAll [] (λ total. total) (All-nil (λ move. ¬ IsTotals move));
}
flush_rows before kept false e same =
    let stays : flushed kept ≡ kept = rw (same e) (nothing_flushed before e) in record {
      rows = ap (λ (k : KeptState). k.rows) stays;
      none = λ none. stays;
      stays = λ from to. refl;
      plain = All-nil (λ move. ¬ IsTotals move);
    }

pub flush_are_rows : (before kept : KeptState) → IsFromNothing before kept
    → AreRowsBehind before kept (moves_of_flush before) (flushed kept)
flush_are_rows before kept same = flush_rows before kept (has_something before) refl same

flush_numbers : (kept : KeptState) (some : Bool) → IsWellKept kept → kept.next ≤ greatest_next
    → HasNumbers kept (if some then DropAll ∷ [] else []) (flushed kept)
unfolding FitInTurn after_move
flush_numbers kept true well room = record {
  fit = (record { spelled = tt; allowed = tt }, tt);
  number = record {
    within = room;
    risen = omega arith;
    above = record { tickets = λ k d within. absurd (omega (arith, within)); ranks = λ k d within. absurd (omega (arith, within)) };
  };
  processed = omega arith;
  failures = omega arith;
}
flush_numbers kept false well room = record {
  fit = tt;
  number = record { within = room; risen = omega arith; above = well.above };
  processed = omega arith;
  failures = omega arith;
}

pub flush_has_numbers : (before kept : KeptState) → IsWellKept kept → kept.next ≤ greatest_next
    → HasNumbers kept (moves_of_flush before) (flushed kept)
flush_has_numbers before kept well room = flush_numbers kept (has_something before) well room
