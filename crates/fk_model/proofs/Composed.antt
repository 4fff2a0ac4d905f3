-- Moves of two parts of a turn, one part behind the other: whether they fit, and which rows they leave, depends
-- on the rows alone.
use Rattle.std.proofs.Common.{◌≡◌, ◌∙◌, sym, ap, refl, subst, ℕ, List, [], ◌∷◌, ◌++◌, arith}
use Rattle.std.specs.Prelude.{All, Option, None, Some, IsSomeAnd}
use Rattle.std.proofs.lemmas.List.Elements.{All-head, All-tail, All-append}
use Rattle.fk_model.specs.declared.row.Row.{Row}
use Rattle.fk_model.specs.declared.place.Place.{Place}
use Rattle.fk_model.specs.declared.place.Place.TheVariants.{Queued, Scheduled, Retry, Dead, Working}
use Rattle.fk_model.specs.declared.move_.Move.{Move}
use Rattle.fk_model.specs.declared.move_.Move.TheVariants.{Add, Put, Drop, DropAll, Totals}
use Rattle.fk_model.specs.Rows.{row_at, with_row, with_changed, without_row}
use Rattle.fk_model.specs.State.{KeptState}
use Rattle.fk_model.specs.Changes.{put_row, after_move, after_moves, ComesLast, MayGo, IsAllowed, FitInTurn, IsTotals}
use Rattle.fk_model.proofs.Leading.{AreRowsOf, AreRowsBehind, HasNumbers, after_both, fit_both}

-- ---- one move

-- a kept state with these rows
abbrev with_rows : KeptState → List (ℕ × Row) → KeptState
with_rows kept rows = record kept { rows = rows }

rows_alone : (kept other : KeptState) (move : Move) → kept.rows ≡ other.rows → ¬ IsTotals move
    → (after_move kept move).rows ≡ (after_move other move).rows
unfolding after_move
rows_alone kept other (Add ticket row) same plain = ap (λ rows. with_row rows ticket row) same
rows_alone kept other (Put ticket enqueued failure place) same plain =
    ap (λ rows. with_changed rows ticket (put_row enqueued failure place)) same
rows_alone kept other (Drop ticket) same plain = ap (λ rows. without_row rows ticket) same
rows_alone kept other DropAll same plain = refl
rows_alone kept other (Totals next processed failures) same plain = absurd (plain tt)

next_alone : (kept : KeptState) (move : Move) → ¬ IsTotals move → (after_move kept move).next ≡ kept.next
unfolding after_move
next_alone kept (Add ticket row) plain = refl
next_alone kept (Put ticket enqueued failure place) plain = refl
next_alone kept (Drop ticket) plain = refl
next_alone kept DropAll plain = refl
next_alone kept (Totals next processed failures) plain = absurd (plain tt)

last_alone : (kept other : KeptState) (name : List ℕ) (place : Place) → kept.rows ≡ other.rows
    → ComesLast kept name place → ComesLast other name place
last_alone kept other name (Queued rank) same last =
    subst (λ rows. ComesLast (with_rows other rows) name (Queued rank)) same last
last_alone kept other name (Scheduled at) same last = tt
last_alone kept other name (Retry at) same last = tt
last_alone kept other name (Dead until) same last = tt
last_alone kept other name (Working wid since until) same last = tt

go_alone : (kept other : KeptState) (ticket : ℕ) (row : Row) (place : Place) → kept.rows ≡ other.rows
    → MayGo kept ticket row place → MayGo other ticket row place
go_alone kept other ticket row (Queued rank) same goes =
    (goes.0, last_alone kept other row.job.queue (Queued rank) same goes.1)
go_alone kept other ticket row (Scheduled at) same goes = (goes.0, tt)
go_alone kept other ticket row (Retry at) same goes = (goes.0, tt)
go_alone kept other ticket row (Dead until) same goes = (goes.0, tt)
go_alone kept other ticket row (Working wid since until) same goes =
    subst (λ rows. MayGo (with_rows other rows) ticket row (Working wid since until)) same goes

some_follows : (found : Option Row) (P Q : Row → Type 0) → ((row : Row) → P row → Q row) → IsSomeAnd found P
    → IsSomeAnd found Q
some_follows None P Q follows is = is
some_follows (Some row) P Q follows is = follows row is

allowed_alone : (kept other : KeptState) (move : Move) → kept.rows ≡ other.rows → ¬ IsTotals move
    → IsAllowed kept move → IsAllowed other move
allowed_alone kept other (Add ticket row) same plain allowed = (
  subst (λ rows. row_at rows ticket ≡ None) same allowed.0,
  last_alone kept other row.job.queue row.place same allowed.1,
)
allowed_alone kept other (Put ticket enqueued failure place) same plain allowed =
    subst (λ rows. IsSomeAnd (row_at rows ticket) (λ row. MayGo other ticket row place)) same
    (some_follows (row_at kept.rows ticket) (λ row. MayGo kept ticket row place)
    (λ row. MayGo other ticket row place) (λ row. go_alone kept other ticket row place same) allowed)
allowed_alone kept other (Drop ticket) same plain allowed =
    subst (λ rows. IsAllowed (with_rows other rows) (Drop ticket)) same allowed
allowed_alone kept other DropAll same plain allowed = tt
allowed_alone kept other (Totals next processed failures) same plain allowed = absurd (plain tt)

-- ---- moves without the numbers

pub all_rows_alone : (kept other : KeptState) (moves : List Move) → kept.rows ≡ other.rows
    → All (λ move. ¬ IsTotals move) moves → (after_moves kept moves).rows ≡ (after_moves other moves).rows
all_rows_alone kept other [] same plain = same
all_rows_alone kept other (move ∷ moves) same plain =
    all_rows_alone (after_move kept move) (after_move other move) moves
    (rows_alone kept other move same (All-head (λ one. ¬ IsTotals one) move moves plain))
    (All-tail (λ one. ¬ IsTotals one) move moves plain)

pub all_next_alone : (kept : KeptState) (moves : List Move) → All (λ move. ¬ IsTotals move) moves
    → (after_moves kept moves).next ≡ kept.next
all_next_alone kept [] plain = refl
all_next_alone kept (move ∷ moves) plain =
    all_next_alone (after_move kept move) moves (All-tail (λ one. ¬ IsTotals one) move moves plain)
    ∙ next_alone kept move (All-head (λ one. ¬ IsTotals one) move moves plain)

-- whether they fit depends on the rows alone
pub all_fit_alone : (kept other : KeptState) (moves : List Move) → kept.rows ≡ other.rows
    → All (λ move. ¬ IsTotals move) moves → FitInTurn kept moves → FitInTurn other moves
unfolding FitInTurn
all_fit_alone kept other [] same plain fit = tt
all_fit_alone kept other (move ∷ moves) same plain fit =
    let first = All-head (λ one. ¬ IsTotals one) move moves plain in (
      record { spelled = fit.0.spelled; allowed = allowed_alone kept other move same first fit.0.allowed },
      all_fit_alone (after_move kept move) (after_move other move) moves
          (rows_alone kept other move same first) (All-tail (λ one. ¬ IsTotals one) move moves plain) fit.1,
    )

-- ---- two parts

both_empty : (front back : List Move) → front ++ back ≡ [] → (front ≡ []) × (back ≡ [])
both_empty [] back none = (refl, none)
both_empty (move ∷ front) back none = absurd (cc)

pub rows_both : (from mid to : KeptState) (front back : List Move) → AreRowsOf from front mid
    → AreRowsBehind from mid back to → (to ≡ from → front ++ back ≡ []) → AreRowsOf from (front ++ back) to
rows_both from mid to front back first second stays = record {
  rows = second.rows
      ∙ all_rows_alone mid (after_moves from front) back first.rows second.plain
      ∙ sym (ap (λ (k : KeptState). k.rows) (after_both from front back));
  none = λ none. let parts = both_empty front back none in second.none parts.1 ∙ first.none parts.0;
  stays = stays;
  plain = All-append (λ move. ¬ IsTotals move) front back first.plain second.plain;
}

pub numbers_both : (from mid to : KeptState) (front back : List Move) → AreRowsOf from front mid
    → AreRowsBehind from mid back to → HasNumbers from front mid → HasNumbers mid back to
    → HasNumbers from (front ++ back) to
numbers_both from mid to front back first second one other =
    let same = all_rows_alone mid (after_moves from front) back first.rows second.plain in
    let front_next = all_next_alone from front first.plain in
    let back_next = all_next_alone mid back second.plain in
    let whole_next = all_next_alone (after_moves from front) back second.plain in
    let risen = one.number.risen in
    let risen_on = other.number.risen in
    record {
      fit = fit_both from front back one.fit
          (all_fit_alone mid (after_moves from front) back first.rows second.plain other.fit);
      number = rw (after_both from front back) (record {
        within = other.number.within;
        risen = omega (arith, front_next, back_next, whole_next, risen, risen_on);
        above = rw (← same) other.number.above;
      });
      processed = other.processed;
      failures = other.failures;
    }
