-- Whether moves fit, and whether they are a list as a file has them.
use Rattle.std.proofs.Common.{◌≡◌, inl, inr, refl, ap, subst, ℕ, ◌<◌, List, [], ◌∷◌, ◌++◌}
use Rattle.std.specs.Prelude.{All, IfSome, IsTrue, Option, None, Some, option_map, slice_get}
use Rattle.std.proofs.lemmas.Bool.{cases_eq}
use Rattle.std.proofs.lemmas.List.Elements.{All-cons, All-head, All-nil, All-tail}
use Rattle.fk_model.specs.declared.move_.Move.{Move}
use Rattle.fk_model.specs.declared.move_.Move.TheVariants.{Add, Put, Drop, DropAll, Totals}
use Rattle.fk_model.specs.declared.place.Place.{Place}
use Rattle.fk_model.specs.declared.place.Place.TheVariants.{Queued, Scheduled, Retry, Dead, Working}
use Rattle.fk_model.specs.declared.row.Row.{Row}
use Rattle.fk_model.specs.Between.{IsAboveAll}
use Rattle.fk_model.specs.Changes.{after_move, ComesLast, MayGo, IsNextNumber, IsAllowed, FitInTurn, IsTotals, EndsWithTotals}
use Rattle.fk_model.specs.Limits.{greatest_next}
use Rattle.fk_model.specs.Orders.{is_queued, number_in, queue, rank_of, ticket_in}
use Rattle.fk_model.specs.Rows.{row_at, row_of, ticket_of}
use Rattle.fk_model.specs.Spellings.{HasSpelling}
use Rattle.fk_model.specs.State.{KeptState}
use Rattle.fk_lives.proofs.Choices.{IsKnown, known_le, known_lt, known_true, known_not, known_both, known_as, known_if, known_and, known_all}

-- ---- one move

known_none : {X : Type 0} (found : Option X) → IsKnown (found ≡ None)
known_none None = inl refl
known_none (Some x) = inr (λ same. absurd cc)

known_some : (found : Option ℕ) (n : ℕ) → IsKnown (found ≡ Some n)
known_some None n = inr (λ same. absurd cc)
known_some (Some m) n = elim (cases_eq m n) [
  | inl same ↦ inl (ap (λ (k : ℕ). Some k) same)
  | inr other ↦ inr (λ same. other cc)
]

known_last : (kept : KeptState) (name : List ℕ) (place : Place) → IsKnown (ComesLast kept name place)
known_last kept name (Queued rank) =
    known_all (λ pair. number_in pair < rank) (λ pair. known_lt (number_in pair) rank) (queue kept.rows name)
known_last kept name (Scheduled at) = inl tt
known_last kept name (Retry at) = inl tt
known_last kept name (Dead until) = inl tt
known_last kept name (Working wid since until) = inl tt

known_go : (kept : KeptState) (ticket : ℕ) (row : Row) (place : Place) → IsKnown (MayGo kept ticket row place)
known_go kept ticket row (Working wid since until) =
    known_some (option_map ticket_in (slice_get (queue kept.rows row.job.queue) 0)) ticket
known_go kept ticket row place =
    known_both (known_not (known_true (is_queued row.place))) (known_last kept row.job.queue place)

known_above : (next : ℕ) (rows : List (ℕ × Row)) → IsKnown (IsAboveAll next rows)
known_above next rows =
    known_as (λ both. record { tickets = both.0; ranks = both.1 }) (λ above. (above.tickets, above.ranks))
    (known_both (known_all (λ filed. ticket_of filed < next) (λ filed. known_lt (ticket_of filed) next) rows)
    (known_all (λ filed. IfSome (rank_of (row_of filed).place) (λ rank. rank < next))
    (λ filed. known_if (λ rank. rank < next) (λ rank. known_lt rank next) (rank_of (row_of filed).place)) rows))

known_number : (kept : KeptState) (next : ℕ) → IsKnown (IsNextNumber kept next)
known_number kept next =
    known_as (λ all. record { within = all.0; risen = all.1.0; above = all.1.1 })
    (λ is. (is.within, (is.risen, is.above)))
    (known_both (known_le next greatest_next) (known_both (known_le kept.next next) (known_above next kept.rows)))

pub known_allowed : (kept : KeptState) (move : Move) → IsKnown (IsAllowed kept move)
known_allowed kept (Add ticket row) =
    known_both (known_none (row_at kept.rows ticket)) (known_last kept row.job.queue row.place)
known_allowed kept (Put ticket enqueued failure place) =
    known_and (λ row. MayGo kept ticket row place) (λ row. known_go kept ticket row place) (row_at kept.rows ticket)
known_allowed kept (Drop ticket) =
    known_and (λ row. ¬ IsTrue (is_queued row.place)) (λ row. known_not (known_true (is_queued row.place)))
    (row_at kept.rows ticket)
known_allowed kept DropAll = inl tt
known_allowed kept (Totals next processed failures) = known_number kept next

-- ---- one behind the other

pub known_fit : (kept : KeptState) (moves : List Move) → All HasSpelling moves → IsKnown (FitInTurn kept moves)
unfolding FitInTurn
known_fit kept [] each = inl tt
known_fit kept (move ∷ moves) each =
    known_as (λ both. (record { spelled = All-head HasSpelling move moves each; allowed = both.0 }, both.1))
    (λ fit. (fit.0.allowed, fit.1))
    (known_both (known_allowed kept move)
    (known_fit (after_move kept move) moves (All-tail HasSpelling move moves each)))

-- ---- lists that end with the numbers

known_totals : (move : Move) → IsKnown (IsTotals move)
known_totals (Add ticket row) = inr (λ none. none)
known_totals (Put ticket enqueued failure place) = inr (λ none. none)
known_totals (Drop ticket) = inr (λ none. none)
known_totals DropAll = inr (λ none. none)
known_totals (Totals next processed failures) = inl tt

ends_more : (move : Move) (moves : List Move) → ¬ IsTotals move → EndsWithTotals moves → EndsWithTotals (move ∷ moves)
ends_more move moves plain ends = record {
  others = move ∷ ends.others;
  last = ends.last;
  whole = ap (λ (ms : List Move). move ∷ ms) ends.whole;
  totals = ends.totals;
  none = All-cons (λ m. ¬ IsTotals m) move ends.others plain ends.none;
}

ends_none : (others : List Move) (last : Move) → [] ≡ others ++ last ∷ [] → ⊥
ends_none [] last is = absurd cc
ends_none (one ∷ others) last is = absurd cc

ends_one : (move last : Move) (others : List Move) → IsTotals last → move ∷ [] ≡ others ++ last ∷ [] → IsTotals move
ends_one move last [] totals is = let same : last ≡ move = cc in subst IsTotals same totals
ends_one move last (one ∷ others) totals is =
    let rest : [] ≡ others ++ last ∷ [] = cc in
    absurd (ends_none others last rest)

ends_less : (move next last : Move) (moves others : List Move) → IsTotals last → All (λ m. ¬ IsTotals m) others
    → move ∷ next ∷ moves ≡ others ++ last ∷ [] → (¬ IsTotals move) × EndsWithTotals (next ∷ moves)
ends_less move next last moves [] totals none is = absurd cc
ends_less move next last moves (one ∷ others) totals none is =
    let first : one ≡ move = cc in
    let rest : next ∷ moves ≡ others ++ last ∷ [] = cc in (
      subst (λ (m : Move). ¬ IsTotals m) first (All-head (λ m. ¬ IsTotals m) one others none),
      record {
        others = others;
        last = last;
        whole = rest;
        totals = totals;
        none = All-tail (λ m. ¬ IsTotals m) one others none;
      },
    )

pub known_ends : (moves : List Move) → IsKnown (EndsWithTotals moves)
known_ends [] = inr (λ ends. ends_none ends.others ends.last ends.whole)
known_ends (move ∷ []) =
    known_as (λ totals. record {
      others = [];
      last = move;
      whole = refl;
      totals = totals;
      none = All-nil (λ m. ¬ IsTotals m);
    }) (λ ends. ends_one move ends.last ends.others ends.totals ends.whole) (known_totals move)
known_ends (move ∷ next ∷ moves) =
    known_as (λ both. ends_more move (next ∷ moves) both.0 both.1)
    (λ ends. ends_less move next ends.last moves ends.others ends.totals ends.none ends.whole)
    (known_both (known_not (known_totals move)) (known_ends (next ∷ moves)))
