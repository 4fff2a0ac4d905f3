-- Where no row is due, bringing up changes nothing.
use Rattle.std.proofs.Common.{◌≡◌, ap, refl, ℕ, ◌<◌, [], true, false, not, arith}
use Rattle.std.specs.Prelude.{Bool, IsTrue, Option, None, Some, IfSome, nat_lt, filter_map, option_map}
use Rattle.std.proofs.lemmas.Bool.Decides.{nat_tests}
use Rattle.std.proofs.lemmas.List.Elements.{All-weaker}
use Rattle.fk_model.specs.declared.row.Row.{Row}
use Rattle.fk_model.specs.declared.place.Place.{Place}
use Rattle.fk_model.specs.declared.place.Place.TheVariants.{Queued, Scheduled, Retry, Dead, Working}
use Rattle.fk_model.specs.declared.mutation.Target.TheVariants as target
use Rattle.fk_model.specs.Rows.{ticket_of, row_of}
use Rattle.fk_model.specs.State.{KeptState}
use Rattle.fk_model.specs.Orders.{number_in, leased_until, moment_in, with_ticket}
use Rattle.fk_model.specs.Due.{leaves_at, IsUpToDate, has_come, up_to, waits_until, over, expired, due, rows_of}
use Rattle.fk_model.specs.Bringing.{brought_up, moves_up}
use Rattle.fk_model.proofs.Sieves.{filter_none, all_mapped}
use Rattle.fk_model.proofs.Insertion.{sorted_all}
use Rattle.fk_model.proofs.Numbered.{numbered}
use Rattle.fk_plan.specs.Upkeep.{pairs_due}

-- ---- a place's moments come later

-- what a moment comes from leaves its place then
abbrev Leaves : (Place → Option ℕ) → Type 0
Leaves number = (place : Place) (at : ℕ) → number place ≡ Some at → leaves_at place ≡ Some at

dead_leaves : Leaves (moment_in target.Dead)
dead_leaves (Queued rank) at e = absurd (cc)
dead_leaves (Scheduled when) at e = absurd (cc)
dead_leaves (Retry when) at e = absurd (cc)
dead_leaves (Dead until) at e = e
dead_leaves (Working wid since until) at e = absurd (cc)

wait_leaves : Leaves waits_until
wait_leaves (Queued rank) at e = absurd (cc)
wait_leaves (Scheduled when) at e = e
wait_leaves (Retry when) at e = e
wait_leaves (Dead until) at e = absurd (cc)
wait_leaves (Working wid since until) at e = absurd (cc)

-- a row's moment, if it has one, is later
later_by_step : (number : Place → Option ℕ) (moment ticket : ℕ) (place : Place) (given : Option ℕ)
    → Leaves number → number place ≡ given → IfSome (leaves_at place) (λ at. moment < at)
    → IfSome (option_map (λ n. (n, ticket)) given) (λ pair. moment < number_in pair)
later_by_step number moment ticket place None leaves e later = tt
later_by_step number moment ticket place (Some at) leaves e later = rw (leaves place at e) at later

abbrev placed : (Place → Option ℕ) → Row → Option ℕ
placed number row = number row.place

fails_later : (moment at : ℕ) → moment < at → not (nat_lt moment at) ≡ false
fails_later moment at later = grind (arith, nat_tests, later)

-- no pair of theirs has come
none_come : (number : Place → Option ℕ) (moment : ℕ) (kept : KeptState) → Leaves number → IsUpToDate moment kept
    → up_to moment (numbered (placed number) kept.rows) ≡ []
none_come number moment kept leaves on =
    filter_none (λ pair. not (nat_lt moment (number_in pair))) (numbered (placed number) kept.rows)
    (All-weaker (λ pair. moment < number_in pair) (λ pair. not (nat_lt moment (number_in pair)) ≡ false)
    (λ pair. fails_later moment (number_in pair)) (numbered (placed number) kept.rows)
    (sorted_all (λ pair. moment < number_in pair) (filter_map (with_ticket (placed number)) kept.rows)
    (all_mapped (λ pair. moment < number_in pair) (with_ticket (placed number)) kept.rows
    (All-weaker (λ filed. IfSome (leaves_at (row_of filed).place) (λ at. moment < at))
    (λ filed. IfSome (with_ticket (placed number) filed) (λ pair. moment < number_in pair))
    (λ filed. later_by_step number moment (ticket_of filed) (row_of filed).place (number (row_of filed).place)
    leaves refl) kept.rows on))))

not_come : (moment : ℕ) (place : Place) → IfSome (leaves_at place) (λ at. moment < at)
    → has_come moment (leased_until place) ≡ false
not_come moment (Queued rank) later = refl
not_come moment (Scheduled when) later = refl
not_come moment (Retry when) later = refl
not_come moment (Dead until) later = refl
not_come moment (Working wid since until) later = fails_later moment until later

-- ---- nothing is due

pub none_due : (moment : ℕ) (kept : KeptState) → IsUpToDate moment kept → pairs_due kept moment ≡ []
none_due moment kept on = none_come waits_until moment kept wait_leaves on

none_over : (moment : ℕ) (kept : KeptState) → IsUpToDate moment kept → over kept moment ≡ []
none_over moment kept on = ap (rows_of kept.rows) (none_come (moment_in target.Dead) moment kept dead_leaves on)

pub none_expired : (moment : ℕ) (kept : KeptState) → IsUpToDate moment kept → expired kept moment ≡ []
none_expired moment kept on =
    filter_none (λ filed. has_come moment (leased_until (row_of filed).place)) kept.rows
    (All-weaker (λ filed. IfSome (leaves_at (row_of filed).place) (λ at. moment < at))
    (λ filed. has_come moment (leased_until (row_of filed).place) ≡ false)
    (λ filed. not_come moment (row_of filed).place) kept.rows on)

no_row_due : (moment : ℕ) (kept : KeptState) → IsUpToDate moment kept → due kept moment ≡ []
no_row_due moment kept on = ap (rows_of kept.rows) (none_due moment kept on)

pub no_moves : (moment word : ℕ) (kept : KeptState) → IsUpToDate moment kept → [] ≡ moves_up kept moment word
no_moves moment word kept on =
    rw (none_over moment kept on, none_expired moment kept on, no_row_due moment kept on) refl

pub stays : (moment word : ℕ) (kept : KeptState) → IsUpToDate moment kept → kept ≡ brought_up kept moment word
stays moment word kept on =
    rw (none_over moment kept on, none_expired moment kept on, no_row_due moment kept on) refl

-- where it is told that something is due, it isn't so that nothing is
pub not_idle : {P Q : Type 0} (none : Bool) → none ≡ false → (P → IsTrue none) → P → Q
not_idle true told follows on = absurd (cc)
not_idle false told follows on = absurd (cc (follows on))
