-- The tickets of rows that have a number, each with the number, in order of ticket: what they are as
-- rows come and go. The leases of a jid are such a list, with the ends of the leases.
use Rattle.std.proofs.Common.{◌≡◌, ◌∙◌, sym, ap, refl, ℕ, ◌<◌, List, [], ◌∷◌, ◌++◌, true, false, not, filter, map, append-nil, arith}
use Rattle.std.specs.Prelude.{All, AllPairs, Option, None, Some, IfSome, option_map, ◌==◌, ◌&&◌, filter_map}
use Rattle.std.specs.List.Sorted.{IsStrictlyIncreasing}
use Rattle.std.proofs.lemmas.Bool.Decides.{nat_tests}
use Rattle.std.proofs.lemmas.Option.{same_Some}
use Rattle.std.proofs.lemmas.List.Elements.{All-weaker, filter-append, filter_map-append}
use Rattle.std.proofs.lemmas.List.Kept.{AllPairs-cons}
use Rattle.fk_model.specs.declared.row.Row.{Row}
use Rattle.fk_model.specs.Rows.{ticket_of, row_of, IsByTicket, row_at, with_row, with_changed, without_row}
use Rattle.fk_json.specs.PairOrder.{comes_before, with_pair}
use Rattle.fk_model.specs.Orders.{number_in, ticket_in}
use Rattle.fk_model.proofs.Sieves.{filter_all, filter_none, filter_past, filter_mapped, all_mapped}
use Rattle.fk_model.proofs.Rising.{IsUnder, by_rising_pairs}
use Rattle.fk_model.proofs.Sorting.{head_of_all, tail_of_all}
use Rattle.fk_model.proofs.Cuts.{IsLower, lower_pairs, below, above, is_same}
use Rattle.fk_model.proofs.Filed.{below_are, above_are, standing, without_parts, without_none, changed_at}

-- the ticket of a row with a number of it
abbrev pub under_ticket : (Row → Option ℕ) → ℕ × Row → Option (ℕ × ℕ)
under_ticket number filed = option_map (λ n. (ticket_of filed, n)) (number (row_of filed))

-- the tickets of the rows that have a number, with it
abbrev pub ticketed : (Row → Option ℕ) → List (ℕ × Row) → List (ℕ × ℕ)
ticketed number rows = filter_map (under_ticket number) rows

-- pairs, and among them a ticket with its number, if there is one
abbrev pub joined_by : ℕ → Option ℕ → List (ℕ × ℕ) → List (ℕ × ℕ)
joined_by ticket None pairs = pairs
joined_by ticket (Some n) pairs = with_pair (ticket, n) pairs

-- ---- one more pair between lower and higher ones

pub with_between : (pair : ℕ × ℕ) (front back : List (ℕ × ℕ))
    → All (λ other. number_in other < number_in pair) front
    → All (λ other. number_in pair < number_in other) back
    → with_pair pair (front ++ back) ≡ front ++ pair ∷ back
with_between pair front back lower higher =
    let first : All (λ x. comes_before x pair ≡ true) front =
    All-weaker (λ x. number_in x < number_in pair) (λ x. comes_before x pair ≡ true)
    (λ x less. grind (arith, nat_tests, less)) front lower in
    let last : All (λ x. comes_before x pair ≡ false) back =
    All-weaker (λ x. number_in pair < number_in x) (λ x. comes_before x pair ≡ false)
    (λ x more. grind (arith, nat_tests, more)) back higher in
    rw (
      filter-append (λ x. comes_before x pair) front back,
      filter-append (λ x. not (comes_before x pair)) front back,
      filter_all (λ x. comes_before x pair) front first,
      filter_none (λ x. comes_before x pair) back last,
      filter_none (λ x. not (comes_before x pair)) front
          (All-weaker (λ x. comes_before x pair ≡ true) (λ x. not (comes_before x pair) ≡ false)
          (λ x e. ap not e) front first),
      filter_all (λ x. not (comes_before x pair)) back
          (All-weaker (λ x. comes_before x pair ≡ false) (λ x. not (comes_before x pair) ≡ true)
          (λ x e. ap not e) back last),
      append-nil,
    ) refl

-- ---- which tickets they have

holds_if : (P : ℕ → Type 0) (given : Option ℕ) (ticket : ℕ) → P ticket
    → IfSome (option_map (λ n. (ticket, n)) given) (λ (pair : ℕ × ℕ). P (number_in pair))
holds_if P None ticket holds = tt
holds_if P (Some n) ticket holds = holds

-- what holds of each ticket holds of those
pub tickets_hold : (P : ℕ → Type 0) (number : Row → Option ℕ) (rows : List (ℕ × Row))
    → All (λ filed. P (ticket_of filed)) rows → All (λ pair. P (number_in pair)) (ticketed number rows)
tickets_hold P number rows each =
    all_mapped (λ pair. P (number_in pair)) (under_ticket number) rows
    (All-weaker (λ filed. P (ticket_of filed))
    (λ filed. IfSome (under_ticket number filed) (λ pair. P (number_in pair)))
    (λ filed holds. holds_if P (number (row_of filed)) (ticket_of filed) holds) rows each)

-- ---- a row that is put, changed or taken away

around : (number : Row → Option ℕ) (rows : List (ℕ × Row)) (ticket : ℕ) (row : Row)
    (given : Option ℕ) → number row ≡ given
    → ticketed number (with_row rows ticket row)
    ≡ joined_by ticket given (ticketed number (below ticket rows ++ above ticket rows))
around number rows ticket row None e =
    filter_map-append (under_ticket number) (below ticket rows) ((ticket, row) ∷ above ticket rows)
    ∙ rw e (sym (filter_map-append (under_ticket number) (below ticket rows) (above ticket rows)))
around number rows ticket row (Some n) e =
    filter_map-append (under_ticket number) (below ticket rows) ((ticket, row) ∷ above ticket rows)
    ∙ rw e (sym (with_between (ticket, n) (ticketed number (below ticket rows))
    (ticketed number (above ticket rows))
    (tickets_hold (λ other. other < ticket) number (below ticket rows) (below_are ticket rows))
    (tickets_hold (λ other. ticket < other) number (above ticket rows) (above_are ticket rows))))
    ∙ ap (with_pair (ticket, n))
    (sym (filter_map-append (under_ticket number) (below ticket rows) (above ticket rows)))

pub ticketed_with : (number : Row → Option ℕ) (rows : List (ℕ × Row)) (ticket : ℕ) (row : Row)
    → IsByTicket rows
    → ticketed number (with_row rows ticket row)
    ≡ joined_by ticket (number row) (ticketed number (without_row rows ticket))
ticketed_with number rows ticket row by_ticket =
    around number rows ticket row (number row) refl
    ∙ ap (λ xs. joined_by ticket (number row) (ticketed number xs))
    (sym (without_parts rows ticket by_ticket))

-- a new row
pub ticketed_new : (number : Row → Option ℕ) (rows : List (ℕ × Row)) (ticket : ℕ) (row : Row)
    → IsByTicket rows → row_at rows ticket ≡ None
    → ticketed number (with_row rows ticket row)
    ≡ joined_by ticket (number row) (ticketed number rows)
ticketed_new number rows ticket row by_ticket none =
    ticketed_with number rows ticket row by_ticket
    ∙ ap (λ xs. joined_by ticket (number row) (ticketed number xs))
    (without_none rows ticket by_ticket none)

-- a row that stands there
pub ticketed_standing : (number : Row → Option ℕ) (rows : List (ℕ × Row)) (ticket : ℕ) (row : Row)
    → IsByTicket rows → row_at rows ticket ≡ Some row
    → ticketed number rows ≡ joined_by ticket (number row) (ticketed number (without_row rows ticket))
ticketed_standing number rows ticket row by_ticket at =
    ap (ticketed number) (sym (standing rows ticket row by_ticket at))
    ∙ ticketed_with number rows ticket row by_ticket

-- a row that is changed
pub ticketed_changed : (number : Row → Option ℕ) (rows : List (ℕ × Row)) (ticket : ℕ)
    (change : Row → Row) (row : Row) → IsByTicket rows → row_at rows ticket ≡ Some row
    → ticketed number (with_changed rows ticket change)
    ≡ joined_by ticket (number (change row)) (ticketed number (without_row rows ticket))
ticketed_changed number rows ticket change row by_ticket at =
    ap (ticketed number) (changed_at rows ticket change row by_ticket at)
    ∙ ticketed_with number rows ticket (change row) by_ticket

same_number : (given : Option ℕ) (ticket : ℕ) (pair : ℕ × ℕ)
    → option_map (λ n. (ticket, n)) given ≡ Some pair → number_in pair ≡ ticket
same_number None ticket pair e = absurd (cc)
same_number (Some n) ticket pair e = sym (ap number_in (same_Some (ticket, n) pair e))

-- without a row, those of another ticket
pub ticketed_without : (number : Row → Option ℕ) (rows : List (ℕ × Row)) (ticket : ℕ)
    → ticketed number (without_row rows ticket)
    ≡ filter (λ pair. not (number_in pair == ticket)) (ticketed number rows)
ticketed_without number rows ticket =
    sym (filter_mapped (under_ticket number) (λ pair. not (number_in pair == ticket))
    (λ x. not (ticket_of x == ticket))
    (λ filed pair at. ap (λ n. not (n == ticket))
    (same_number (number (row_of filed)) (ticket_of filed) pair at)) rows)

-- without a row that has a number, all pairs but its own
pub ticketed_taken : (number : Row → Option ℕ) (rows : List (ℕ × Row)) (ticket : ℕ) (row : Row) (n : ℕ)
    → IsByTicket rows → row_at rows ticket ≡ Some row → number row ≡ Some n
    → ticketed number (without_row rows ticket)
    ≡ filter (λ pair. not ((number_in pair == ticket) && (ticket_in pair == n))) (ticketed number rows)
ticketed_taken number rows ticket row n by_ticket at has =
    let test = λ (pair : ℕ × ℕ). not ((number_in pair == ticket) && (ticket_in pair == n)) in
    let front = ticketed number (below ticket rows) in
    let back = ticketed number (above ticket rows) in
    let lower : All (λ pair. test pair ≡ true) front =
    All-weaker (λ pair. number_in pair < ticket) (λ pair. test pair ≡ true)
    (λ pair less. grind (arith, nat_tests, less)) front
    (tickets_hold (λ other. other < ticket) number (below ticket rows) (below_are ticket rows)) in
    let higher : All (λ pair. test pair ≡ true) back =
    All-weaker (λ pair. ticket < number_in pair) (λ pair. test pair ≡ true)
    (λ pair more. grind (arith, nat_tests, more)) back
    (tickets_hold (λ other. ticket < other) number (above ticket rows) (above_are ticket rows)) in
    let own : test (ticket, n) ≡ false = rw (is_same ticket ticket refl, is_same n n refl) refl in
    ap (ticketed number) (without_parts rows ticket by_ticket)
    ∙ filter_map-append (under_ticket number) (below ticket rows) (above ticket rows)
    ∙ sym (ap (λ xs. filter test (ticketed number xs)) (sym (standing rows ticket row by_ticket at))
    ∙ ap (filter test) (filter_map-append (under_ticket number) (below ticket rows)
    ((ticket, row) ∷ above ticket rows) ∙ rw has refl)
    ∙ filter_past test front back (ticket, n) own
    ∙ rw (filter_all test front lower, filter_all test back higher) refl)

-- ---- they rise

rise_step : (number : Row → Option ℕ) (filed : ℕ × Row) (rows : List (ℕ × Row)) (given : Option ℕ)
    → number (row_of filed) ≡ given → All (IsLower filed) rows
    → AllPairs (IsUnder number_in) (ticketed number rows)
    → AllPairs (IsUnder number_in) (ticketed number (filed ∷ rows))
rise_step number filed rows None e later rest = rw e rest
rise_step number filed rows (Some n) e later rest =
    rw e (AllPairs-cons (IsUnder number_in) (ticket_of filed, n) (ticketed number rows)
    (tickets_hold (λ other. ticket_of filed < other) number rows later) rest)

rise : (number : Row → Option ℕ) (rows : List (ℕ × Row)) → AllPairs IsLower rows
    → AllPairs (IsUnder number_in) (ticketed number rows)
rise number [] all = λ i j d ahead within. absurd (omega (arith, within))
rise number (filed ∷ rows) all =
    rise_step number filed rows (number (row_of filed)) refl (head_of_all IsLower filed rows all)
    (rise number rows (tail_of_all IsLower filed rows all))

-- each ticket is above those before it
pub ticketed_rise : (number : Row → Option ℕ) (rows : List (ℕ × Row)) → IsByTicket rows
    → IsStrictlyIncreasing (map number_in (ticketed number rows))
ticketed_rise number rows by_ticket =
    by_rising_pairs number_in (ticketed number rows) (rise number rows (lower_pairs rows by_ticket))
