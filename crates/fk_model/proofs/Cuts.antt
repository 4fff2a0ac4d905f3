-- Rows in order of ticket, cut at a ticket: those below it, the one that may stand under it, and those
-- above it.
use Rattle.std.proofs.Common.{◌≡◌, ◌≢◌, ◌⊎◌, ap, refl, ℕ, ◌<◌, List, [], ◌∷◌, ◌++◌, true, false, filter, inl, inr, arith, ◌≤◌}
use Rattle.std.specs.Prelude.{All, AllPairs, Option, None, Some, nat_lt, ◌==◌}
use Rattle.std.proofs.lemmas.Bool.Decides.{nat_tests}
use Rattle.std.proofs.lemmas.List.Elements.{All-head, All-tail, All-weaker}
use Rattle.fk_model.specs.declared.row.Row.{Row}
use Rattle.fk_model.specs.Rows.{ticket_of, IsByTicket, filed_at}
use Rattle.fk_model.proofs.Sieves.{filter_all, filter_none}
use Rattle.fk_model.proofs.Rising.{rising_pairs, by_rising_pairs}
use Rattle.fk_model.proofs.Sorting.{head_of_all, tail_of_all}

-- ---- each ticket is below all later ones

abbrev pub IsLower : ℕ × Row → ℕ × Row → Type 0
IsLower one other = ticket_of one < ticket_of other

pub lower_pairs : (rows : List (ℕ × Row)) → IsByTicket rows → AllPairs IsLower rows
lower_pairs rows rising = rising_pairs ticket_of rows rising

pub by_lower_pairs : (rows : List (ℕ × Row)) → AllPairs IsLower rows → IsByTicket rows
by_lower_pairs rows all = by_rising_pairs ticket_of rows all

-- ---- the rows below a ticket and above it

abbrev pub below : ℕ → List (ℕ × Row) → List (ℕ × Row)
below ticket rows = filter (λ filed. nat_lt (ticket_of filed) ticket) rows

abbrev pub above : ℕ → List (ℕ × Row) → List (ℕ × Row)
above ticket rows = filter (λ filed. nat_lt ticket (ticket_of filed)) rows

pub is_lower : (a b : ℕ) → a < b → nat_lt a b ≡ true
is_lower a b lower = grind (arith, nat_tests, lower)

pub not_lower : (a b : ℕ) → b ≤ a → nat_lt a b ≡ false
not_lower a b higher = grind (arith, nat_tests, higher)

pub is_other : (a b : ℕ) → a ≢ b → (a == b) ≡ false
is_other a b apart = grind (arith, nat_tests, apart)

pub is_same : (a b : ℕ) → a ≡ b → (a == b) ≡ true
is_same a b same = grind (arith, nat_tests, same)

-- a list of rows and what a ticket cuts it into: none is under the ticket, or this one is
abbrev pub IsCut : ℕ → List (ℕ × Row) → Option (ℕ × Row) → Type 0
IsCut ticket rows None = below ticket rows ++ above ticket rows ≡ rows
IsCut ticket rows (Some filed) =
    (below ticket rows ++ filed ∷ above ticket rows ≡ rows) × (ticket_of filed ≡ ticket)

cut_below : (ticket : ℕ) (filed : ℕ × Row) (rows : List (ℕ × Row)) (found : Option (ℕ × Row))
    → ticket_of filed < ticket → IsCut ticket rows found → IsCut ticket (filed ∷ rows) found
cut_below ticket filed rows None lower rest =
    rw (is_lower (ticket_of filed) ticket lower, not_lower ticket (ticket_of filed) (omega arith))
    (ap (λ xs. filed ∷ xs) rest)
cut_below ticket filed rows (Some found) lower rest =
    rw (is_lower (ticket_of filed) ticket lower, not_lower ticket (ticket_of filed) (omega arith))
    (ap (λ xs. filed ∷ xs) rest.0, rest.1)

-- none of them is below the ticket
not_below : (ticket : ℕ) (filed : ℕ × Row) (rows : List (ℕ × Row)) → ticket ≤ ticket_of filed
    → All (IsLower filed) rows → below ticket rows ≡ []
not_below ticket filed rows higher rest =
    filter_none (λ x. nat_lt (ticket_of x) ticket) rows
    (All-weaker (IsLower filed) (λ x. nat_lt (ticket_of x) ticket ≡ false)
    (λ x later. not_lower (ticket_of x) ticket (omega arith)) rows rest)

-- all of them are above it
all_above : (ticket : ℕ) (filed : ℕ × Row) (rows : List (ℕ × Row)) → ticket ≤ ticket_of filed
    → All (IsLower filed) rows → above ticket rows ≡ rows
all_above ticket filed rows higher rest =
    filter_all (λ x. nat_lt ticket (ticket_of x)) rows
    (All-weaker (IsLower filed) (λ x. nat_lt ticket (ticket_of x) ≡ true)
    (λ x later. is_lower ticket (ticket_of x) (omega arith)) rows rest)

cut_here : (ticket : ℕ) (filed : ℕ × Row) (rows : List (ℕ × Row)) → ticket_of filed ≡ ticket
    → All (IsLower filed) rows → IsCut ticket (filed ∷ rows) (Some filed)
cut_here ticket filed rows here rest = (
  rw (
    not_lower (ticket_of filed) ticket (omega arith),
    not_lower ticket (ticket_of filed) (omega arith),
    not_below ticket filed rows (omega arith) rest,
    all_above ticket filed rows (omega arith) rest,
  ) refl,
  here,
)

cut_above : (ticket : ℕ) (filed : ℕ × Row) (rows : List (ℕ × Row)) → ticket < ticket_of filed
    → All (IsLower filed) rows → IsCut ticket (filed ∷ rows) None
cut_above ticket filed rows higher rest =
    rw (
      not_lower (ticket_of filed) ticket (omega arith),
      is_lower ticket (ticket_of filed) higher,
      not_below ticket filed rows (omega arith) rest,
      all_above ticket filed rows (omega arith) rest,
    ) refl

-- nothing is found among rows that are all above the ticket
not_found : (ticket : ℕ) (filed : ℕ × Row) (rows : List (ℕ × Row)) → ticket ≤ ticket_of filed
    → All (IsLower filed) rows → filed_at rows ticket ≡ None
not_found ticket filed [] higher rest = refl
not_found ticket filed (one ∷ rows) higher rest =
    let first : ticket_of filed < ticket_of one = All-head (IsLower filed) one rows rest in
    let apart : ticket_of one ≢ ticket = omega arith in
    rw (is_other (ticket_of one) ticket apart)
    (not_found ticket filed rows higher (All-tail (IsLower filed) one rows rest))

cut_first : (ticket : ℕ) (filed : ℕ × Row) (rows : List (ℕ × Row)) → All (IsLower filed) rows
    → IsCut ticket rows (filed_at rows ticket)
    → (ticket_of filed < ticket) ⊎ (ticket_of filed ≡ ticket) ⊎ (ticket < ticket_of filed)
    → IsCut ticket (filed ∷ rows) (filed_at (filed ∷ rows) ticket)
cut_first ticket filed rows later rest (inl lower) =
    let apart : ticket_of filed ≢ ticket = omega arith in
    rw (is_other (ticket_of filed) ticket apart)
    (cut_below ticket filed rows (filed_at rows ticket) lower rest)
cut_first ticket filed rows later rest (inr (inl here)) =
    rw (is_same (ticket_of filed) ticket here) (cut_here ticket filed rows here later)
cut_first ticket filed rows later rest (inr (inr higher)) =
    let apart : ticket_of filed ≢ ticket = omega arith in
    rw (is_other (ticket_of filed) ticket apart, not_found ticket filed rows (omega arith) later)
    (cut_above ticket filed rows higher later)

three_ways : (a b : ℕ) → (a < b) ⊎ (a ≡ b) ⊎ (b < a)
three_ways a b = grind (arith, nat_tests)

-- a ticket cuts rows in order of ticket into those below it, the one under it, and those above it
pub cut : (ticket : ℕ) (rows : List (ℕ × Row)) → AllPairs IsLower rows
    → IsCut ticket rows (filed_at rows ticket)
cut ticket [] all = refl
cut ticket (filed ∷ rows) all =
    cut_first ticket filed rows (head_of_all IsLower filed rows all)
    (cut ticket rows (tail_of_all IsLower filed rows all)) (three_ways (ticket_of filed) ticket)
