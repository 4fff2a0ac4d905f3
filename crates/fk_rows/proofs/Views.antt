-- What the definitions on rows give where the rows fall into lesser and greater tickets.
use Rattle.std.proofs.Common.{◌≡◌, ℕ, List, [], ◌∷◌, ◌++◌, Some, None, filter, refl, subst, arith, append-nil}
use Rattle.std.specs.Prelude.{nat_lt}
use Rattle.std.proofs.lemmas.Bool.Decides.{nat_tests}
use Rattle.std.proofs.lemmas.List.Elements.{filter-append}
use Rattle.fk_model.specs.declared.row.Row.{Row}
use Rattle.fk_model.specs.Rows.{ticket_of, filed_at, with_row, with_changed, without_row}
use Rattle.fk_rows.specs.Order.{AreAbove, AreBelow}

abbrev Filed : Type 0
Filed = ℕ × Row

lesser_below : (ticket : ℕ) (rows : List Filed) → AreBelow ticket rows → filter (λ filed. nat_lt (ticket_of filed) ticket) rows ≡ rows
lesser_below ticket [] below = refl
lesser_below ticket (x ∷ rows) below = grind (arith, nat_tests, below.0, lesser_below ticket rows below.1)

greater_below : (ticket : ℕ) (rows : List Filed) → AreBelow ticket rows → filter (λ filed. nat_lt ticket (ticket_of filed)) rows ≡ []
greater_below ticket [] below = refl
greater_below ticket (x ∷ rows) below = grind (arith, nat_tests, below.0, greater_below ticket rows below.1)

lesser_above : (ticket : ℕ) (rows : List Filed) → AreAbove ticket rows → filter (λ filed. nat_lt (ticket_of filed) ticket) rows ≡ []
lesser_above ticket [] above = refl
lesser_above ticket (x ∷ rows) above = grind (arith, nat_tests, above.0, lesser_above ticket rows above.1)

greater_above : (ticket : ℕ) (rows : List Filed) → AreAbove ticket rows → filter (λ filed. nat_lt ticket (ticket_of filed)) rows ≡ rows
greater_above ticket [] above = refl
greater_above ticket (x ∷ rows) above = grind (arith, nat_tests, above.0, greater_above ticket rows above.1)

-- one more
pub with_row_between : (before after : List Filed) (ticket : ℕ) (row : Row) → AreBelow ticket before → AreAbove ticket after → with_row (before ++ after) ticket row ≡ before ++ (ticket, row) ∷ after
with_row_between before after ticket row below above =
    rw (filter-append (λ filed. nat_lt (ticket_of filed) ticket) before after, filter-append (λ filed. nat_lt ticket (ticket_of filed)) before after, lesser_below ticket before below, lesser_above ticket after above, greater_below ticket before below, greater_above ticket after above, append-nil) refl

-- one less
pub without_behind : (rows : List Filed) (ticket : ℕ) → AreAbove ticket rows → without_row rows ticket ≡ rows
without_behind [] ticket above = refl
without_behind (x ∷ rows) ticket above = grind (arith, nat_tests, above.0, without_behind rows ticket above.1)

pub without_found : (before after : List Filed) (filed : Filed) → AreBelow filed.0 before → AreAbove filed.0 after → without_row (before ++ filed ∷ after) filed.0 ≡ before ++ after
without_found [] after filed below above = grind (arith, nat_tests, without_behind after filed.0 above)
without_found (x ∷ before) after filed below above = grind (arith, nat_tests, below.0, without_found before after filed below.1 above)

pub without_absent : (before after : List Filed) (ticket : ℕ) → AreBelow ticket before → AreAbove ticket after → without_row (before ++ after) ticket ≡ before ++ after
without_absent [] after ticket below above = without_behind after ticket above
without_absent (x ∷ before) after ticket below above = grind (arith, nat_tests, below.0, without_absent before after ticket below.1 above)

-- look-ups
pub filed_found : (before after : List Filed) (filed : Filed) → AreBelow filed.0 before → filed_at (before ++ filed ∷ after) filed.0 ≡ Some filed
filed_found [] after filed below = grind (arith, nat_tests)
filed_found (x ∷ before) after filed below = grind (arith, nat_tests, below.0, filed_found before after filed below.1)

pub filed_behind : (rows : List Filed) (ticket : ℕ) → AreAbove ticket rows → filed_at rows ticket ≡ None
filed_behind [] ticket above = refl
filed_behind (x ∷ rows) ticket above = grind (arith, nat_tests, above.0, filed_behind rows ticket above.1)

pub filed_absent : (before after : List Filed) (ticket : ℕ) → AreBelow ticket before → AreAbove ticket after → filed_at (before ++ after) ticket ≡ None
filed_absent [] after ticket below above = filed_behind after ticket above
filed_absent (x ∷ before) after ticket below above = grind (arith, nat_tests, below.0, filed_absent before after ticket below.1 above)

-- a change
pub changed_behind : (rows : List Filed) (ticket : ℕ) (change : Row → Row) → AreAbove ticket rows → with_changed rows ticket change ≡ rows
changed_behind [] ticket change above = refl
changed_behind (x ∷ rows) ticket change above = grind (arith, nat_tests, above.0, changed_behind rows ticket change above.1)

pub changed_found : (before after : List Filed) (filed : Filed) (change : Row → Row) → AreBelow filed.0 before → AreAbove filed.0 after → with_changed (before ++ filed ∷ after) filed.0 change ≡ before ++ (filed.0, change filed.1) ∷ after
changed_found [] after filed change below above = grind (arith, nat_tests, changed_behind after filed.0 change above)
changed_found (x ∷ before) after filed change below above = grind (arith, nat_tests, below.0, changed_found before after filed change below.1 above)

-- the same, where the ticket is another number that is equal
pub filed_same : (before after : List Filed) (filed : Filed) (ticket : ℕ) → filed.0 ≡ ticket → AreBelow ticket before → filed_at (before ++ filed ∷ after) ticket ≡ Some filed
filed_same before after filed ticket same = subst (λ t. AreBelow t before → filed_at (before ++ filed ∷ after) t ≡ Some filed) same (filed_found before after filed)

pub without_same : (before after : List Filed) (filed : Filed) (ticket : ℕ) → filed.0 ≡ ticket → AreBelow ticket before → AreAbove ticket after → without_row (before ++ filed ∷ after) ticket ≡ before ++ after
without_same before after filed ticket same = subst (λ t. AreBelow t before → AreAbove t after → without_row (before ++ filed ∷ after) t ≡ before ++ after) same (without_found before after filed)

pub changed_same : (before after : List Filed) (filed : Filed) (change : Row → Row) (ticket : ℕ) → filed.0 ≡ ticket → AreBelow ticket before → AreAbove ticket after → with_changed (before ++ filed ∷ after) ticket change ≡ before ++ (ticket, change filed.1) ∷ after
changed_same before after filed change ticket same = subst (λ t. AreBelow t before → AreAbove t after → with_changed (before ++ filed ∷ after) t change ≡ before ++ (t, change filed.1) ∷ after) same (changed_found before after filed change)
