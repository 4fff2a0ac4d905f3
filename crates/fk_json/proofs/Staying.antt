-- A text that is read on over bytes that stay in a name, in a value or in white space.
use Rattle.std.proofs.Common.{◌≡◌, ◌⊎◌, inl, inr, ℕ, zero, suc, ◌+◌, ◌-◌, ◌≤◌, ◌<◌, ◌==◌, if◌then◌else◌, List, length, take, drop, slice_index_or, Option, None, Some, refl, sym, ap, subst, ◌∙◌, add-one, arith}
use Rattle.std.proofs.Math.Seq.{drop-cons}
use Rattle.std.proofs.lemmas.Option.{cond_some, option_and_then_some, same_Some}
use Rattle.std.specs.Option.{option_and_then, option_map}
use Rattle.fk_json.specs.Json.{is_space}
use Rattle.fk_json.specs.Moves.{core_move, innermost, name_led, opening, value_led}
use Rattle.fk_json.specs.Runs.{Passes, stays, stays_between, through}
use Rattle.fk_json.specs.Standing.{between_by, goes, read, to_mode}
use Rattle.fk_json.specs.Tokens.{string_ends, string_step, token_ends, token_step, when}
use Rattle.fk_json.specs.declared.cursor.Cursor.{Cursor}
use Rattle.fk_json.specs.declared.mode.Bracket.{Bracket}
use Rattle.fk_json.specs.declared.mode.Mode.{Mode}
use Rattle.fk_json.specs.declared.mode.Mode.TheVariants.{First, Next, Naming, Colon, Value, Within, After}
use Rattle.fk_json.specs.Moves.{To}
use Rattle.fk_json.specs.declared.standing.Places.{Places}
use Rattle.fk_json.specs.declared.standing.Region.{Region}
use Rattle.fk_json.specs.declared.standing.Region.TheVariants.{Before, Between, Behind}
use Rattle.fk_json.specs.declared.standing.Standing.{Standing}
use Rattle.fk_json.specs.Step.{Step}
use Rattle.fk_json.specs.Step as step
use Rattle.fk_json.proofs.ReadTo.{ReadsOn, read_past}

-- ---- white space stays where it is

pub space_between : (mode : Mode)
    → (mode ≡ First) ⊎ ((mode ≡ Next) ⊎ ((mode ≡ Colon) ⊎ ((mode ≡ Value) ⊎ (mode ≡ After))))
    → (byte : ℕ) → stays_between mode byte ≡ when (is_space byte) mode
space_between mode (inl is) byte =
    subst (λ m. stays_between m byte ≡ when (is_space byte) m) (sym is) refl
space_between mode (inr (inl is)) byte =
    subst (λ m. stays_between m byte ≡ when (is_space byte) m) (sym is) refl
space_between mode (inr (inr (inl is))) byte =
    subst (λ m. stays_between m byte ≡ when (is_space byte) m) (sym is) refl
space_between mode (inr (inr (inr (inl is)))) byte =
    subst (λ m. stays_between m byte ≡ when (is_space byte) m) (sym is) refl
space_between mode (inr (inr (inr (inr is)))) byte =
    subst (λ m. stays_between m byte ≡ when (is_space byte) m) (sym is) refl

pub space_around : (region : Region) → (region ≡ Before) ⊎ (region ≡ Behind) → (byte : ℕ)
    → stays region byte ≡ when (is_space byte) region
space_around region (inl is) byte =
    subst (λ r. stays r byte ≡ when (is_space byte) r) (sym is) refl
space_around region (inr is) byte =
    subst (λ r. stays r byte ≡ when (is_space byte) r) (sym is) refl

-- ---- what stays leads on, and no item ends

mapped : {S T : Type 0} (f : S → T) (led : Option S) (y : T) → option_map f led ≡ Some y
    → (x : S) × (led ≡ Some x) × (f x ≡ y)
mapped f None y e = cc
mapped f (Some x) y e = (x, refl, same_Some (f x) y e)

abbrev stands_in : Mode → List Bracket → Places → Standing
stands_in mode inner places = record { region = Between mode; inner = inner; places = places }

space_reads : (outer : Bracket) (mode next : Mode) (inner : List Bracket) (places : Places) (at byte : ℕ)
    → when (is_space byte) mode ≡ Some next
    → step.Goes (stands_in next inner places) None
    ≡ between_by (innermost outer inner) (stands_in mode inner places) at byte
    (if is_space byte then To mode else core_move (innermost outer inner) mode byte)
space_reads outer mode next inner places at byte e =
    let both = cond_some (is_space byte) mode next e in
    ap (λ m. step.Goes (stands_in m inner places) None) (sym both.1)
    ∙ ap (λ t. between_by (innermost outer inner) (stands_in mode inner places) at byte
    (if t then To mode else core_move (innermost outer inner) mode byte)) (sym both.0)

between_reads : (outer : Bracket) (mode next : Mode) (inner : List Bracket) (places : Places) (at byte : ℕ)
    → stays_between mode byte ≡ Some next
    → step.Goes (stands_in next inner places) None ≡ read outer (stands_in mode inner places) at byte
between_reads outer (Naming name) next inner places at byte e =
    let (led, is, same) = mapped Naming (string_step name byte) next e in
    ap (λ m. step.Goes (stands_in m inner places) None) (sym same)
    ∙ ap (λ o. between_by (innermost outer inner) (stands_in (Naming name) inner places) at byte
    (name_led (string_ends name) o)) (sym is)
between_reads outer (Within token) next inner places at byte e =
    let (led, is, same) = mapped Within (token_step token byte) next e in
    ap (λ m. step.Goes (stands_in m inner places) None) (sym same)
    ∙ ap (λ o. between_by (innermost outer inner) (stands_in (Within token) inner places) at byte
    (value_led (token_ends token) o)) (sym is)
between_reads outer First next inner places at byte e = space_reads outer First next inner places at byte e
between_reads outer Next next inner places at byte e = space_reads outer Next next inner places at byte e
between_reads outer Colon next inner places at byte e = space_reads outer Colon next inner places at byte e
between_reads outer Value next inner places at byte e = space_reads outer Value next inner places at byte e
between_reads outer After next inner places at byte e = space_reads outer After next inner places at byte e

stays_reads : (outer : Bracket) (region next : Region) (inner : List Bracket) (places : Places) (at byte : ℕ)
    → stays region byte ≡ Some next
    → step.Goes (record { region = next; inner = inner; places = places }) None
    ≡ read outer (record { region = region; inner = inner; places = places }) at byte
stays_reads outer Before next inner places at byte e =
    let stands : Region → Standing = λ r. record { region = r; inner = inner; places = places } in
    let both = cond_some (is_space byte) Before next e in
    ap (λ r. goes (stands r)) (sym both.1)
    ∙ ap (λ t. if t then goes (stands Before)
    else (if byte == opening outer then goes (to_mode (stands Before) First) else step.Stops)) (sym both.0)
stays_reads outer (Between mode) next inner places at byte e =
    let (led, is, same) = mapped Between (stays_between mode byte) next e in
    ap (λ r. step.Goes (record { region = r; inner = inner; places = places }) None) (sym same)
    ∙ between_reads outer mode led inner places at byte is
stays_reads outer Behind next inner places at byte e =
    let stands : Region → Standing = λ r. record { region = r; inner = inner; places = places } in
    let both = cond_some (is_space byte) Behind next e in
    ap (λ r. goes (stands r)) (sym both.1)
    ∙ ap (λ t. if t then goes (stands Behind) else step.Stops) (sym both.0)

-- ---- on over such bytes

reads_through : (outer : Bracket) (text : List ℕ) (cursor : Cursor) (count at : ℕ) (region next : Region)
    (inner : List Bracket) (places : Places) → at + count ≤ length text
    → ReadsOn outer text cursor at (record { region = region; inner = inner; places = places })
    → through stays region (take count (drop at text)) ≡ Some next
    → ReadsOn outer text cursor (at + count) (record { region = next; inner = inner; places = places })
reads_through outer text cursor zero at region next inner places l so_far e =
    let place : at ≡ at + 0 = omega arith in
    subst (λ n. ReadsOn outer text cursor n (record { region = next; inner = inner; places = places })) place
    (subst (λ r. ReadsOn outer text cursor at (record { region = r; inner = inner; places = places }))
    (same_Some region next e) so_far)
reads_through outer text cursor (suc count) at region next inner places l so_far e =
    let inside : at < length text = omega (arith, l) in
    let byte = slice_index_or text at 0 in
    let parts : option_and_then (λ r. through stays r (take count (drop (suc at) text))) (stays region byte) ≡ Some next
    = ap (λ x. through stays region (take (suc count) x)) (sym (drop-cons text at 0 inside)) ∙ e in
    option_and_then_some (λ r. through stays r (take count (drop (suc at) text))) (stays region byte) next parts
    (λ middle is rest.
    let place : (at + 1) + count ≡ at + suc count = omega arith in
    let there : (at + 1) + count ≤ length text = omega (arith, l) in
    subst (λ n. ReadsOn outer text cursor n (record { region = next; inner = inner; places = places })) place
    (reads_through outer text cursor count (at + 1) middle next inner places there
    (read_past outer text cursor at (record { region = region; inner = inner; places = places })
    (record { region = middle; inner = inner; places = places }) inside so_far
    (stays_reads outer region middle inner places at byte is))
    (ap (λ n. through stays middle (take count (drop n text))) (add-one at) ∙ rest)))

-- nothing was read
pub read_none : (outer : Bracket) (text : List ℕ) (cursor : Cursor)
    → ReadsOn outer text cursor cursor.at cursor.standing
read_none outer text cursor = record { begun = omega arith; reads = λ found there. there }

-- the bytes from a cursor to a place were read, and then those that stay
pub reads_run : (outer : Bracket) (text : List ℕ) (cursor : Cursor) (from to : ℕ) (standing last : Standing)
    (next : Region) → ReadsOn outer text cursor from standing → Passes stays text from standing.region to next
    → last ≡ record standing { region = next } → ReadsOn outer text cursor to last
reads_run outer text cursor from to standing last next so_far passes is =
    let place : from + (to - from) ≡ to = omega (arith, passes.onward) in
    let inside : from + (to - from) ≤ length text = omega (arith, passes.onward, passes.within) in
    subst (ReadsOn outer text cursor to) (sym is)
    (subst (λ n. ReadsOn outer text cursor n (record standing { region = next })) place
    (reads_through outer text cursor (to - from) from standing.region next standing.inner standing.places inside so_far
    passes.leads))
