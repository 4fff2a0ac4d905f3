-- A text that was read up to a place: on by a byte, to its end, and where it stops.
use Rattle.std.proofs.Common.{◌≡◌, ◌↔◌, ℕ, suc, ◌+◌, ◌-◌, ◌≤◌, ◌<◌, true, false, List, [], ◌∷◌, ◌++◌, length, take, drop, slice_index_or, Option, None, Some, Result, Ok, Err, IfOk, IfSome, MatchOption, refl, sym, ap, subst, ◌∙◌, arith}
use Rattle.std.proofs.Math.Seq.{split_at}
use Rattle.std.proofs.lemmas.List.{append-nil, drop-take, length-append, length-take-le, take-append-drop, take-append-le, take_all, take_more}
use Rattle.fk_json.specs.Json.{FailsAt, Faults, IsTooDeepAt, most_levels}
use Rattle.fk_json.specs.String.{IsString}
use Rattle.fk_json.specs.Moves.{most_inner}
use Rattle.fk_json.specs.Left.{Item, ended}
use Rattle.fk_json.specs.Standing.{first_standing, is_whole, read}
use Rattle.fk_json.specs.Remainder.{Adds, HasName, IsKnown, IsTextOf, name_text, pending_of}
use Rattle.fk_json.specs.declared.cursor.Cursor.{Cursor}
use Rattle.fk_json.specs.declared.mode.Bracket.{Bracket}
use Rattle.fk_json.specs.declared.mode.Bracket.TheVariants.{Array, Object}
use Rattle.fk_json.specs.declared.standing.Found.{Found}
use Rattle.fk_json.specs.declared.standing.Places.{Places}
use Rattle.fk_json.specs.declared.standing.Standing.{Standing}
use Rattle.fk_json.specs.Step.{Step}
use Rattle.fk_json.specs.Step as step
use Rattle.fk_json.specs.Cursors.{IsNamedIn, LeadsTo}
use Rattle.fk_json.specs.declared.cursor.Next.{Next}
use Rattle.fk_json.specs.declared.cursor.Next.TheVariants as next
use Rattle.fk_json.specs.declared.fault.JsonFault.{JsonFault}
use Rattle.fk_json.specs.declared.fault.JsonFault.TheVariants.{Syntax, TooDeep, NoMemory}
use Rattle.fk_json.specs.Reached.{IsReadTo, Stands}
use Rattle.fk_json.proofs.OnePlace.{text_not_deep}
use Rattle.fk_json.proofs.Places.{ends_early, fails_at, too_deep_at}
use Rattle.fk_json.proofs.ReadingOn.{Ahead, goes_on, read_right}
use Rattle.fk_json.proofs.Readings.{starts, whole_text}
use Rattle.fk_json.proofs.Outcomes.{Outcome}
use Rattle.fk_json.proofs.Strings.{one_value}

pub read_starts : (outer : Bracket) (text : List ℕ) (found : List (Item outer)) (standing : Standing)
    → found ≡ [] → standing ≡ first_standing → IsReadTo outer text 0 found standing
read_starts outer text found standing e f = record {
  within = omega (arith);
  stands = subst (λ x. Stands outer [] x standing) (sym e) (subst (Stands outer [] []) (sym f) (starts outer));
}

-- ---- the byte at a place

abbrev byte_at : List ℕ → ℕ → ℕ
byte_at text at = slice_index_or text at 0

whole_at : (text : List ℕ) (at : ℕ) → at < length text
    → text ≡ take at text ++ byte_at text at ∷ drop (suc at) text
whole_at text at l = split_at text at 0 l

-- what the byte at a place does, from the bytes before it
outcome_at : (outer : Bracket) (text : List ℕ) (at : ℕ) (found : List (Item outer)) (standing : Standing)
    (led : Step) → at < length text → (r : IsReadTo outer text at found standing)
    → led ≡ read outer standing at (byte_at text at)
    → Outcome outer (Ahead outer (take at text) r.stands.name standing (byte_at text at)) (take at text)
    standing.inner (byte_at text at) led
outcome_at outer text at found standing led l r is =
    let place : length (take at text) ≡ at = length-take-le at text r.within in
    let same = ap (λ n. read outer standing n (byte_at text at)) place ∙ sym is in
    subst (Outcome outer (Ahead outer (take at text) r.stands.name standing (byte_at text at)) (take at text)
    standing.inner (byte_at text at)) same
    (read_right outer (take at text) found standing (byte_at text at) r.stands)

-- ---- what is found

known_front : (text : List ℕ) (at : ℕ) (places : Places) → places.name_to ≤ length (take at text)
    → name_text text places ≡ name_text (take at text) places
known_front text at places within =
    ap (λ x. drop places.name_from x)
    (ap (λ x. take places.name_to x) (sym (take-append-drop at text))
    ∙ take-append-le places.name_to (take at text) (drop at text) within)

front_short : (text : List ℕ) (at : ℕ) → length (take at text) ≤ length text
front_short text at =
    let whole : length (take at text ++ drop at text) ≡ length text = ap (λ x. length x) (take-append-drop at text) in
    omega (arith, whole, length-append (take at text) (drop at text))

known_whole : (text : List ℕ) (at : ℕ) (places : Places) (name : List ℕ) → IsKnown (take at text) places name
    → IsKnown text places name
known_whole text at places name known = record {
  ordered = known.ordered;
  within = omega (arith, known.within, front_short text at);
  spelled = subst (λ x. IsString x name) (sym (known_front text at places known.within)) known.spelled;
}

-- what an item adds to the items is said of the bytes before it, too
adds_front : (outer : Bracket) (text : List ℕ) (at : ℕ) (item : Option Found) (items : List (Item outer))
    → ((some : List (Item outer)) × Adds outer (take at text) item some) → Adds outer text item items
    → Adds outer (take at text) item items
adds_front outer text at None items has adds = adds
adds_front Array text at (Some found) items has adds = adds
adds_front Object text at (Some found) items (some, (name, known, is)) (other, spelled, e) =
    let front = known_front text at found.places known.within in
    let same = one_value (name_text (take at text) found.places) other name
    (subst (λ x. IsString x other) front spelled.spelled) known.spelled in
    (name, known, e ∙ ap (λ x. ended Object (pending_of x found.places) found.to ∷ []) same)

name_of : (text : List ℕ) (at : ℕ) (item : Option Found)
    → ((some : List (Item Object)) × Adds Object (take at text) item some) → HasName text item
name_of text at None has = tt
name_of text at (Some found) (some, (name, known, is)) = (name, known_whole text at found.places name known)

-- ---- on by a byte

pub read_on : (outer : Bracket) (text : List ℕ) (at : ℕ) (found items : List (Item outer))
    (standing next : Standing) (item : Option Found) → at < length text
    → IsReadTo outer text at found standing → step.Goes next item ≡ read outer standing at (byte_at text at)
    → Adds outer text item items → IsReadTo outer text (at + 1) (found ++ items) next
read_on outer text at found items standing next item l r is adds =
    let (has, leads) = outcome_at outer text at found standing (step.Goes next item) l r is in
    record {
      within = omega (arith, l);
      stands = subst (λ x. Stands outer x (found ++ items) next) (sym (take_more text at 0 l))
          (goes_on outer (take at text) found standing (byte_at text at) items next r.stands
          (leads items (adds_front outer text at item items has adds)));
    }

pub read_name : (text : List ℕ) (at : ℕ) (found : List (Item Object)) (standing next : Standing)
    (item : Option Found) → at < length text → IsReadTo Object text at found standing
    → step.Goes next item ≡ read Object standing at (byte_at text at) → HasName text item
read_name text at found standing next item l r is =
    name_of text at item (outcome_at Object text at found standing (step.Goes next item) l r is).0

-- ---- where it stops

at_front : (outer : Bracket) (P : (ℕ → List ℕ → List (Item outer) → Type 0) → List ℕ → ℕ → Type 0)
    (text : List ℕ) (at : ℕ) → at < length text
    → P (IsTextOf outer) (take at text ++ byte_at text at ∷ drop (suc at) text) (length (take at text))
    → P (IsTextOf outer) text at
at_front outer P text at l h =
    subst (λ n. P (IsTextOf outer) text n) (length-take-le at text (omega (arith, l)))
    (subst (λ x. P (IsTextOf outer) x (length (take at text))) (sym (whole_at text at l)) h)

pub read_stops : (outer : Bracket) (text : List ℕ) (at : ℕ) (found : List (Item outer)) (standing : Standing)
    → at < length text → IsReadTo outer text at found standing
    → step.Stops ≡ read outer standing at (byte_at text at) → FailsAt (IsTextOf outer) text at
read_stops outer text at found standing l r is =
    at_front outer FailsAt text at l
    (fails_at outer (take at text) found standing (byte_at text at) (drop (suc at) text) r.stands
    (outcome_at outer text at found standing step.Stops l r is))

pub read_deep : (outer : Bracket) (text : List ℕ) (at : ℕ) (found : List (Item outer)) (standing : Standing)
    → at < length text → IsReadTo outer text at found standing
    → step.TooDeep ≡ read outer standing at (byte_at text at) → IsTooDeepAt (IsTextOf outer) text at
read_deep outer text at found standing l r is =
    at_front outer IsTooDeepAt text at l
    (too_deep_at outer (take at text) found standing (byte_at text at) (drop (suc at) text) r.stands
    (outcome_at outer text at found standing step.TooDeep l r is))

-- ---- the end

read_whole : (outer : Bracket) (text : List ℕ) (at : ℕ) (found : List (Item outer)) (standing : Standing)
    → length text ≤ at → IsReadTo outer text at found standing → Stands outer text found standing
read_whole outer text at found standing over r =
    subst (λ x. Stands outer x found standing) (take_all at text over) r.stands

pub read_ended : (outer : Bracket) (text : List ℕ) (at : ℕ) (found all : List (Item outer)) (standing : Standing)
    → length text ≤ at → IsReadTo outer text at found standing → is_whole standing.region ≡ true
    → (IsTextOf outer most_levels text all) ↔ (all ≡ found)
read_ended outer text at found all standing over r is =
    whole_text outer text found standing most_inner all (omega (arith)) is
    (read_whole outer text at found standing over r)

pub read_early : (outer : Bracket) (text : List ℕ) (at : ℕ) (found : List (Item outer)) (standing : Standing)
    → length text ≤ at → IsReadTo outer text at found standing → is_whole standing.region ≡ false
    → FailsAt (IsTextOf outer) text (length text)
read_early outer text at found standing over r is =
    ends_early outer text found standing is (read_whole outer text at found standing over r)

-- ---- a name at its places

pub name_slice : (text : List ℕ) (places : Places) → places.name_from ≤ places.name_to
    → take (places.name_to - places.name_from) (drop places.name_from text) ≡ name_text text places
name_slice text places l =
    let e : places.name_from + (places.name_to - places.name_from) ≡ places.name_to = omega (arith, l) in
    sym (drop-take places.name_from (places.name_to - places.name_from) text)
    ∙ ap (λ n. drop places.name_from (take n text)) e

pub finds_name : {E : Type 0} (text : List ℕ) (places : Places) (name : List ℕ)
    (r : Result (Option (List ℕ)) E) → IsKnown text places name
    → IfOk r (λ found. IfSome found (λ value. IsString
    (take (places.name_to - places.name_from) (drop places.name_from text)) value))
    → (r ≡ Ok None → (value : List ℕ) → ¬ IsString
    (take (places.name_to - places.name_from) (drop places.name_from text)) value)
    → IfOk r (λ found. MatchOption found ⊥ (λ value. IsKnown text places value))
finds_name text places name (Ok None) known some none =
    none refl name (subst (λ x. IsString x name) (sym (name_slice text places known.ordered)) known.spelled)
finds_name text places name (Ok (Some value)) known some none = record {
  ordered = known.ordered;
  within = known.within;
  spelled = subst (λ x. IsString x value) (name_slice text places known.ordered) some;
}
finds_name text places name (Err e) known some none = tt

-- ---- from one item to the next

-- the bytes from a cursor to a place were read, and no item ended before them
pub record ReadsOn (outer : Bracket) (text : List ℕ) (cursor : Cursor) (at : ℕ) (standing : Standing) : Type 0 where
  pub begun : cursor.at ≤ at
  pub reads : (found : List (Item outer)) → IsReadTo outer text cursor.at found cursor.standing
      → IsReadTo outer text at found standing

-- a byte before which no item ended
pub read_past : (outer : Bracket) (text : List ℕ) (cursor : Cursor) (at : ℕ) (standing next : Standing)
    → at < length text → ReadsOn outer text cursor at standing
    → step.Goes next None ≡ read outer standing at (byte_at text at)
    → ReadsOn outer text cursor (at + 1) next
read_past outer text cursor at standing next l so_far is = record {
  begun = omega (arith, so_far.begun);
  reads = λ found there.
      subst (λ x. IsReadTo outer text (at + 1) x next) (append-nil found)
      (read_on outer text at found [] standing next None l (so_far.reads found there) is refl);
}

pub found_named : (outer : Bracket) (text : List ℕ) (at : ℕ) (found : List (Item outer)) (standing next : Standing)
    (item : Found) → at < length text → IsReadTo outer text at found standing
    → step.Goes next (Some item) ≡ read outer standing at (byte_at text at) → IsNamedIn outer text item
found_named Array text at found standing next item l r is = tt
found_named Object text at found standing next item l r is =
    read_name text at found standing next (Some item) l r is

pub found_read : (outer : Bracket) (text : List ℕ) (at : ℕ) (found items : List (Item outer))
    (standing next : Standing) (item : Found) (cursor : Cursor) → at < length text
    → IsReadTo outer text at found standing → step.Goes next (Some item) ≡ read outer standing at (byte_at text at)
    → Adds outer text (Some item) items → cursor.at ≡ at + 1 → cursor.standing ≡ next
    → IsReadTo outer text cursor.at (found ++ items) cursor.standing
found_read outer text at found items standing next item cursor l r is adds e f =
    subst (λ n. IsReadTo outer text n (found ++ items) cursor.standing) (sym e)
    (subst (IsReadTo outer text (at + 1) (found ++ items)) (sym f)
    (read_on outer text at found items standing next (Some item) l r is adds))

pub starts_at : (outer : Bracket) (text : List ℕ) (found : List (Item outer)) (cursor : Cursor) → found ≡ []
    → cursor.at ≡ 0 → cursor.standing ≡ first_standing → IsReadTo outer text cursor.at found cursor.standing
starts_at outer text found cursor e f g =
    subst (λ n. IsReadTo outer text n found cursor.standing) (sym f)
    (read_starts outer text found cursor.standing e g)

-- the text is whole
pub ends_there : (outer : Bracket) (text : List ℕ) (found all : List (Item outer)) (cursor : Cursor) (led : Next)
    → LeadsTo outer text cursor led → led ≡ next.End → IsReadTo outer text cursor.at found cursor.standing
    → (IsTextOf outer most_levels text all) ↔ (all ≡ found)
ends_there outer text found all cursor led leads e there =
    subst (LeadsTo outer text cursor) e leads found there all

-- the name of the member that was found
pub finds_member : (text : List ℕ) (found : List (Item Object)) (cursor behind : Cursor) (led : Next) (item : Found)
    → LeadsTo Object text cursor led → led ≡ next.Found item behind
    → IsReadTo Object text cursor.at found cursor.standing → (name : List ℕ) × IsKnown text item.places name
finds_member text found cursor behind led item leads e there =
    (subst (LeadsTo Object text cursor) e leads found there).0

-- only want of memory refuses a text that has items
pub only_memory : (outer : Bracket) (text : List ℕ) (fault : JsonFault) (items : List (Item outer))
    → Faults (IsTextOf outer) text fault → IsTextOf outer most_levels text items → fault ≡ NoMemory
only_memory outer text (Syntax at) items fails is = absurd (fails.none most_levels items is)
only_memory outer text (TooDeep at) items deep is = absurd (text_not_deep (IsTextOf outer) text items at is deep)
only_memory outer text NoMemory items tell is = refl
