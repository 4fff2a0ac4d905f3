-- What a byte leads to, and what is known there.
use Rattle.std.proofs.Common.{◌≡◌, ◌↔◌, ℕ, suc, ◌+◌, ◌≤◌, List, [], ◌∷◌, ◌++◌, length, drop, Some, refl, sym, ap, subst, arith}
use Rattle.std.proofs.lemmas.List.{append_assoc, length-append, take-append-le}
use Rattle.fk_json.specs.String.{IsString}
use Rattle.fk_json.specs.Tokens.{string_step}
use Rattle.fk_json.specs.Moves.{most_inner}
use Rattle.fk_json.specs.Left.{Fits, Item, Pending}
use Rattle.fk_json.specs.Remainder.{Adds, IsKnown, LevelsLeft, NameRest, name_text}
use Rattle.fk_json.specs.declared.mode.Bracket.{Bracket}
use Rattle.fk_json.specs.declared.mode.Bracket.TheVariants.{Array, Object}
use Rattle.fk_json.specs.declared.mode.Mode.{Mode}
use Rattle.fk_json.specs.declared.mode.Mode.TheVariants.{First, Next, Naming, Colon, Value, Within, After}
use Rattle.fk_json.specs.Moves.{To}
use Rattle.fk_json.specs.declared.standing.Places.{Places}
use Rattle.fk_json.specs.declared.standing.Standing.{Standing}
use Rattle.fk_json.specs.Step.{Step}
use Rattle.fk_json.specs.Step as step
use Rattle.fk_json.specs.declared.string_mode.StringMode.{StringMode}
use Rattle.fk_json.specs.Reached.{Finds, FitsIn, IsNamed, IsPast, KnownBetween, KnownIn, NamedIn}
use Rattle.fk_json.proofs.Leads.{BetweenLeft, NameLeads}
use Rattle.fk_json.proofs.Equivalences.{through}
use Rattle.fk_json.proofs.StringLeft.{string_goes}
use Rattle.fk_json.proofs.Tame.{IsTame, LedName}

-- ---- one byte more

-- what is left before a byte, from some place on
abbrev pub Source : Bracket → Type 1
Source outer = ℕ → List ℕ → List (Item outer) → Type 0

-- The byte leads on to a standing, where these items are found before it.
pub record Leads (outer : Bracket) (IsBefore : Source outer) (done : List ℕ) (b : ℕ)
    (items : List (Item outer)) (next : Standing) : Type 0 where
  pub name : List ℕ
  pub open_few : length next.inner ≤ most_inner
  pub name_within : next.places.name_from ≤ length (done ++ b ∷ [])
  pub fits : FitsIn outer next.inner next.region
  pub named : NamedIn (drop next.places.name_from (done ++ b ∷ [])) next.inner next.region
  pub known : KnownIn outer (done ++ b ∷ []) name next
  pub leads : (most : ℕ) (rest : List ℕ) (others : List (Item outer)) → most_inner ≤ most
      → (IsBefore most rest others) ↔ (Finds items (λ last. LevelsLeft outer most
      (drop next.places.name_from (done ++ b ∷ [])) name next (length done + 1) rest last) others)

-- what a step says
abbrev pub Outcome : (outer : Bracket) → Source outer → List ℕ → List Bracket → ℕ → Step → Type 0
Outcome outer IsBefore done inner b (step.Goes next item) =
    ((items : List (Item outer)) × Adds outer done item items)
    × ((items : List (Item outer)) → Adds outer done item items → Leads outer IsBefore done b items next)
Outcome outer IsBefore done inner b step.TooDeep =
    ((rest : List ℕ) (others : List (Item outer)) → ¬ IsBefore most_inner rest others)
    × (grown : List ℕ) × (pending : Pending) × (c : Bracket)
    × ((rest : List ℕ) (last : List (Item outer))
    → BetweenLeft outer (suc most_inner) grown pending (c ∷ inner) First (length done + 1) rest last
    → (others : List (Item outer)) × IsBefore (suc most_inner) rest others)
    × (length inner ≡ most_inner)
Outcome outer IsBefore done inner b step.Stops =
    (most : ℕ) (rest : List ℕ) (others : List (Item outer)) → most_inner ≤ most → ¬ IsBefore most rest others

pub finds_same : {I : Type 0} (items : List I) (P Q : List I → Type 0) (others : List I)
    → ((last : List I) → (P last) ↔ (Q last)) → (Finds items P others) ↔ (Finds items Q others)
finds_same items P Q others f = (λ h. (h.0, h.1, (f h.0).0 h.2), λ h. (h.0, h.1, (f h.0).1 h.2))

-- ---- what is known goes on

known_text : (done : List ℕ) (b : ℕ) (places : Places) → places.name_to ≤ length done
    → name_text (done ++ b ∷ []) places ≡ name_text done places
known_text done b places within =
    ap (λ x. drop places.name_from x) (take-append-le places.name_to done (b ∷ []) within)

pub one_longer : (done : List ℕ) (b n : ℕ) → n ≤ length done → n ≤ length (done ++ b ∷ [])
one_longer done b n l = omega (arith, l, length-append done (b ∷ []))

pub known_on : (done : List ℕ) (b : ℕ) (places : Places) (name : List ℕ) → IsKnown done places name
    → IsKnown (done ++ b ∷ []) places name
known_on done b places name known = record {
  ordered = known.ordered;
  within = one_longer done b places.name_to known.within;
  spelled = subst (λ x. IsString x name) (sym (known_text done b places known.within)) known.spelled;
}

-- the place of the value has no part in it
pub known_from : (text : List ℕ) (places : Places) (from : ℕ) (name : List ℕ) → IsKnown text places name
    → IsKnown text (record places { from = from }) name
known_from text places from name known =
    record { ordered = known.ordered; within = known.within; spelled = known.spelled }

pub known_between : (outer : Bracket) (inner : List Bracket) (mode to : Mode) (X Y : Type 0) → (X → Y)
    → (IsPast to → IsPast mode) → KnownBetween outer inner mode X → KnownBetween outer inner to Y
known_between Array inner mode to X Y f past known = tt
known_between Object [] mode to X Y f past known = λ p. f (known (past p))
known_between Object (c ∷ inner) mode to X Y f past known = f known

-- ---- to another mode

pub tame_fits : (bracket : Bracket) (mode : Mode) (b : ℕ) (to : Mode) → IsTame bracket mode b (To to)
    → Fits bracket to
tame_fits Array mode b First t = t.0
tame_fits Array mode b Next t = t.0
tame_fits Array mode b (Naming next) t = absurd t.1
tame_fits Array mode b Colon t = t.0
tame_fits Array mode b Value t = t.0
tame_fits Array mode b (Within token) t = t.0
tame_fits Array mode b After t = t.0
tame_fits Object mode b First t = tt
tame_fits Object mode b Next t = tt
tame_fits Object mode b (Naming next) t = tt
tame_fits Object mode b Colon t = tt
tame_fits Object mode b Value t = tt
tame_fits Object mode b (Within token) t = tt
tame_fits Object mode b After t = tt

pub tame_past : (bracket : Bracket) (mode : Mode) (b : ℕ) (to : Mode) → IsTame bracket mode b (To to)
    → IsPast to → IsPast mode
tame_past bracket mode b First t p = absurd p
tame_past bracket mode b Next t p = absurd p
tame_past bracket mode b (Naming next) t p = absurd p
tame_past bracket mode b Colon t p = t.1 p
tame_past bracket mode b Value t p = t.1 p
tame_past bracket mode b (Within token) t p = t.1 p
tame_past bracket mode b After t p = absurd p

named_grows : (front : List ℕ) (inner : List Bracket) (b : ℕ) (mode : Mode) (next : StringMode)
    → LedName mode b (Some next) → IsNamed mode (NameRest front inner mode)
    → IsNamed (Naming next) (NameRest (front ++ b ∷ []) inner (Naming next))
named_grows front [] b First next led named = absurd led
named_grows front [] b Next next led named = absurd led
named_grows front [] b Colon next led named = absurd led
named_grows front [] b Value next led named = absurd led
named_grows front [] b (Within token) next led named = absurd led
named_grows front [] b After next led named = absurd led
named_grows front [] b (Naming mode) next led named = λ rest.
    let e = append_assoc front (b ∷ []) rest in
    through (λ h. (h.0, subst (λ x. IsString x h.0) e h.1), λ h. (h.0, subst (λ x. IsString x h.0) (sym e) h.1))
    (through (named (b ∷ rest)) (string_goes mode next b rest led))
named_grows front (c ∷ inner) b mode next led named = λ rest. (λ h. h.1, λ l. ([], l))

pub tame_named : (bracket : Bracket) (front : List ℕ) (inner : List Bracket) (b : ℕ) (mode to : Mode)
    → IsTame bracket mode b (To to) → IsNamed mode (NameRest front inner mode)
    → IsNamed to (NameRest (front ++ b ∷ []) inner to)
tame_named bracket front inner b mode First t named = tt
tame_named bracket front inner b mode Next t named = tt
tame_named bracket front inner b mode (Naming next) t named = named_grows front inner b mode next t.0 named
tame_named bracket front inner b mode Colon t named = tt
tame_named bracket front inner b mode Value t named = tt
tame_named bracket front inner b mode (Within token) t named = tt
tame_named bracket front inner b mode After t named = tt

abbrev naming_or : StringMode → Mode → StringMode
naming_or other (Naming mode) = mode
naming_or other mode = other

naming_same : {one other : StringMode} → Naming one ≡ Naming other → one ≡ other
naming_same {one} {other} e = ap (naming_or one) e

naming_first : (mode : Mode) (b : ℕ) (next : StringMode) → LedName mode b (Some next)
    → (now : StringMode) × (mode ≡ Naming now) × (string_step now b ≡ Some next)
naming_first First b next led = absurd led
naming_first Next b next led = absurd led
naming_first (Naming now) b next led = (now, refl, led)
naming_first Colon b next led = absurd led
naming_first Value b next led = absurd led
naming_first (Within token) b next led = absurd led
naming_first After b next led = absurd led

abbrev IsNaming : Mode → Type 0
IsNaming (Naming mode) = Unit {0}
IsNaming mode = ⊥

pub tame_leads : (bracket : Bracket) (mode : Mode) (b : ℕ) (to : Mode) → IsTame bracket mode b (To to)
    → NameLeads mode b to
tame_leads bracket mode b First t next e = absurd (subst IsNaming (sym e) tt)
tame_leads bracket mode b Next t next e = absurd (subst IsNaming (sym e) tt)
tame_leads bracket mode b (Naming one) t next e =
    naming_first mode b next (subst (λ x. LedName mode b (Some x)) (naming_same e) t.0)
tame_leads bracket mode b Colon t next e = absurd (subst IsNaming (sym e) tt)
tame_leads bracket mode b Value t next e = absurd (subst IsNaming (sym e) tt)
tame_leads bracket mode b (Within token) t next e = absurd (subst IsNaming (sym e) tt)
tame_leads bracket mode b After t next e = absurd (subst IsNaming (sym e) tt)
