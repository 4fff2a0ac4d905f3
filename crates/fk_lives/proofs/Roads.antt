-- The ways of two disks: told later on, told as less, and two as one; one call after another, and calls by stages.
use Rattle.std.proofs.Common.{◌≡◌, ◌↔◌, ℕ, ◌≤◌, arith, refl, sym, List, [], ◌++◌}
use Rattle.fk_lives.specs.Ways.{Disks, EachPair, GoOn, GoOnByStages, HoldsBetween, HoldsOn, KeepPast}
use Rattle.fk_lives.proofs.Moments.{way_as, way_end, way_then, within_a, within_b}

-- ---- what was left

-- nothing was called
pub past_nothing : (now : Disks) → KeepPast now now
past_nothing now =
    record { a = λ at image early. ((λ is. is), (λ is. is)); b = λ at image early. ((λ is. is), (λ is. is)) }

-- what stays from one to the next stays from the first to the last
pub past_then : (before between after : Disks) → before.at_a ≤ between.at_a → before.at_b ≤ between.at_b
    → KeepPast before between → KeepPast between after → KeepPast before after
past_then before between after on_a on_b first second = record {
  a = λ at image early.
      let one : after.images_a at image ↔ between.images_a at image =
      second.a at image (omega (arith, early, on_a)) in
      let two : between.images_a at image ↔ before.images_a at image = first.a at image early in
      ((λ is. two.0 (one.0 is)), (λ is. one.1 (two.1 is)));
  b = λ at image early.
      let one : after.images_b at image ↔ between.images_b at image =
      second.b at image (omega (arith, early, on_b)) in
      let two : between.images_b at image ↔ before.images_b at image = first.b at image early in
      ((λ is. two.0 (one.0 is)), (λ is. one.1 (two.1 is)));
}

-- ---- ways

-- the ends of a way are no earlier
pub onward_a : (Holds : List ℕ → List ℕ → Type 0) (now : Disks) (at_a at_b end_a end_b : ℕ)
    → HoldsBetween Holds now at_a at_b end_a end_b → at_a ≤ end_a
onward_a Holds now at_a at_b end_a end_b (order, on) =
    within_a (λ a b. EachPair Holds (now.images_a a) (now.images_b b)) order at_a at_b end_a end_b on

pub onward_b : (Holds : List ℕ → List ℕ → Type 0) (now : Disks) (at_a at_b end_a end_b : ℕ)
    → HoldsBetween Holds now at_a at_b end_a end_b → at_b ≤ end_b
onward_b Holds now at_a at_b end_a end_b (order, on) =
    within_b (λ a b. EachPair Holds (now.images_a a) (now.images_b b)) order at_a at_b end_a end_b on

-- a way up to now is one afterwards
pub way_later : (Holds : List ℕ → List ℕ → Type 0) (now after : Disks) (at_a at_b end_a end_b : ℕ)
    → end_a ≤ now.at_a → end_b ≤ now.at_b → KeepPast now after
    → HoldsBetween Holds now at_a at_b end_a end_b → HoldsBetween Holds after at_a at_b end_a end_b
way_later Holds now after at_a at_b end_a end_b on_a on_b past (order, on) = (
  order,
  way_as (λ a b. EachPair Holds (now.images_a a) (now.images_b b))
      (λ a b. EachPair Holds (after.images_a a) (after.images_b b)) order at_a at_b end_a end_b
      (λ at other low low_too holds image another here there.
      holds image another ((past.a at image (omega (arith, low, on_a))).0 here)
      ((past.b other another (omega (arith, low_too, on_b))).0 there)) on,
)

-- what holds on the way may say less
pub way_less : (Holds Others : List ℕ → List ℕ → Type 0) (now : Disks) (at_a at_b end_a end_b : ℕ)
    → ((a b : List ℕ) → Holds a b → Others a b)
    → HoldsBetween Holds now at_a at_b end_a end_b → HoldsBetween Others now at_a at_b end_a end_b
way_less Holds Others now at_a at_b end_a end_b less (order, on) = (
  order,
  way_as (λ a b. EachPair Holds (now.images_a a) (now.images_b b))
      (λ a b. EachPair Others (now.images_a a) (now.images_b b)) order at_a at_b end_a end_b
      (λ at other low low_too holds image another here there.
      less image another (holds image another here there)) on,
)

-- two ways are one
pub way_joins : (Holds : List ℕ → List ℕ → Type 0) (now : Disks) (at_a at_b mid_a mid_b end_a end_b : ℕ)
    → HoldsBetween Holds now at_a at_b mid_a mid_b → HoldsBetween Holds now mid_a mid_b end_a end_b
    → HoldsBetween Holds now at_a at_b end_a end_b
way_joins Holds now at_a at_b mid_a mid_b end_a end_b (first, one) (second, two) = (
  first ++ second,
  way_then (λ a b. EachPair Holds (now.images_a a) (now.images_b b)) first second
      at_a at_b mid_a mid_b end_a end_b one two,
)

-- no disk is called
pub way_stays : (Holds : List ℕ → List ℕ → Type 0) (now : Disks) (at_a at_b end_a end_b : ℕ)
    → end_a ≡ at_a → end_b ≡ at_b → EachPair Holds (now.images_a at_a) (now.images_b at_b)
    → HoldsBetween Holds now at_a at_b end_a end_b
unfolding HoldsOn
way_stays Holds now at_a at_b end_a end_b same_a same_b holds = ([], (sym same_a, sym same_b, holds))

-- ---- calls

-- nothing is called
pub goes_nowhere : (Holds : List ℕ → List ℕ → Type 0) (now : Disks)
    → EachPair Holds (now.images_a now.at_a) (now.images_b now.at_b) → GoOn Holds now now
goes_nowhere Holds now holds = record {
  past = past_nothing now;
  way = way_stays Holds now now.at_a now.at_b now.at_a now.at_b refl refl holds;
}

-- one call after another
pub goes_then : (Holds : List ℕ → List ℕ → Type 0) (before between after : Disks)
    → GoOn Holds before between → GoOn Holds between after → GoOn Holds before after
goes_then Holds before between after first second =
    let on_a : before.at_a ≤ between.at_a =
    onward_a Holds between before.at_a before.at_b between.at_a between.at_b first.way in
    let on_b : before.at_b ≤ between.at_b =
    onward_b Holds between before.at_a before.at_b between.at_a between.at_b first.way in
    record {
      past = past_then before between after on_a on_b first.past second.past;
      way = way_joins Holds after before.at_a before.at_b between.at_a between.at_b after.at_a after.at_b
          (way_later Holds between after before.at_a before.at_b between.at_a between.at_b
          (omega arith) (omega arith) second.past first.way) second.way;
    }

-- it holds of each pair that is left now
pub goes_end : (Holds : List ℕ → List ℕ → Type 0) (before after : Disks) → GoOn Holds before after
    → EachPair Holds (after.images_a after.at_a) (after.images_b after.at_b)
goes_end Holds before after on =
    way_end (λ a b. EachPair Holds (after.images_a a) (after.images_b b)) on.way.0
    before.at_a before.at_b after.at_a after.at_b on.way.1

-- ---- by stages

-- what is owed is settled between two calls
pub stages : (Holds Later : List ℕ → List ℕ → Type 0) (before settled after : Disks)
    → GoOn Holds before settled → GoOn Later settled after → GoOnByStages Holds Later before after
stages Holds Later before settled after first second =
    let on_a : before.at_a ≤ settled.at_a =
    onward_a Holds settled before.at_a before.at_b settled.at_a settled.at_b first.way in
    let on_b : before.at_b ≤ settled.at_b =
    onward_b Holds settled before.at_a before.at_b settled.at_a settled.at_b first.way in
    record {
      past = past_then before settled after on_a on_b first.past second.past;
      settled_a = settled.at_a;
      settled_b = settled.at_b;
      first = way_later Holds settled after before.at_a before.at_b settled.at_a settled.at_b
          (omega arith) (omega arith) second.past first.way;
      later = second.way;
    }
