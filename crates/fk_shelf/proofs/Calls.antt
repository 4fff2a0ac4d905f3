-- Calls of one disk, while the other stands still: how the ways of both go on.
use Rattle.std.proofs.Common.{◌≡◌, ◌⊎◌, ℕ, ◌-◌, arith, refl, sym, subst, inl, inr, List, Bool}
use Rattle.std.proofs.lemmas.Bool.{cases_lt}
use Rattle.fk_disk.specs.Moments.{After, Elapses}
use Rattle.fk_disk.specs.Steps.{Stays}
use Rattle.fk_journal.specs.Passing.{Passes}
use Rattle.fk_journal.specs.Reading.{OnlyReads}
use Rattle.fk_lives.specs.Ways.{disks, EachPair, GoOn}
use Rattle.fk_lives.proofs.Moments.{way_a, way_b}

-- disk A goes on, and this holds of each image since and each one of B
pub a_passes : (Holds : List ℕ → List ℕ → Type 0) (One : List ℕ → Type 0) (start now at_b : ℕ)
    (before after images_b : ℕ → List ℕ → Type 0) → Passes One start now before after →
    ((a b : List ℕ) → One a → images_b at_b b → Holds a b) →
    GoOn Holds (disks start before at_b images_b) (disks now after at_b images_b)
a_passes Holds One start now at_b before after images_b passed holds = record {
  past = record { a = passed.kept; b = λ at image early. ((λ is. is), (λ is. is)) };
  way = way_a (λ a b. EachPair Holds (after a) (images_b b)) (now - start) start at_b now
      (omega (arith, passed.onward))
      (λ at from to a b here there. holds a b (passed.since at a from to here) there);
}

-- and so does disk B
pub b_passes : (Holds : List ℕ → List ℕ → Type 0) (One : List ℕ → Type 0) (at_a start now : ℕ)
    (images_a before after : ℕ → List ℕ → Type 0) → Passes One start now before after →
    ((a b : List ℕ) → images_a at_a a → One b → Holds a b) →
    GoOn Holds (disks at_a images_a start before) (disks at_a images_a now after)
b_passes Holds One at_a start now images_a before after passed holds = record {
  past = record { a = λ at image early. ((λ is. is), (λ is. is)); b = passed.kept };
  way = way_b (λ a b. EachPair Holds (images_a a) (after b)) (now - start) at_a start now
      (omega (arith, passed.onward))
      (λ at from to a b here there. holds a b here (passed.since at b from to there));
}

-- a call of a disk leaves at each moment an image of its start, or what it makes of one
since_call : (Step : List ℕ → List ℕ → Type 0) (start now : ℕ) (before after : ℕ → List ℕ → Type 0) →
    Elapses Step start now before after →
    Passes (λ image. (earlier : List ℕ) × before start earlier × ((image ≡ earlier) ⊎ Step earlier image))
    start now before after
since_call Step start now before after call = record {
  onward = call.onward;
  kept = call.kept;
  since = λ at image from to is. elim (cases_lt start at) [
    | inl later ↦
        let made : After Step (before start) image = call.since at image later to is in
        (made.0, made.1, inr made.2)
    | inr kept ↦
        let same : at ≡ start = omega (arith, from, kept) in
        (image, subst (λ moment. before moment image) same ((call.kept at image kept).0 is), inl refl)
  ];
}

-- one call of disk A, which makes of pairs of which this holds such pairs
pub a_calls : (Holds Step : List ℕ → List ℕ → Type 0) (start now at_b : ℕ)
    (before after images_b : ℕ → List ℕ → Type 0) → EachPair Holds (before start) (images_b at_b) →
    Elapses Step start now before after →
    ((earlier a b : List ℕ) → Holds earlier b → Step earlier a → Holds a b) →
    GoOn Holds (disks start before at_b images_b) (disks now after at_b images_b)
a_calls Holds Step start now at_b before after images_b at_start call step =
    a_passes Holds (λ image. (earlier : List ℕ) × before start earlier × ((image ≡ earlier) ⊎ Step earlier image))
    start now at_b before after images_b (since_call Step start now before after call)
    (λ a b (earlier, here, made) there. elim made [
      | inl same ↦ subst (λ image. Holds image b) (sym same) (at_start earlier b here there)
      | inr done ↦ step earlier a b (at_start earlier b here there) done
    ])

-- one call of disk B
pub b_calls : (Holds Step : List ℕ → List ℕ → Type 0) (at_a start now : ℕ)
    (images_a before after : ℕ → List ℕ → Type 0) → EachPair Holds (images_a at_a) (before start) →
    Elapses Step start now before after →
    ((a earlier b : List ℕ) → Holds a earlier → Step earlier b → Holds a b) →
    GoOn Holds (disks at_a images_a start before) (disks at_a images_a now after)
b_calls Holds Step at_a start now images_a before after at_start call step =
    b_passes Holds (λ image. (earlier : List ℕ) × before start earlier × ((image ≡ earlier) ⊎ Step earlier image))
    at_a start now images_a before after (since_call Step start now before after call)
    (λ a b here (earlier, there, made). elim made [
      | inl same ↦ subst (λ image. Holds a image) (sym same) (at_start a earlier here there)
      | inr done ↦ step a earlier b (at_start a earlier here there) done
    ])

-- a reading of disk A
pub a_reads : (Holds : List ℕ → List ℕ → Type 0) (told told_now : Bool) (content content_now : List ℕ)
    (start now at_b : ℕ) (before after images_b : ℕ → List ℕ → Type 0) →
    EachPair Holds (before start) (images_b at_b) →
    OnlyReads told told_now content content_now start now before after →
    GoOn Holds (disks start before at_b images_b) (disks now after at_b images_b)
a_reads Holds told told_now content content_now start now at_b before after images_b at_start reads =
    a_calls Holds Stays start now at_b before after images_b at_start reads.since
    (λ earlier a b holds same. subst (λ image. Holds image b) (sym same) holds)
