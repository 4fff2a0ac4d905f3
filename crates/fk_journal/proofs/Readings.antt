-- One reading of a file after another.
use Rattle.std.proofs.Common.{◌≡◌, ◌↔◌, inl, inr, ℕ, ◌≤◌, arith, sym, refl, subst, ◌∙◌, List, Bool}
use Rattle.std.proofs.lemmas.Bool.{cases_lt}
use Rattle.fk_disk.specs.Moments.{After, Elapses}
use Rattle.fk_disk.specs.Steps.{Stays}
use Rattle.fk_journal.specs.Reading.{OnlyReads}

-- an image after a reading is one from before it
earlier : (start middle : ℕ) (before between : ℕ → List ℕ → Type 0) → Elapses Stays start middle before between →
    (image : List ℕ) → between middle image → After Stays (before start) image
earlier start middle before between first image is = elim (cases_lt start middle) [
  | inl later ↦ first.since middle image later (omega arith) is
  | inr same ↦
      let at_start : middle ≡ start = omega (arith, same, first.onward) in
      (image, (first.kept start image (omega arith)).0 (subst (λ m. between m image) at_start is), refl)
]

-- two readings are one
stays_then : (start middle now : ℕ) (before between after : ℕ → List ℕ → Type 0) →
    Elapses Stays start middle before between → Elapses Stays middle now between after →
    Elapses Stays start now before after
stays_then start middle now before between after first second = record {
  onward = omega (arith, first.onward, second.onward);
  kept = λ at image early.
      let low : at ≤ middle = omega (arith, early, first.onward) in
      let one : after at image ↔ between at image = second.kept at image low in
      let two : between at image ↔ before at image = first.kept at image early in
      ((λ is. two.0 (one.0 is)), (λ is. one.1 (two.1 is)));
  since = λ at image from to is. elim (cases_lt middle at) [
    | inl later ↦
        let made : After Stays (between middle) image = second.since at image later to is in
        earlier start middle before between first image (subst (between middle) (sym made.2) made.1)
    | inr early ↦ first.since at image from early ((second.kept at image early).0 is)
  ];
}

pub reads_then : (told told_between told_now : Bool) (content between_content content_now : List ℕ) (start middle now : ℕ)
    (before between after : ℕ → List ℕ → Type 0) →
    OnlyReads told told_between content between_content start middle before between →
    OnlyReads told_between told_now between_content content_now middle now between after →
    OnlyReads told told_now content content_now start now before after
reads_then told told_between told_now content between_content content_now start middle now before between after first second = record {
  tells = second.tells ∙ first.tells;
  same = second.same ∙ first.same;
  since = stays_then start middle now before between after first.since second.since;
  all = λ image bytes made. second.all image bytes (image, first.all image bytes made, refl);
}
