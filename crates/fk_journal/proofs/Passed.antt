-- What holds of each image goes on through calls, one after another.
use Rattle.std.proofs.Common.{◌≡◌, ◌↔◌, ℕ, ◌≤◌, inl, inr, arith, subst, sym, ◌∙◌, List, Bool, IsTrue}
use Rattle.std.proofs.lemmas.Bool.{cases_lt}
use Rattle.fk_disk.specs.Moments.{Elapses, LeavesOnly}
use Rattle.fk_disk.specs.Steps.{overwritten}
use Rattle.fk_disk.proofs.Going.{each_since_now, each_since_call}
use Rattle.fk_journal.specs.Passing.{EachImage, Passes}

-- nothing is called
pub passes_now : (Holds : List ℕ → Type 0) (now : ℕ) (images : ℕ → List ℕ → Type 0) →
    EachImage (images now) Holds → Passes Holds now now images images
passes_now Holds now images holds = record {
  onward = omega arith;
  kept = λ at image _. ((λ is. is), (λ is. is));
  since = each_since_now images now Holds holds;
}

-- a call of the disk: it held before, and holds of what the call makes of an image
pub passes_call : (Step : List ℕ → List ℕ → Type 0) (Before Holds : List ℕ → Type 0) (start now : ℕ)
    (before after : ℕ → List ℕ → Type 0) →
    EachImage (before start) Before → Elapses Step start now before after →
    ((image : List ℕ) → Before image → Holds image) →
    ((earlier image : List ℕ) → Before earlier → Step earlier image → Holds image) →
    Passes Holds start now before after
passes_call Step Before Holds start now before after at_start call weaker step = record {
  onward = call.onward;
  kept = call.kept;
  since = each_since_call Step start start now before after Holds
      (each_since_now before start Holds (λ image is. weaker image (at_start image is))) call
      (λ image made. step made.0 image (at_start made.0 made.1) made.2);
}

-- one call after another
pub passes_then : (Holds : List ℕ → Type 0) (start middle now : ℕ) (before between after : ℕ → List ℕ → Type 0) →
    Passes Holds start middle before between → Passes Holds middle now between after →
    Passes Holds start now before after
passes_then Holds start middle now before between after first second = record {
  onward = omega (arith, first.onward, second.onward);
  kept = λ at image early.
      let low : at ≤ middle = omega (arith, early, first.onward) in
      let one : after at image ↔ between at image = second.kept at image low in
      let two : between at image ↔ before at image = first.kept at image early in
      ((λ is. two.0 (one.0 is)), (λ is. one.1 (two.1 is)));
  since = λ at image from to is. elim (cases_lt middle at) [
    | inl later ↦ second.since at image (omega (arith, later)) to is
    | inr early ↦ first.since at image from early ((second.kept at image early).0 is)
  ];
}

-- what holds may say less
pub passes_as : (Holds Others : List ℕ → Type 0) (start now : ℕ) (before after : ℕ → List ℕ → Type 0) →
    Passes Holds start now before after → ((image : List ℕ) → Holds image → Others image) →
    Passes Others start now before after
passes_as Holds Others start now before after passed weaker = record {
  onward = passed.onward;
  kept = passed.kept;
  since = λ at image from to is. weaker image (passed.since at image from to is);
}

-- what holds of each image since holds of those that are left now
pub holds_now : (Holds : List ℕ → Type 0) (start now : ℕ) (before after : ℕ → List ℕ → Type 0) →
    Passes Holds start now before after → EachImage (after now) Holds
holds_now Holds start now before after passed image is =
    passed.since now image passed.onward (omega arith) is

-- a write that was made sure of leaves what it made of the file
pub holds_surely : (Before Holds : List ℕ → Type 0) (told_before told : Bool) (at : ℕ)
    (bytes content after : List ℕ) (before images : List ℕ → Type 0) →
    told ≡ told_before → ((image : List ℕ) → images image → IsTrue told) →
    (IsTrue told_before → before content) → EachImage before Before →
    (IsTrue told_before → after ≡ overwritten content at bytes) → LeavesOnly after images →
    ((file : List ℕ) → Before file → Holds (overwritten file at bytes)) → EachImage images Holds
holds_surely Before Holds told_before told at bytes content after before images same has_told has_content held written sure step image is =
    let tells : IsTrue told_before = subst (λ t. IsTrue t) same (has_told image is) in
    let made : image ≡ overwritten content at bytes = sure image is ∙ written tells in
    subst Holds (sym made) (step content (held content (has_content tells)))
