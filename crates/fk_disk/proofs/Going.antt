-- What holds of each image since a moment goes on to hold through one call after another.
use Rattle.std.proofs.Common.{◌≡◌, ℕ, inl, inr, arith, subst, List}
use Rattle.std.proofs.lemmas.Bool.{cases_lt}
use Rattle.fk_disk.specs.Moments.{After, Elapses, EachSince}

-- at one moment it is what holds of that moment's images
pub each_since_now : (images : ℕ → List ℕ → Type 0) (now : ℕ) (Holds : List ℕ → Type 0) →
    ((image : List ℕ) → images now image → Holds image) → EachSince images now now Holds
each_since_now images now Holds holds at image from to is =
    let same : at ≡ now = omega (arith, from, to) in
    holds image (subst (λ moment. images moment image) same is)

-- it holds up to a call, and of all that the call may make of the images at its start
pub each_since_call : (Step : List ℕ → List ℕ → Type 0) (start middle now : ℕ)
    (before after : ℕ → List ℕ → Type 0) (Holds : List ℕ → Type 0) →
    EachSince before start middle Holds → Elapses Step middle now before after →
    ((image : List ℕ) → After Step (before middle) image → Holds image) →
    EachSince after start now Holds
each_since_call Step start middle now before after Holds so_far call then at image from to is =
    elim (cases_lt middle at) [
      | inl later ↦ then image (call.since at image later to is)
      | inr kept ↦ so_far at image from kept ((call.kept at image kept).0 is)
    ]
