-- The images at the moments of a disk in memory, from one call to the next.
use Rattle.std.proofs.Common.{◌≡◌, ℕ, ◌+◌, ◌<◌, arith, refl, sym, ap, subst, ◌∙◌}
use Rattle.std.proofs.Common.{List, [], ◌∷◌, ◌++◌, length}
use Rattle.std.specs.Prelude.{Some, slice_get, IsSomeAnd}
use Rattle.std.proofs.lemmas.Option.{slice_get-get_or}
use Rattle.std.proofs.lemmas.List.{get_or_append_left, get_or_push, length_push}
use Rattle.fk_disk.specs.Steps.{AreBytes, Stays}
use Rattle.fk_disk.specs.Moments.{After, Elapses, LeavesAll}
use Rattle.fk_disk.specs.Since.{Since, IsImage}
use Rattle.fk_disk.specs.DiskState.{images_of}

-- the last moment is the present one
at_now : (past : List Since) (now : Since) → slice_get (past ++ now ∷ []) (length past) ≡ Some now
at_now past now =
    let inside : length past < length (past ++ now ∷ []) = rw (length_push past now) (omega arith) in
    slice_get-get_or (past ++ now ∷ []) (length past) now inside
    ∙ ap Some (get_or_push past now now (length past) refl)

-- an earlier one is what it was
at_past : (all : List Since) (next : Since) (at : ℕ) → at < length all →
    slice_get (all ++ next ∷ []) at ≡ slice_get all at
at_past all next at inside =
    let within : at < length (all ++ next ∷ []) = rw (length_push all next) (omega (arith, inside)) in
    slice_get-get_or (all ++ next ∷ []) at next within
    ∙ ap Some (get_or_append_left all (next ∷ []) next at inside)
    ∙ sym (slice_get-get_or all at next inside)

-- what a crash may leave now is what the model gives for now
pub image_of_now : (past : List Since) (now : Since) (image : List ℕ) →
    images_of past now (length past) image → IsImage now image
image_of_now past now image is = subst (λ done. IsSomeAnd done (λ is. IsImage is image)) (at_now past now) is

pub image_is_now : (past : List Since) (now : Since) (image : List ℕ) →
    IsImage now image → images_of past now (length past) image
image_is_now past now image is =
    subst (λ done. IsSomeAnd done (λ is. IsImage is image)) (sym (at_now past now)) is

-- images at the present moment are as good as those of what was done
from_now : (Step : List ℕ → List ℕ → Type 0) (past : List Since) (now : Since) (image : List ℕ) →
    After Step (IsImage now) image → After Step (images_of past now (length past)) image
from_now Step past now image (earlier, was, step) = (earlier, image_is_now past now earlier was, step)

to_now : (Step : List ℕ → List ℕ → Type 0) (past : List Since) (now : Since) (image : List ℕ) →
    After Step (images_of past now (length past)) image → After Step (IsImage now) image
to_now Step past now image (earlier, was, step) = (earlier, image_of_now past now earlier was, step)

-- a call that went on by one moment
pub call_elapses : (Step : List ℕ → List ℕ → Type 0) (past : List Since) (now next : Since) →
    ((image : List ℕ) → IsImage next image → After Step (IsImage now) image) →
    Elapses Step (length past) (length (past ++ now ∷ []))
    (images_of past now) (images_of (past ++ now ∷ []) next)
call_elapses Step past now next leaves =
    let more : length (past ++ now ∷ []) ≡ length past + 1 = length_push past now in
    record {
      onward = omega (arith, more);
      kept = λ at image early.
          let same : slice_get ((past ++ now ∷ []) ++ next ∷ []) at ≡ slice_get (past ++ now ∷ []) at =
          at_past (past ++ now ∷ []) next at (omega (arith, more, early)) in (
            λ is. subst (λ done. IsSomeAnd done (λ was. IsImage was image)) same is,
            λ is. subst (λ done. IsSomeAnd done (λ was. IsImage was image)) (sym same) is,
          );
      since = λ at image late early is.
          let now_it_is : at ≡ length (past ++ now ∷ []) = omega (arith, more, late, early) in
          from_now Step past now image (leaves image (image_of_now (past ++ now ∷ []) next image
          (subst (λ moment. images_of (past ++ now ∷ []) next moment image) now_it_is is)));
    }

-- it reaches all that it may make of an image
pub call_reaches : (Step : List ℕ → List ℕ → Type 0) (past : List Since) (now next : Since) →
    ((image : List ℕ) → AreBytes image → After Step (IsImage now) image → IsImage next image) →
    LeavesAll Step (images_of past now (length past))
    (images_of (past ++ now ∷ []) next (length (past ++ now ∷ [])))
call_reaches Step past now next reaches image bytes after =
    image_is_now (past ++ now ∷ []) next image (reaches image bytes (to_now Step past now image after))

-- a call that did nothing
pub nothing_elapses : (now : ℕ) (images : ℕ → List ℕ → Type 0) → Elapses Stays now now images images
nothing_elapses now images = record {
  onward = omega arith;
  kept = λ _ _ _. (λ is. is, λ is. is);
  since = λ at image late early _. absurd (omega (arith, late, early));
}

pub nothing_reaches : (images : List ℕ → Type 0) → LeavesAll Stays images images
nothing_reaches images image bytes (earlier, was, same) = subst images (sym same) was

-- a file that tells nothing has no images at any moment
pub none_elapse : (Step : List ℕ → List ℕ → Type 0) (now : ℕ) →
    Elapses Step now now (λ _ _. ⊥) (λ _ _. ⊥)
none_elapse Step now = record {
  onward = omega arith;
  kept = λ _ _ _. (λ is. is, λ is. is);
  since = λ _ _ _ _ is. absurd is;
}

pub none_reach : (Step : List ℕ → List ℕ → Type 0) → LeavesAll Step (λ _. ⊥) (λ _. ⊥)
none_reach Step image bytes (earlier, was, step) = was

-- what a call makes of the images that does nothing, and what one makes of none
pub ruleset nothing_done = (nothing_elapses, nothing_reaches)

pub ruleset nothing_told = (none_elapse, none_reach)
