-- The two halves of an append, one after the other.
use Rattle.std.proofs.Common.{◌≡◌, inl, ℕ, ap, sym, subst, ◌∙◌, List, ◌++◌, Bool, IsTrue, Option, None}
use Rattle.fk_journal.specs.Passing.{EachImage, Passes}
use Rattle.fk_journal.specs.Pieces.{framed, opened, HasGained, IsClosedAfter, IsFramed}
use Rattle.fk_journal.specs.Standing.{IsAtRest, IsInDoubt, IsWith, IsWithOrWithout}
use Rattle.fk_journal.proofs.Files.{doubt_is, with_is}
use Rattle.fk_journal.proofs.Passed.{passes_as, passes_then}

-- during both halves each image is the file without the piece or with it
pub appending : (front between piece : List ℕ) (told told_between told_now : Bool) (start middle now : ℕ)
    (before mid after : ℕ → List ℕ → Type 0) → told_between ≡ told → told_now ≡ told_between →
    ((at : ℕ) (image : List ℕ) → after at image → IsTrue told_now) →
    (IsTrue told → between ≡ front) →
    Passes (IsClosedAfter front) start middle before mid →
    Passes (IsInDoubt between piece) middle now mid after →
    Passes (IsWithOrWithout front piece) start now before after
appending front between piece told told_between told_now start middle now before mid after same same_now tells kept first second =
    let Either : List ℕ → Type 0 = IsWithOrWithout front piece in
    passes_then Either start middle now before mid after
    (passes_as (IsClosedAfter front) Either start middle before mid first (λ image is. inl is))
    (record {
      onward = second.onward;
      kept = second.kept;
      since = λ at image from to is.
          let known : IsTrue told = subst IsTrue (same_now ∙ same) (tells at image is) in
          doubt_is front piece image
          (subst (λ f. IsInDoubt f piece image) (kept known) (second.since at image from to is));
    })

-- behind the piece the file is closed again
pub at_rest : (number number_now : ℕ) (piece front front_now : List ℕ) (owed : Option (List ℕ))
    (told told_now : Bool) (images : List ℕ → Type 0) → number_now ≡ number → told_now ≡ told →
    ((image : List ℕ) → images image → IsTrue told_now) → IsFramed number piece → owed ≡ None →
    (IsTrue told → HasGained number_now piece front front_now) →
    EachImage images (IsWith front piece) → EachImage images (IsAtRest front_now owed)
at_rest number number_now piece front front_now owed told told_now images same_number same tells (moves, is) paid gained with image here =
    let known : IsTrue told = subst IsTrue same (tells image here) in
    let is_now : piece ≡ framed number_now moves = is ∙ ap (λ n. framed n moves) (sym same_number) in
    let closed : IsClosedAfter (front ++ opened number_now moves) image =
    with_is number_now moves front piece image is_now (with image here) in
    subst (λ o. IsAtRest front_now o image) (sym paid)
    (subst (λ f. IsClosedAfter f image) (sym (gained known moves is_now)) closed)
