-- What opening makes of two files, call after call.
use Rattle.std.proofs.Common.{◌≡◌, ◌⊎◌, inl, inr, ℕ, arith, ap, sym, subst, ◌∙◌, List, length, Bool, IsTrue, Option, None, Some, Result, OnOk}
use Rattle.fk_disk.specs.Moments.{Elapses, LeavesOnly}
use Rattle.fk_disk.specs.Steps.{Stays}
use Rattle.fk_journal.specs.Passing.{EachImage, Passes}
use Rattle.fk_journal.proofs.Passed.{holds_now, passes_call, passes_then}
use Rattle.fk_journal.specs.declared.fault.Damage.{Damage}
use Rattle.fk_journal.specs.declared.fault.File.TheVariants.{A}
use Rattle.fk_model.specs.State.{KeptState, empty}
use Rattle.fk_lives.specs.Files.{header_of, new_contents, new_file, snapshot_at, Contents, IsBlank}
use Rattle.fk_lives.specs.Damages.{HasHeader, IsHeaderDamagedAt}
use Rattle.fk_lives.specs.Standing.{LeadsTo, Stands, Tell}
use Rattle.fk_lives.specs.Ways.{Disks, disks, GoOn}
use Rattle.fk_lives.proofs.Fronts.{new_are, new_is, new_stands, not_blank}
use Rattle.fk_lives.proofs.Headers.{has_header, header_is_whole, one_header, snapshot_within}
use Rattle.fk_lives.proofs.Roads.{goes_end, goes_then}
use Rattle.fk_shelf.specs.Opening.{IsBlankOrNew, IsFoundDamagedAt, IsOpened, IsOpeningDamage, IsSnapshotCut, MayBecome, StandOn, StandsForOne}
use Rattle.fk_shelf.proofs.NewFile.{on_ok}
use Rattle.fk_shelf.proofs.Calls.{a_calls, a_passes, b_calls}

-- ---- one file

-- a file that a read gave, and nothing else, is what each image is while it is read
pub only_read : (content : List ℕ) (start now : ℕ) (before after : ℕ → List ℕ → Type 0) →
    LeavesOnly content (before start) → Elapses Stays start now before after →
    Passes (λ image. image ≡ content) start now before after
only_read content start now before after only call =
    passes_call Stays (λ image. image ≡ content) (λ image. image ≡ content) start now before after only call
    (λ image is. is) (λ earlier image was same. same ∙ was)

-- it is made anew where it is blank
pub made_anew : (told told_now : Bool) (content : List ℕ) (start middle now : ℕ)
    (before between after : ℕ → List ℕ → Type 0) → told_now ≡ told →
    ((at : ℕ) (image : List ℕ) → after at image → IsTrue told_now) → (IsTrue told → IsBlank content) →
    LeavesOnly content (before start) → Elapses Stays start middle before between →
    Passes IsBlankOrNew middle now between after → Passes (MayBecome content) start now before after
made_anew told told_now content start middle now before between after same tells blank only read made =
    passes_then (MayBecome content) start middle now before between after
    (passes_call Stays (λ image. image ≡ content) (MayBecome content) start middle before between only read
    (λ image is. inl is) (λ earlier image was same. inl (same ∙ was)))
    (record {
      onward = made.onward;
      kept = made.kept;
      since = λ at image from to is.
          inr (blank (subst IsTrue same (tells at image is)), made.since at image from to is);
    })

-- each image of a blank file that was read is blank
pub blank_images : (told told_now : Bool) (content : List ℕ) (start now : ℕ) (before after : ℕ → List ℕ → Type 0) →
    told_now ≡ told → ((image : List ℕ) → after now image → IsTrue told_now) → (IsTrue told → IsBlank content) →
    LeavesOnly content (before start) → Elapses Stays start now before after → EachImage (after now) IsBlank
blank_images told told_now content start now before after tell_same tells blank only read image is =
    let same : image ≡ content =
    holds_now (λ image. image ≡ content) start now before after
    (only_read content start now before after only read) image is in
    subst IsBlank (sym same) (blank (subst IsTrue tell_same (tells image is)))

-- what was found of both files at their opening
pub opened_so : {T E : Type 0} (result : Result T E) (b b_one a a_one a_two a_now : List ℕ) → b_one ≡ b → a_one ≡ a →
    a_now ≡ a_two → IsBlank b_one → IsOpened a_one a_two → OnOk result (IsBlank b × IsOpened a a_now)
opened_so result b b_one a a_one a_two a_now same_b same_a same_now blank opened =
    on_ok result (IsBlank b × IsOpened a a_now) (
      subst IsBlank same_b blank,
      subst (λ file. IsOpened file a_now) same_a (subst (λ file. IsOpened a_one file) (sym same_now) opened),
    )

-- a new file isn't damaged
new_is_whole : (at : ℕ) → ¬ IsFoundDamagedAt at (length new_file) new_file
new_is_whole at (inl wrong) =
    header_is_whole (header_of new_contents) new_file at
    (has_header new_contents new_is.rest new_file new_are new_is.whole) wrong
new_is_whole at (inr (here, (header, right, short))) =
    let has : HasHeader (header_of new_contents) new_file =
    has_header new_contents new_is.rest new_file new_are new_is.whole in
    let same : header ≡ header_of new_contents = one_header (header_of new_contents) header new_file has right in
    omega (arith, short, ap (λ h. h.length) same, snapshot_within new_contents new_is.rest new_file new_is.whole)

as_damage : (at : ℕ) (file : List ℕ) → IsFoundDamagedAt at (length file) file →
    IsHeaderDamagedAt at file ⊎ ((at ≡ snapshot_at) × IsSnapshotCut file)
as_damage at file (inl wrong) = inl wrong
as_damage at file (inr (here, (header, right, short))) =
    inr (here, record { header = header; right = right; cut = short })

-- a damage that is found in A is one of a file that was there
pub damaged_so : (b b_one a a_one a_two a_now b_now : List ℕ) (damage : Damage) → b_one ≡ b → b_now ≡ b_one →
    a_one ≡ a → a_now ≡ a_two → IsBlank b_one → IsOpened a_one a_two → damage ≡ record { file = A; at = damage.at } →
    IsFoundDamagedAt damage.at (length a_two) a_two →
    IsOpeningDamage a b damage × (a_now ≡ a) × (b_now ≡ b)
damaged_so b b_one a a_one a_two a_now b_now damage same_b stays_b same_a stays_a blank (inl (other, same)) file found =
    let is : a_two ≡ a = same ∙ same_a in (
      inr (
        file,
        subst IsBlank same_b blank,
        subst (λ f. ¬ IsBlank f) same_a other,
        as_damage damage.at a (subst (λ f. IsFoundDamagedAt damage.at (length f) f) is found),
      ),
      stays_a ∙ is,
      stays_b ∙ same_b,
    )
damaged_so b b_one a a_one a_two a_now b_now damage same_b stays_b same_a stays_a blank (inr (was, new)) file found =
    absurd (new_is_whole damage.at (subst (λ f. IsFoundDamagedAt damage.at (length f) f) new found))

-- ---- a pair of files

-- what a pair stands for whose file A is blank is the empty state
empty_kept : (a b : List ℕ) (kept : KeptState) (told : Option Contents) → IsBlank a → Tell a b told →
    LeadsTo told kept → kept ≡ empty
empty_kept a b kept None blank tells leads = leads
empty_kept a b kept (Some contents) blank tells leads = absurd (not_blank contents a tells.0 blank)

-- so it still stands for it, be A blank or new
made_stands : (a b now : List ℕ) (kept : KeptState) → IsBlank a → IsBlank b → IsBlankOrNew now → Stands a b kept →
    Stands now b kept
made_stands a b now kept blank blank_b (inl also) stands =
    let leads : kept ≡ empty = empty_kept a b kept stands.told blank stands.tells stands.leads in
    record { told = None; tells = (also, blank_b); leads = leads }
made_stands a b now kept blank blank_b (inr new) stands =
    subst (λ k. Stands now b k) (sym (empty_kept a b kept stands.told blank stands.tells stands.leads))
    (subst (λ file. Stands file b empty) (sym new) (new_stands b blank_b))

-- what may become of A stands for one of the same two states
became : (a now b : List ℕ) (kept other : KeptState) → IsBlank b → MayBecome a now → StandsForOne kept other a b →
    StandsForOne kept other now b
became a now b kept other blank (inl same) stands =
    subst (λ file. StandsForOne kept other file b) (sym same) stands
became a now b kept other blank (inr (was, new)) (inl stands) = inl (made_stands a b now kept was blank new stands)
became a now b kept other blank (inr (was, new)) (inr stands) = inr (made_stands a b now other was blank new stands)

-- ---- both disks

-- one call after another
pub stand_then : (before between after : Disks) → StandOn before between → StandOn between after →
    StandOn before after
stand_then before between after first second = record {
  each = λ kept other holds.
      let one : GoOn (StandsForOne kept other) before between = first.each kept other holds in
      goes_then (StandsForOne kept other) before between after one
      (second.each kept other (goes_end (StandsForOne kept other) before between one));
}

-- A is only read or synced
pub stand_a : (start now at_b : ℕ) (before after images_b : ℕ → List ℕ → Type 0) →
    Elapses Stays start now before after →
    StandOn (disks start before at_b images_b) (disks now after at_b images_b)
stand_a start now at_b before after images_b call = record {
  each = λ kept other holds. a_calls (StandsForOne kept other) Stays start now at_b before after images_b holds call
      (λ earlier a b stands same. subst (λ image. StandsForOne kept other image b) (sym same) stands);
}

-- B is only read or synced
pub stand_b : (at_a start now : ℕ) (images_a before after : ℕ → List ℕ → Type 0) →
    Elapses Stays start now before after →
    StandOn (disks at_a images_a start before) (disks at_a images_a now after)
stand_b at_a start now images_a before after call = record {
  each = λ kept other holds. b_calls (StandsForOne kept other) Stays at_a start now images_a before after holds call
      (λ a earlier b stands same. subst (λ image. StandsForOne kept other a image) (sym same) stands);
}

-- A is made anew where it is blank, while B is blank
pub stand_made : (told told_now : Bool) (content : List ℕ) (start now at_b : ℕ)
    (before after images_b : ℕ → List ℕ → Type 0) → told_now ≡ told →
    ((at : ℕ) (image : List ℕ) → after at image → IsTrue told_now) → (IsTrue told → before start content) →
    EachImage (images_b at_b) IsBlank → Passes (MayBecome content) start now before after →
    StandOn (disks start before at_b images_b) (disks now after at_b images_b)
stand_made told told_now content start now at_b before after images_b same tells read blank made = record {
  each = λ kept other holds.
      let One : List ℕ → Type 0 = λ image. MayBecome content image × IsTrue told in
      let told_so : Passes One start now before after = record {
        onward = made.onward;
        kept = made.kept;
        since = λ at image from to is. (made.since at image from to is, subst IsTrue same (tells at image is));
      } in
      a_passes (StandsForOne kept other) One start now at_b before after images_b told_so
      (λ a b (become, known) there. became content a b kept other (blank b there) become
      (holds content b (read known) there));
}
