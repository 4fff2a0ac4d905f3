-- The two calls that a turn makes of a shelf: what is owed is settled, and a piece is appended.
use Rattle.std.proofs.Common.{◌≡◌, inl, inr, refl, sym, ap, subst, ◌∙◌, arith, ℕ, ◌+◌, Bool, true, IsTrue, List, [], ◌∷◌, length, length-append, Option, None, Some}
use Rattle.std.specs.Prelude.{◌⊎◌, is_some, option_map}
use Rattle.fk_journal.specs.JournalState.{JournalState}
use Rattle.fk_journal.specs.Passing.{EachImage, Passes}
use Rattle.fk_journal.specs.Pieces.{closed_gate, framed, numbered, opened, HasGained}
use Rattle.fk_journal.specs.Standing.{IsAtRest, IsWithOrWithout}
use Rattle.fk_model.specs.declared.move_.Move.{Move}
use Rattle.fk_model.specs.State.{KeptState}
use Rattle.fk_model.specs.Changes.{after_moves}
use Rattle.fk_moves.specs.Spelling.{moves_bytes}
use Rattle.fk_lives.specs.Files.{IsBlank}
use Rattle.fk_lives.specs.Doubt.{StandsWithDoubt}
use Rattle.fk_lives.specs.Ways.{disks, GoOn}
use Rattle.fk_shelf.specs.ShelfState.{ShelfState}
use Rattle.fk_shelf.proofs.Calls.{a_passes}
use Rattle.fk_desk.specs.Keeping.{StandsWithOrWithout}
use Rattle.fk_store.specs.StoreState.{IsOwedFor, IsWritten, MayFollow}
use Rattle.fk_store.specs.Turning.{AreSound, TellsKept, disks_of}
use Rattle.fk_store.proofs.Owing.{either_stands, rest_stands, written_more}

-- ---- what a crash may leave

-- only disk A is called, and this holds of each of its images since
shelf_goes : {D : Type 0} (Holds : List ℕ → List ℕ → Type 0) (One : List ℕ → Type 0) (told told_now : Bool)
    (moment : D → ℕ) (images : D → ℕ → List ℕ → Type 0) (before after : ShelfState D) → told_now ≡ told →
    ((at : ℕ) (image : List ℕ) → images after.live.disk at image → IsTrue told_now) →
    after.other ≡ before.other → EachImage (images before.other (moment before.other)) IsBlank →
    Passes One (moment before.live.disk) (moment after.live.disk)
    (images before.live.disk) (images after.live.disk) →
    (IsTrue told → (a b : List ℕ) → One a → IsBlank b → Holds a b) →
    GoOn Holds (disks_of moment images before) (disks_of moment images after)
shelf_goes {D} Holds One told told_now moment images before after same_told tells same blank passed holds =
    let sure : Passes (λ image. IsTrue told × One image) (moment before.live.disk) (moment after.live.disk)
    (images before.live.disk) (images after.live.disk) = record {
      onward = passed.onward;
      kept = passed.kept;
      since = λ at image from to is. (subst IsTrue same_told (tells at image is), passed.since at image from to is);
    } in
    subst (λ (other : D). GoOn Holds (disks_of moment images before)
    (disks (moment after.live.disk) (images after.live.disk) (moment other) (images other))) (sym same)
    (a_passes Holds (λ image. IsTrue told × One image) (moment before.live.disk) (moment after.live.disk)
    (moment before.other) (images before.live.disk) (images after.live.disk) (images before.other) sure
    (λ a b one there. holds one.0 a b one.1 (blank b there)))

-- what is owed is settled, or stays so
pub settle_goes : {D : Type 0} (told told_now : Bool) (moment : D → ℕ) (images : D → ℕ → List ℕ → Type 0)
    (before after : ShelfState D) (kept : KeptState) (doubt : Option (List Move)) → told_now ≡ told →
    ((at : ℕ) (image : List ℕ) → images after.live.disk at image → IsTrue told_now) →
    after.other ≡ before.other → EachImage (images before.other (moment before.other)) IsBlank →
    TellsKept told before kept doubt →
    Passes (IsAtRest before.live.front before.live.owed) (moment before.live.disk) (moment after.live.disk)
    (images before.live.disk) (images after.live.disk) →
    GoOn (StandsWithDoubt kept doubt) (disks_of moment images before) (disks_of moment images after)
settle_goes told told_now moment images before after kept doubt same_told tells same blank known passed =
    let live = before.live in
    shelf_goes (StandsWithDoubt kept doubt) (IsAtRest live.front live.owed) told told_now moment images before after
    same_told tells same blank passed
    (λ is a b rest there. rest_stands live.front kept live.number live.place live.owed doubt a b
    (known.written is) (known.owed is) rest there)

-- a piece is appended
pub append_goes : {D : Type 0} (told told_now : Bool) (moment : D → ℕ) (images : D → ℕ → List ℕ → Type 0)
    (before after : ShelfState D) (kept : KeptState) (doubt : Option (List Move)) (moves : List Move)
    (piece : List ℕ) → told_now ≡ told →
    ((at : ℕ) (image : List ℕ) → images after.live.disk at image → IsTrue told_now) →
    after.other ≡ before.other → EachImage (images before.other (moment before.other)) IsBlank →
    TellsKept told before kept doubt → MayFollow kept before.live.number moves →
    piece ≡ framed before.live.number (moves_bytes moves) →
    Passes (IsWithOrWithout before.live.front piece) (moment before.live.disk) (moment after.live.disk)
    (images before.live.disk) (images after.live.disk) →
    GoOn (StandsWithOrWithout kept moves) (disks_of moment images before) (disks_of moment images after)
append_goes told told_now moment images before after kept doubt moves piece
    same_told tells same blank known follow framed_is passed =
    let live = before.live in
    shelf_goes (StandsWithOrWithout kept moves) (IsWithOrWithout live.front piece) told told_now moment images
    before after same_told tells same blank passed
    (λ is a b either there. either_stands live.front kept live.number live.place moves piece a b
    (known.written is) follow framed_is either there)

-- between calls each pair of images stands for what is kept
pub rests_sound : {D : Type 0} (told : Bool) (moment : D → ℕ) (images : D → ℕ → List ℕ → Type 0)
    (shelf : ShelfState D) (kept : KeptState) (doubt : Option (List Move)) →
    ((at : ℕ) (image : List ℕ) → images shelf.live.disk at image → IsTrue told) →
    EachImage (images shelf.other (moment shelf.other)) IsBlank →
    (IsTrue shelf.live.done →
    EachImage (images shelf.live.disk (moment shelf.live.disk)) (IsAtRest shelf.live.front shelf.live.owed)) →
    TellsKept told shelf kept doubt → AreSound (disks_of moment images shelf) kept doubt
rests_sound told moment images shelf kept doubt tells blank rests known a b here there =
    let live = shelf.live in
    let is : IsTrue told = tells (moment live.disk) a here in
    rest_stands live.front kept live.number live.place live.owed doubt a b (known.written is) (known.owed is)
    (rests known.done a here) (blank b there)

-- ---- what the live file tells

map_some : {S : Type 0} (moves_in : S → List Move) (doubt : Option S) →
    is_some (option_map moves_in doubt) ≡ is_some doubt
map_some moves_in None = refl
map_some moves_in (Some held) = refl

-- what holds of a store, where what is in doubt is held with more than its moves
pub as_told : {D S : Type 0} (told : Bool) (shelf : ShelfState D) (kept : KeptState) (moves_in : S → List Move)
    (doubt : Option S) → IsTrue shelf.live.done → is_some doubt ≡ is_some shelf.live.owed →
    (IsTrue told → IsWritten shelf.live.front kept shelf.live.number shelf.live.place
    × IsOwedFor kept shelf.live.number shelf.live.owed (option_map moves_in doubt)) →
    TellsKept told shelf kept (option_map moves_in doubt)
as_told told shelf kept moves_in doubt done both known = record {
  done = done;
  both = map_some moves_in doubt ∙ both;
  written = λ is. (known is).0;
  owed = λ is. (known is).1;
}

-- what is the same of two states of a live file
pub record StaysPut {D : Type 0} (told told_now : Bool) (before after : JournalState D) : Type 0 where
  pub tells : told_now ≡ told
  pub begun : after.done ≡ before.done
  pub number_ : after.number ≡ before.number
  pub place_ : after.place ≡ before.place
  pub front_ : IsTrue told → after.front ≡ before.front

-- what was written is still
still_written : {D : Type 0} (told told_now : Bool) (before after : JournalState D) (kept : KeptState) →
    StaysPut told told_now before after → IsTrue told →
    IsWritten before.front kept before.number before.place → IsWritten after.front kept after.number after.place
still_written told told_now before after kept stays is written =
    rw (stays.front_ is, stays.number_, stays.place_) written

-- it was settled
pub settled_tells : {D : Type 0} (told told_now : Bool) (before after : ShelfState D) (kept : KeptState)
    (doubt : Option (List Move)) → TellsKept told before kept doubt → StaysPut told told_now before.live after.live →
    after.live.owed ≡ None → TellsKept told_now after kept None
settled_tells told told_now before after kept doubt known stays paid = record {
  done = subst IsTrue (sym stays.begun) known.done;
  both = rw paid refl;
  written = λ is.
      let was : IsTrue told = subst IsTrue stays.tells is in
      still_written told told_now before.live after.live kept stays was (known.written was);
  owed = λ is. rw paid tt;
}

some_is : {A : Type 0} (option : Option A) → (option ≡ None → ⊥) → is_some option ≡ true
some_is None none = absurd (none refl)
some_is (Some x) none = refl

-- it wasn't: the piece is still owed
pub unsettled_tells : {D : Type 0} (told told_now : Bool) (before after : ShelfState D) (kept : KeptState)
    (doubt : Option (List Move)) → TellsKept told before kept doubt → StaysPut told told_now before.live after.live →
    (before.live.owed ≡ None → ⊥) → is_some after.live.owed ≡ true →
    (IsTrue told → after.live.owed ≡ before.live.owed) → TellsKept told_now after kept doubt
unsettled_tells told told_now before after kept doubt known stays some still same = record {
  done = subst IsTrue (sym stays.begun) known.done;
  both = known.both ∙ some_is before.live.owed some ∙ sym still;
  written = λ is.
      let was : IsTrue told = subst IsTrue stays.tells is in
      still_written told told_now before.live after.live kept stays was (known.written was);
  owed = λ is.
      let was : IsTrue told = subst IsTrue stays.tells is in
      rw (stays.number_, same was) (known.owed was);
}

-- the piece was appended
pub appended_tells : {D : Type 0} (told told_now : Bool) (before after : ShelfState D) (kept : KeptState)
    (moves : List Move) (piece : List ℕ) (was doubt : Option (List Move)) → doubt ≡ None →
    TellsKept told before kept was → MayFollow kept before.live.number moves →
    piece ≡ framed before.live.number (moves_bytes moves) → told_now ≡ told →
    after.live.done ≡ before.live.done → after.live.number ≡ before.live.number + 1 →
    after.live.place ≡ before.live.place + length piece →
    (IsTrue told → HasGained before.live.number piece before.live.front after.live.front) → after.live.owed ≡ None →
    TellsKept told_now after (after_moves kept moves) doubt
appended_tells told told_now before after kept moves piece was doubt
    none known follow is tells begun number place gained paid =
    let live = before.live in
    let bytes = moves_bytes moves in
    let long : length piece ≡ length (opened live.number bytes) =
    ap length is ∙ length-append (numbered live.number bytes) (closed_gate ∷ []) ∙ omega arith in
    record {
      done = subst IsTrue (sym begun) known.done;
      both = rw (none, paid) refl;
      written = λ now.
          let was : IsTrue told = subst IsTrue tells now in
          let there : after.live.place ≡ live.place + length (opened live.number bytes) = omega (arith, place, long) in
          rw (gained was bytes is, number, there)
          (written_more live.front kept live.number live.place moves (known.written was) follow);
      owed = λ now. rw (none, paid) tt;
    }

-- a piece that is owed is that of the moves in doubt
owed_now : (kept : KeptState) (number : ℕ) (moves : List Move) (piece : List ℕ) (owed : Option (List ℕ))
    (doubt : Option (List Move)) → piece ≡ framed number (moves_bytes moves) → MayFollow kept number moves →
    is_some doubt ≡ is_some owed → (doubt ≡ None) ⊎ (doubt ≡ Some moves) → (owed ≡ None) ⊎ (owed ≡ Some piece) →
    IsOwedFor kept number owed doubt
owed_now kept number moves piece None None is follow both doubted owes = tt
owed_now kept number moves piece None (Some others) is follow both doubted owes = cc
owed_now kept number moves piece (Some bytes) None is follow both doubted owes = cc
owed_now kept number moves piece (Some bytes) (Some others) is follow both (inl none) owes = cc
owed_now kept number moves piece (Some bytes) (Some others) is follow both (inr same) (inl none) = cc
owed_now kept number moves piece (Some bytes) (Some others) is follow both (inr same) (inr this) =
    let own : others ≡ moves = cc in
    let own_bytes : bytes ≡ piece = cc in
    rw own (own_bytes ∙ is, follow)

-- it wasn't, and is owed or not
pub refused_tells : {D : Type 0} (told told_now : Bool) (before after : ShelfState D) (kept : KeptState)
    (moves : List Move) (piece : List ℕ) (was doubt : Option (List Move)) → TellsKept told before kept was →
    MayFollow kept before.live.number moves → piece ≡ framed before.live.number (moves_bytes moves) →
    StaysPut told told_now before.live after.live →
    (IsTrue told → (after.live.owed ≡ None) ⊎ (after.live.owed ≡ Some piece)) →
    is_some doubt ≡ is_some after.live.owed → (doubt ≡ None) ⊎ (doubt ≡ Some moves) →
    TellsKept told_now after kept doubt
refused_tells told told_now before after kept moves piece was doubt known follow is stays owes both doubted = record {
  done = subst IsTrue (sym stays.begun) known.done;
  both = both;
  written = λ now.
      let old : IsTrue told = subst IsTrue stays.tells now in
      still_written told told_now before.live after.live kept stays old (known.written old);
  owed = λ now. rw stays.number_
      (owed_now kept before.live.number moves piece after.live.owed doubt is follow both doubted
      (owes (subst IsTrue stays.tells now)));
}
