-- What opening makes of two files, from the shelf that was opened to the end of its replay.
use Rattle.std.proofs.Common.{◌≡◌, ap, sym, subst, ◌∙◌, inl, inr, refl, arith, ℕ, ◌+◌, List, [], take, Bool, false, IsTrue, None, Some}
use Rattle.std.specs.Prelude.{Option, is_some}
use Rattle.std.specs.List.{IsDistinct}
use Rattle.fk_io.proofs.Faults.{on_then_rose}
use Rattle.fk_journal.specs.Causes.{HasFaultCause}
use Rattle.fk_journal.specs.declared.fault.Damage.{Damage}
use Rattle.fk_journal.specs.Passing.{EachImage}
use Rattle.fk_journal.specs.Pieces.{IsClosedAfter, spelled}
use Rattle.fk_journal.specs.Reading.{OnlyReads}
use Rattle.fk_journal.specs.Standing.{IsAtRest}
use Rattle.fk_model.specs.Between.{IsBetweenTurns, IsWellKept}
use Rattle.fk_model.specs.State.{KeptState, Worker, empty, untold, with_workers}
use Rattle.fk_moves.specs.Spelling.{word_bytes}
use Rattle.fk_lives.specs.Causes.{HasDiskCause}
use Rattle.fk_lives.specs.declared.header.Header.{Header}
use Rattle.fk_lives.specs.Doubt.{IsSound}
use Rattle.fk_lives.specs.Damages.{IsDamagedFileAt, IsFirstDamage, IsSnapshotDamaged}
use Rattle.fk_lives.specs.Files.{IsBlank, IsFileOf, new_contents, new_file}
use Rattle.fk_lives.specs.Standing.{HaveNumbers, Stands}
use Rattle.fk_lives.specs.Ways.{Disks, GoOn, disks}
use Rattle.fk_lives.proofs.Fronts.{file_of, new_is, new_stands, not_blank, stands_file}
use Rattle.fk_lives.proofs.OneDamage.{sound}
use Rattle.fk_lives.proofs.OneState.{one_number, one_size, one_state}
use Rattle.fk_lives.proofs.Roads.{goes_end, goes_then}
use Rattle.fk_lives.proofs.WellKept.{untold_within}
use Rattle.fk_shelf.specs.Opening.{Begins, IsOpened, IsOpeningDamage, IsReady, IsSnapshotCut, KeepFiles}
use Rattle.fk_shelf.specs.ShelfState.{ShelfState}
use Rattle.fk_shelf.proofs.Calls.{a_reads}
use Rattle.fk_store.specs.StoreState.{IsOwedFor, IsWritten}
use Rattle.fk_store.specs.Replaying.{HasCome, IsDamageOf}

-- ---- the beginning

-- a replay begins where opening ends
pub begun : {D : Type 0} (told told_now : Bool) (header : Header) (file : List ℕ) (kept : KeptState)
    (shelf : ShelfState D) → Begins header shelf → told_now ≡ told →
    (IsTrue told → IsReady header shelf.live.front file) → kept ≡ untold →
    HasCome (IsTrue told_now) file kept shelf
begun told told_now header file kept shelf begins same ready none = record {
  live = begins.file;
  free = begins.free;
  front = λ tells.
      (ready (subst IsTrue same tells)).read ∙ ap (λ n. take n file) (sym begins.place);
  well = rw none untold_within.well;
  first = λ count some. (
    none,
    (λ tells. let is = ready (subst IsTrue same tells) in record {
      header = header;
      bytes = let both : Some header.length ≡ Some count = sym begins.snapshot ∙ some in cc;
      gate = is.gate;
      right = is.right;
      whole = omega (arith, is.whole, begins.place);
      behind = let both : Some header.length ≡ Some count = sym begins.snapshot ∙ some in
          let one : header.length ≡ count = cc in omega (arith, begins.place, one);
      next = begins.number;
    }),
  );
  later = λ over. let both : None ≡ Some header.length = sym over ∙ begins.snapshot in absurd (cc);
}

-- ---- the end

-- what the live file stands for, with its numbers
pub record IsToldBy (a b : List ℕ) (kept : KeptState) (number size : ℕ) : Type 0 where
  pub stands : Stands a b kept
  pub numbers : HaveNumbers a b number size

told_here : (front file b : List ℕ) (kept : KeptState) (number place : ℕ) → IsWritten front kept number place →
    IsClosedAfter front file → IsBlank b → IsToldBy file b kept number (place + 1)
told_here front file b kept number place written closed blank =
    let is : IsFileOf written.contents file =
    file_of written.contents file written.are (subst (λ xs. IsClosedAfter xs file) written.whole closed) in
    record {
      stands = stands_file written.contents file b kept is blank written.leads;
      numbers = record {
        told = Some written.contents;
        tells = (is, blank);
        next = written.next;
        behind = ap (λ n. n + 1) written.behind;
      };
    }

new_told : (b : List ℕ) → IsBlank b → HaveNumbers new_file b 1 60
unfolding word_bytes spelled
new_told b blank = record { told = Some new_contents; tells = (new_is, blank); next = refl; behind = refl }

-- what a new file stands for is what the blank one in whose place it was made stood for
told_blank : (a file b : List ℕ) (kept : KeptState) (number size : ℕ) → IsBlank a → file ≡ new_file → IsBlank b →
    IsToldBy file b kept number size → IsToldBy a b kept number size
told_blank a file b kept number size blank_a is blank here =
    let stands = rw is at here.stands in
    let numbers = rw is at here.numbers in
    record {
      stands = record {
        told = None;
        tells = (blank_a, blank);
        leads = one_state new_file b empty kept (new_stands b blank) stands;
      };
      numbers = record {
        told = None;
        tells = (blank_a, blank);
        next = one_number new_file b 1 60 number size (new_told b blank) numbers;
        behind = one_size new_file b 1 60 number size (new_told b blank) numbers;
      };
    }

told_opened : (a file b : List ℕ) (kept : KeptState) (number size : ℕ) → IsOpened a file → IsBlank b →
    IsToldBy file b kept number size → IsToldBy a b kept number size
told_opened a file b kept number size (inl (some, same)) blank here =
    subst (λ f. IsToldBy f b kept number size) same here
told_opened a file b kept number size (inr (blank_a, new)) blank here =
    told_blank a file b kept number size blank_a new blank here

-- a replay that came to the end has made what the files stand for
pub told_whole : {D : Type 0} (told : Type 0) (file a b : List ℕ) (kept : KeptState) (shelf : ShelfState D) → told →
    HasCome told file kept shelf → shelf.snapshot ≡ None → IsClosedAfter shelf.live.front file → IsBlank b →
    IsOpened a file → IsToldBy a b kept shelf.live.number (shelf.live.place + 1)
told_whole told file a b kept shelf tells come over closed blank opened =
    told_opened a file b kept shelf.live.number (shelf.live.place + 1) opened blank
    (told_here shelf.live.front file b kept shelf.live.number shelf.live.place (come.later over tells) closed blank)

-- ---- damages

snapshot_cut : (file : List ℕ) → IsSnapshotCut file → IsSnapshotDamaged file
snapshot_cut file cut = record {
  header = cut.header;
  right = cut.right;
  none = λ moves is. omega (arith, cut.cut, is.there);
}

-- a damage that is told before anything is replayed is the first one
pub opening_damage : (a b : List ℕ) (damage : Damage) → IsOpeningDamage a b damage → IsFirstDamage a b damage
opening_damage a b damage (inl other) = inl other
opening_damage a b damage (inr (is, blank, some, inl header)) = inr (is, blank, some, inl header)
opening_damage a b damage (inr (is, blank, some, inr (at, cut))) =
    inr (is, blank, some, inr (inl (at, snapshot_cut a cut)))

-- and so is one that a replay finds: then the file wasn't blank, and was left as it is
pub first_damage : (a b file : List ℕ) (damage : Damage) → IsBlank b → IsOpened a file → IsDamageOf file damage →
    IsFirstDamage a b damage × (file ≡ a)
first_damage a b file damage blank (inl (some, same)) (is, harm) =
    (inr (is, blank, some, subst (λ f. IsDamagedFileAt damage.at f) same harm), same)
first_damage a b file damage blank (inr (blank_a, new)) (is, harm) =
    absurd (sound new_file b empty damage (new_stands b blank)
    (inr (is, blank, not_blank new_contents new_file new_is, subst (λ f. IsDamagedFileAt damage.at f) new harm)))

-- whatever a replay finds, the files were left as opening left them
pub left_files : (a b file : List ℕ) → IsOpened a file → KeepFiles a b file b
left_files a b file (inl (some, same)) = record { first = inl same; second = refl }
left_files a b file (inr (blank, new)) = record { first = inr (blank, inr new); second = refl }

-- ---- what a crash may leave

-- each image of the file that was replayed stands for what was made
pub sound_whole : {D : Type 0} (told : Bool) (file : List ℕ) (kept : KeptState) (shelf : ShelfState D)
    (images_a images_b : List ℕ → Type 0) → ((image : List ℕ) → images_a image → IsTrue told) →
    HasCome (IsTrue told) file kept shelf → shelf.snapshot ≡ None →
    EachImage images_a (IsAtRest shelf.live.front shelf.live.owed) → EachImage images_b IsBlank →
    IsSound kept None images_a images_b
sound_whole told file kept shelf images_a images_b tells come over rest blank a b here there =
    let written = come.later over (tells a here) in
    let closed : IsAtRest shelf.live.front None a =
    subst (λ owed. IsAtRest shelf.live.front owed a) come.free (rest a here) in
    (told_here shelf.live.front a b kept shelf.live.number shelf.live.place written closed (blank b there)).stands

-- opening, and then a replay of A
pub goes_reading : (Holds : List ℕ → List ℕ → Type 0) (before : Disks) (told told_now : Bool)
    (content content_now : List ℕ) (start now at_b : ℕ) (images after images_b : ℕ → List ℕ → Type 0) →
    GoOn Holds before (disks start images at_b images_b) →
    OnlyReads told told_now content content_now start now images after →
    GoOn Holds before (disks now after at_b images_b)
goes_reading Holds before told told_now content content_now start now at_b images after images_b first reads =
    goes_then Holds before (disks start images at_b images_b) (disks now after at_b images_b) first
    (a_reads Holds told told_now content content_now start now at_b images after images_b
    (goes_end Holds before (disks start images at_b images_b) first) reads)

-- ---- what holds of a new store

-- what holds between turns holds of what was made, with no worker
pub between_turns : (kept : KeptState) (workers : List Worker) → IsWellKept kept → workers ≡ [] →
    IsBetweenTurns (with_workers kept workers)
unfolding IsDistinct
between_turns kept workers well none = rw none (record { kept = well; names = tt })

pub none_owed : (owed : Option (List ℕ)) → owed ≡ None → false ≡ is_some owed
none_owed owed none = rw none refl

pub owed_for_none : (kept : KeptState) (number : ℕ) (owed : Option (List ℕ)) → owed ≡ None →
    IsOwedFor kept number owed None
owed_for_none kept number owed none = rw none tt

-- ---- faults

-- the counts of two disks through opening, and then through a replay of A
pub causes_then : (fault : Type 0) (before_a between_a now_a before_b now_b : ℕ) →
    HasDiskCause ⊥ before_a between_a before_b now_b → HasFaultCause fault between_a now_a →
    HasDiskCause fault before_a now_a before_b now_b
causes_then fault before_a between_a now_a before_b now_b first second = record {
  later_a = omega (arith, first.later_a, second.later);
  later_b = first.later_b;
  failed = λ told. inl (on_then_rose before_a between_a now_a first.later_a (second.failed told));
}
