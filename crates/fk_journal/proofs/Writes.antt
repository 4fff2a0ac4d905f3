-- What a write that is made sure of does to the images of a file.
use Rattle.std.proofs.Common.{◌≡◌, ℕ, ◌+◌, ap, sym, subst, List, [], ◌∷◌, length, take, drop, Bool, IsTrue, Result, Ok, Err, OnErr, OnOk}
use Rattle.fk_disk.specs.Moments.{Elapses, LeavesOnly}
use Rattle.fk_disk.specs.Steps.{Overwrites, overwritten}
use Rattle.fk_journal.specs.Passing.{EachImage, Passes}
use Rattle.fk_journal.specs.Pieces.{HasGained, IsClosedAfter}
use Rattle.fk_journal.specs.Standing.{HasBehind, IsPrepared, IsWith, IsInDoubt}
use Rattle.fk_journal.proofs.Files.{closed_stays, piece_stands, front_is, front_within, gate_is_at, gate_stands}
use Rattle.fk_journal.proofs.Files.{doubt_at, doubt_front, doubt_piece, doubt_stays, gained}
use Rattle.fk_journal.proofs.Passed.{passes_call, holds_now, holds_surely}

-- a disk now: only one that tells has images, and then what a read gives is one of them
pub record IsDisk (told : Bool) (content : List ℕ) (images : List ℕ → Type 0) : Type 0 where
  pub tells : (image : List ℕ) → images image → IsTrue told
  pub read : IsTrue told → images content

-- the piece is written behind the closed gate
pub preparing : (place count : ℕ) (content : List ℕ) (start now : ℕ) (before after : ℕ → List ℕ → Type 0) →
    EachImage (before start) (IsClosedAfter (take place content)) →
    Elapses (Overwrites (place + 1) count) start now before after →
    Passes (IsClosedAfter (take place content)) start now before after
preparing place count content start now before after closed since =
    let front : List ℕ = take place content in
    passes_call (Overwrites (place + 1) count) (IsClosedAfter front) (IsClosedAfter front) start now before after
    closed since (λ image is. is)
    (λ earlier image is over. closed_stays front earlier image (place + 1) count (front_within place content) is over)

-- the gate is at its place in each image
at_place : (place : ℕ) (told : Bool) (content : List ℕ) (images : List ℕ → Type 0) →
    IsDisk told content images → EachImage images (IsClosedAfter (take place content)) → IsTrue told →
    place ≡ length (take place content)
at_place place told content images disk closed tells =
    gate_is_at place content (closed content (disk.read tells))

-- the piece was written there, and made sure of
pub prepared : (place : ℕ) (piece : List ℕ) (told told_now : Bool) (content after : List ℕ)
    (before images : List ℕ → Type 0) → told_now ≡ told →
    IsDisk told content before → IsDisk told_now after images →
    EachImage before (IsClosedAfter (take place content)) →
    (IsTrue told → after ≡ overwritten content (place + 1) piece) → LeavesOnly after images →
    EachImage images (IsPrepared (take place content) piece)
prepared place piece told told_now content after before images same disk disk_now closed written sure =
    let front : List ℕ = take place content in
    let Before : List ℕ → Type 0 = λ file. (place ≡ length front) × IsClosedAfter front file in
    holds_surely Before (IsPrepared front piece) told told_now (place + 1) piece content after before images same
    disk_now.tells disk.read
    (λ image is. (at_place place told content before disk closed (disk.tells image is), closed image is))
    written sure
    (λ file is. piece_stands front piece file (place + 1) (ap (λ n. n + 1) is.0) is.1)

-- the same where the call went well
pub prepared_ok : {T E : Type 0} (result : Result T E) (place : ℕ) (piece : List ℕ) (told told_now : Bool)
    (content after : List ℕ) (before images : List ℕ → Type 0) → told_now ≡ told →
    IsDisk told content before → IsDisk told_now after images →
    EachImage before (IsClosedAfter (take place content)) →
    (IsTrue told → OnOk result (after ≡ overwritten content (place + 1) piece)) →
    OnOk result (LeavesOnly after images) →
    OnOk result (EachImage images (IsPrepared (take place content) piece))
prepared_ok (Ok _) place piece told told_now content after before images same disk disk_now closed written sure =
    prepared place piece told told_now content after before images same disk disk_now closed written sure
prepared_ok (Err _) place piece told told_now content after before images same disk disk_now closed written sure = tt

-- what a read gives up to the closed gate stays
pub stays_closed : (place : ℕ) (told told_now : Bool) (content after : List ℕ) (start now : ℕ)
    (before images : ℕ → List ℕ → Type 0) → told_now ≡ told →
    IsDisk told content (before start) → IsDisk told_now after (images now) →
    EachImage (before start) (IsClosedAfter (take place content)) →
    Passes (IsClosedAfter (take place content)) start now before images →
    IsTrue told → take place after ≡ take place content
stays_closed place told told_now content after start now before images same disk disk_now closed passed tells =
    let front : List ℕ = take place content in
    let is : IsClosedAfter front after =
    holds_now (IsClosedAfter front) start now before images passed after (disk_now.read (subst IsTrue (sym same) tells)) in
    front_is front after place (at_place place told content (before start) disk closed tells) is

-- the gate of a piece in doubt is at its place
doubt_at_place : (place : ℕ) (piece : List ℕ) (told : Bool) (content : List ℕ) (images : List ℕ → Type 0) →
    IsDisk told content images → EachImage images (IsInDoubt (take place content) piece) → IsTrue told →
    place ≡ length (take place content)
doubt_at_place place piece told content images disk doubt tells =
    doubt_at place piece content (doubt content (disk.read tells))

-- the gate of a piece in doubt is written
pub gate_passes : (place : ℕ) (piece : List ℕ) (told : Bool) (content : List ℕ) (start now : ℕ)
    (before after : ℕ → List ℕ → Type 0) → IsDisk told content (before start) →
    EachImage (before start) (IsInDoubt (take place content) piece) →
    Elapses (Overwrites place 1) start now before after →
    Passes (IsInDoubt (take place content) piece) start now before after
gate_passes place piece told content start now before after disk doubt since =
    let front : List ℕ = take place content in
    let Before : List ℕ → Type 0 = λ file. (place ≡ length front) × IsInDoubt front piece file in
    passes_call (Overwrites place 1) Before (IsInDoubt front piece) start now before after
    (λ image is. (doubt_at_place place piece told content (before start) disk doubt (disk.tells image is), doubt image is))
    since (λ image is. is.1)
    (λ earlier image is over. doubt_stays front piece earlier image place is.0 is.1 over)

-- it was written, and made sure of
pub gate_sure : {T E : Type 0} (result : Result T E) (gate place : ℕ) (piece : List ℕ) (told told_now : Bool)
    (content after : List ℕ) (before images : List ℕ → Type 0) → told_now ≡ told →
    IsDisk told content before → IsDisk told_now after images →
    EachImage before (IsInDoubt (take place content) piece) →
    (IsTrue told → OnOk result (after ≡ overwritten content place (gate ∷ []))) →
    OnOk result (LeavesOnly after images) →
    OnOk result (EachImage images (HasBehind (take place content) gate piece))
gate_sure (Ok _) gate place piece told told_now content after before images same disk disk_now doubt written sure =
    let front : List ℕ = take place content in
    let Before : List ℕ → Type 0 = λ file. (place ≡ length front) × IsInDoubt front piece file in
    holds_surely Before (HasBehind front gate piece) told told_now place (gate ∷ []) content after before images same
    disk_now.tells disk.read
    (λ image is. (doubt_at_place place piece told content before disk doubt (disk.tells image is), doubt image is))
    written sure
    (λ file is. gate_stands front piece file gate place is.0 is.1)
gate_sure (Err _) gate place piece told told_now content after before images same disk disk_now doubt written sure = tt

-- what a read gives since: the same up to the gate, and the piece behind it
pub doubt_read : (place : ℕ) (piece : List ℕ) (told told_now : Bool) (content after : List ℕ) (start now : ℕ)
    (before images : ℕ → List ℕ → Type 0) → told_now ≡ told →
    IsDisk told content (before start) → IsDisk told_now after (images now) →
    EachImage (before start) (IsInDoubt (take place content) piece) →
    Passes (IsInDoubt (take place content) piece) start now before images →
    IsTrue told →
    (take place after ≡ take place content) × (take (length piece) (drop (place + 1) after) ≡ piece)
doubt_read place piece told told_now content after start now before images same disk disk_now doubt passed tells =
    let front : List ℕ = take place content in
    let is : IsInDoubt front piece after =
    holds_now (IsInDoubt front piece) start now before images passed after (disk_now.read (subst IsTrue (sym same) tells)) in
    let is_at : place ≡ length front = doubt_at_place place piece told content (before start) disk doubt tells in
    (doubt_front front piece after place is_at is, doubt_piece front piece after place is_at is)

-- what it gives where the gate was opened and made sure of
pub gains : (number place : ℕ) (piece : List ℕ) (told told_now : Bool) (content after : List ℕ)
    (before images : List ℕ → Type 0) → told_now ≡ told →
    IsDisk told content before → IsDisk told_now after images →
    EachImage before (IsInDoubt (take place content) piece) →
    EachImage images (IsWith (take place content) piece) →
    IsTrue told → HasGained number piece (take place content) (take (place + length piece) after)
gains number place piece told told_now content after before images same disk disk_now doubt with tells moves is =
    let front : List ℕ = take place content in
    let stands : IsWith front piece after = with after (disk_now.read (subst IsTrue (sym same) tells)) in
    let is_at : place ≡ length front = doubt_at_place place piece told content before disk doubt tells in
    gained number moves front piece after place is is_at stands

-- what holds anyway holds where a call failed
pub on_err : {T E : Type 0} (result : Result T E) (Fact : Type 0) → Fact → OnErr result Fact
on_err (Ok _) Fact fact = tt
on_err (Err _) Fact fact = fact
