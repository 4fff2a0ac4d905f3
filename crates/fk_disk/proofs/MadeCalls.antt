-- What the calls of a disk in memory make of its images.
use Rattle.std.proofs.Common.{◌≡◌, ℕ, List, [], ◌∷◌, ◌++◌, length, subst}
use Rattle.fk_disk.specs.Steps.{Overwrites, CutsBack, Stays}
use Rattle.fk_disk.specs.Moments.{Elapses, LeavesAll, LeavesOnly}
use Rattle.fk_disk.specs.Since.{Since, after_write, after_cut, after_sync}
use Rattle.fk_disk.specs.DiskState.{images_of}
use Rattle.fk_disk.specs.Held.{IsHeld}
use Rattle.fk_disk.proofs.Written.{write_leaves, write_reaches}
use Rattle.fk_disk.proofs.CutShort.{cut_leaves, cut_reaches}
use Rattle.fk_disk.proofs.Synced.{sync_leaves}
use Rattle.fk_disk.proofs.Elapsing.{call_elapses, call_reaches, image_of_now}

-- a write, at each moment since its start
pub write_elapses : (at count : ℕ) (past later : List Since) (now next : Since) (content : List ℕ) →
    IsHeld content now → later ≡ past ++ now ∷ [] → next ≡ after_write now at count →
    Elapses (Overwrites at count) (length past) (length later) (images_of past now) (images_of later next)
write_elapses at count past later now next content held passed wrote =
    rw (passed, wrote) (call_elapses (Overwrites at count) past now (after_write now at count)
    (λ image is. write_leaves content now at count image held is))

-- and all that it may leave at its end
pub write_leaves_all : (at count : ℕ) (past later : List Since) (now next : Since) (content : List ℕ) →
    IsHeld content now → later ≡ past ++ now ∷ [] → next ≡ after_write now at count →
    LeavesAll (Overwrites at count) (images_of past now (length past)) (images_of later next (length later))
write_leaves_all at count past later now next content held passed wrote =
    rw (passed, wrote) (call_reaches (Overwrites at count) past now (after_write now at count)
    (λ image bytes after. write_reaches content now at count image held bytes after))

-- a cut, at each moment since its start
pub cut_elapses : (len : ℕ) (past later : List Since) (now next : Since) (content : List ℕ) →
    IsHeld content now → later ≡ past ++ now ∷ [] → next ≡ after_cut now len →
    Elapses (CutsBack len) (length past) (length later) (images_of past now) (images_of later next)
cut_elapses len past later now next content held passed was_cut =
    rw (passed, was_cut) (call_elapses (CutsBack len) past now (after_cut now len)
    (λ image is. cut_leaves content now len image held is))

-- and all that it may leave at its end
pub cut_leaves_all : (len : ℕ) (past later : List Since) (now next : Since) (content : List ℕ) →
    IsHeld content now → later ≡ past ++ now ∷ [] → next ≡ after_cut now len →
    LeavesAll (CutsBack len) (images_of past now (length past)) (images_of later next (length later))
cut_leaves_all len past later now next content held passed was_cut =
    rw (passed, was_cut) (call_reaches (CutsBack len) past now (after_cut now len)
    (λ image bytes after. cut_reaches content now len image held bytes after))

-- a good sync, at each moment since its start
pub sync_elapses : (past later : List Since) (now next : Since) (content : List ℕ) →
    IsHeld content now → later ≡ past ++ now ∷ [] → next ≡ after_sync content →
    Elapses Stays (length past) (length later) (images_of past now) (images_of later next)
sync_elapses past later now next content held passed synced =
    rw (passed, synced) (call_elapses Stays past now (after_sync content)
    (λ image is. (content, held.read, sync_leaves content image is)))

-- and the content alone at its end
pub sync_leaves_only : (later : List Since) (next : Since) (content : List ℕ) →
    next ≡ after_sync content → LeavesOnly content (images_of later next (length later))
sync_leaves_only later next content synced image is =
    sync_leaves content image (image_of_now later (after_sync content) image
    (subst (λ done. images_of later done (length later) image) synced is))

-- what a good sync makes of the images
pub ruleset syncs = (sync_elapses, sync_leaves_only)
