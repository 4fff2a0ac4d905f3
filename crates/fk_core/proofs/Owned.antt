-- What is said of a row's pair in any queue, or under any jid, holds in its own queue and under its own jid.
use Rattle.std.proofs.Common.{◌≡◌, ℕ, List, true, refl}
use Rattle.std.specs.Prelude.{IfSome, bytes_eq}
use Rattle.std.proofs.lemmas.Slice.Eq.{bytes_eq-Decides}
use Rattle.fk_model.specs.declared.row.Row.{Row}
use Rattle.fk_model.specs.declared.place.Place.TheVariants.{Queued, Working}
use Rattle.fk_core.specs.Index.{waiting_pair, lease_pair}

itself : (name : List ℕ) → bytes_eq name name ≡ true
itself name = (bytes_eq-Decides name name).1 refl

pub in_own_queue : (ticket : ℕ) (row : Row) (rank : ℕ) (P : ℕ × ℕ → Type 0) → row.place ≡ Queued rank
    → IfSome (waiting_pair row.job.queue ticket row) P → P (rank, ticket)
in_own_queue ticket row rank P at holds = rw (at, itself row.job.queue) at holds

pub under_own_jid : (ticket : ℕ) (row : Row) (wid : List ℕ) (since until : ℕ) (P : ℕ × ℕ → Type 0)
    → row.place ≡ Working wid since until → IfSome (lease_pair row.job.jid ticket row) P → P (ticket, until)
under_own_jid ticket row wid since until P at holds = rw (at, itself row.job.jid) at holds
