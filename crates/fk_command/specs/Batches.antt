-- How a batch is read, element by element.
use Rattle.std.specs.Prelude.{◌≡◌, ℕ, List, [], ◌∷◌, ◌++◌}
use Rattle.serde_json.specs.Data.{no_members}
use Rattle.serde_json.specs.View.{members_view}
use Rattle.fk_json.specs.declared.span.Span.{Span}
use Rattle.fk_model.specs.Payloads.{AreElements, Element, IsElement, jobs_among, refusals}
use Rattle.fk_command.specs.declared.batch.ReadBatch.{ReadBatch}

-- one element of this text was read behind the others: its job was added, or its refusal put
pub record Grows (text : List ℕ) (old new : ReadBatch) : Type 0 where
  pub element : Element
  pub is_read : IsElement text element
  pub jobs : new.jobs.items ≡ old.jobs.items ++ jobs_among (element ∷ [])
  pub reasons : members_view new.refusals.entries ≡ refusals (element ∷ []) (members_view old.refusals.entries)

-- the batch is what was read at these places of a text
pub record IsReadAs (text : List ℕ) (spans : List Span) (batch : ReadBatch) : Type 0 where
  pub elements : List Element
  pub are_read : AreElements text spans elements
  pub jobs : batch.jobs.items ≡ jobs_among elements
  pub reasons : members_view batch.refusals.entries ≡ refusals elements no_members
