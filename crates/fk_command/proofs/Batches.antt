-- A batch is read element by element, and answered when it is read whole.
use Rattle.std.proofs.Common.{◌≡◌, ◌∙◌, inl, ℕ, zero, suc, ◌+◌, ◌<◌, false, List, [], ◌∷◌, ◌++◌, slice_range, refl, sym, ap, Result, Ok, Err, IfOk, OnOk, arith, take, length, slice_index_or}
use Rattle.std.proofs.Math.Seq.{take-suc}
use Rattle.std.specs.List.{AllByRecursion}
use Rattle.std.proofs.lemmas.List.{append-nil}
use Rattle.serde_json.specs.Data.{Members, no_members, object, put, string}
use Rattle.serde_json.specs.View.{members_view}
use Rattle.serde_json.specs.Written.{compact_text, members_have_float}
use Rattle.fk_json.specs.declared.span.Span.{Span}
use Rattle.fk_json.specs.Members.{IsElementIn, inner_levels}
use Rattle.fk_json.specs.Json.{IsArrayText, most_levels}
use Rattle.fk_job.specs.declared.job.Job.{Job}
use Rattle.fk_job.specs.declared.fault.JobFault.{JobFault}
use Rattle.fk_job.specs.JobText.{HasFault, IsJobOf}
use Rattle.fk_model.specs.declared.ask.Ask.TheVariants.{PushBatch}
use Rattle.fk_model.specs.declared.item.Item.{Item}
use Rattle.fk_model.specs.declared.item.Item.TheVariants.{Asks}
use Rattle.fk_model.specs.Payloads.{AreElements, Element, taken, barred, HasKey, IsBatch, IsElement, batch_text, fault_text, jobs_among, refusals}
use Rattle.fk_command.specs.declared.batch.ReadBatch.{ReadBatch}
use Rattle.fk_command.specs.Batches.{Grows, IsReadAs}
use Rattle.fk_command.proofs.RefusalsPut.{refused_without_float}

-- one more element behind those that were read
are_elements-snoc : (text : List ℕ) (spans : List Span) (elements : List Element) (span : Span) (element : Element)
    → AreElements text spans elements → IsElement (slice_range text span.from span.to) element
    → AreElements text (spans ++ span ∷ []) (elements ++ element ∷ [])
are_elements-snoc text [] [] span element are is = (is, tt)
are_elements-snoc text [] (first ∷ elements) span element are is = absurd are
are_elements-snoc text (place ∷ spans) [] span element are is = absurd are
are_elements-snoc text (place ∷ spans) (first ∷ elements) span element are is =
    (are.0, are_elements-snoc text spans elements span element are.1 is)

jobs_among-append : (front back : List Element)
    → jobs_among (front ++ back) ≡ jobs_among front ++ jobs_among back
jobs_among-append [] back = refl
jobs_among-append (taken job ∷ front) back = ap (λ jobs. job ∷ jobs) (jobs_among-append front back)
jobs_among-append (barred key reason ∷ front) back = jobs_among-append front back

refusals-append : (front back : List Element) (told : Members)
    → refusals (front ++ back) told ≡ refusals back (refusals front told)
refusals-append [] back told = refl
refusals-append (taken job ∷ front) back told = refusals-append front back told
refusals-append (barred key reason ∷ front) back told =
    refusals-append front back (put key (string reason) told)

-- the next element was read
pub reads_next : (text : List ℕ) (spans : List Span) (span : Span) (old new : ReadBatch)
    → IsReadAs text spans old → Grows (slice_range text span.from span.to) old new
    → IsReadAs text (spans ++ span ∷ []) new
reads_next text spans span old new before grows = record {
  elements = before.elements ++ grows.element ∷ [];
  are_read = are_elements-snoc text spans before.elements span grows.element before.are_read grows.is_read;
  jobs = grows.jobs ∙ ap (λ jobs. jobs ++ jobs_among (grows.element ∷ [])) before.jobs
      ∙ sym (jobs_among-append before.elements (grows.element ∷ []));
  reasons = grows.reasons ∙ ap (refusals (grows.element ∷ [])) before.reasons
      ∙ sym (refusals-append before.elements (grows.element ∷ []) no_members);
}

-- an element is a job, which is kept
pub keeps_element : {E : Type 0} (result : Result (Unit {0}) E) (text : List ℕ) (job : Job) (old new : ReadBatch)
    → IsJobOf text job → OnOk result (new.jobs.items ≡ old.jobs.items ++ job ∷ [])
    → new.refusals ≡ old.refusals → OnOk result (Grows text old new)
keeps_element (Ok done) text job old new is kept same = record {
  element = taken job;
  is_read = is;
  jobs = kept;
  reasons = ap (λ refusals. members_view refusals.entries) same;
}
keeps_element (Err refused) text job old new is kept same = tt

-- an element is none, and its fault is put under its key
pub bars_element : {E : Type 0} (result : Result (Unit {0}) E) (text : List ℕ) (fault : JobFault) (old new : ReadBatch)
    → HasFault text fault
    → OnOk result ((key : List ℕ) × HasKey text key × (members_view new.refusals.entries
    ≡ put key (string (fault_text fault)) (members_view old.refusals.entries)))
    → new.jobs ≡ old.jobs → OnOk result (Grows text old new)
bars_element (Ok done) text fault old new has told same = record {
  element = barred told.0 (fault_text fault);
  is_read = (fault, has, told.1, refl);
  jobs = ap (λ jobs. jobs.items) same ∙ sym (append-nil old.jobs.items);
  reasons = told.2;
}
bars_element (Err refused) text fault old new has told same = tt

-- a place outside of every list
abbrev pub no_span : Span
no_span = record { from = 0; to = 0 }

-- the element at each place stands in the text
pub stands_at : (text : List ℕ) (spans : List Span) (at : ℕ)
    → AllByRecursion (IsElementIn inner_levels text) spans → at < length spans
    → IsElementIn inner_levels text (slice_index_or spans at no_span)
stands_at text [] at each within = absurd (omega arith)
stands_at text (first ∷ spans) zero each within = each.0
stands_at text (first ∷ spans) (suc at) each within = stands_at text spans at each.1 (omega arith)

-- the element at the next place was read
pub reads_on : (text : List ℕ) (spans : List Span) (at : ℕ) (old new : ReadBatch) → at < length spans
    → IsReadAs text (take at spans) old
    → Grows (slice_range text (slice_index_or spans at no_span).from (slice_index_or spans at no_span).to) old new
    → IsReadAs text (take (at + 1) spans) new
reads_on text spans at old new within before grows =
    let next : at + 1 ≡ suc at = omega arith in
    let longer : take (at + 1) spans ≡ take at spans ++ slice_index_or spans at no_span ∷ [] =
    ap (λ count. take count spans) next ∙ take-suc spans at no_span within in
    rw longer (reads_next text (take at spans) _ old new before grows)

-- what a batch that was read whole asks for
asks_for_read : (text : List ℕ) (spans : List Span) (batch : ReadBatch) (item : Item) → IsArrayText most_levels text spans
    → IsReadAs text spans batch
    → item ≡ Asks (PushBatch batch.jobs.items (compact_text (object (members_view batch.refusals.entries))))
    → IsBatch text item
asks_for_read text spans batch item is reads same = inl (
  spans,
  reads.elements,
  is,
  reads.are_read,
  same ∙ ap (λ told. Asks (PushBatch batch.jobs.items (compact_text (object told)))) reads.reasons
      ∙ ap (λ jobs. Asks (PushBatch jobs (batch_text reads.elements))) reads.jobs,
)

pub asks_for_batch : {E : Type 0} (text : List ℕ) (spans : List Span) (batch : ReadBatch) (found : Result Item E)
    → IsArrayText most_levels text spans → IsReadAs text spans batch
    → IfOk found (λ item. item
    ≡ Asks (PushBatch batch.jobs.items (compact_text (object (members_view batch.refusals.entries)))))
    → IfOk found (IsBatch text)
asks_for_batch text spans batch (Ok item) is reads same = asks_for_read text spans batch item is reads same
asks_for_batch text spans batch (Err refused) is reads same = tt

-- no refusal of a batch is a float
pub refusals_without_float : (text : List ℕ) (spans : List Span) (batch : ReadBatch) → IsReadAs text spans batch
    → members_have_float (members_view batch.refusals.entries) ≡ false
refusals_without_float text spans batch reads =
    rw reads.reasons (refused_without_float reads.elements no_members refl)
