-- What a filter is read from, and which rows meet it. The rules are this server's own.
use Rattle.std.specs.Prelude.{ℕ, ◌&&◌, Bool, true, List, [], ◌∷◌, Option, None, Some, bytes_eq, codes, option_and_then, option_map}
use Rattle.std.specs.List.{list_any}
use Rattle.std.specs.Option.{option_map_or}
use Rattle.serde_json.specs.Data.{Data, Members, null, string, array, object}
use Rattle.serde_json.specs.Find.{as_str, get_member}
use Rattle.fk_job.specs.RowText.{row_text}
use Rattle.fk_model.specs.declared.mutation.Filter.{Filter}
use Rattle.fk_model.specs.declared.row.Row.{Row}
use Rattle.fk_model.specs.Glob.{globs}
use Rattle.fk_model.specs.Payloads.{elements}

-- ---- what is read

-- a text, unless it is empty
abbrev pub unless_empty : List ℕ → Option (List ℕ)
unless_empty [] = None
unless_empty (byte ∷ bytes) = Some (byte ∷ bytes)

-- the texts that these are, where each is a string
abbrev pub strings : List Data → Option (List (List ℕ))
strings [] = Some []
strings (element ∷ elements) =
    option_and_then (λ text. option_map (λ texts. text ∷ texts) (strings elements)) (as_str element)

-- the text of a condition: null is none, and so is the empty string
abbrev pub text_of : Data → Option (Option (List ℕ))
text_of null = Some None
text_of (string text) = Some (unless_empty text)
text_of other = None

-- the texts of a condition: null is none
abbrev pub texts_of : Data → Option (Option (List (List ℕ)))
texts_of null = Some None
texts_of (array items) = option_map Some (strings (elements items))
texts_of other = None

-- the text of this name among the members, where none need be
abbrev pub text_in : List ℕ → Members → Option (Option (List ℕ))
text_in name members = option_map_or text_of (get_member name members) (Some None)

-- the texts of this name among them
abbrev pub texts_in : List ℕ → Members → Option (Option (List (List ℕ)))
texts_in name members = option_map_or texts_of (get_member name members) (Some None)

-- the filter of these conditions
abbrev pub filter_with :
    Option (List ℕ) → Option (List (List ℕ)) → Option (List ℕ) → Filter
filter_with jobtype jids glob = record { jobtype = jobtype; jids = jids; glob = glob }

-- the filter without a condition
abbrev pub no_condition : Filter
no_condition = filter_with None None None

-- the filter of an object
abbrev pub filter_in : Members → Option Filter
filter_in members =
    option_and_then (λ jobtype. option_and_then (λ jids. option_map (filter_with jobtype jids)
    (text_in (codes "regexp") members)) (texts_in (codes "jids") members))
    (text_in (codes "jobtype") members)

-- the filter of a value, if it is one: null has no condition
abbrev pub filter_of : Data → Option Filter
filter_of null = Some no_condition
filter_of (object members) = filter_in members
filter_of other = None

-- ---- what meets it

-- a condition that need not be there is met
abbrev pub is_met : {X : Type 0} → (X → Bool) → Option X → Bool
is_met meets condition = option_map_or meets condition true

-- a row of this jid, of this kind by its jobtype, and of this text meets each condition that is there
abbrev pub matches : Filter → List ℕ → List ℕ → List ℕ → Bool
matches filter jid kind text =
    is_met (λ wanted. bytes_eq wanted kind) filter.jobtype
    && (is_met (λ jids. list_any (bytes_eq jid) jids) filter.jids
    && is_met (λ pattern. globs pattern text) filter.glob)

-- the row does: its text is that which a FETCH would give of it as it stands
abbrev pub row_matches : Filter → Row → Bool
row_matches filter row = matches filter row.job.jid row.job.jobtype (row_text row.job row.stamp)
