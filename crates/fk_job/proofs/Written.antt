-- The members that are written for a job, as pieces: strings, numbers and a failure of two levels.
use Rattle.std.proofs.Common.{◌≡◌, inl, inr, ℕ, suc, ◌^◌, ◌<◌, Bool, true, false, if◌then◌else◌, IfSome, List, [], ◌∷◌, ◌++◌, Option, None, Some, codes, decimal, map, IsUtf8, refl, sym, ap, subst, ◌∙◌}
use Rattle.std.proofs.lemmas.List.{append_assoc, append-nil}
use Rattle.std.proofs.lemmas.List.Concat.{flat_map-append}
use Rattle.std.specs.List.{AllByRecursion, flat_map}
use Rattle.fk_json.specs.String.{spelling}
use Rattle.fk_json.specs.Json.{IsValue}
use Rattle.fk_time.specs.Moments.{moment_text}
use Rattle.fk_job.specs.declared.job.Job.{Job}
use Rattle.fk_job.specs.declared.failure.Failure.{Failure}
use Rattle.fk_job.specs.declared.stamp.Stamp.{Stamp}
use Rattle.fk_job.specs.Again.{HasCount, HasUtf8, HasUtf8Texts}
use Rattle.fk_job.specs.RowText.{failure_text, further, further_created, further_failure, further_moment, further_strings, row_text, written_member}
use Rattle.fk_job.proofs.Strings.{join-cons}
use Rattle.fk_job.proofs.Pieces.{Piece, joined, piece_text}
use Rattle.fk_job.proofs.Built.{IsPiece, array_of, is_array, is_object, members_of, object_of}
use Rattle.fk_job.proofs.Spelled.{moment_utf8, number_value, plain_utf8, spelled, string_value}

-- ---- pieces behind others

-- each piece behind a comma
abbrev more : List Piece → List ℕ
more pieces = flat_map (λ piece. 44 ∷ piece_text piece) pieces

joined_more : (piece : Piece) (pieces : List Piece) → joined (piece ∷ pieces) ≡ piece_text piece ++ more pieces
joined_more piece pieces = join-cons 44 piece_text piece pieces

joined_append : (piece : Piece) (pieces others : List Piece)
    → joined ((piece ∷ pieces) ++ others) ≡ joined (piece ∷ pieces) ++ more others
joined_append piece pieces others =
    joined_more piece (pieces ++ others)
    ∙ ap (λ x. piece_text piece ++ x) (flat_map-append (λ p. 44 ∷ piece_text p) pieces others)
    ∙ sym (append_assoc (piece_text piece) (more pieces) (more others))
    ∙ ap (λ x. x ++ more others) (sym (joined_more piece pieces))

more_append : (pieces others : List Piece) → more (pieces ++ others) ≡ more pieces ++ more others
more_append pieces others = flat_map-append (λ p. 44 ∷ piece_text p) pieces others

pub all_append : (P : Piece → Type 0) (pieces others : List Piece) → AllByRecursion P pieces → AllByRecursion P others
    → AllByRecursion P (pieces ++ others)
all_append P [] others f g = g
all_append P (piece ∷ pieces) others f g = (f.0, all_append P pieces others f.1 g)

-- ---- the pieces

abbrev pub written : List ℕ → List ℕ → Piece
written name value = record { spelled = spelling name; name = name; value = value }

abbrev pub moment_pieces : List ℕ → Option ℕ → List Piece
moment_pieces name None = []
moment_pieces name (Some moment) = written name (spelling (moment_text moment)) ∷ []

abbrev strings_pieces : List ℕ → List (List ℕ) → List Piece
strings_pieces name [] = []
strings_pieces name (text ∷ texts) = written name (array_of (map spelling (text ∷ texts))) ∷ []

further_is : (name value : List ℕ) → further name value ≡ more (written name value ∷ [])
unfolding further written_member
further_is name value = sym (append-nil (44 ∷ piece_text (written name value)))

further_moment_is : (name : List ℕ) (moment : Option ℕ) → further_moment name moment ≡ more (moment_pieces name moment)
unfolding further_moment
further_moment_is name None = refl
further_moment_is name (Some moment) = further_is name (spelling (moment_text moment))

further_strings_is : (name : List ℕ) (texts : List (List ℕ)) → further_strings name texts ≡ more (strings_pieces name texts)
unfolding further_strings
further_strings_is name [] = refl
further_strings_is name (text ∷ texts) = further_is name (array_of (map spelling (text ∷ texts)))

-- ---- what they are

utf8_name : (name : List ℕ) (value : List ℕ) (levels : ℕ) → IsUtf8 name → IsValue levels value
    → IsPiece levels (written name value)
utf8_name name value levels utf8 is = record { named = spelled name utf8; valued = is }

pub string_piece : (levels : ℕ) (name value : List ℕ) → IsUtf8 name → IsUtf8 value
    → IsPiece levels (written name (spelling value))
string_piece levels name value named utf8 = utf8_name name (spelling value) levels named (string_value levels value utf8)

pub moment_are : (levels : ℕ) (name : List ℕ) (moment : Option ℕ) → IsUtf8 name
    → AllByRecursion (IsPiece levels) (moment_pieces name moment)
moment_are levels name None named = tt
moment_are levels name (Some moment) named =
    (string_piece levels name (moment_text moment) named (moment_utf8 moment), tt)

strings_values : (levels : ℕ) (texts : List (List ℕ)) → AllByRecursion IsUtf8 texts
    → AllByRecursion (IsValue levels) (map spelling texts)
strings_values levels [] each = tt
strings_values levels (text ∷ texts) each = (string_value levels text each.0, strings_values levels texts each.1)

strings_are : (levels : ℕ) (name : List ℕ) (texts : List (List ℕ)) → IsUtf8 name → AllByRecursion IsUtf8 texts
    → AllByRecursion (IsPiece (suc levels)) (strings_pieces name texts)
strings_are levels name [] named each = tt
strings_are levels name (text ∷ texts) named each = (
  utf8_name name (array_of (map spelling (text ∷ texts))) (suc levels) named
      (inr (inl (is_array levels (spelling text) (map spelling texts) (strings_values levels (text ∷ texts) each)))),
  tt,
)

-- ---- a failure

abbrev count_piece : Failure → Piece
count_piece failure = written (codes "retry_count") (decimal failure.count)

abbrev failed_pieces : Failure → List Piece
failed_pieces failure =
    (written (codes "failed_at") (spelling (moment_text failure.failed)) ∷ [])
    ++ moment_pieces (codes "next_at") failure.next
    ++ (written (codes "errtype") (spelling failure.errtype) ∷ [])
    ++ (written (codes "message") (spelling failure.message) ∷ [])
    ++ strings_pieces (codes "backtrace") failure.backtrace

more_five : (a b c d e : List Piece) → more (a ++ b ++ c ++ d ++ e) ≡ more a ++ more b ++ more c ++ more d ++ more e
more_five a b c d e =
    more_append (a ++ b ++ c ++ d) e
    ∙ ap (λ x. x ++ more e) (more_append (a ++ b ++ c) d
    ∙ ap (λ x. x ++ more d) (more_append (a ++ b) c
    ∙ ap (λ x. x ++ more c) (more_append a b)))

around_six : (head a b c d e : List ℕ)
    → codes "{" ++ head ++ a ++ b ++ c ++ d ++ e ++ codes "}" ≡ codes "{" ++ (head ++ (a ++ b ++ c ++ d ++ e)) ++ codes "}"
around_six head a b c d e = simp append_assoc refl

six_same : (head a b c d e f g h i j : List ℕ) → a ≡ f → b ≡ g → c ≡ h → d ≡ i → e ≡ j
    → codes "{" ++ head ++ a ++ b ++ c ++ d ++ e ++ codes "}" ≡ codes "{" ++ head ++ f ++ g ++ h ++ i ++ j ++ codes "}"
six_same head a b c d e f g h i j p q r s t = rw (p, q, r, s, t) refl

failure_object : (failure : Failure) → failure_text failure ≡ object_of (count_piece failure ∷ failed_pieces failure)
unfolding failure_text written_member
failure_object failure =
    let a = written (codes "failed_at") (spelling (moment_text failure.failed)) ∷ [] in
    let b = moment_pieces (codes "next_at") failure.next in
    let c = written (codes "errtype") (spelling failure.errtype) ∷ [] in
    let d = written (codes "message") (spelling failure.message) ∷ [] in
    let e = strings_pieces (codes "backtrace") failure.backtrace in
    six_same (piece_text (count_piece failure)) _ _ _ _ _ (more a) (more b) (more c) (more d) (more e)
    (further_is (codes "failed_at") (spelling (moment_text failure.failed)))
    (further_moment_is (codes "next_at") failure.next)
    (further_is (codes "errtype") (spelling failure.errtype))
    (further_is (codes "message") (spelling failure.message))
    (further_strings_is (codes "backtrace") failure.backtrace)
    ∙ around_six (piece_text (count_piece failure)) (more a) (more b) (more c) (more d) (more e)
    ∙ ap (λ x. codes "{" ++ (piece_text (count_piece failure) ++ x) ++ codes "}") (sym (more_five a b c d e))
    ∙ ap (λ x. codes "{" ++ x ++ codes "}") (sym (joined_more (count_piece failure) (failed_pieces failure)))

failed_are : (levels : ℕ) (failure : Failure) → HasUtf8 failure
    → AllByRecursion (IsPiece (suc levels)) (failed_pieces failure)
failed_are levels failure utf8 =
    let P = IsPiece (suc levels) in
    let a = written (codes "failed_at") (spelling (moment_text failure.failed)) ∷ [] in
    let b = moment_pieces (codes "next_at") failure.next in
    let c = written (codes "errtype") (spelling failure.errtype) ∷ [] in
    let d = written (codes "message") (spelling failure.message) ∷ [] in
    let e = strings_pieces (codes "backtrace") failure.backtrace in
    all_append P (a ++ b ++ c ++ d) e
    (all_append P (a ++ b ++ c) d
    (all_append P (a ++ b) c
    (all_append P a b (
      string_piece (suc levels) (codes "failed_at") (moment_text failure.failed)
          (plain_utf8 (codes "failed_at") refl) (moment_utf8 failure.failed),
      tt,
    )
    (moment_are (suc levels) (codes "next_at") failure.next (plain_utf8 (codes "next_at") refl)))
    (string_piece (suc levels) (codes "errtype") failure.errtype (plain_utf8 (codes "errtype") refl) utf8.errtype, tt))
    (string_piece (suc levels) (codes "message") failure.message (plain_utf8 (codes "message") refl) utf8.message, tt))
    (strings_are levels (codes "backtrace") failure.backtrace (plain_utf8 (codes "backtrace") refl) utf8.backtrace)

failure_value : (levels : ℕ) (failure : Failure) → failure.count < 2 ^ 64 → HasUtf8 failure
    → IsValue (suc (suc levels)) (failure_text failure)
failure_value levels failure fits utf8 =
    let first = utf8_name (codes "retry_count") (decimal failure.count) (suc levels)
    (plain_utf8 (codes "retry_count") refl) (number_value (suc levels) failure.count fits) in
    subst (IsValue (suc (suc levels))) (sym (failure_object failure))
    (inr (inr (
      members_of 1 (count_piece failure ∷ failed_pieces failure),
      is_object (suc levels) 0 (count_piece failure) (failed_pieces failure) (first, failed_are levels failure utf8),
    )))

abbrev pub failure_pieces : Option Failure → List Piece
failure_pieces None = []
failure_pieces (Some failure) = written (codes "failure") (failure_text failure) ∷ []

further_failure_is : (failure : Option Failure) → further_failure failure ≡ more (failure_pieces failure)
unfolding further_failure
further_failure_is None = refl
further_failure_is (Some failure) = further_is (codes "failure") (failure_text failure)

failure_are : (levels : ℕ) (failure : Option Failure) → IfSome failure (λ f. f.count < 2 ^ 64) → IfSome failure HasUtf8
    → AllByRecursion (IsPiece (suc (suc levels))) (failure_pieces failure)
failure_are levels None fits utf8 = tt
failure_are levels (Some failure) fits utf8 = (
  utf8_name (codes "failure") (failure_text failure) (suc (suc levels)) (plain_utf8 (codes "failure") refl)
      (failure_value levels failure fits utf8),
  tt,
)

-- ---- a job's text

abbrev pub created_pieces : Bool → ℕ → List Piece
created_pieces true created = []
created_pieces false created = moment_pieces (codes "created_at") (Some created)

if_created : (has : Bool) (created : ℕ)
    → (if has then [] else further_moment (codes "created_at") (Some created)) ≡ more (created_pieces has created)
if_created true created = refl
if_created false created = further_moment_is (codes "created_at") (Some created)

further_created_is : (job : Job) (stamp : Stamp)
    → further_created job stamp ≡ more (created_pieces job.has_created stamp.created)
unfolding further_created
further_created_is job stamp = if_created job.has_created stamp.created

created_are : (levels : ℕ) (has : Bool) (created : ℕ)
    → AllByRecursion (IsPiece levels) (created_pieces has created)
created_are levels true created = tt
created_are levels false created =
    moment_are levels (codes "created_at") (Some created) (plain_utf8 (codes "created_at") refl)

abbrev pub queue_piece : List ℕ → Piece
queue_piece queue = written (codes "queue") (spelling queue)

-- what stands behind the queue
abbrev pub behind_queue : Job → Stamp → List Piece
behind_queue job stamp =
    created_pieces job.has_created stamp.created
    ++ moment_pieces (codes "enqueued_at") stamp.enqueued
    ++ failure_pieces stamp.failure

abbrev pub added : Job → Stamp → List Piece
added job stamp = queue_piece job.queue ∷ behind_queue job stamp

around_five : (body a b c d : List ℕ)
    → codes "{" ++ body ++ a ++ b ++ c ++ d ++ codes "}" ≡ codes "{" ++ (body ++ (a ++ (b ++ c ++ d))) ++ codes "}"
around_five body a b c d = simp append_assoc refl

five_same : (body other a b c d e f g h : List ℕ) → body ≡ other → a ≡ e → b ≡ f → c ≡ g → d ≡ h
    → codes "{" ++ body ++ a ++ b ++ c ++ d ++ codes "}" ≡ codes "{" ++ other ++ e ++ f ++ g ++ h ++ codes "}"
five_same body other a b c d e f g h p q r s t = rw (p, q, r, s, t) refl

more_three : (a b c : List Piece) → more (a ++ b ++ c) ≡ more a ++ more b ++ more c
more_three a b c = more_append (a ++ b) c ∙ ap (λ x. x ++ more c) (more_append a b)

-- the text is an object of the body's pieces and those that are added
pub row_object : (job : Job) (stamp : Stamp) (piece : Piece) (pieces : List Piece) → job.body ≡ joined (piece ∷ pieces)
    → row_text job stamp ≡ object_of ((piece ∷ pieces) ++ added job stamp)
unfolding row_text
row_object job stamp piece pieces body =
    let a = queue_piece job.queue ∷ [] in
    let b = created_pieces job.has_created stamp.created in
    let c = moment_pieces (codes "enqueued_at") stamp.enqueued in
    let d = failure_pieces stamp.failure in
    five_same job.body (joined (piece ∷ pieces)) _ _ _ _ (more a) (more b) (more c) (more d) body
    (further_is (codes "queue") (spelling job.queue))
    (further_created_is job stamp)
    (further_moment_is (codes "enqueued_at") stamp.enqueued)
    (further_failure_is stamp.failure)
    ∙ around_five (joined (piece ∷ pieces)) (more a) (more b) (more c) (more d)
    ∙ ap (λ x. codes "{" ++ (joined (piece ∷ pieces) ++ (more a ++ x)) ++ codes "}") (sym (more_three b c d))
    ∙ ap (λ x. codes "{" ++ (joined (piece ∷ pieces) ++ x) ++ codes "}") (sym (more_append a (b ++ c ++ d)))
    ∙ ap (λ x. codes "{" ++ x ++ codes "}") (sym (joined_append piece pieces (added job stamp)))

pub added_are : (levels : ℕ) (job : Job) (stamp : Stamp) → IsUtf8 job.queue → HasCount stamp → HasUtf8Texts stamp
    → AllByRecursion (IsPiece (suc (suc levels))) (added job stamp)
added_are levels job stamp queue fits utf8 =
    let P = IsPiece (suc (suc levels)) in
    let b = created_pieces job.has_created stamp.created in
    let c = moment_pieces (codes "enqueued_at") stamp.enqueued in
    let d = failure_pieces stamp.failure in (
      string_piece (suc (suc levels)) (codes "queue") job.queue (plain_utf8 (codes "queue") refl) queue,
      all_append P (b ++ c) d
          (all_append P b c
          (created_are (suc (suc levels)) job.has_created stamp.created)
          (moment_are (suc (suc levels)) (codes "enqueued_at") stamp.enqueued (plain_utf8 (codes "enqueued_at") refl)))
          (failure_are levels stamp.failure fits utf8),
    )
