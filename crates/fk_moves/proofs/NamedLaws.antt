-- Flags, texts, and what may be absent, are fields.
use Rattle.std.proofs.Common.{◌≡◌, ℕ, zero, suc, ◌<◌, ◌≤◌, Bool, true, false, List, [], ◌∷◌, ◌++◌, length, Option, None, Some, refl, ap, ◌∙◌, arith}
use Rattle.std.specs.Prelude.{IfSome, All, nat_le, ◌==◌, ◌&&◌}
use Rattle.std.specs.List.{flat_map}
use Rattle.std.proofs.lemmas.List.{append-nil}
use Rattle.std.proofs.lemmas.Bool.Decides.{nat_tests}
use Rattle.fk_time.specs.Moments.{greatest}
use Rattle.fk_job.specs.Spellings.{IsMoment, IsText}
use Rattle.fk_model.specs.Spellings.{AreTexts}
use Rattle.fk_moves.specs.Spelling.{count_bytes, flag_bytes, option_bytes, text_bytes, texts_bytes, word_bytes}
use Rattle.fk_moves.specs.Fields.{Field, nothing, part, so_many, times}
use Rattle.fk_moves.specs.Parts.{word, count, choice, between, moment, bit_of, flag, is_there, choose_absent, optional, text, texts}
use Rattle.fk_moves.proofs.FieldLaws.{IsField}
use Rattle.fk_moves.proofs.PartLaw.{choose_law, nothing_law, part_law}
use Rattle.fk_moves.proofs.ByteLaws.{byte_law, so_many_law, times_law}
use Rattle.fk_moves.proofs.Guards.{count_field, between_law, has_between, between_has}

pub choice_law : (least most : ℕ) → least ≤ most → most < 256 → IsField (choice least most)
unfolding choice
choice_law least most le lt =
    byte_law (λ byte. nat_le least byte && nat_le byte most) least (omega arith) (grind (arith, nat_tests))

pub moment_law : IsField moment
moment_law = between_law 0 greatest (omega arith) (omega arith)

pub moment_has : (n : ℕ) → IsMoment n → moment.Has n
moment_has n le = between_has 0 greatest n (omega arith) le (omega arith)

pub has_moment : (n : ℕ) → moment.Has n → IsMoment n
has_moment n has = (has_between 0 greatest n (omega arith) (omega arith) has).1

pub moment_spelled : (n : ℕ) → moment.spelled n ≡ word_bytes n
unfolding between word word_bytes
moment_spelled n = refl

pub word_spelled : (n : ℕ) → word.spelled n ≡ word_bytes n
unfolding word word_bytes
word_spelled n = refl

-- ---- flags

flag_belongs : (bit : ℕ) (v : Bool) → (choice 0 1).Has bit → (nothing (bit == 1)).Has v → Some (bit_of v) ≡ Some bit
unfolding choice
flag_belongs zero v has is = ap (λ b. Some (bit_of b)) is
flag_belongs (suc zero) v has is = ap (λ b. Some (bit_of b)) is
flag_belongs (suc (suc bit)) v has is = absurd (grind (arith, nat_tests, has.1))

pub flag_law : IsField flag
unfolding flag
flag_law = part_law (λ value. Some (bit_of value)) (choice 0 1) (λ bit. nothing (bit == 1))
    (choice_law 0 1 (omega arith) (omega arith)) (λ bit _. nothing_law (bit == 1)) flag_belongs

pub flag_has : (v : Bool) → flag.Has v
unfolding flag choice
flag_has true = ((omega arith, refl), refl)
flag_has false = ((omega arith, refl), refl)

pub flag_spelled : (v : Bool) → flag.spelled v ≡ flag_bytes v
unfolding flag choice
flag_spelled true = refl
flag_spelled false = refl

-- ---- what may be absent

absent_law : {T : Type 0} (field : Field T) (bit : ℕ) → IsField field → IsField (choose_absent field bit)
absent_law field bit law =
    choose_law (bit == 0) (nothing None) (part (λ value. value) field (λ value. nothing (Some value))) (nothing_law None)
    (part_law (λ value. value) field (λ value. nothing (Some value)) law (λ value _. nothing_law (Some value)) (λ found v _ is. is))

absent_belongs : {T : Type 0} (field : Field T) (bit : ℕ) (v : Option T) → (choice 0 1).Has bit
    → (choose_absent field bit).Has v → Some (is_there v) ≡ Some bit
unfolding choice
absent_belongs field zero v has is = ap (λ o. Some (is_there o)) is
absent_belongs field (suc zero) None has is = absurd is
absent_belongs field (suc zero) (Some v) has is = refl
absent_belongs field (suc (suc bit)) v has is = absurd (grind (arith, nat_tests, has.1))

pub optional_law : {T : Type 0} (field : Field T) → IsField field → IsField (optional field)
unfolding optional
optional_law field law =
    part_law (λ value. Some (is_there value)) (choice 0 1) (choose_absent field)
    (choice_law 0 1 (omega arith) (omega arith)) (λ bit _. absent_law field bit law) (absent_belongs field)

pub optional_has : {T : Type 0} (field : Field T) (v : Option T) → IfSome v field.Has → (optional field).Has v
unfolding optional choice
optional_has field None has = ((omega arith, refl), refl)
optional_has field (Some v) has = ((omega arith, refl), (has, refl))

pub has_optional : {T : Type 0} (field : Field T) (v : Option T) → (optional field).Has v → IfSome v field.Has
unfolding optional choice
has_optional field None has = tt
has_optional field (Some v) has = has.1.0

pub optional_spelled : {T : Type 0} (field : Field T) (spelled : T → List ℕ) (v : Option T)
    → IfSome v (λ x. field.spelled x ≡ spelled x) → (optional field).spelled v ≡ option_bytes spelled v
unfolding optional choice
optional_spelled field spelled None is = refl
optional_spelled field spelled (Some v) is = ap (λ (b : List ℕ). 1 ∷ b) (append-nil (field.spelled v) ∙ is)

-- ---- texts

pub text_law : IsField text
unfolding text
text_law = part_law (λ bytes. Some (length bytes)) count so_many count_field (λ n _. so_many_law n)
    (λ n v _ has. ap (λ (k : ℕ). Some k) has.1)

pub text_has : (v : List ℕ) → IsText v → text.Has v
unfolding text count
text_has v is = (is.short, (is.bytes, refl))

pub has_text : (v : List ℕ) → text.Has v → IsText v
unfolding text count
has_text v has = record { bytes = has.1.0; short = has.0 }

pub text_spelled : (v : List ℕ) → text.spelled v ≡ text_bytes v
unfolding text count count_bytes
text_spelled v = refl

pub times_long : {A : Type 0} (field : Field A) (n : ℕ) (v : List A) → (times field n).Has v → length v ≡ n
unfolding times
times_long field zero v is = ap length is
times_long field (suc n) [] has = absurd has
times_long field (suc n) (x ∷ v) has = ap suc (times_long field n v has.1.0)

pub has_times : {A : Type 0} (field : Field A) (n : ℕ) (v : List A) → (times field n).Has v → All field.Has v
unfolding times
has_times field zero v is k d lt = absurd (omega (arith, ap length is))
has_times field (suc n) [] has k d lt = absurd has
has_times field (suc n) (x ∷ v) has zero d lt = has.0
has_times field (suc n) (x ∷ v) has (suc k) d lt = has_times field n v has.1.0 k d (omega arith)

pub times_has : {A : Type 0} (field : Field A) (v : List A) → All field.Has v → (times field (length v)).Has v
unfolding times
times_has field [] all = refl
times_has field (x ∷ v) all = (all 0 x (omega arith), (times_has field v (λ k d lt. all (suc k) d (omega arith)), refl))

pub times_spelled : {A : Type 0} (field : Field A) (spelled : A → List ℕ) (v : List A)
    → ((x : A) → field.spelled x ≡ spelled x) → (times field (length v)).spelled v ≡ flat_map spelled v
unfolding times
times_spelled field spelled [] same = refl
times_spelled field spelled (x ∷ v) same =
    ap (λ (b : List ℕ). b ++ ((times field (length v)).spelled v ++ [])) (same x)
    ∙ ap (λ (b : List ℕ). spelled x ++ b) (append-nil _ ∙ times_spelled field spelled v same)

pub texts_law : IsField texts
unfolding texts
texts_law = part_law (λ all. Some (length all)) count (times text) count_field (λ n _. times_law text n text_law)
    (λ n v _ has. ap (λ (k : ℕ). Some k) (times_long text n v has))

pub texts_has : (v : List (List ℕ)) → AreTexts v → texts.Has v
unfolding texts count
texts_has v is = (is.short, times_has text v (λ k d lt. text_has _ (is.each k d lt)))

pub has_texts : (v : List (List ℕ)) → texts.Has v → AreTexts v
unfolding texts count
has_texts v has = record { each = λ k d lt. has_text _ (has_times text (length v) v has.1 k d lt); short = has.0 }

pub texts_spelled : (v : List (List ℕ)) → texts.spelled v ≡ texts_bytes v
unfolding texts count count_bytes
texts_spelled v = ap (λ (b : List ℕ). count_bytes (length v) ++ b) (times_spelled text text_bytes v text_spelled)
