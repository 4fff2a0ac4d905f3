-- What serde_json reads of a text, which has to be UTF-8.
use Rattle.std.proofs.Common.{◌≡◌, ℕ, Bool, false, List, None, Some, ◌↔◌, refl, sym, ◌∙◌, inl, inr}
use Rattle.std.specs.Prelude.{IsTrue, IsUtf8}
use Rattle.std.specs.Str.{is_utf8}
use Rattle.std.proofs.lemmas.Bool.{cases_Bool, false≢true}
use Rattle.std.proofs.lemmas.Str.{IsUtf8-from_is_utf8, is_utf8-from_IsUtf8}
use Rattle.serde_json.specs.Data.{Data}
use Rattle.serde_json.specs.Read.{read}
use Rattle.fk_model.specs.Payloads.{value_read}

pub reads_value : (text : List ℕ) (value : Data) → IsUtf8 text × (read text ≡ Some value)
    → Some value ≡ value_read text
reads_value text value (utf8, is) = rw (is_utf8-from_IsUtf8 text utf8) (sym is)

pub reads_none : (text : List ℕ) → (IsUtf8 text → read text ≡ None) → None ≡ value_read text
reads_none text none =
    elim (cases_Bool (is_utf8 text)) [
      | inl utf8 ↦ rw utf8 (sym (none (IsUtf8-from_is_utf8 text utf8)))
      | inr other ↦ rw other refl
    ]

-- a test that says no
pub says_no : (P : Type 0) (test : Bool) → test ≡ false → IsTrue test ↔ P → ¬ P
says_no P test fails same holds = false≢true (sym fails ∙ same.1 holds)
