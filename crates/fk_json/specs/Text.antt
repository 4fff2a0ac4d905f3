-- Where the bytes of a text lie.
use Rattle.std.specs.Prelude.{ℕ, List}
use Rattle.fk_json.specs.declared.form.Form.{Form}
use Rattle.fk_json.specs.declared.form.Form.TheVariants.{Fixed, Short, Owned}

-- a fixed text is what it points to, a short one what stands in it, and any other what it owns
abbrev pub bytes_of : Form → List ℕ
bytes_of (Fixed bytes) = bytes.now
bytes_of (Short bytes) = bytes
bytes_of (Owned bytes) = bytes.items
