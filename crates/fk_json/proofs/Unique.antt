-- An object or an array text has one list of members or elements, and no string is shorter than what
-- it stands for.
use Rattle.std.proofs.Common.{◌≡◌, ◌&&◌, ℕ, suc, ◌+◌, ◌≤◌, Bool, true, false, List, [], ◌∷◌, ◌++◌, length, flat_map, if◌then◌else◌, encode_utf8, refl, sym, ap, subst, ◌∙◌, arith}
use Rattle.std.specs.Char.Utf16.{is_high_surrogate, is_low_surrogate, surrogate_pair_char}
use Rattle.std.proofs.lemmas.List.{append_assoc, length-append}
use Rattle.std.proofs.lemmas.Str.{len_utf8_bounds, length-encode}
use Rattle.fk_json.specs.String.{IsString, Part, byte, letter, unit, code_unit, lone_unit, meaning, part_text}
use Rattle.fk_json.specs.Json.{AreItems, IsArrayText, IsElement, IsMember, IsObjectText, IsSpace, IsValue, is_space}
use Rattle.fk_json.specs.declared.member.Member.{Member}
use Rattle.fk_json.specs.declared.span.Span.{Span}
use Rattle.fk_json.proofs.Levels.{array_more, object_more}
use Rattle.fk_json.proofs.Parts.{tail_of}
use Rattle.fk_json.proofs.ItemsSettled.{IsKind, elements_kind, members_kind}
use Rattle.fk_json.proofs.Settled.{items_same, value_settled}
use Rattle.fk_json.proofs.TokensSame.{spaces_same}

-- ---- one text, one list of items

inner_front : (text before part after inner : List ℕ) (open_byte close : ℕ) → text ≡ before ++ part ++ after
    → part ≡ (open_byte ∷ []) ++ inner ++ (close ∷ []) → text ≡ before ++ (open_byte ∷ (inner ++ close ∷ after))
inner_front text before part after inner open_byte close whole parts =
    whole ∙ append_assoc before part after
    ∙ ap (λ x. before ++ (x ++ after)) parts
    ∙ ap (λ x. before ++ (open_byte ∷ x)) (append_assoc inner (close ∷ []) after)

one_list : {I : Type 0} (IsItem : ℕ → List ℕ → I → Type 0) (close : ℕ) → IsKind IsItem close
    → (open_byte : ℕ) → is_space open_byte ≡ false → (before after inner early late other : List ℕ)
    → (ones others : List I) → IsSpace before → IsSpace early → AreItems IsItem (length before + 1) inner ones
    → AreItems IsItem (length early + 1) other others
    → before ++ (open_byte ∷ (inner ++ close ∷ after)) ≡ early ++ (open_byte ∷ (other ++ close ∷ late)) → ones ≡ others
one_list IsItem close kind open_byte tight before after inner early late other ones others f g h k e =
    let (fronts, behind) = spaces_same before early (open_byte ∷ (inner ++ close ∷ after))
    (open_byte ∷ (other ++ close ∷ late)) f g e tight tight in
    (items_same IsItem close kind (length before + 1) inner other after late ones others h
    (subst (λ x. AreItems IsItem (length x + 1) other others) (sym fronts) k) (tail_of behind)).1

one_object_of : (levels : ℕ) (text : List ℕ) (one other : List Member) → IsObjectText (suc levels) text one
    → IsObjectText (suc levels) text other → one ≡ other
one_object_of levels text one other h k =
    let (inner, items, parts) = h.shaped in
    let (last, lasts, pieces) = k.shaped in
    one_list (IsMember (IsValue levels)) 125 (members_kind levels (value_settled levels)) 123 refl
    h.before h.after inner k.before k.after last one other h.spaces.0 k.spaces.0 items lasts
    (sym (inner_front text h.before h.part h.after inner 123 125 h.whole parts)
    ∙ inner_front text k.before k.part k.after last 123 125 k.whole pieces)

one_array_of : (levels : ℕ) (text : List ℕ) (one other : List Span) → IsArrayText (suc levels) text one
    → IsArrayText (suc levels) text other → one ≡ other
one_array_of levels text one other h k =
    let (inner, items, parts) = h.shaped in
    let (last, lasts, pieces) = k.shaped in
    one_list (IsElement (IsValue levels)) 93 (elements_kind levels (value_settled levels)) 91 refl
    h.before h.after inner k.before k.after last one other h.spaces.0 k.spaces.0 items lasts
    (sym (inner_front text h.before h.part h.after inner 91 93 h.whole parts)
    ∙ inner_front text k.before k.part k.after last 91 93 k.whole pieces)

-- an object text has one list of members, at whatever depth
pub one_object : (levels more : ℕ) (text : List ℕ) (one other : List Member) → IsObjectText levels text one
    → IsObjectText more text other → one ≡ other
one_object levels more text one other h k =
    one_object_of (levels + more) text one other
    (object_more levels (suc (levels + more)) text one (omega (arith)) h)
    (object_more more (suc (levels + more)) text other (omega (arith)) k)

-- and an array text one of elements
pub one_array : (levels more : ℕ) (text : List ℕ) (one other : List Span) → IsArrayText levels text one
    → IsArrayText more text other → one ≡ other
one_array levels more text one other h k =
    one_array_of (levels + more) text one other
    (array_more levels (suc (levels + more)) text one (omega (arith)) h)
    (array_more more (suc (levels + more)) text other (omega (arith)) k)

-- ---- a string is no shorter than its value

char_short : (c : ℕ) → length (encode_utf8 c) ≤ 6
char_short c = omega (arith, len_utf8_bounds c, length-encode c)

lone_short : (u : ℕ) → length (lone_unit u) ≤ 6
lone_short u = char_short (if is_high_surrogate u then 0xFFFD else if is_low_surrogate u then 0xFFFD else u)

unit_short : (u n : ℕ) (after : List ℕ) → length after ≤ n → length (lone_unit u ++ after) ≤ 6 + n
unit_short u n after l = omega (arith, l, lone_short u, length-append (lone_unit u) after)

pair_short : (u v n : ℕ) (after after_unit : List ℕ) → length after ≤ n → length after_unit ≤ 6 + n → (pair : Bool)
    → length (if pair then encode_utf8 (surrogate_pair_char u v) ++ after else lone_unit u ++ after_unit) ≤ 12 + n
pair_short u v n after after_unit l m true =
    omega (arith, l, char_short (surrogate_pair_char u v), length-append (encode_utf8 (surrogate_pair_char u v)) after)
pair_short u v n after after_unit l m false = omega (arith, unit_short u (6 + n) after_unit m)

meaning_short : (ps : List Part) → length (meaning ps) ≤ length (flat_map part_text ps)
meaning_short [] = omega (arith)
meaning_short (byte b ∷ ps) = omega (arith, meaning_short ps)
meaning_short (letter l ∷ ps) = omega (arith, meaning_short ps)
meaning_short (unit a b c d ∷ []) = omega (arith, unit_short (code_unit a b c d) 0 [] (omega arith))
meaning_short (unit a b c d ∷ byte e ∷ ps) =
    omega (arith, unit_short (code_unit a b c d) _ (meaning (byte e ∷ ps)) (meaning_short (byte e ∷ ps)))
meaning_short (unit a b c d ∷ letter e ∷ ps) =
    omega (arith, unit_short (code_unit a b c d) _ (meaning (letter e ∷ ps)) (meaning_short (letter e ∷ ps)))
meaning_short (unit a b c d ∷ unit e f g h ∷ ps) =
    omega (
      arith,
      pair_short (code_unit a b c d) (code_unit e f g h) (length (flat_map part_text ps)) (meaning ps)
          (meaning (unit e f g h ∷ ps)) (meaning_short ps) (omega (arith, meaning_short (unit e f g h ∷ ps)))
          (is_high_surrogate (code_unit a b c d) && is_low_surrogate (code_unit e f g h)),
    )

pub string_shorter : (text value : List ℕ) → IsString text value → length value ≤ length text
string_shorter text value is =
    omega (
      arith,
      meaning_short is.parts,
      ap length is.means,
      ap length is.whole,
      length-append (flat_map part_text is.parts) (34 ∷ []),
    )
