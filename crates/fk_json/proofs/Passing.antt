-- Bytes that are read at once: their steps, one after another.
use Rattle.std.proofs.Common.{◌≡◌, ◌⊎◌, inl, inr, ℕ, suc, ◌+◌, ◌-◌, ◌≤◌, ◌<◌, Bool, true, false, not, ◌&&◌, ◌==◌, nat_lt, cond, if◌then◌else◌, List, [], ◌∷◌, ◌++◌, length, take, drop, slice_index_or, Option, None, Some, refl, sym, ap, subst, ◌∙◌, arith, get_or-drop, length-drop}
use Rattle.std.proofs.Math.Seq.{drop-cons, take-add}
use Rattle.std.proofs.lemmas.Bool.{false≢true}
use Rattle.std.proofs.lemmas.List.{drop-drop}
use Rattle.std.proofs.lemmas.List.Sums.{prefix_len-le-length, prefix_len_stops}
use Rattle.std.specs.Char.{is_ascii_digit}
use Rattle.std.specs.List.{prefix_len}
use Rattle.std.specs.Option.{option_and_then, option_map}
use Rattle.fk_json.specs.Runs.{AreFourDigits, Passes, RunsTo, is_plain, through}
use Rattle.fk_json.specs.Tokens.{behind_whole, character_first, digit_then, is_hexadecimal, number_step, raised_by, string_step, when}
use Rattle.fk_json.specs.declared.number_mode.NumberMode.{NumberMode}
use Rattle.fk_json.specs.declared.number_mode.NumberMode.TheVariants.{Whole, Fraction, Exponent}
use Rattle.fk_json.specs.declared.string_mode.StringMode.{StringMode}
use Rattle.fk_json.specs.declared.string_mode.StringMode.TheVariants.{Inside, Escape, Four, Three, Two, One, Closed}

abbrev range : List ℕ → ℕ → ℕ → List ℕ
range text from to = take (to - from) (drop from text)

range_none : (text : List ℕ) (at : ℕ) → range text at at ≡ []
range_none text at = let e : at - at ≡ 0 = omega arith in ap (λ n. take n (drop at text)) e

range_byte : (text : List ℕ) (at : ℕ) → at < length text → range text at (at + 1) ≡ slice_index_or text at 0 ∷ []
range_byte text at l =
    let e : at + 1 - at ≡ 1 = omega arith in
    ap (λ n. take n (drop at text)) e ∙ ap (λ x. take 1 x) (drop-cons text at 0 l)

range_append : (text : List ℕ) (from middle to : ℕ) → from ≤ middle → middle ≤ to
    → range text from to ≡ range text from middle ++ range text middle to
range_append text from middle to first second =
    let e : to - from ≡ (middle - from) + (to - middle) = omega arith in
    let f : from + (middle - from) ≡ middle = omega arith in
    ap (λ n. take n (drop from text)) e ∙ take-add (middle - from) (to - middle) (drop from text)
    ∙ ap (λ x. range text from middle ++ take (to - middle) x)
    (drop-drop (middle - from) from text ∙ ap (λ n. drop n text) f)

bound : {S : Type 0} (led : Option S) (f g h : S → Option S) → ((next : S) → f next ≡ option_and_then h (g next))
    → option_and_then f led ≡ option_and_then h (option_and_then g led)
bound None f g h e = refl
bound (Some next) f g h e = e next

through_append : {S : Type 0} (step : S → ℕ → Option S) (xs ys : List ℕ) (mode : S)
    → through step mode (xs ++ ys) ≡ option_and_then (λ next. through step next ys) (through step mode xs)
through_append step [] ys mode = refl
through_append step (x ∷ xs) ys mode =
    bound (step mode x) (λ next. through step next (xs ++ ys)) (λ next. through step next xs)
    (λ next. through step next ys) (λ next. through_append step xs ys next)

-- ---- on by nothing, by a byte, by more

pub passes_none : {S : Type 0} (step : S → ℕ → Option S) (text : List ℕ) (at : ℕ) (mode : S) → at ≤ length text
    → Passes step text at mode at mode
passes_none step text at mode l = record {
  onward = omega arith;
  within = l;
  leads = ap (λ x. through step mode x) (range_none text at);
}

pub passes_on : {S : Type 0} (step : S → ℕ → Option S) (text : List ℕ) (from middle to : ℕ) (mode next last : S)
    → Passes step text from mode middle next → Passes step text middle next to last
    → Passes step text from mode to last
passes_on step text from middle to mode next last first second = record {
  onward = omega (arith, first.onward, second.onward);
  within = second.within;
  leads =
      ap (λ x. through step mode x) (range_append text from middle to first.onward second.onward)
      ∙ through_append step (range text from middle) (range text middle to) mode
      ∙ ap (λ o. option_and_then (λ n. through step n (range text middle to)) o) first.leads ∙ second.leads;
}

pub passes_byte : {S : Type 0} (step : S → ℕ → Option S) (text : List ℕ) (at : ℕ) (mode next : S)
    → at < length text → step mode (slice_index_or text at 0) ≡ Some next → Passes step text at mode (at + 1) next
passes_byte step text at mode next l e = record {
  onward = omega arith;
  within = omega (arith, l);
  leads =
      ap (λ x. through step mode x) (range_byte text at l)
      ∙ ap (λ o. option_and_then (λ n. through step n []) o) e;
}

-- ---- bytes at which the mode stays

stops_there : (test : ℕ → Bool) (text : List ℕ) (at to : ℕ) → at ≤ length text
    → to ≡ at + prefix_len test (drop at text) → to < length text → test (slice_index_or text to 0) ≡ false
stops_there test text at to l e inside =
    let n = prefix_len test (drop at text) in
    let short : n < length (drop at text) = omega (arith, length-drop at text, e, inside, l) in
    let there : slice_index_or (drop at text) n 0 ≡ slice_index_or text (at + n) 0 = get_or-drop at text n 0 in
    ap (λ k. test (slice_index_or text k 0)) e ∙ ap test (sym there) ∙ prefix_len_stops test (drop at text) 0 short

kept_first : {S : Type 0} (step : S → ℕ → Option S) (mode : S) (x n : ℕ) (xs : List ℕ) (passes : Bool)
    → (passes ≡ true → step mode x ≡ Some mode) → through step mode (take n xs) ≡ Some mode
    → through step mode (take (cond passes (1 + n) 0) (x ∷ xs)) ≡ Some mode
kept_first step mode x n xs true keeps e =
    let f : 1 + n ≡ suc n = omega arith in
    ap (λ k. through step mode (take k (x ∷ xs))) f
    ∙ ap (λ o. option_and_then (λ next. through step next (take n xs)) o) (keeps refl) ∙ e
kept_first step mode x n xs false keeps e = refl

kept_through : {S : Type 0} (step : S → ℕ → Option S) (test : ℕ → Bool) (mode : S)
    → ((byte : ℕ) → test byte ≡ true → step mode byte ≡ Some mode) → (xs : List ℕ)
    → through step mode (take (prefix_len test xs) xs) ≡ Some mode
kept_through step test mode keeps [] = refl
kept_through step test mode keeps (x ∷ xs) =
    kept_first step mode x (prefix_len test xs) xs (test x) (keeps x) (kept_through step test mode keeps xs)

pub passes_kept : {S : Type 0} (step : S → ℕ → Option S) (test : ℕ → Bool) (text : List ℕ) (at to : ℕ) (mode : S)
    → ((byte : ℕ) → test byte ≡ true → step mode byte ≡ Some mode) → at ≤ length text
    → to ≡ at + prefix_len test (drop at text) → Passes step text at mode to mode
passes_kept step test text at to mode keeps l e = record {
  onward = omega (arith, e);
  within = omega (arith, l, e, prefix_len-le-length test (drop at text), length-drop at text);
  leads =
      let f : to - at ≡ prefix_len test (drop at text) = omega (arith, e) in
      ap (λ n. through step mode (take n (drop at text))) f ∙ kept_through step test mode keeps (drop at text);
}

plain_inside : (quoted escaped control ascii : Bool) (wide : Option StringMode)
    → ((not quoted && not escaped && not control) && ascii) ≡ true
    → (if quoted then Some Closed else if escaped then Some Escape else if control then None
    else if ascii then Some Inside else wide) ≡ Some Inside
plain_inside true escaped control ascii wide e = absurd (false≢true e)
plain_inside false true control ascii wide e = absurd (false≢true e)
plain_inside false false true ascii wide e = absurd (false≢true e)
plain_inside false false false true wide e = refl
plain_inside false false false false wide e = absurd (false≢true e)

-- plain bytes of a string lead on inside of it
pub passes_plain : (text : List ℕ) (at to : ℕ) (mode : StringMode) → mode ≡ Inside → at ≤ length text
    → to ≡ at + prefix_len is_plain (drop at text) → Passes string_step text at mode to mode
passes_plain text at to mode is l e =
    subst (λ m. Passes string_step text at m to m) (sym is)
    (passes_kept string_step is_plain text at to Inside
    (λ byte. plain_inside (byte == 34) (byte == 92) (nat_lt byte 32) (nat_lt byte 0x80) (character_first byte)) l e)

digit_passes : (text : List ℕ) (at to : ℕ) (mode next : StringMode) → to ≡ at + 1 → at < length text
    → ((byte : ℕ) → string_step mode byte ≡ digit_then byte next)
    → is_hexadecimal (slice_index_or text at 0) ≡ true → Passes string_step text at mode to next
digit_passes text at to mode next place l same digit =
    subst (λ n. Passes string_step text at mode n next) (sym place)
    (passes_byte string_step text at mode next l
    (same (slice_index_or text at 0) ∙ ap (λ t. if t then Some next else None) digit))

-- four digits of an escape lead on to the next part
pub passes_four : (text : List ℕ) (at : ℕ) → AreFourDigits text at → Passes string_step text at Four (at + 4) Inside
passes_four text at four =
    passes_on string_step text at (at + 1) (at + 4) Four Three Inside
    (digit_passes text at (at + 1) Four Three refl (omega (arith, four.within)) (λ b. refl) four.first)
    (passes_on string_step text (at + 1) (at + 2) (at + 4) Three Two Inside
    (digit_passes text (at + 1) (at + 2) Three Two (omega arith) (omega (arith, four.within)) (λ b. refl) four.second)
    (passes_on string_step text (at + 2) (at + 3) (at + 4) Two One Inside
    (digit_passes text (at + 2) (at + 3) Two One (omega arith) (omega (arith, four.within)) (λ b. refl) four.third)
    (digit_passes text (at + 3) (at + 4) One Inside (omega arith) (omega (arith, four.within)) (λ b. refl) four.fourth)))

-- digits lead on among digits of which there may be more
digits_stay : (mode : NumberMode) → (mode ≡ Whole) ⊎ ((mode ≡ Fraction) ⊎ (mode ≡ Exponent)) → (byte : ℕ)
    → is_ascii_digit byte ≡ true → number_step mode byte ≡ Some mode
digits_stay mode (inl is) byte e =
    subst (λ m. number_step m byte ≡ Some m) (sym is) (ap (λ t. if t then Some Whole else behind_whole byte) e)
digits_stay mode (inr (inl is)) byte e =
    subst (λ m. number_step m byte ≡ Some m) (sym is) (ap (λ t. if t then Some Fraction else raised_by byte) e)
digits_stay mode (inr (inr is)) byte e =
    subst (λ m. number_step m byte ≡ Some m) (sym is) (ap (λ t. if t then Some Exponent else None) e)

pub passes_digits : (text : List ℕ) (at to : ℕ) (mode : NumberMode)
    → (mode ≡ Whole) ⊎ ((mode ≡ Fraction) ⊎ (mode ≡ Exponent)) → at ≤ length text
    → to ≡ at + prefix_len is_ascii_digit (drop at text) → Passes number_step text at mode to mode
passes_digits text at to mode is l e = passes_kept number_step is_ascii_digit text at to mode (digits_stay mode is) l e

-- ---- the steps of a part are steps of the whole

mapped_bound : {S T : Type 0} (f : S → T) (led : Option S) (g : S → Option S) (h : T → Option T)
    → ((next : S) → option_map f (g next) ≡ h (f next))
    → option_map f (option_and_then g led) ≡ option_and_then h (option_map f led)
mapped_bound f None g h e = refl
mapped_bound f (Some next) g h e = e next

through_map : {S T : Type 0} (f : S → T) (step : S → ℕ → Option S) (wider : T → ℕ → Option T)
    → ((mode : S) (byte : ℕ) → wider (f mode) byte ≡ option_map f (step mode byte)) → (xs : List ℕ) (mode : S)
    → option_map f (through step mode xs) ≡ through wider (f mode) xs
through_map f step wider same [] mode = refl
through_map f step wider same (x ∷ xs) mode =
    mapped_bound f (step mode x) (λ next. through step next xs) (λ next. through wider next xs)
    (λ next. through_map f step wider same xs next)
    ∙ ap (λ o. option_and_then (λ next. through wider next xs) o) (sym (same mode x))

pub passes_map : {S T : Type 0} (f : S → T) (step : S → ℕ → Option S) (wider : T → ℕ → Option T)
    (text : List ℕ) (from to : ℕ) (mode next : S)
    → ((mode : S) (byte : ℕ) → wider (f mode) byte ≡ option_map f (step mode byte))
    → Passes step text from mode to next → Passes wider text from (f mode) to (f next)
passes_map f step wider text from to mode next same passes = record {
  onward = passes.onward;
  within = passes.within;
  leads = sym (through_map f step wider same (range text from to) mode) ∙ ap (λ o. option_map f o) passes.leads;
}

mapped_none : {S T : Type 0} (f : S → T) (led : Option S) → led ≡ None → option_map f led ≡ None
mapped_none f led e = ap (λ o. option_map f o) e

-- a part runs as far as the whole
pub runs_part : {S T : Type 0} (f : S → T) (step : S → ℕ → Option S) (wider : T → ℕ → Option T)
    (text : List ℕ) (from to : ℕ) (whole : T) (mode next : S) → whole ≡ f mode
    → ((mode : S) (byte : ℕ) → wider (f mode) byte ≡ option_map f (step mode byte))
    → RunsTo step text from mode to next → RunsTo wider text from whole to (f next)
runs_part f step wider text from to whole mode next is same runs = record {
  passes =
      subst (λ x. Passes wider text from x to (f next)) (sym is)
      (passes_map f step wider text from to mode next same runs.passes);
  ends = λ l. same next (slice_index_or text to 0) ∙ mapped_none f (step next (slice_index_or text to 0)) (runs.ends l);
}

-- a run of bytes at which the mode stays ends where one of another kind comes
pub runs_kept : {S : Type 0} (step : S → ℕ → Option S) (test : ℕ → Bool) (text : List ℕ) (at to : ℕ) (mode : S)
    → ((byte : ℕ) → step mode byte ≡ when (test byte) mode) → at ≤ length text
    → to ≡ at + prefix_len test (drop at text) → RunsTo step text at mode to mode
runs_kept step test text at to mode keeps l e = record {
  passes = passes_kept step test text at to mode (λ byte h. keeps byte ∙ ap (λ t. when t mode) h) l e;
  ends = λ inside. keeps (slice_index_or text to 0) ∙ ap (λ t. when t mode) (stops_there test text at to l e inside);
}
