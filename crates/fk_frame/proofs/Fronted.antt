-- The first line of a stream, and what it is read as.
use Rattle.std.proofs.Common.{◌≡◌, ◌≢◌, ◌==◌, ℕ, ◌+◌, ◌-◌, ◌<◌, ◌≤◌, true, false, List, [], ◌∷◌, ◌++◌, length, take, drop, get_or, codes, Result, Err, Option, arith, refl, sym, ap, subst, ◌∙◌}
use Rattle.std.specs.Result.{IsErrAnd}
use Rattle.std.proofs.lemmas.Bool.{ne_eqb, false≢true}
use Rattle.std.proofs.lemmas.Bool.Decides.{nat_tests}
use Rattle.std.proofs.lemmas.List.{nil_from_length, take_rest, take-append-drop, get_or-take, get_or-drop, length-take, length-drop}
use Rattle.std.proofs.lemmas.List.Sums.{list_all-from_AllPass, prefix_len-le-length, fails_before_first, passes_at_first}
use Rattle.std.proofs.lemmas.Slice.Eq.{bytes_eq-Decides}
use Rattle.fk_frame.specs.declared.front.First.{First}
use Rattle.fk_frame.specs.declared.reply_fault.ReplyFault.{ReplyFault}
use Rattle.fk_frame.specs.Fronts.{begins_break, begins_nil, is_break, is_nil, line_length, EndsLine, Finds}
use Rattle.fk_frame.specs.Replies.{is_within_line, IsOneLine}
use Rattle.fk_frame.specs.Streams.{IsCutOff}
use Rattle.fk_frame.proofs.FirstLines.{tail}
use Rattle.fk_frame.proofs.Found.{cut_empty, cut_dollar, cut_minus}
use Rattle.fk_frame.proofs.Unread.{Never, bad_end, fault_found}

-- a byte that is no CR and no LF
no_break : (c : ℕ) → is_break c ≡ false → is_within_line c ≡ true
no_break c none = grind (arith, nat_tests)

pub line_within : (stream : List ℕ) (end : ℕ) → end ≡ line_length stream → end ≤ length stream
line_within stream end is = rw is (prefix_len-le-length _ _)

-- what stands before the first CR or LF is one line
pub front_line : (stream : List ℕ) (end : ℕ) → end ≡ line_length stream → IsOneLine (take end stream)
front_line stream end is =
    list_all-from_AllPass is_within_line (take end stream)
    (λ k d lt.
    let before : k < end = omega (arith, length-take end stream, lt) in
    rw (get_or-take end stream k d before) (no_break (get_or stream k d) (fails_before_first is_break stream k d (omega (arith, is)))))

pub inner_line : (stream line : List ℕ) (end : ℕ) → end ≡ line_length stream → line ≡ take end stream
    → IsOneLine (take (length line - 1) (drop 1 line))
inner_line stream line end is same = rw take_rest (behind_first line (rw same (front_line stream end is)))
  where
    behind_first : (line : List ℕ) → IsOneLine line → IsOneLine (drop 1 line)
    behind_first [] one = refl
    behind_first (c ∷ line) one = tail c line one

-- and what stands behind it begins with one, or is empty
begins_from : (bytes : List ℕ) → (0 < length bytes → is_break (get_or bytes 0 0) ≡ true) → begins_break bytes ≡ true
begins_from [] h = refl
begins_from (c ∷ bytes) h = h (omega arith)

pub breaks : (stream : List ℕ) (end : ℕ) → end ≡ line_length stream → begins_break (drop end stream) ≡ true
breaks stream end is =
    begins_from (drop end stream)
    (λ some.
    let within : end < length stream = omega (arith, length-drop end stream, some) in
    let here : end + 0 ≡ end = omega arith in
    rw (get_or-drop end stream 0 0, here) (rw (← is) at (passes_at_first is_break stream 0 (omega (arith, is)))))

pub bad_line : (stream behind : List ℕ) (end : ℕ) (fault : ReplyFault)
    (result : Result (Option First) ReplyFault) → end ≡ line_length stream → behind ≡ drop end stream
    → EndsLine behind (Err fault) → IsErrAnd result (λ rose. rose ≡ fault) → Finds stream result
bad_line stream behind end fault result is same bad rose =
    fault_found stream behind fault result bad rose
    (λ none.
    let never = bad_end (take end stream) (drop end stream) (front_line stream end is) (breaks stream end is) (rw same at none) in
    subst (λ (s : List ℕ). Never s) (take-append-drop end stream) never)

pub cut_nothing : (stream : List ℕ) → length stream ≡ 0 → IsCutOff stream
cut_nothing stream none = rw (nil_from_length stream none) cut_empty

-- what may come to be -1
cut_minus_or_less : (number : List ℕ) → begins_nil number ≡ true → IsCutOff (36 ∷ (number ++ []))
cut_minus_or_less [] begins = cut_dollar
cut_minus_or_less (c ∷ number) begins =
    let some : (length (c ∷ number) == 0) ≡ false = ne_eqb (length (c ∷ number)) 0 (omega arith) in
    let same : c ∷ number ≡ codes "-" = (bytes_eq-Decides (c ∷ number) (codes "-")).0 (rw some at begins) in
    subst (λ (l : List ℕ). IsCutOff (36 ∷ (l ++ []))) (sym same) cut_minus

pub cut_begun : (number behind : List ℕ) → length behind ≡ 0 → begins_nil number ≡ true
    → IsCutOff (36 ∷ (number ++ behind))
cut_begun number behind none begins = rw (nil_from_length behind none) (cut_minus_or_less number begins)

pub not_begun : (number : List ℕ) → begins_nil number ≡ false → (number ≢ []) × (number ≢ codes "-")
not_begun number none = (λ e. false≢true (sym none ∙ ap begins_nil e), λ e. false≢true (sym none ∙ ap begins_nil e))

pub not_nil : (number : List ℕ) → is_nil number ≡ false → number ≢ codes "-1"
not_nil number none e = false≢true (sym none ∙ ap is_nil e)

-- CR alone
pub cut_return : (bytes : List ℕ) → length bytes ≡ 1 → get_or bytes 0 0 ≡ 13 → bytes ++ codes "\n" ≡ codes "\r\n"
cut_return [] one is = absurd (omega (arith, one))
cut_return (c ∷ []) one is = ap (λ (b : ℕ). b ∷ codes "\n") is
cut_return (c ∷ b ∷ bytes) one is = absurd (omega (arith, one))
