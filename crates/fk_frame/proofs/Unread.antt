-- Streams that no continuation makes begin with a reply.
use Rattle.std.proofs.Common.{◌≡◌, ◌≢◌, ℕ, ◌<◌, ◌≤◌, ◌^◌, Bool, true, false, List, [], ◌∷◌, ◌++◌, length, drop, append-nil, codes, Result, Ok, Err, Option, arith, refl, sym, ap, ◌∙◌}
use Rattle.std.specs.Fmt.{decimal}
use Rattle.std.specs.Result.{IsErrAnd}
use Rattle.std.proofs.lemmas.Fmt.{decimal_injective}
use Rattle.std.proofs.lemmas.List.{append_assoc, drop-append-le, drop_at}
use Rattle.fk_frame.specs.declared.reply.Reply.{Reply}
use Rattle.fk_frame.specs.declared.reply.Reply.TheVariants.{Status, Error, Bulk, Nil}
use Rattle.fk_frame.specs.declared.front.First.{First}
use Rattle.fk_frame.specs.declared.reply_fault.ReplyFault.{ReplyFault}
use Rattle.fk_frame.specs.declared.reply_fault.ReplyFault.TheVariants.{BadReply, NoMemory}
use Rattle.fk_frame.specs.Bytes.{line_end}
use Rattle.fk_frame.specs.Fronts.{begins_break, is_break, EndsLine, Finds, HasLength}
use Rattle.fk_frame.specs.Replies.{reply_bytes, IsOneLine}
use Rattle.fk_frame.specs.Streams.{IsReadable, IsBroken}
use Rattle.fk_frame.proofs.Apart.{heads}
use Rattle.fk_frame.proofs.FirstLines.{first_line, behind_line, broken_line, open_line, decimal_line}
use Rattle.fk_frame.proofs.Lengths.{front_length, no_minus}

-- whatever comes behind the stream, it begins with no reply
abbrev pub Never : List ℕ → Type 0
Never stream = (r : Reply) (x y : List ℕ) → IsReadable r → stream ++ x ≡ reply_bytes r ++ y → ⊥

pub broken : (stream : List ℕ) → Never stream → IsBroken stream
broken stream never = record {
  no_reply = λ more h. never h.0 more h.1 h.2.readable h.2.whole;
  not_cut_off = λ more h. never h.0 (more ++ h.1) [] h.2.readable
      (sym (append_assoc stream more h.1) ∙ h.2.whole ∙ sym (append-nil (reply_bytes h.0)));
}

-- a first byte that no reply begins with
pub other_byte : (byte : ℕ) (bytes : List ℕ) → byte ≢ 43 → byte ≢ 45 → byte ≢ 36 → Never (byte ∷ bytes)
other_byte byte bytes plus minus dollar (Status text) x y readable e = plus cc
other_byte byte bytes plus minus dollar (Error text) x y readable e = minus cc
other_byte byte bytes plus minus dollar (Bulk text) x y readable e = dollar cc
other_byte byte bytes plus minus dollar Nil x y readable e = dollar cc

-- a line that ends otherwise than with CR LF
pub bad_end : (line behind : List ℕ) → IsOneLine line → begins_break behind ≡ true
    → EndsLine behind (Err BadReply) → Never (line ++ behind)
bad_end line [] one begins bad r x y readable e = bad line_end [] refl
bad_end line (c ∷ behind) one begins bad r x y readable e =
    let parts = broken_line r line c (behind ++ x) y readable one begins (sym (append_assoc line (c ∷ behind) x) ∙ e) in
    bad x (behind_line r ++ y) parts.1

-- a first line that is neither a length nor that of no value
no_number : (r : Reply) (number : List ℕ) → IsReadable r → ¬ HasLength number → number ≢ codes "-1"
    → 36 ∷ number ≡ first_line r → ⊥
no_number (Status text) number readable none other e = absurd (omega (arith, heads 36 43 _ _ e))
no_number (Error text) number readable none other e = absurd (omega (arith, heads 36 45 _ _ e))
no_number (Bulk text) number readable none other e =
    none (length text, record { fits = readable; same = cc })
no_number Nil number readable none other e = other cc

-- one that isn't the front of either
no_front : (r : Reply) (number more : List ℕ) → IsReadable r → ¬ HasLength number → number ≢ codes "-1"
    → number ≢ [] → number ≢ codes "-" → first_line r ≡ (36 ∷ number) ++ more → ⊥
no_front (Status text) number more readable none other some whole e = absurd (omega (arith, heads 43 36 _ _ e))
no_front (Error text) number more readable none other some whole e = absurd (omega (arith, heads 45 36 _ _ e))
no_front (Bulk text) [] more readable none other some whole e = some refl
no_front (Bulk text) (c ∷ number) more readable none other some whole e =
    let same : decimal (length text) ≡ (c ∷ number) ++ more = cc in
    none (front_length (c ∷ number) more (length text) readable same (omega arith))
no_front Nil [] more readable none other some whole e = some refl
no_front Nil (a ∷ []) more readable none other some whole e = whole cc
no_front Nil (a ∷ b ∷ []) more readable none other some whole e = other cc
no_front Nil (a ∷ b ∷ c ∷ number) more readable none other some whole e = absurd cc

-- the end of a line begins with CR
begins_return : (c : ℕ) (behind : List ℕ) (closed : Bool) → EndsLine (c ∷ behind) (Ok closed) → c ≡ 13
begins_return c behind true ended = cc
begins_return c behind false unended = let is = unended.2 in cc

pub bad_number : (number behind : List ℕ) (closed : Bool) → IsOneLine number → EndsLine behind (Ok closed)
    → ¬ HasLength number → number ≢ codes "-1"
    → (behind ≡ [] → (number ≢ []) × (number ≢ codes "-")) → Never (36 ∷ (number ++ behind))
bad_number number [] closed one ended none other short r x y readable e =
    let same = open_line r (36 ∷ number) x y one (ap (λ b. 36 ∷ (b ++ x)) (sym (append-nil number)) ∙ e) in
    no_front r number same.0 readable none other (short refl).0 (short refl).1 same.1
bad_number number (c ∷ behind) closed one ended none other short r x y readable e =
    let return : is_break c ≡ true = rw (begins_return c behind closed ended) refl in
    let parts = broken_line r (36 ∷ number) c (behind ++ x) y readable one return
    (sym (append_assoc (36 ∷ number) (c ∷ behind) x) ∙ e) in
    no_number r number readable none other parts.0

-- the text of the bulk that a length begins
text_of : (r : Reply) (count : ℕ) (z y : List ℕ) → IsReadable r → count < 2 ^ 63
    → 36 ∷ decimal count ≡ first_line r → z ≡ behind_line r ++ y
    → (text : List ℕ) × (length text ≡ count) × (z ≡ text ++ (line_end ++ y))
text_of (Status text) count z y readable fits e is = absurd (omega (arith, heads 36 43 _ _ e))
text_of (Error text) count z y readable fits e is = absurd (omega (arith, heads 36 45 _ _ e))
text_of (Bulk text) count z y readable fits e is =
    let same : decimal (length text) ≡ decimal count = cc in
    (text, decimal_injective _ _ (omega (arith, readable)) (omega arith) same, is ∙ append_assoc text line_end y)
text_of Nil count z y readable fits e is =
    let same : decimal count ≡ 45 ∷ 49 ∷ [] = cc in
    absurd (no_minus (decimal count) (49 ∷ []) same (count, record { fits = fits; same = refl }))

-- a bulk's bytes that no line end follows
pub bad_body : (count : ℕ) (body : List ℕ) → count < 2 ^ 63 → count ≤ length body
    → EndsLine (drop count body) (Err BadReply) → Never (36 ∷ ((decimal count ++ line_end) ++ body))
bad_body count body fits all bad r x y readable e =
    let group : 36 ∷ (decimal count ++ 13 ∷ (10 ∷ (body ++ x))) ≡ (36 ∷ ((decimal count ++ line_end) ++ body)) ++ x = simp append_assoc in
    let parts = broken_line r (36 ∷ decimal count) 13 (10 ∷ (body ++ x)) y readable (decimal_line count fits) refl (group ∙ e) in
    let rest : body ++ x ≡ behind_line r ++ y = let two = parts.1 in cc in
    let found = text_of r count (body ++ x) y readable fits parts.0 rest in
    bad x y (sym (drop-append-le count body x all) ∙ ap (drop count) found.2 ∙ drop_at found.0 (line_end ++ y) count found.1)

-- what a fault about a line's end tells
pub fault_found : (stream bytes : List ℕ) (fault : ReplyFault) (result : Result (Option First) ReplyFault)
    → EndsLine bytes (Err fault) → IsErrAnd result (λ rose. rose ≡ fault)
    → (EndsLine bytes (Err BadReply) → Never stream) → Finds stream result
fault_found stream bytes fault (Ok found) bad is never = absurd is
fault_found stream bytes BadReply (Err rose) bad is never = rw is (broken stream (never bad))
fault_found stream bytes NoMemory (Err rose) bad is never = absurd bad
