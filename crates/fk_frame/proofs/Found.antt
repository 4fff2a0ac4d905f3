-- A stream that begins with a reply, and one that is cut off.
use Rattle.std.proofs.Common.{◌≡◌, ℕ, ◌-◌, ◌<◌, ◌≤◌, ◌^◌, true, false, List, [], ◌∷◌, ◌++◌, length, take, drop, replicate, append-nil, codes, Result, Ok, Err, Option, arith, refl, sym, ap, ◌∙◌}
use Rattle.std.specs.Fmt.{decimal}
use Rattle.std.specs.Result.{IsErrAnd}
use Rattle.std.proofs.lemmas.List.{append_assoc, length-append, length-drop, length-take-le, length-replicate, take-append-drop, drop_at}
use Rattle.fk_frame.specs.declared.front.First.{First}
use Rattle.fk_frame.specs.declared.reply.Reply.TheVariants.{Status, Error, Bulk, Nil}
use Rattle.fk_frame.specs.declared.reply_fault.ReplyFault.{ReplyFault}
use Rattle.fk_frame.specs.declared.reply_fault.ReplyFault.TheVariants.{NoMemory}
use Rattle.fk_frame.specs.Bytes.{line_end}
use Rattle.fk_frame.specs.Fronts.{EndsLine, Finds, IsFirst}
use Rattle.fk_frame.specs.Replies.{reply_bytes, IsOneLine}
use Rattle.fk_frame.specs.Streams.{BeginsWith, HasReply, IsCutOff}

-- the bytes behind a reply are as many as are left
pub is_first : (stream : List ℕ) (first : First) (rest : List ℕ) → BeginsWith stream first.reply rest
    → first.left ≡ length rest → IsFirst stream first
is_first stream first rest begins left =
    let len = ap length begins.whole ∙ length-append (reply_bytes first.reply) rest in
    let here : length (reply_bytes first.reply) ≡ length stream - first.left = omega arith in
    let same = drop_at (reply_bytes first.reply) rest (length stream - first.left) here in
    record {
      within = omega arith;
      begins = record {
        readable = begins.readable;
        whole = begins.whole ∙ ap (λ b. reply_bytes first.reply ++ b) (sym same ∙ ap (drop (length stream - first.left)) (sym begins.whole));
      };
    }

-- two bytes are behind a line
left_behind : (behind : List ℕ) → length behind - 2 ≡ length (drop 2 behind)
left_behind behind = omega (arith, length-drop {A = ℕ})

-- a line, its end and the rest
regroup : (head : ℕ) (text behind rest : List ℕ) → behind ≡ line_end ++ rest
    → head ∷ (text ++ behind) ≡ (head ∷ (text ++ line_end)) ++ rest
regroup head text behind rest is =
    ap (λ b. head ∷ (text ++ b)) is ∙ ap (λ b. head ∷ b) (sym (append_assoc text line_end rest))

pub status : (text behind : List ℕ) → IsOneLine text → EndsLine behind (Ok true)
    → BeginsWith (43 ∷ (text ++ behind)) (Status text) (drop 2 behind)
status text behind one ended =
    record { readable = one; whole = regroup 43 text behind (drop 2 behind) ended }

pub error : (text behind : List ℕ) → IsOneLine text → EndsLine behind (Ok true)
    → BeginsWith (45 ∷ (text ++ behind)) (Error text) (drop 2 behind)
error text behind one ended =
    record { readable = one; whole = regroup 45 text behind (drop 2 behind) ended }

pub nil : (behind : List ℕ) → EndsLine behind (Ok true)
    → BeginsWith (36 ∷ 45 ∷ 49 ∷ behind) Nil (drop 2 behind)
nil behind ended =
    record { readable = tt; whole = regroup 36 (codes "-1") behind (drop 2 behind) ended }

pub first_status : (text behind copy : List ℕ) → IsOneLine text → EndsLine behind (Ok true) → copy ≡ text
    → IsFirst (43 ∷ (text ++ behind)) (record { reply = Status copy; left = length behind - 2 })
first_status text behind copy one ended same =
    rw same (is_first _ (record { reply = Status text; left = length behind - 2 }) (drop 2 behind) (status text behind one ended) (left_behind behind))

pub first_error : (text behind copy : List ℕ) → IsOneLine text → EndsLine behind (Ok true) → copy ≡ text
    → IsFirst (45 ∷ (text ++ behind)) (record { reply = Error copy; left = length behind - 2 })
first_error text behind copy one ended same =
    rw same (is_first _ (record { reply = Error text; left = length behind - 2 }) (drop 2 behind) (error text behind one ended) (left_behind behind))

pub first_nil : (behind : List ℕ) → EndsLine behind (Ok true)
    → IsFirst (36 ∷ 45 ∷ 49 ∷ behind) (record { reply = Nil; left = length behind - 2 })
first_nil behind ended =
    is_first _ (record { reply = Nil; left = length behind - 2 }) (drop 2 behind) (nil behind ended) (left_behind behind)

-- a bulk, and the rest
group_bulk : (number text rest : List ℕ)
    → (number ++ line_end) ++ (text ++ (line_end ++ rest)) ≡ (((number ++ line_end) ++ text) ++ line_end) ++ rest
group_bulk number text rest = simp append_assoc

bulk_bytes : (count : ℕ) (text body rest : List ℕ) → length text ≡ count → body ≡ text ++ (line_end ++ rest)
    → 36 ∷ ((decimal count ++ line_end) ++ body) ≡ reply_bytes (Bulk text) ++ rest
bulk_bytes count text body rest len is =
    ap (λ b. 36 ∷ ((decimal count ++ line_end) ++ b)) is
    ∙ ap (λ n. 36 ∷ ((decimal n ++ line_end) ++ (text ++ (line_end ++ rest)))) (sym len)
    ∙ ap (λ b. 36 ∷ b) (group_bulk (decimal (length text)) text rest)

pub bulk : (count : ℕ) (body : List ℕ) → count < 2 ^ 63 → count ≤ length body
    → EndsLine (drop count body) (Ok true)
    → BeginsWith (36 ∷ ((decimal count ++ line_end) ++ body)) (Bulk (take count body)) (drop 2 (drop count body))
bulk count body fits all ended =
    let len = length-take-le count body all in
    record {
      readable = omega (arith, len);
      whole = bulk_bytes count (take count body) body (drop 2 (drop count body)) len
          (sym (take-append-drop count body) ∙ ap (λ b. take count body ++ b) ended);
    }

pub first_bulk : (count : ℕ) (body copy : List ℕ) → count < 2 ^ 63 → count ≤ length body
    → EndsLine (drop count body) (Ok true) → copy ≡ take count body
    → IsFirst (36 ∷ ((decimal count ++ line_end) ++ body))
    (record { reply = Bulk copy; left = length (drop count body) - 2 })
first_bulk count body copy fits all ended same =
    rw same (is_first _ (record { reply = Bulk (take count body); left = length (drop count body) - 2 })
    (drop 2 (drop count body)) (bulk count body fits all ended) (left_behind (drop count body)))

-- what a fault for want of memory tells
pub no_room : (stream : List ℕ) (result : Result (Option First) ReplyFault)
    → IsErrAnd result (λ fault. fault ≡ NoMemory) → HasReply stream → Finds stream result
no_room stream (Ok found) is held = absurd is
no_room stream (Err fault) is held = rw is held

-- a line whose end isn't there whole is cut off
cut_line : (head : ℕ) (text behind more : List ℕ) → behind ++ more ≡ line_end
    → (head ∷ (text ++ behind)) ++ more ≡ head ∷ (text ++ line_end)
cut_line head text behind more is =
    ap (λ b. head ∷ b) (append_assoc text behind more ∙ ap (λ b. text ++ b) is)

pub cut_status : (text behind : List ℕ) → IsOneLine text → EndsLine behind (Ok false)
    → IsCutOff (43 ∷ (text ++ behind))
cut_status text behind one unended = (
  Status text,
  unended.0,
  record { readable = one; some = unended.1; whole = cut_line 43 text behind unended.0 unended.2 },
)

pub cut_error : (text behind : List ℕ) → IsOneLine text → EndsLine behind (Ok false)
    → IsCutOff (45 ∷ (text ++ behind))
cut_error text behind one unended = (
  Error text,
  unended.0,
  record { readable = one; some = unended.1; whole = cut_line 45 text behind unended.0 unended.2 },
)

pub cut_nil : (behind : List ℕ) → EndsLine behind (Ok false) → IsCutOff (36 ∷ 45 ∷ 49 ∷ behind)
cut_nil behind unended = (
  Nil,
  unended.0,
  record { readable = tt; some = unended.1; whole = cut_line 36 (codes "-1") behind unended.0 unended.2 },
)

-- nothing, and what stands for no value, cut off
pub cut_empty : IsCutOff []
cut_empty = (Nil, reply_bytes Nil, record { readable = tt; some = omega arith; whole = refl })

pub cut_dollar : IsCutOff (36 ∷ [])
cut_dollar = (Nil, codes "-1\r\n", record { readable = tt; some = omega arith; whole = refl })

pub cut_minus : IsCutOff (36 ∷ 45 ∷ [])
cut_minus = (Nil, codes "1\r\n", record { readable = tt; some = omega arith; whole = refl })

-- a bulk of which there are no bytes yet
cut_head : (number text behind more : List ℕ) → behind ++ more ≡ line_end
    → (36 ∷ (number ++ behind)) ++ (more ++ (text ++ line_end)) ≡ 36 ∷ (((number ++ line_end) ++ text) ++ line_end)
cut_head number text behind more is =
    let left : (number ++ behind) ++ (more ++ (text ++ line_end)) ≡ number ++ ((behind ++ more) ++ (text ++ line_end)) = simp append_assoc in
    let right : number ++ (line_end ++ (text ++ line_end)) ≡ ((number ++ line_end) ++ text) ++ line_end = simp append_assoc in
    ap (λ b. 36 ∷ b) (left ∙ ap (λ b. number ++ (b ++ (text ++ line_end))) is ∙ right)

pub cut_number : (count : ℕ) (number behind : List ℕ) → count < 2 ^ 63 → number ≡ decimal count
    → EndsLine behind (Ok false) → IsCutOff (36 ∷ (number ++ behind))
cut_number count number behind fits is unended =
    let text = replicate count 0 in
    let len : length text ≡ count = length-replicate count 0 in
    let same : number ≡ decimal (length text) = is ∙ ap decimal (sym len) in (
      Bulk text,
      unended.0 ++ (text ++ line_end),
      record {
        readable = omega (arith, len);
        some = omega (arith, length-append unended.0 (text ++ line_end), unended.1);
        whole = cut_head number text behind unended.0 unended.2
            ∙ ap (λ n. 36 ∷ (((n ++ line_end) ++ text) ++ line_end)) same;
      },
    )

-- a bulk whose bytes aren't all there
cut_bulk : (count : ℕ) (text body more : List ℕ) → count < 2 ^ 63 → length text ≡ count → 0 < length more
    → body ++ more ≡ text ++ line_end → IsCutOff (36 ∷ ((decimal count ++ line_end) ++ body))
cut_bulk count text body more fits len some is = (
  Bulk text,
  more,
  record {
    readable = omega arith;
    some = some;
    whole = ap (λ b. 36 ∷ b) (append_assoc (decimal count ++ line_end) body more)
        ∙ bulk_bytes count text (body ++ more) [] len is ∙ append-nil _;
  },
)

pub cut_short : (count : ℕ) (body : List ℕ) → count < 2 ^ 63 → length body < count
    → IsCutOff (36 ∷ ((decimal count ++ line_end) ++ body))
cut_short count body fits short =
    let pad = replicate (count - length body) 0 in
    let len : length (body ++ pad) ≡ count = omega (arith, length-append body pad, length-replicate {A = ℕ} (count - length body) 0) in
    cut_bulk count (body ++ pad) body (pad ++ line_end) fits len (omega (arith, length-append pad line_end))
    (sym (append_assoc body pad line_end))

pub cut_end : (count : ℕ) (body : List ℕ) → count < 2 ^ 63 → count ≤ length body
    → EndsLine (drop count body) (Ok false) → IsCutOff (36 ∷ ((decimal count ++ line_end) ++ body))
cut_end count body fits all unended =
    cut_bulk count (take count body) body unended.0 fits (length-take-le count body all) unended.1
    (ap (λ b. b ++ unended.0) (sym (take-append-drop count body))
    ∙ append_assoc (take count body) (drop count body) unended.0
    ∙ ap (λ b. take count body ++ b) unended.2)
