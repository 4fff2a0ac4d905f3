-- The first file while it is made: what each call of the disk makes of its images.
use Rattle.std.proofs.Common.{◌≡◌, inl, inr, ℕ, ◌<◌, arith, ap, sym, subst, refl, ◌∙◌, List, [], ◌∷◌, ◌++◌, length, take, drop, get_or, Bool, IsTrue, Result, Ok, Err, OnOk}
use Rattle.std.proofs.lemmas.Bool.{cases_eq, cases_lt}
use Rattle.std.proofs.lemmas.List.{ext_get_or}
use Rattle.std.proofs.lemmas.Result.{on_ok_weaker}
use Rattle.fk_disk.specs.Moments.{Elapses, LeavesOnly}
use Rattle.fk_disk.specs.Steps.{CutsBack, Overwrites, overwritten}
use Rattle.fk_journal.specs.Passing.{EachImage, Passes}
use Rattle.fk_journal.specs.Pieces.{open_gate, closed_gate, spelled}
use Rattle.fk_journal.proofs.Passed.{holds_now, holds_surely, passes_as, passes_call, passes_then}
use Rattle.fk_disk.proofs.Overwriting.{overwrites_within}
use Rattle.fk_moves.specs.Spelling.{word_bytes, moves_bytes}
use Rattle.fk_lives.specs.Files.{header_bytes, header_of, new_contents, new_file, IsBlank}
use Rattle.fk_shelf.specs.Making.{IsShort, IsShut, shut_file}
use Rattle.fk_shelf.specs.Opening.{IsBlankOrNew}

-- ---- what a call makes of one image

-- a blank file stays blank while it is cut to its gate byte
cut_blank : (file after : List ℕ) → IsBlank file → CutsBack 1 file after → IsBlank after
cut_blank file after (inl short) cut = inl (omega (arith, short, cut.no_longer))
cut_blank file after (inr shut) cut = elim (cases_lt 1 (length file)) [
  | inl long ↦ inr (λ is. shut (sym (cut.below 0 (omega (arith, long)) (omega arith)) ∙ is))
  | inr short ↦ inl (omega (arith, short, cut.no_longer))
]

-- a short file is blank
pub short_blank : (file : List ℕ) → IsShort file → IsBlank file
short_blank file short = inl short

-- and so is one whose gate is closed
pub shut_blank : (file : List ℕ) → IsShut file → IsBlank file
shut_blank file shut = inr (λ is. omega (arith, is, shut.1))

-- a closed gate stays while something is written behind it
shut_stays : (at count : ℕ) (file after : List ℕ) → 0 < at → IsShut file → Overwrites at count file after → IsShut after
shut_stays at count file after behind shut over =
    (omega (arith, shut.0, over.no_shorter), over.below 0 shut.0 behind ∙ shut.1)

-- a file of one byte, which is a closed gate
alone : (file : List ℕ) → length file ≡ 1 → get_or file 0 0 ≡ closed_gate → file ≡ closed_gate ∷ []
alone file one gate = ext_get_or 0 file (closed_gate ∷ []) one (λ k less.
    let first : k ≡ 0 = omega (arith, one, less) in
    ap (λ n. get_or file n 0) first ∙ gate ∙ sym (ap (λ n. get_or (closed_gate ∷ []) n 0) first))

-- it stays as it is while it is cut to that byte
cut_alone : (file : List ℕ) → CutsBack 1 (closed_gate ∷ []) file → file ≡ closed_gate ∷ []
cut_alone file cut =
    alone file (omega (arith, cut.no_shorter, cut.no_longer)) (cut.below 0 (omega arith) (omega arith))

-- a short file over which a closed gate is written has nothing else
gate_over : (file : List ℕ) → IsShort file → overwritten file 0 (closed_gate ∷ []) ≡ closed_gate ∷ []
gate_over [] short = refl
gate_over (byte ∷ []) short = refl
gate_over (byte ∷ next ∷ rest) short = absurd (omega (arith, short))

-- ---- what calls make of all images

-- so each image is, once that was made sure of and the file was cut to its gate
pub gate_alone : (told told_now : Bool) (content written : List ℕ) (start now : ℕ) (at_first : List ℕ → Type 0)
    (before after : ℕ → List ℕ → Type 0) → told_now ≡ told → ((image : List ℕ) → before start image → IsTrue told_now) →
    (IsTrue told → at_first content) → EachImage at_first IsShort →
    (IsTrue told → written ≡ overwritten content 0 (closed_gate ∷ [])) → LeavesOnly written (before start) →
    Elapses (CutsBack 1) start now before after → LeavesOnly (closed_gate ∷ []) (after now)
gate_alone told told_now content written start now at_first before after same tells read short is sure call =
    let Alone : List ℕ → Type 0 = λ file. file ≡ closed_gate ∷ [] in
    let alone_before : EachImage (before start) Alone =
    holds_surely IsShort Alone told told_now 0 (closed_gate ∷ []) content written at_first (before start) same tells
    read short is sure gate_over in
    holds_now Alone start now before after
    (passes_call (CutsBack 1) Alone Alone start now before after alone_before call (λ image is. is)
    (λ earlier image was cut. cut_alone image (subst (λ file. CutsBack 1 file image) was cut)))

-- a file stays shut while something is written behind its gate
shut_passes : (at count start now : ℕ) (before after : ℕ → List ℕ → Type 0) → 0 < at →
    EachImage (before start) IsShut → Elapses (Overwrites at count) start now before after →
    Passes IsShut start now before after
shut_passes at count start now before after behind shut call =
    passes_call (Overwrites at count) IsShut IsShut start now before after shut call (λ image is. is)
    (λ earlier image was over. shut_stays at count earlier image behind was over)

-- a closed gate alone is shut
alone_shut : (file : List ℕ) → file ≡ closed_gate ∷ [] → IsShut file
alone_shut file is = subst IsShut (sym is) (omega arith, refl)

-- and so it stays blank through three writes
pub three_writes : (first second third : ℕ) (m n k : ℕ) (start one two now : ℕ)
    (before between beyond after : ℕ → List ℕ → Type 0) → 0 < first → 0 < second → 0 < third →
    LeavesOnly (closed_gate ∷ []) (before start) → Elapses (Overwrites first m) start one before between →
    Elapses (Overwrites second n) one two between beyond → Elapses (Overwrites third k) two now beyond after →
    Passes IsBlank start now before after
three_writes first second third m n k start one two now before between beyond after some more most only a b c =
    let p : Passes IsShut start one before between =
    shut_passes first m start one before between some (λ image is. alone_shut image (only image is)) a in
    let q : Passes IsShut one two between beyond =
    shut_passes second n one two between beyond more (holds_now IsShut start one before between p) b in
    let r : Passes IsShut two now beyond after =
    shut_passes third k two now beyond after most (holds_now IsShut one two between beyond q) c in
    passes_as IsShut IsBlank start now before after
    (passes_then IsShut start one now before between after p
    (passes_then IsShut one two now between beyond after q r)) shut_blank

-- the new file is the shut one with its gate open
opened : overwritten shut_file 0 (open_gate ∷ []) ≡ new_file
unfolding word_bytes spelled
opened = refl

-- the first byte of a file
first_byte : (file : List ℕ) → 0 < length file → take 1 file ≡ get_or file 0 0 ∷ []
first_byte [] some = absurd (omega (arith, some))
first_byte (byte ∷ rest) some = refl

-- what becomes of the shut file while its gate is written
gate_written : (file : List ℕ) → Overwrites 0 1 shut_file file → IsBlankOrNew file
unfolding word_bytes spelled
gate_written file over = elim (cases_eq (get_or file 0 0) open_gate) [
  | inl same ↦
      let whole : file ≡ take 1 file ++ drop 1 shut_file = overwrites_within 0 1 shut_file file over (omega arith) in
      let some : 0 < length file = omega (arith, over.no_shorter) in
      inr (whole ∙ ap (λ xs. xs ++ drop 1 shut_file) (first_byte file some) ∙ ap (λ byte. byte ∷ drop 1 shut_file) same)
  | inr other ↦ inl (inr other)
]

-- each image is blank or new while the gate of the shut file is opened
pub opening_passes : (start now : ℕ) (before after : ℕ → List ℕ → Type 0) → LeavesOnly shut_file (before start) →
    Elapses (Overwrites 0 1) start now before after → Passes IsBlankOrNew start now before after
opening_passes start now before after shut call =
    passes_call (Overwrites 0 1) (λ file. file ≡ shut_file) IsBlankOrNew start now before after shut call
    (λ image is. inl (subst IsBlank (sym is) (shut_blank shut_file (omega arith, refl))))
    (λ earlier image was over. gate_written image (subst (λ file. Overwrites 0 1 file image) was over))

-- and then a read gives the new file
pub opens : {T E : Type 0} (result : Result T E) (told : Bool) (content after : List ℕ) (images : List ℕ → Type 0) →
    (IsTrue told → images content) → LeavesOnly shut_file images →
    (IsTrue told → OnOk result (after ≡ overwritten content 0 (open_gate ∷ []))) →
    IsTrue told → OnOk result (after ≡ new_file)
opens result told content after images read shut written tells =
    on_ok_weaker result
    (λ is. is ∙ ap (λ file. overwritten file 0 (open_gate ∷ [])) (shut content (read tells)) ∙ opened) (written tells)

-- header, snapshot and the gate behind them, written behind a closed gate
all_written : overwritten (overwritten (overwritten (closed_gate ∷ []) 1 (header_bytes (header_of new_contents)))
    34 (moves_bytes new_contents.snapshot)) 59 (closed_gate ∷ []) ≡ shut_file
unfolding word_bytes
all_written = refl

-- once they were made sure of, each image is the shut file
pub shut_written : {T E : Type 0} (result : Result T E) (told told_one told_two told_now : Bool)
    (content one two now : List ℕ) (before images : List ℕ → Type 0) →
    told_one ≡ told → told_two ≡ told_one → told_now ≡ told_two →
    ((image : List ℕ) → images image → IsTrue told_now) → (IsTrue told → before content) →
    LeavesOnly (closed_gate ∷ []) before →
    (IsTrue told → one ≡ overwritten content 1 (header_bytes (header_of new_contents))) →
    (IsTrue told_one → two ≡ overwritten one 34 (moves_bytes new_contents.snapshot)) →
    (IsTrue told_two → OnOk result (now ≡ overwritten two 59 (closed_gate ∷ []))) →
    OnOk result (LeavesOnly now images) → OnOk result (LeavesOnly shut_file images)
shut_written (Err _) told told_one told_two told_now content one two now before images same more most tells read only
    a b c sure = tt
shut_written (Ok _) told told_one told_two told_now content one two now before images same more most tells read only
    a b c sure =
    λ image is.
    let t : IsTrue told_two = subst IsTrue most (tells image is) in
    let u : IsTrue told_one = subst IsTrue more t in
    let v : IsTrue told = subst IsTrue same u in
    let head : one ≡ overwritten (closed_gate ∷ []) 1 (header_bytes (header_of new_contents)) =
    a v ∙ ap (λ file. overwritten file 1 (header_bytes (header_of new_contents))) (only content (read v)) in
    let moves : two ≡ overwritten (overwritten (closed_gate ∷ []) 1 (header_bytes (header_of new_contents)))
    34 (moves_bytes new_contents.snapshot) =
    b u ∙ ap (λ file. overwritten file 34 (moves_bytes new_contents.snapshot)) head in
    sure image is ∙ c t ∙ ap (λ file. overwritten file 59 (closed_gate ∷ [])) moves ∙ all_written

-- what holds anyway holds where a call went well
pub on_ok : {T E : Type 0} (result : Result T E) (Fact : Type 0) → Fact → OnOk result Fact
on_ok (Ok _) Fact fact = fact
on_ok (Err _) Fact fact = tt
