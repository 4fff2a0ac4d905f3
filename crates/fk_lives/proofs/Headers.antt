-- The header of a file: what a file tells stands in it, and a file has one.
use Rattle.std.proofs.Common.{◌≡◌, inl, inr, refl, sym, ap, subst, ◌∙◌, arith, ℕ, ◌+◌, ◌<◌, ◌≤◌, ◌^◌, List, [], ◌∷◌, ◌++◌, length, drop, length-append}
use Rattle.std.specs.Int.{w64, from_be_bytes}
use Rattle.std.proofs.lemmas.Nat.{from_be_bytes-to_be_bytes_8}
use Rattle.fk_moves.specs.Spelling.{word_bytes, moves_bytes}
use Rattle.fk_lives.specs.declared.header.Header.{Header}
use Rattle.fk_lives.specs.Files.{Contents, AreContents, header_of, head_of}
use Rattle.fk_lives.specs.Damages.{HasNumber, HasHeader, IsHeaderDamagedAt}

-- ---- bytes

-- two fronts of one list, of the same length
pub split : (a b c d : List ℕ) → length a ≡ length c → a ++ b ≡ c ++ d → (a ≡ c) × (b ≡ d)
split [] b [] d same is = (refl, is)
split [] b (y ∷ c) d same is = absurd (omega (arith, same))
split (x ∷ a) b [] d same is = absurd (omega (arith, same))
split (x ∷ a) b (y ∷ c) d same is =
    let first : x ≡ y = cc in
    let others : a ++ b ≡ c ++ d = cc in
    let more = split a b c d (omega (arith, same)) others in
    (ap (λ z. z ∷ a) first ∙ ap (λ zs. y ∷ zs) more.0, more.1)

-- a number is known by its bytes
pub same_word : (one other : ℕ) → one < 2 ^ 64 → other < 2 ^ 64 → word_bytes one ≡ word_bytes other → one ≡ other
unfolding word_bytes
same_word one other small small_too same =
    sym (from_be_bytes-to_be_bytes_8 one small) ∙ ap (from_be_bytes w64) same
    ∙ from_be_bytes-to_be_bytes_8 other small_too

-- ---- what stands in a file

-- a file that begins with the head of what it may tell has the header of it
pub has_header : (contents : Contents) (rest file : List ℕ) → AreContents contents
    → file ≡ head_of contents ++ rest → HasHeader (header_of contents) file
unfolding word_bytes
has_header contents rest file are is =
    let base_small : contents.base < 2 ^ 64 = omega (arith, are.numbers) in
    subst (λ (f : List ℕ). HasHeader (header_of contents) f) (sym is) (record {
      known = refl;
      versioned = refl;
      generation = (record { word = omega (arith, are.generation.1); bytes = refl }, are.generation);
      base = (record { word = base_small; bytes = refl }, omega (arith, are.numbers));
      snapshot = record { word = are.snapshot; bytes = refl };
    })

-- and behind the header the bytes of the snapshot
pub behind_header : (contents : Contents) (rest file : List ℕ) → file ≡ head_of contents ++ rest
    → drop 34 file ≡ moves_bytes contents.snapshot ++ rest
unfolding word_bytes
behind_header contents rest file is = ap (λ (f : List ℕ). drop 34 f) is

-- which are all there
pub snapshot_within : (contents : Contents) (rest file : List ℕ) → file ≡ head_of contents ++ rest
    → 34 + length (moves_bytes contents.snapshot) ≤ length file
unfolding word_bytes
snapshot_within contents rest file is =
    omega (arith, ap length is, length-append (moves_bytes contents.snapshot) rest)

-- a file has one number at a place
pub same_at : (at one other : ℕ) (file : List ℕ) → HasNumber at one file → HasNumber at other file → other ≡ one
same_at at one other file first second =
    same_word other one second.word first.word (sym second.bytes ∙ first.bytes)

abbrev header_with : ℕ → ℕ → ℕ → Header
header_with generation base count = record { generation = generation; base = base; length = count }

-- a file has one header
pub one_header : (header other : Header) (file : List ℕ) → HasHeader header file → HasHeader other file
    → other ≡ header
one_header header other file first second =
    let generation = same_at 10 header.generation other.generation file first.generation.0 second.generation.0 in
    let base = same_at 18 header.base other.base file first.base.0 second.base.0 in
    let count = same_at 26 header.length other.length file first.snapshot second.snapshot in
    ap (λ (n : ℕ). header_with n other.base other.length) generation
    ∙ ap (λ (n : ℕ). header_with header.generation n other.length) base
    ∙ ap (λ (n : ℕ). header_with header.generation header.base n) count

-- and where it has one, no field of it is damaged
pub header_is_whole : (header : Header) (file : List ℕ) (at : ℕ) → HasHeader header file → ¬ IsHeaderDamagedAt at file
header_is_whole header file at has (inl magic) = magic.1 has.known
header_is_whole header file at has (inr (inl version)) = version.2 has.versioned
header_is_whole header file at has (inr (inr (inl generation))) =
    generation.3 (header.generation, has.generation.0, has.generation.1)
header_is_whole header file at has (inr (inr (inr (inl base)))) = base.4 (header.base, has.base.0, has.base.1)
header_is_whole header file at has (inr (inr (inr (inr count)))) = count.5 (header.length, has.snapshot)

-- ---- two heads of one file

pub record HaveOneHead (one other : Contents) (rest others : List ℕ) : Type 0 where
  pub header : header_of other ≡ header_of one
  pub snapshot : moves_bytes one.snapshot ≡ moves_bytes other.snapshot
  pub behind : rest ≡ others

pub one_head : (one other : Contents) (rest others file : List ℕ) → AreContents one → AreContents other
    → file ≡ head_of one ++ rest → file ≡ head_of other ++ others → HaveOneHead one other rest others
one_head one other rest others file are are_too first second =
    let header : header_of other ≡ header_of one =
    one_header (header_of one) (header_of other) file (has_header one rest file are first)
    (has_header other others file are_too second) in
    let both : moves_bytes one.snapshot ++ rest ≡ moves_bytes other.snapshot ++ others =
    sym (behind_header one rest file first) ∙ behind_header other others file second in
    let parts = split (moves_bytes one.snapshot) rest (moves_bytes other.snapshot) others
    (sym (ap (λ (h : Header). h.length) header)) both in
    record { header = header; snapshot = parts.0; behind = parts.1 }
