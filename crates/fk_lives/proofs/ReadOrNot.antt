-- Whether a number, moves and a snapshot stand at a place of a file.
use Rattle.std.proofs.Common.{◌≡◌, ◌⊎◌, inl, inr, refl, sym, ap, subst, ◌∙◌, arith, ℕ, zero, suc, ◌+◌, ◌<◌, ◌≤◌, ◌^◌, List, [], ◌∷◌, ◌++◌, length, take, drop, Ok, Err}
use Rattle.std.specs.Prelude.{All}
use Rattle.std.specs.Int.{w64, from_be_bytes}
use Rattle.std.proofs.lemmas.List.Elements.{All-drop, All-take}
use Rattle.std.proofs.lemmas.Nat.{from_be_bytes-to_be_bytes_8}
use Rattle.fk_job.specs.Spellings.{AreBytes}
use Rattle.fk_model.specs.declared.move_.Move.{Move}
use Rattle.fk_model.specs.State.{untold}
use Rattle.fk_model.specs.Changes.{after_moves}
use Rattle.fk_model.specs.Spellings.{HasSpelling}
use Rattle.fk_moves.specs.Fields.{Reading}
use Rattle.fk_moves.specs.Lists.{Spells}
use Rattle.fk_moves.specs.Parts.{one_move}
use Rattle.fk_moves.specs.Spelling.{word_bytes}
use Rattle.fk_moves.proofs.ListLaws.{Read, one_list, read_all, read_less, read_more, read_none, spells_none}
use Rattle.fk_lives.specs.Damages.{HasNumber, AreNext, IsSnapshot}
use Rattle.fk_lives.proofs.Choices.{IsKnown, known_le, known_lt, known_bytes, known_both, known_as}
use Rattle.fk_lives.proofs.FitOrNot.{known_ends, known_fit}

-- ---- numbers

-- the number that eight bytes spell, if they spell one
abbrev pub number_at : ℕ → List ℕ → ℕ
number_at at file = from_be_bytes w64 (take 8 (drop at file))

number_is : (at n : ℕ) (file : List ℕ) → HasNumber at n file → n ≡ number_at at file
unfolding word_bytes
number_is at n file has = sym (from_be_bytes-to_be_bytes_8 n has.word) ∙ ap (from_be_bytes w64) (sym has.bytes)

known_here : (at n : ℕ) (file : List ℕ) → IsKnown (HasNumber at n file)
known_here at n file =
    known_as (λ both. record { word = both.0; bytes = both.1 }) (λ has. (has.word, has.bytes))
    (known_both (known_lt n (2 ^ 64)) (known_bytes (take 8 (drop at file)) (word_bytes n)))

-- a number that is so
pub known_number : (at : ℕ) (file : List ℕ) (P : ℕ → Type 0) → ((n : ℕ) → IsKnown (P n))
    → IsKnown ((n : ℕ) × HasNumber at n file × P n)
known_number at file P each =
    known_as (λ both. (number_at at file, both.0, both.1))
    (λ found. let same = number_is at found.0 file found.1 in
    (subst (λ (n : ℕ). HasNumber at n file) same found.1, subst P same found.2))
    (known_both (known_here at (number_at at file) file) (each (number_at at file)))

pub known_any : (at : ℕ) (file : List ℕ) → IsKnown ((n : ℕ) × HasNumber at n file)
known_any at file =
    known_as (λ has. (number_at at file, has))
    (λ found. subst (λ (n : ℕ). HasNumber at n file) (number_is at found.0 file found.1) found.1)
    (known_here at (number_at at file) file)

-- ---- moves

-- some moves are so, or none
abbrev pub IsFound : (List Move → Type 0) → Type 0
IsFound P = ((moves : List Move) × P moves) ⊎ ((moves : List Move) → ¬ P moves)

-- what a reading of one move gives
abbrev IsRead : Reading Move → Type 0
IsRead reading =
    ((move : Move) × (rest : List ℕ) × (reading ≡ Ok (move, rest))) ⊎ ((left : ℕ) × (reading ≡ Err left))

is_read : (reading : Reading Move) → IsRead reading
is_read (Ok (move, rest)) = inl (move, rest, refl)
is_read (Err left) = inr (left, refl)

found_behind : (fuel : ℕ) (bytes : List ℕ) (moves : List Move) (rest : List ℕ) → AreBytes bytes
    → Read bytes moves rest → length rest < fuel → IsFound (Spells bytes)
found_behind zero bytes moves rest all so_far short = absurd (omega (arith, short))
found_behind (suc fuel) bytes moves [] all so_far short = inl (moves, read_all bytes moves [] so_far refl)
found_behind (suc fuel) bytes moves (byte ∷ rest) all so_far short =
    elim (is_read (one_move.read (byte ∷ rest))) [
      | inl (move, after, found) ↦
          let less = read_less bytes moves (byte ∷ rest) move after all so_far found in
          found_behind fuel bytes (moves ++ move ∷ []) after all
          (read_more bytes moves (byte ∷ rest) move after all so_far found) (omega (arith, short, less))
      | inr (left, stops) ↦
          inr (λ others. spells_none bytes moves (byte ∷ rest) left others so_far (omega arith) stops)
    ]

pub found_moves : (bytes : List ℕ) → AreBytes bytes → IsFound (Spells bytes)
found_moves bytes all = found_behind (length bytes + 1) bytes [] bytes all (read_none bytes) (omega arith)

-- moves that stand behind others, or not
pub known_next : (before moves : List Move) → All HasSpelling moves → IsKnown (AreNext before moves)
known_next before moves each =
    known_as (λ both. record { list = both.0; fit = both.1 }) (λ next. (next.list, next.fit))
    (known_both (known_ends moves) (known_fit (after_moves untold before) moves each))

-- ---- a snapshot

found_spelled : (n : ℕ) (file : List ℕ) (moves : List Move) → 34 + n ≤ length file
    → Spells (take n (drop 34 file)) moves → IsKnown (AreNext [] moves)
    → IsFound (λ others. IsSnapshot n others file)
found_spelled n file moves there spells (inl next) = inl (moves, record { there = there; spells = spells; next = next })
found_spelled n file moves there spells (inr fails) =
    inr (λ others is. fails (subst (AreNext [])
    (one_list (take n (drop 34 file)) moves others spells is.spells) is.next))

pub found_snapshot : (n : ℕ) (file : List ℕ) → AreBytes file → IsFound (λ moves. IsSnapshot n moves file)
found_snapshot n file all =
    elim (known_le (34 + n) (length file)) [
      | inr short ↦ inr (λ moves is. short is.there)
      | inl there ↦
          elim (found_moves (take n (drop 34 file)) (All-take (λ byte. byte < 256) n (drop 34 file)
          (All-drop (λ byte. byte < 256) 34 file all))) [
            | inl (moves, spells) ↦ found_spelled n file moves there spells (known_next [] moves spells.each)
            | inr none ↦ inr (λ moves is. none moves is.spells)
          ]
    ]
