-- Lists of moves: each has one spelling, and where reading one of its moves stops, the list stops.
use Rattle.std.proofs.Common.{◌≡◌, ℕ, zero, suc, ◌+◌, ◌-◌, ◌<◌, ◌≤◌, List, [], ◌∷◌, ◌++◌, length, take, drop, get_or, Ok, Err, refl, sym, ap, subst, ◌∙◌, append_assoc, arith, length-append, inl, inr}
use Rattle.std.specs.Prelude.{All}
use Rattle.std.proofs.lemmas.Bool.{cases_lt}
use Rattle.std.proofs.lemmas.Grind.{flat_map-append}
use Rattle.std.proofs.lemmas.List.{append-nil, take-append-drop, length-take, take_at}
use Rattle.std.proofs.Math.Seq.{take-append-add}
use Rattle.std.proofs.lemmas.List.Elements.{All-append, All-nil}
use Rattle.fk_job.specs.Spellings.{AreBytes}
use Rattle.fk_model.specs.declared.move_.Move.{Move}
use Rattle.fk_model.specs.declared.move_.Move.TheVariants.{Add, Put, Drop, DropAll, Totals}
use Rattle.fk_model.specs.Spellings.{HasSpelling}
use Rattle.fk_moves.specs.Spelling.{move_bytes, moves_bytes, rest_bytes, row_bytes, word_bytes}
use Rattle.fk_moves.specs.declared.stop.Stop.{Stop}
use Rattle.fk_moves.specs.declared.stop.Stop.TheVariants as stops
use Rattle.fk_moves.specs.declared.fault.MovesFault.TheVariants.{BadMoves, NoMemory}
use Rattle.fk_moves.specs.Lists.{Spells, BeginsUpTo}
use Rattle.fk_moves.specs.Fields.{Fails, fault_at}
use Rattle.fk_moves.specs.Parts.{one_move}
use Rattle.fk_moves.proofs.Aligned.{aligned, bytes_behind, found_is}
use Rattle.fk_moves.proofs.FieldLaws.{IsStuck}
use Rattle.fk_moves.proofs.PartLaw.{never_both}
use Rattle.fk_moves.proofs.RowLaws.{move_law}
use Rattle.fk_moves.proofs.SpelledRows.{has_move, move_has, move_spelled}

-- ---- one move

pub move_takes : (bytes rest : List ℕ) (m : Move) → AreBytes bytes → one_move.read bytes ≡ Ok (m, rest)
    → HasSpelling m × (bytes ≡ move_bytes m ++ rest)
move_takes bytes rest m all is =
    let t = move_law.takes bytes rest m all is in
    (has_move m t.0, t.1 ∙ ap (λ (b : List ℕ). b ++ rest) (move_spelled m))

pub move_again : (m : Move) (rest : List ℕ) → HasSpelling m → one_move.read (move_bytes m ++ rest) ≡ Ok (m, rest)
move_again m rest has =
    ap (λ (b : List ℕ). one_move.read (b ++ rest)) (sym (move_spelled m)) ∙ move_law.again m rest (move_has m has)

move_is_long : (m : Move) → 0 < length (move_bytes m)
move_is_long (Add ticket new) = omega (arith, length-append (1 ∷ word_bytes ticket) (row_bytes new))
move_is_long (Put ticket enqueued failed stands) =
    omega (arith, length-append (2 ∷ word_bytes ticket) (rest_bytes enqueued failed stands))
move_is_long (Drop ticket) = omega arith
move_is_long DropAll = omega arith
move_is_long (Totals next processed failures) =
    omega (
      arith,
      length-append ((5 ∷ word_bytes next) ++ word_bytes processed) (word_bytes failures),
      length-append (5 ∷ word_bytes next) (word_bytes processed),
    )

-- no move is spelled by nothing
none_left : (m : Move) (rest : List ℕ) → [] ≡ move_bytes m ++ rest → ⊥
none_left m rest is = let long = move_is_long m in absurd (omega (arith, ap length is, length-append (move_bytes m) rest, long))

-- ---- lists

all_of : (m : Move) (moves : List Move) → HasSpelling m → All HasSpelling moves → All HasSpelling (m ∷ moves)
all_of m moves one all zero d lt = one
all_of m moves one all (suc k) d lt = all k d (omega arith)

rest_of_all : (m : Move) (moves : List Move) → All HasSpelling (m ∷ moves) → All HasSpelling moves
rest_of_all m moves all k d lt = all (suc k) d (omega arith)

-- where the bytes of moves are followed by others, and the whole is spelled, the others are spelled
pub go_on : (moves : List Move) (rest : List ℕ) (others : List Move) → All HasSpelling moves → All HasSpelling others
    → moves_bytes moves ++ rest ≡ moves_bytes others
    → (more : List Move) × (others ≡ moves ++ more) × All HasSpelling more × (rest ≡ moves_bytes more)
go_on [] rest others all each is = (others, refl, each, is)
go_on (m ∷ moves) rest [] all each is =
    absurd (none_left m (moves_bytes moves ++ rest) (sym is ∙ append_assoc (move_bytes m) (moves_bytes moves) rest))
go_on (m ∷ moves) rest (o ∷ others) all each is =
    let here = all 0 m (omega arith) in
    let there = each 0 o (omega arith) in
    let both : move_bytes m ++ (moves_bytes moves ++ rest) ≡ move_bytes o ++ moves_bytes others
    = sym (append_assoc (move_bytes m) (moves_bytes moves) rest) ∙ is in
    let read : Ok (m, moves_bytes moves ++ rest) ≡ Ok (o, moves_bytes others)
    = sym (move_again m (moves_bytes moves ++ rest) here) ∙ ap one_move.read both ∙ move_again o (moves_bytes others) there in
    let same = found_is (m, moves_bytes moves ++ rest) (o, moves_bytes others) read in
    let first : m ≡ o = ap (λ (x : Move × List ℕ). x.0) same in
    let next = go_on moves rest others (rest_of_all m moves all) (rest_of_all o others each) (ap (λ (x : Move × List ℕ). x.1) same) in
    (next.0, cc, next.2, next.3)

no_more : (moves : List Move) → [] ≡ moves_bytes moves → moves ≡ []
no_more [] is = refl
no_more (m ∷ moves) is = absurd (none_left m (moves_bytes moves) is)

-- a list has one spelling
pub one_list : (bytes : List ℕ) (moves others : List Move) → Spells bytes moves → Spells bytes others → others ≡ moves
one_list bytes moves others one other =
    let next = go_on moves [] others one.each other.each (append-nil (moves_bytes moves) ∙ sym one.joined ∙ other.joined) in
    next.1 ∙ ap (λ (x : List Move). moves ++ x) (no_more next.0 next.3) ∙ append-nil moves

-- ---- a loop over what is left

-- the moves so far have a spelling, and behind it the rest is left
pub record Read (bytes : List ℕ) (moves : List Move) (rest : List ℕ) : Type 0 where
  pub each : All HasSpelling moves
  pub parts : bytes ≡ moves_bytes moves ++ rest

pub read_none : (bytes : List ℕ) → Read bytes [] bytes
read_none bytes = record { each = All-nil HasSpelling; parts = refl }

pub read_more : (bytes : List ℕ) (moves : List Move) (rest : List ℕ) (m : Move) (after : List ℕ) → AreBytes bytes
    → Read bytes moves rest → one_move.read rest ≡ Ok (m, after) → Read bytes (moves ++ m ∷ []) after
read_more bytes moves rest m after all so_far found =
    let t = move_takes rest after m (bytes_behind (moves_bytes moves) rest (subst AreBytes so_far.parts all)) found in
    record {
      each = All-append HasSpelling moves (m ∷ []) so_far.each (all_of m [] t.0 (All-nil HasSpelling));
      parts = so_far.parts ∙ ap (λ (b : List ℕ). moves_bytes moves ++ b) t.1
          ∙ sym (append_assoc (moves_bytes moves) (move_bytes m) after)
          ∙ ap (λ (b : List ℕ). b ++ after) (ap (λ (b : List ℕ). moves_bytes moves ++ b) (sym (append-nil (move_bytes m))) ∙ sym (flat_map-append move_bytes moves (m ∷ [])));
    }

pub read_all : (bytes : List ℕ) (moves : List Move) (rest : List ℕ) → Read bytes moves rest → rest ≡ [] → Spells bytes moves
read_all bytes moves rest so_far none = record {
  each = so_far.each;
  joined = so_far.parts ∙ ap (λ (b : List ℕ). moves_bytes moves ++ b) none ∙ append-nil (moves_bytes moves);
}

stops_none : (rest : List ℕ) (left : ℕ) (moves : List Move) → 0 < length rest → one_move.read rest ≡ Err left
    → All HasSpelling moves → rest ≡ moves_bytes moves → ⊥
stops_none rest left [] some stops all is = absurd (omega (arith, ap length is))
stops_none rest left (m ∷ moves) some stops all is =
    never_both (one_move.read rest) left (m, moves_bytes moves) stops
    (ap one_move.read is ∙ move_again m (moves_bytes moves) (all 0 m (omega arith)))

-- a front of what is left that begins a list is no longer than where reading stops
cut_short : (rest : List ℕ) (left k : ℕ) (more : List ℕ) (moves : List Move) (s : IsStuck one_move rest left) → 0 < k → k ≤ length rest
    → one_move.read rest ≡ Err left → All HasSpelling moves → take k rest ++ more ≡ moves_bytes moves
    → k ≤ length s.front
cut_short rest left k more [] s some fits stops all is =
    absurd (omega (arith, ap length is, length-append (take k rest) more, length-take k rest))
cut_short rest left k more (m ∷ moves) s some fits stops all is =
    let here = all 0 m (omega arith) in
    let len : length (take k rest) ≡ k = omega (arith, length-take k rest) in
    elim (cases_lt (length (move_bytes m)) k) [
      | inl lt ↦
          let next = aligned (move_bytes m) (moves_bytes moves) (take k rest) more (sym is) (omega arith) in
          let whole : rest ≡ move_bytes m ++ (next.0 ++ drop k rest)
          = sym (take-append-drop k rest) ∙ ap (λ (b : List ℕ). b ++ drop k rest) next.1 ∙ append_assoc (move_bytes m) next.0 (drop k rest) in
          absurd (never_both (one_move.read rest) left (m, next.0 ++ drop k rest) stops
          (ap one_move.read whole ∙ move_again m (next.0 ++ drop k rest) here))
      | inr le ↦
          let next = aligned (take k rest) more (move_bytes m) (moves_bytes moves) is (omega arith) in
          let short = s.longest (take k rest) (drop k rest) next.0 m (sym (take-append-drop k rest)) (move_has m here)
          (sym next.1 ∙ sym (move_spelled m)) in
          omega (arith, short, len)
    ]

-- nothing is spelled where a move isn't read
pub spells_none : (bytes : List ℕ) (moves : List Move) (rest : List ℕ) (left : ℕ) (others : List Move)
    → Read bytes moves rest → 0 < length rest → one_move.read rest ≡ Err left → Spells bytes others → ⊥
spells_none bytes moves rest left others so_far some stops spelled =
    let next = go_on moves rest others so_far.each spelled.each (sym so_far.parts ∙ spelled.joined) in
    stops_none rest left next.0 some stops next.2 next.3

-- the place at which a list stops
pub begins_up_to : (bytes : List ℕ) (moves : List Move) (rest : List ℕ) (left : ℕ) → AreBytes bytes
    → Read bytes moves rest → one_move.read rest ≡ Err left → 0 < length rest
    → BeginsUpTo bytes (length bytes - left) × (left ≤ length bytes)
begins_up_to bytes moves rest left all so_far stops some =
    let s = move_law.stuck rest left (bytes_behind (moves_bytes moves) rest (subst AreBytes so_far.parts all)) stops in
    let head = moves_bytes moves in
    let whole : bytes ≡ (head ++ s.front) ++ s.back
    = so_far.parts ∙ ap (λ (b : List ℕ). head ++ b) s.parts ∙ sym (append_assoc head s.front s.back) in
    let long : length bytes ≡ length head + length s.front + left
    = omega (arith, ap length whole, length-append (head ++ s.front) s.back, length-append head s.front, s.behind) in
    let at : length bytes - left ≡ length (head ++ s.front) = omega (arith, long, length-append head s.front) in
    let front : take (length bytes - left) bytes ≡ head ++ s.front
    = ap (λ (b : List ℕ). take (length bytes - left) b) whole ∙ take_at (head ++ s.front) s.back (length bytes - left) (sym at) in
    let value = has_move s.value s.has in
    let spelled : (head ++ s.front) ++ s.more ≡ moves_bytes (moves ++ s.value ∷ [])
    = append_assoc head s.front s.more ∙ ap (λ (b : List ℕ). head ++ b) (s.begins ∙ move_spelled s.value ∙ sym (append-nil (move_bytes s.value)))
    ∙ sym (flat_map-append move_bytes moves (s.value ∷ [])) in (
      record {
        within = omega arith;
        begins = (
          s.more,
          moves ++ s.value ∷ [],
          record {
            each = All-append HasSpelling moves (s.value ∷ []) so_far.each (all_of s.value [] value (All-nil HasSpelling));
            joined = ap (λ (b : List ℕ). b ++ s.more) front ∙ spelled;
          },
        );
        longest = λ other le begins.
            elim (cases_lt (length head) other) [
              | inr short ↦ omega (arith, at, length-append head s.front)
              | inl long_enough ↦
                  let k = other - length head in
                  let cut : take other bytes ≡ head ++ take k rest
                  = ap (λ (b : List ℕ). take other b) so_far.parts
                  ∙ ap (λ (n : ℕ). take n (head ++ rest)) (omega arith) ∙ take-append-add head rest k in
                  let next = go_on moves (take k rest ++ begins.0) begins.1 so_far.each begins.2.each
                  (sym (append_assoc head (take k rest) begins.0) ∙ ap (λ (b : List ℕ). b ++ begins.0) (sym cut) ∙ begins.2.joined) in
                  let fits : k ≤ length rest = omega (arith, ap length so_far.parts, length-append head rest) in
                  let short = cut_short rest left k begins.0 next.0 s (omega arith) fits stops next.2 next.3 in
                  omega (arith, short, at, length-append head s.front)
            ];
      },
      omega (arith, long),
    )

-- ---- the loop's ends

pub slice_bytes : (bytes : List ℕ) → ((i : ℕ) → get_or bytes i 0 < 256) → AreBytes bytes
slice_bytes [] small k d lt = absurd (omega arith)
slice_bytes (b ∷ bytes) small zero d lt = small 0
slice_bytes (b ∷ bytes) small (suc k) d lt = slice_bytes bytes (λ i. small (suc i)) k d (omega arith)

pub read_less : (bytes : List ℕ) (moves : List Move) (rest : List ℕ) (m : Move) (after : List ℕ) → AreBytes bytes
    → Read bytes moves rest → one_move.read rest ≡ Ok (m, after) → length after < length rest
read_less bytes moves rest m after all so_far found =
    let t = move_takes rest after m (bytes_behind (moves_bytes moves) rest (subst AreBytes so_far.parts all)) found in
    omega (arith, ap length t.1, length-append (move_bytes m) after, move_is_long m)

pub stopped_only : (stop : Stop) (bytes : List ℕ) (moves : List Move) (rest : List ℕ) (others : List Move)
    → Read bytes moves rest → 0 < length rest → Fails stop (one_move.read rest) → Spells bytes others
    → fault_at stop (length bytes) ≡ NoMemory
stopped_only stops.NoMemory bytes moves rest others so_far some stopped spelled = refl
stopped_only (stops.At left) bytes moves rest others so_far some stopped spelled =
    absurd (spells_none bytes moves rest left others so_far some stopped spelled)

at_of : (one other : ℕ) → BadMoves one ≡ BadMoves other → one ≡ other
at_of one other is = cc

pub stopped_place : (stop : Stop) (bytes : List ℕ) (moves : List Move) (rest : List ℕ) (at : ℕ) → AreBytes bytes
    → Read bytes moves rest → 0 < length rest → Fails stop (one_move.read rest) → fault_at stop (length bytes) ≡ BadMoves at
    → BeginsUpTo bytes at
stopped_place stops.NoMemory bytes moves rest at all so_far some stopped is = absurd cc
stopped_place (stops.At left) bytes moves rest at all so_far some stopped is =
    subst (λ (n : ℕ). BeginsUpTo bytes n) (at_of (length bytes - left) at is)
    (begins_up_to bytes moves rest left all so_far stopped some).0
