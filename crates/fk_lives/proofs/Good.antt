-- Files that are good up to a place: what two such fronts of one file are to one another.
use Rattle.std.proofs.Common.{◌≡◌, refl, sym, ap, subst, ◌∙◌, arith, ℕ, suc, ◌+◌, List, [], ◌∷◌, ◌++◌, length, map, take, drop, append_assoc, length-append}
use Rattle.std.specs.Prelude.{All}
use Rattle.std.specs.List.{flat_map}
use Rattle.std.proofs.Math.Seq.{take-append_seam}
use Rattle.std.proofs.lemmas.List.{length-map, take-append-drop}
use Rattle.std.proofs.lemmas.List.Elements.{All-cons, All-head, All-nil, All-tail}
use Rattle.std.proofs.lemmas.Grind.{flat_map-append}
use Rattle.fk_journal.specs.Pieces.{opened, spelled, HasLength, IsClosedAfter}
use Rattle.fk_model.specs.declared.move_.Move.{Move}
use Rattle.fk_model.specs.State.{KeptState, untold}
use Rattle.fk_model.specs.Changes.{after_move, after_moves, FitInTurn, EndsWithTotals}
use Rattle.fk_model.specs.Spellings.{HasSpelling}
use Rattle.fk_model.proofs.Leading.{fit_parts}
use Rattle.fk_moves.specs.Spelling.{move_bytes, moves_bytes}
use Rattle.fk_moves.proofs.ListLaws.{one_list}
use Rattle.fk_lives.specs.declared.header.Header.{Header}
use Rattle.fk_lives.specs.Files.{Contents, IsFileOf, head_of, front_of, moves_in, number_in}
use Rattle.fk_lives.specs.Damages.{IsGoodUpTo, IsNextPiece}
use Rattle.fk_lives.proofs.Fronts.{bodies}
use Rattle.fk_lives.proofs.Headers.{HaveOneHead, one_head}
use Rattle.fk_lives.proofs.PieceLists.{GoesOn}

-- ---- moves

-- moves that fit have a spelling each
pub spelled_each : (kept : KeptState) (moves : List Move) → FitInTurn kept moves → All HasSpelling moves
unfolding FitInTurn
spelled_each kept [] fit = All-nil HasSpelling
spelled_each kept (move ∷ moves) fit =
    All-cons HasSpelling move moves fit.0.spelled (spelled_each (after_move kept move) moves fit.1)

-- all moves of some lists
abbrev pub joined : List (List Move) → List Move
joined lists = flat_map (λ moves. moves) lists

abbrev joined_bytes : List (List ℕ) → List ℕ
joined_bytes lists = flat_map (λ bytes. bytes) lists

-- their bytes are those of the lists, one behind the other
bytes_joined : (lists : List (List Move)) → moves_bytes (joined lists) ≡ joined_bytes (map moves_bytes lists)
bytes_joined [] = refl
bytes_joined (moves ∷ lists) =
    flat_map-append move_bytes moves (joined lists)
    ∙ ap (λ (bytes : List ℕ). moves_bytes moves ++ bytes) (bytes_joined lists)

-- lists of the same bytes, whose moves have a spelling, have the same moves
pub one_joined : (lists others : List (List Move)) → All HasSpelling (joined lists) → All HasSpelling (joined others)
    → map moves_bytes lists ≡ map moves_bytes others → joined others ≡ joined lists
one_joined lists others each every same =
    one_list (moves_bytes (joined lists)) (joined lists) (joined others)
    (record { each = each; joined = refl })
    (record {
      each = every;
      joined = bytes_joined lists ∙ ap joined_bytes same ∙ sym (bytes_joined others);
    })

-- ---- lists of lists that begin with others

-- an item of a list, what stands before it and behind
pub record Parts (lists : List (List Move)) (others : List (List ℕ)) (piece : List ℕ) : Type 0 where
  pub front : List (List Move)
  pub here : List Move
  pub back : List (List Move)
  pub whole : lists ≡ front ++ here ∷ back
  pub before : map moves_bytes front ≡ others
  pub at : moves_bytes here ≡ piece

more_parts : (first : List Move) (lists : List (List Move)) (body : List ℕ) (others : List (List ℕ)) (piece : List ℕ)
    → moves_bytes first ≡ body → Parts lists others piece → Parts (first ∷ lists) (body ∷ others) piece
more_parts first lists body others piece same parts = record {
  front = first ∷ parts.front;
  here = parts.here;
  back = parts.back;
  whole = ap (λ (xs : List (List Move)). first ∷ xs) parts.whole;
  before = ap (λ (b : List ℕ). b ∷ map moves_bytes parts.front) same
      ∙ ap (λ (bs : List (List ℕ)). body ∷ bs) parts.before;
  at = parts.at;
}

parts_of : (lists : List (List Move)) (others : List (List ℕ)) (piece : List ℕ) (more : List (List ℕ))
    → map moves_bytes lists ≡ others ++ piece ∷ more → Parts lists others piece
parts_of [] [] piece more is = absurd cc
parts_of [] (body ∷ others) piece more is = absurd cc
parts_of (first ∷ lists) [] piece more is =
    let at : moves_bytes first ≡ piece = cc in
    record { front = []; here = first; back = lists; whole = refl; before = refl; at = at }
parts_of (first ∷ lists) (body ∷ others) piece more is =
    let same : moves_bytes first ≡ body = cc in
    let rest : map moves_bytes lists ≡ others ++ piece ∷ more = cc in
    more_parts first lists body others piece same (parts_of lists others piece more rest)

-- what holds of an item behind others
all_here : {X : Type 0} (P : X → Type 0) (front : List X) (x : X) (back : List X) → All P (front ++ x ∷ back) → P x
all_here P [] x back all = All-head P x back all
all_here P (y ∷ front) x back all = all_here P front x back (All-tail P y (front ++ x ∷ back) all)

-- ---- a file that is good up to a place

-- what stands behind the head
abbrev pub behind_head : Contents → List ℕ → List ℕ
behind_head contents rest = spelled contents.base (bodies contents) ++ rest

-- it has that front, and then others
pub good_whole : (contents : Contents) (file : List ℕ) → IsGoodUpTo contents file
    → file ≡ head_of contents ++ behind_head contents (drop (length (front_of contents)) file)
good_whole contents file good =
    let rest = drop (length (front_of contents)) file in
    sym (take-append-drop (length (front_of contents)) file)
    ∙ ap (λ (xs : List ℕ). xs ++ rest) good.front
    ∙ append_assoc (head_of contents) (spelled contents.base (bodies contents)) rest

-- a file that tells moves that fit is good up to its closed gate
pub is_good : (contents : Contents) (file : List ℕ) → IsFileOf contents file → FitInTurn untold (moves_in contents)
    → IsClosedAfter (front_of contents) file → IsGoodUpTo contents file
is_good contents file is fit (gate, rest, closed, whole) = record {
  are = is.are;
  front = ap (λ (f : List ℕ). take (length (front_of contents)) f) whole
      ∙ take-append_seam (front_of contents) (gate ∷ rest);
  fit = fit;
}

-- two fronts of one file: what stands behind each, and how their pieces compare
pub record AreFronts (one other : Contents) (file : List ℕ) : Type 0 where
  pub first : IsGoodUpTo one file
  pub second : IsGoodUpTo other file

pub heads : (one other : Contents) (file : List ℕ) → AreFronts one other file
    → HaveOneHead one other (behind_head one (drop (length (front_of one)) file))
    (behind_head other (drop (length (front_of other)) file))
heads one other file both =
    one_head one other _ _ file both.first.are both.second.are (good_whole one file both.first)
    (good_whole other file both.second)

-- where the first goes on, its next piece is one that the second may have next
pub next_piece : (one other : Contents) (file : List ℕ) → AreFronts one other file
    → HaveOneHead one other (behind_head one (drop (length (front_of one)) file))
    (behind_head other (drop (length (front_of other)) file))
    → GoesOn one.base (bodies one) (bodies other) (drop (length (front_of one)) file)
    (drop (length (front_of other)) file)
    → (moves : List Move) × IsNextPiece other (length (front_of other)) moves file
next_piece one other file both head on =
    let parts = parts_of one.pieces (bodies other) on.piece on.more on.is in
    let base : other.base ≡ one.base = ap (λ (h : Header). h.base) head.header in
    let others = joined (one.snapshot ∷ parts.front) in
    let all : moves_in one ≡ others ++ joined (parts.here ∷ parts.back) =
    ap (λ (xs : List (List Move)). joined (one.snapshot ∷ xs)) parts.whole
    ∙ flat_map-append (λ (one : List Move). one) (one.snapshot ∷ parts.front) (parts.here ∷ parts.back) in
    let fits = fit_parts untold others (joined (parts.here ∷ parts.back))
    (subst (λ (xs : List Move). FitInTurn untold xs) all both.first.fit) in
    let here = fit_parts (after_moves untold others) parts.here (joined parts.back) fits.1 in
    let same : moves_in other ≡ others =
    one_joined (one.snapshot ∷ parts.front) (other.snapshot ∷ other.pieces) (spelled_each untold others fits.0)
    (spelled_each untold (moves_in other) both.second.fit)
    (ap (λ (b : List ℕ). b ∷ map moves_bytes parts.front) head.snapshot
    ∙ ap (λ (bs : List (List ℕ)). moves_bytes other.snapshot ∷ bs) parts.before) in
    let lists : EndsWithTotals parts.here =
    all_here EndsWithTotals (one.snapshot ∷ parts.front) parts.here parts.back
    (subst (λ (xs : List (List Move)). All EndsWithTotals (one.snapshot ∷ xs)) parts.whole both.first.are.lists) in
    let short : HasLength (moves_bytes parts.here) =
    subst HasLength (sym parts.at) (all_here HasLength (bodies other) on.piece on.more
    (subst (λ (ps : List (List ℕ)). All HasLength ps) on.is both.first.are.pieces)) in
    let count : one.base + length (bodies other) + 1 ≡ number_in other =
    omega (arith, base, length-map other.pieces moves_bytes) in
    let place : length one.pieces ≡ length parts.front + suc (length parts.back) =
    ap length parts.whole ∙ length-append parts.front (parts.here ∷ parts.back) in
    let long : length parts.front ≡ length other.pieces =
    sym (length-map parts.front moves_bytes) ∙ ap length parts.before ∙ length-map other.pieces moves_bytes in
    let piece : drop (length (front_of other)) file
    ≡ opened (number_in other) (moves_bytes parts.here)
    ++ (spelled (number_in other) on.more ++ drop (length (front_of one)) file) =
    on.begins
    ∙ append_assoc (opened (one.base + length (bodies other) + 1) on.piece)
    (spelled (one.base + length (bodies other) + 1) on.more) (drop (length (front_of one)) file)
    ∙ ap (λ (n : ℕ). opened n on.piece ++ (spelled n on.more ++ drop (length (front_of one)) file)) count
    ∙ ap (λ (b : List ℕ). opened (number_in other) b
    ++ (spelled (number_in other) on.more ++ drop (length (front_of one)) file)) (sym parts.at) in (
      parts.here,
      record {
        begins = record {
          front = ap (λ (f : List ℕ). take (length (opened (number_in other) (moves_bytes parts.here))) f) piece
              ∙ take-append_seam (opened (number_in other) (moves_bytes parts.here)) _;
          fits = short;
          within = omega (arith, both.first.are.numbers, place, long, base);
        };
        next = record {
          list = lists;
          fit = subst (λ (xs : List Move). FitInTurn (after_moves untold xs) parts.here) (sym same) here.0;
        };
      },
    )
