-- Files that stand for a state aren't damaged, and damaged ones have one first damage.
use Rattle.std.proofs.Common.{◌≡◌, ◌⊎◌, inl, inr, sym, ap, subst, ◌∙◌, arith, ℕ, List, ◌∷◌, ◌++◌, length, take, drop}
use Rattle.std.specs.Prelude.{Option, None, Some, slice_index}
use Rattle.std.proofs.Math.Seq.{take-append_seam, drop-append_seam}
use Rattle.std.proofs.lemmas.List.Elements.{All-head}
use Rattle.fk_journal.specs.declared.fault.Damage.{Damage}
use Rattle.fk_journal.specs.declared.fault.File.TheVariants.{A}
use Rattle.fk_journal.specs.Pieces.{opened, spelled, IsClosedAfter, IsClosedAt}
use Rattle.fk_model.specs.declared.move_.Move.{Move}
use Rattle.fk_model.specs.State.{KeptState, untold}
use Rattle.fk_model.specs.Changes.{FitInTurn, EndsWithTotals}
use Rattle.fk_model.proofs.Leading.{fit_parts}
use Rattle.fk_moves.specs.Spelling.{moves_bytes}
use Rattle.fk_lives.specs.declared.header.Header.{Header}
use Rattle.fk_lives.specs.Files.{Contents, IsFileOf, IsBlank, header_of, front_of, moves_in, number_in}
use Rattle.fk_lives.specs.Standing.{Tell, LeadsTo, Stands}
use Rattle.fk_lives.specs.Damages.{HasHeader, IsHeaderDamagedAt, IsSnapshot, IsSnapshotDamaged, IsGoodUpTo, IsNextPiece, IsPieceDamagedAt, IsDamagedFileAt, IsFirstDamage}
use Rattle.fk_lives.proofs.Fronts.{bodies, closed_of}
use Rattle.fk_lives.proofs.Headers.{HaveOneHead, has_header, behind_header, snapshot_within, one_header, header_is_whole}
use Rattle.fk_lives.proofs.PieceLists.{GoesOn, AreCompared, compared}
use Rattle.fk_lives.proofs.OneState.{one_front}
use Rattle.fk_lives.proofs.Good.{AreFronts, behind_head, good_whole, heads, is_good, joined, next_piece, spelled_each}

-- ---- a file that is good up to a place

good_header : (contents : Contents) (file : List ℕ) → IsGoodUpTo contents file → HasHeader (header_of contents) file
good_header contents file good = has_header contents _ file good.are (good_whole contents file good)

-- its snapshot is whole
good_snapshot : (contents : Contents) (file : List ℕ) → IsGoodUpTo contents file
    → IsSnapshot (length (moves_bytes contents.snapshot)) contents.snapshot file
good_snapshot contents file good =
    let bytes = moves_bytes contents.snapshot in
    let rest = behind_head contents (drop (length (front_of contents)) file) in
    let behind = behind_header contents rest file (good_whole contents file good) in
    let fit = (fit_parts untold contents.snapshot (joined contents.pieces) good.fit).0 in
    record {
      there = snapshot_within contents rest file (good_whole contents file good);
      spells = record {
        each = spelled_each untold contents.snapshot fit;
        joined = ap (take (length bytes)) behind ∙ take-append_seam bytes rest;
      };
      next = record {
        list = All-head EndsWithTotals contents.snapshot contents.pieces good.are.lists;
        fit = fit;
      };
    }

snapshot_is_whole : (contents : Contents) (file : List ℕ) → IsGoodUpTo contents file → ¬ IsSnapshotDamaged file
snapshot_is_whole contents file good damaged =
    let same = one_header (header_of contents) damaged.header file (good_header contents file good) damaged.right in
    damaged.none contents.snapshot
    (subst (λ (h : Header). IsSnapshot h.length contents.snapshot file) (sym same) (good_snapshot contents file good))

-- ---- two fronts of one file

-- they are one, or one of the two goes on with a piece that the other may have next
abbrev AreOneOrGoOn : Contents → Contents → List ℕ → Type 0
AreOneOrGoOn one other file =
    (front_of other ≡ front_of one)
    ⊎ ((moves : List Move) × IsNextPiece other (length (front_of other)) moves file)
    ⊎ ((moves : List Move) × IsNextPiece one (length (front_of one)) moves file)

go_on : (one other : Contents) (file : List ℕ) → AreFronts one other file → other.base ≡ one.base
    → HaveOneHead one other (behind_head one (drop (length (front_of one)) file))
    (behind_head other (drop (length (front_of other)) file))
    → AreCompared one.base (bodies one) (bodies other) (drop (length (front_of one)) file)
    (drop (length (front_of other)) file) → AreOneOrGoOn one other file
go_on one other file both base head (inl same) =
    inl (one_front one other (record {
      header = head.header;
      lists = ap (λ (b : List ℕ). b ∷ bodies one) head.snapshot
          ∙ ap (λ (bs : List (List ℕ)). moves_bytes other.snapshot ∷ bs) (sym same.0);
    }))
go_on one other file both base head (inr (inl on)) = inr (inl (next_piece one other file both head on))
go_on one other file both base head (inr (inr on)) =
    let swapped : AreFronts other one file = record { first = both.second; second = both.first } in
    inr (inr (next_piece other one file swapped (heads other one file swapped)
    (subst (λ (n : ℕ). GoesOn n (bodies other) (bodies one) (drop (length (front_of other)) file)
    (drop (length (front_of one)) file)) (sym base) on)))

fronts_compared : (one other : Contents) (file : List ℕ) → AreFronts one other file → AreOneOrGoOn one other file
fronts_compared one other file both =
    let head = heads one other file both in
    let base : other.base ≡ one.base = ap (λ (h : Header). h.base) head.header in
    let rest = drop (length (front_of one)) file in
    let behind = drop (length (front_of other)) file in
    go_on one other file both base head
    (compared one.base (bodies one) (bodies other) rest behind both.first.are.pieces both.second.are.pieces
    (head.behind ∙ ap (λ (n : ℕ). spelled n (bodies other) ++ behind) base))

-- ---- where a file tells something

-- no piece begins at a gate that is closed
none_begins : (contents : Contents) (file : List ℕ) (moves : List Move) → IsClosedAfter (front_of contents) file
    → ¬ IsNextPiece contents (length (front_of contents)) moves file
none_begins contents file moves (gate, rest, closed, is) next =
    let n = length (opened (number_in contents) (moves_bytes moves)) in
    let behind : drop (length (front_of contents)) file ≡ gate ∷ rest =
    ap (drop (length (front_of contents))) is ∙ drop-append_seam (front_of contents) (gate ∷ rest) in
    closed (ap (λ (xs : List ℕ). slice_index xs 0) (ap (take n) (sym behind) ∙ next.begins.front))

closed_there : (contents : Contents) (file : List ℕ) → IsGoodUpTo contents file
    → IsClosedAfter (front_of contents) file → IsClosedAt (length (front_of contents)) file
closed_there contents file good closed =
    subst (λ (front : List ℕ). IsClosedAfter front file) (sym good.front) closed

not_damaged_behind : (contents other : Contents) (file : List ℕ) → IsClosedAfter (front_of contents) file
    → IsGoodUpTo other file → ¬ IsClosedAt (length (front_of other)) file
    → ((moves : List Move) → ¬ IsNextPiece other (length (front_of other)) moves file)
    → ¬ AreOneOrGoOn contents other file
not_damaged_behind contents other file closed good not_closed none (inl same) =
    not_closed (closed_there other file good
    (subst (λ (front : List ℕ). IsClosedAfter front file) (sym same) closed))
not_damaged_behind contents other file closed good not_closed none (inr (inl on)) = none on.0 on.1
not_damaged_behind contents other file closed good not_closed none (inr (inr on)) =
    none_begins contents file on.0 closed on.1

not_damaged : (contents : Contents) (at : ℕ) (file : List ℕ) → IsFileOf contents file
    → FitInTurn untold (moves_in contents) → ¬ IsDamagedFileAt at file
not_damaged contents at file is fit damaged =
    let closed = closed_of contents file is in
    let good = is_good contents file is fit closed in
    elim damaged [
      | inl header ↦ header_is_whole (header_of contents) file at (good_header contents file good) header
      | inr (inl snapshot) ↦ snapshot_is_whole contents file good snapshot.1
      | inr (inr piece) ↦
          not_damaged_behind contents piece.contents file closed piece.good
          (subst (λ (n : ℕ). ¬ IsClosedAt n file) piece.here piece.not_closed)
          (subst (λ (n : ℕ). (moves : List Move) → ¬ IsNextPiece piece.contents n moves file) piece.here piece.no_piece)
          (fronts_compared contents piece.contents file (record { first = good; second = piece.good }))
    ]

blank_behind : (a b : List ℕ) (told : Option Contents) → Tell a b told → IsBlank b
blank_behind a b None tells = tells.1
blank_behind a b (Some contents) tells = tells.1

told_sound : (a b : List ℕ) (kept : KeptState) (damage : Damage) (told : Option Contents) → Tell a b told
    → LeadsTo told kept → ¬ IsFirstDamage a b damage
told_sound a b kept damage told tells leads (inl (named, some)) = some (blank_behind a b told tells)
told_sound a b kept damage None tells leads (inr (named, blank, some, at)) = some tells.0
told_sound a b kept damage (Some contents) tells leads (inr (named, blank, some, at)) =
    not_damaged contents damage.at a tells.0 leads.fit at

pub sound : (a b : List ℕ) (kept : KeptState) (damage : Damage) → Stands a b kept → ¬ IsFirstDamage a b damage
sound a b kept damage stands = told_sound a b kept damage stands.told stands.tells stands.leads

-- ---- one damage

one_in_header : (at other : ℕ) (file : List ℕ) → IsHeaderDamagedAt at file → IsHeaderDamagedAt other file
    → other ≡ at
one_in_header at other file first second = grind arith

one_behind : (one other : Contents) (file : List ℕ)
    → ((moves : List Move) → ¬ IsNextPiece one (length (front_of one)) moves file)
    → ((moves : List Move) → ¬ IsNextPiece other (length (front_of other)) moves file)
    → AreOneOrGoOn one other file → length (front_of other) ≡ length (front_of one)
one_behind one other file none none_too (inl same) = ap (λ (front : List ℕ). length front) same
one_behind one other file none none_too (inr (inl on)) = absurd (none_too on.0 on.1)
one_behind one other file none none_too (inr (inr on)) = absurd (none on.0 on.1)

one_piece : (at other : ℕ) (file : List ℕ) → IsPieceDamagedAt at file → IsPieceDamagedAt other file → other ≡ at
one_piece at other file first second =
    second.here
    ∙ one_behind first.contents second.contents file
    (subst (λ (n : ℕ). (moves : List Move) → ¬ IsNextPiece first.contents n moves file) first.here first.no_piece)
    (subst (λ (n : ℕ). (moves : List Move) → ¬ IsNextPiece second.contents n moves file) second.here second.no_piece)
    (fronts_compared first.contents second.contents file (record { first = first.good; second = second.good }))
    ∙ sym first.here

one_place : (at other : ℕ) (file : List ℕ) → IsDamagedFileAt at file → IsDamagedFileAt other file → other ≡ at
one_place at other file (inl one) (inl two) = one_in_header at other file one two
one_place at other file (inl one) (inr (inl two)) = absurd (header_is_whole two.1.header file at two.1.right one)
one_place at other file (inl one) (inr (inr two)) =
    absurd (header_is_whole (header_of two.contents) file at (good_header two.contents file two.good) one)
one_place at other file (inr (inl one)) (inl two) = absurd (header_is_whole one.1.header file other one.1.right two)
one_place at other file (inr (inl one)) (inr (inl two)) = two.0 ∙ sym one.0
one_place at other file (inr (inl one)) (inr (inr two)) =
    absurd (snapshot_is_whole two.contents file two.good one.1)
one_place at other file (inr (inr one)) (inl two) =
    absurd (header_is_whole (header_of one.contents) file other (good_header one.contents file one.good) two)
one_place at other file (inr (inr one)) (inr (inl two)) =
    absurd (snapshot_is_whole one.contents file one.good two.1)
one_place at other file (inr (inr one)) (inr (inr two)) = one_piece at other file one two

pub one_damage : (a b : List ℕ) (damage other : Damage) → IsFirstDamage a b damage → IsFirstDamage a b other
    → other ≡ damage
one_damage a b damage other (inl one) (inl two) = two.0 ∙ sym one.0
one_damage a b damage other (inl one) (inr two) = absurd (one.1 two.1)
one_damage a b damage other (inr one) (inl two) = absurd (two.1 one.1)
one_damage a b damage other (inr one) (inr two) =
    two.0 ∙ ap (λ (at : ℕ). record { file = A; at = at }) (one_place damage.at other.at a one.3 two.3) ∙ sym one.0
